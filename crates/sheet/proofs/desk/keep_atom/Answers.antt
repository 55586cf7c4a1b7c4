use Prim.Native.Nat.{◌<◌}
use Rattle.sheet.proofs.Keeping.{get_d_any}
use Rattle.sheet.specs.Meaning.{placed}
use borrow.Author.Tests.{eq-eqb, ne_eqb}
use lib.ListN.{length}
use mathlib.Core.Path.{refl, ◌∙◌}
use native.Mathlib.Omega.{arith}
use Rattle.sheet.proofs.desk.keep_atom.Goals as goal

pub returns-then-mark-eq0 : goal.returns-then-mark-eq0
unfolding placed
returns-then-mark-eq0 c = let h : c.args.number < length c.args.seen.now = omega arith in simp (eq-eqb _ _ (get_d_any c.args.seen.now c.args.number 1 0 h ∙ c.if-mark-eq0.true)) (record { value = refl; coords_after = refl; seen_after = refl })

pub returns : goal.returns
returns c = let h : c.args.number < length c.args.seen.now = omega arith in simp (ne_eqb _ _ (λ e. c.if-mark-eq0.false (get_d_any c.args.seen.now c.args.number 0 1 h ∙ e))) (record { value = refl; coords_after = refl; seen_after = refl })
