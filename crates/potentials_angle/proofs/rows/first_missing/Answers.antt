use Prim.Native.Nat.{◌/◌}
use Rattle.potentials_angle.proofs.Kernels.{first_begins, first_found, first_later, first_ends}
use Rattle.potentials_angle.specs.Rows.{corner_at, is_missing, missing_of}
use lib.ListN.{length}
use mathlib.Core.Path.{sym, ◌∙◌, ap}
use native.Mathlib.Omega.{arith}
use Rattle.potentials_angle.proofs.rows.first_missing.Goals as goal

pub loop-r-init : goal.loop-r-init
loop-r-init c = unfold missing_of in first_begins (λ k. is_missing c.args.n (corner_at c.args.angles.now k)) (length c.args.angles.now / 3) 0 ∙ omega arith

pub returns-then-is_missing : goal.returns-then-is_missing
returns-then-is_missing c = omega (arith, c.loop-r.invariant, first_found (λ k. is_missing c.args.n (corner_at c.args.angles.now k)) (length c.args.angles.now / 3) c.loop-r.r (omega arith) (ap (is_missing c.args.n) (sym c.corner_at-c.ensures) ∙ sym c.is_missing.ensures ∙ c.if-is_missing.true))

pub loop-r-preserved : goal.loop-r-preserved
loop-r-preserved c = c.loop-r.invariant ∙ omega (arith, first_later (λ k. is_missing c.args.n (corner_at c.args.angles.now k)) (length c.args.angles.now / 3) c.loop-r.r (omega arith) (ap (is_missing c.args.n) (sym c.corner_at-c.ensures) ∙ sym c.is_missing.ensures ∙ c.if-is_missing.false))

pub returns : goal.returns
returns c = omega (arith, c.loop-r.invariant, first_ends (λ k. is_missing c.args.n (corner_at c.args.angles.now k)) (length c.args.angles.now / 3) c.loop-r.r (omega arith))
