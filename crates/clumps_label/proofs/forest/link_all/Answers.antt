use Prim.Native.Nat.{ℕ}
use Rattle.clumps_label.proofs.Trees.{moved_row, row_there}
use Rattle.clumps_label.specs.Label.{linked}
use Rattle.clumps_label.specs.Steps.{Moved}
use Rattle.lists.proofs.Rows.{length_rows, rows_at}
use Rattle.lists.specs.Lists.{rows}
use lib.ListN.{length, take}
use lib.Seq.{take_all}
use mathlib.Core.List.{List, foldl}
use mathlib.Core.Path.{◌≡◌, subst}
use native.Mathlib.Omega.{arith}
use Rattle.clumps_label.proofs.forest.link_all.Goals as goal

pub link-requires : goal.link-requires
link-requires c = let r = row_there (length c.args.p.now) c.args.pairs.now c.loop-k.k c.requires.1 (omega arith) in record { falls = c.loop-k.invariant.1.falls; left = omega (arith, r.0, c.loop-k.invariant.1.long); right = omega (arith, r.1, c.loop-k.invariant.1.long) }

pub loop-k-preserved : goal.loop-k-preserved
loop-k-preserved c = (omega arith, moved_row (rows c.args.pairs.now) c.loop-k.k (omega (arith, length_rows c.args.pairs.now)) c.args.p.now c.loop-k.p c.link.new.p c.loop-k.invariant.1 (rw (rows_at c.args.pairs.now c.loop-k.k (omega arith)) c.link.ensures))

pub returns : goal.returns
returns c = let e : take c.loop-k.k (rows c.args.pairs.now) ≡ rows c.args.pairs.now = take_all c.loop-k.k (rows c.args.pairs.now) (omega (arith, length_rows c.args.pairs.now)) in subst (λ (l : List (ℕ × ℕ)). Moved (λ f. foldl linked f l) c.args.p.now c.loop-k.p) e c.loop-k.invariant.1
