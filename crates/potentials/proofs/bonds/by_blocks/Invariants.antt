use Prim.Native.Nat.{◌≤◌, ◌-◌, ◌/◌}
use Rattle.cell_prepared.specs.Facts.{image_in}
use Rattle.lists.specs.Lists.{up_to, rows}
use Rattle.potentials_pair.specs.Pull.{held}
use Rattle.potentials.proofs.Folds.{Left}
use Rattle.potentials.specs.Terms.{bond_step}
use lib.ListN.{length}
use mathlib.Core.List.{foldl}
use mathlib.Core.Path.{◌≡◌}
use Rattle.potentials.proofs.bonds.by_blocks.Given as goal

abbrev pub invariant-loop-b : goal.invariant-loop-b
invariant-loop-b l = (l.b ≤ length l.bonds.ends.now / 2) × (length l.atoms ≡ length l.initial.atoms) × (length l.apart ≡ length l.initial.apart) × (length l.two ≡ length l.initial.two) × (length l.roots ≡ length l.initial.roots) × (length l.pulls ≡ length l.initial.pulls) × (length l.forces ≡ length l.initial.forces) × Left (bond_step (λ d. image_in l.p d) l.bond l.bonds.ends.now l.bonds.lengths.now l.bonds.ks.now l.xs) (up_to (length (rows l.bonds.ends.now))) l.b (held l.s l.forces) (foldl (bond_step (λ d. image_in l.p d) l.bond l.bonds.ends.now l.bonds.lengths.now l.bonds.ks.now l.xs) (held l.initial.s l.initial.forces) (up_to (length (rows l.bonds.ends.now))))

abbrev pub decreases-loop-b : goal.decreases-loop-b
decreases-loop-b l = length l.bonds.ends.now / 2 - l.b
