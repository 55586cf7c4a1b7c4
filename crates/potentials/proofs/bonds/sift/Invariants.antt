use Prim.Native.Nat.{◌≤◌}
use Rattle.cell_prepared.specs.Facts.{image_in}
use Rattle.lists.specs.Lists.{up_to, rows}
use Rattle.potentials.specs.Blocks.{block_step, bond_at, Sifted}
use Rattle.potentials.specs.Terms.{bond_step}
use lib.ListN.{length}
use mathlib.Core.Path.{◌≡◌}
use Rattle.potentials.proofs.bonds.sift.Given as goal

abbrev pub invariant-loop-b : goal.invariant-loop-b
invariant-loop-b l = (l.b ≤ l.to) × (length l.atoms ≡ length l.initial.atoms) × (length l.apart ≡ length l.initial.apart) × (length l.two ≡ length l.initial.two) × Sifted (block_step bond_at l.atoms l.apart l.two) l.c (bond_step (λ d. image_in l.p d) l.bond l.bonds.ends.now l.bonds.lengths.now l.bonds.ks.now l.xs) (up_to (length (rows l.bonds.ends.now))) l.from l.b
