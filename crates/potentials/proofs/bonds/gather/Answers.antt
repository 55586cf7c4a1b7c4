use Rattle.cell_prepared.specs.Facts.{image_in}
use Rattle.potentials.proofs.Blocks.{placed, unplaced}
use Rattle.potentials.proofs.Kernels.{both_there}
use Rattle.potentials.proofs.Places.{bond_absent, bond_there}
use Rattle.potentials.specs.Blocks.{bond_at}
use Rattle.potentials.specs.Terms.{bond_step}
use mathlib.Core.Bool.{false}
use mathlib.Core.Path.{sym, refl, ◌∙◌}
use Rattle.potentials.proofs.bonds.gather.Goals as goal

pub returns-then-is_absent : goal.returns-then-is_absent
returns-then-is_absent c = unplaced _ _ _ _ (bond_absent c.args.bond c.args.p c.args.bonds.now.ends.now c.args.bonds.now.lengths.now c.args.bonds.now.ks.now c.args.xs.now c.args.b c.requires.1 c.first_of-i.ensures c.second_of-j.ensures (sym c.is_absent.ensures ∙ c.if-is_absent.true))

pub quick_displacement-d-requires : goal.quick_displacement-d-requires
quick_displacement-d-requires c = both_there _ c.first_of-i.result c.second_of-j.result (sym c.is_absent.ensures ∙ c.if-is_absent.false)

pub returns : goal.returns
returns c = placed bond_at (bond_step (λ d. image_in c.args.p d) c.args.bond c.args.bonds.now.ends.now c.args.bonds.now.lengths.now c.args.bonds.now.ks.now c.args.xs.now) c.args.b c.args.atoms.now c.args.apart.now c.args.two.now c.args.c c.first_of-i.result c.second_of-j.result c.quick_displacement-d.result c.table_at-k.result c.table_at-r0.result c.requires.2.atoms256 c.requires.2.apart384 c.requires.2.two256 c.requires.0 c.put.ensures.atoms_after c.put.ensures.apart_after c.put.ensures.two_after false (bond_there c.args.bond c.args.p c.args.bonds.now.ends.now c.args.bonds.now.lengths.now c.args.bonds.now.ks.now c.args.xs.now c.args.b c.requires.1 c.first_of-i.ensures c.second_of-j.ensures (sym c.is_absent.ensures ∙ c.if-is_absent.false) c.table_at-r0.ensures c.table_at-k.ensures c.quick_displacement-d.ensures) refl
