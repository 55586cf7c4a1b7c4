use Rattle.potentials_pair.specs.Pull.{held}
use Rattle.potentials.proofs.Bonded.{passed_over, not_passed}
use Rattle.potentials.proofs.Places.{added}
use Rattle.potentials.proofs.bonds.add.Goals as goal

pub returns-then-roots-m : goal.returns-then-roots-m
returns-then-roots-m c = passed_over c.args.atoms.now c.args.apart.now c.args.roots.now c.args.pulls.now (held c.args.sum c.args.forces.now) c.args.m c.if-roots-m.true

pub returns : goal.returns
returns c = not_passed c.args.atoms.now c.args.apart.now c.args.roots.now c.args.pulls.now (held c.args.sum c.args.forces.now) c.args.m c.if-roots-m.false (added c.args.atoms.now c.args.apart.now c.args.pulls.now c.args.sum c.args.forces.now c.args.m c.spot_at-d.ensures c.scale-f.ensures c.with_energy-s.ensures c.add_pair_force.ensures.0 c.add_pair_force.ensures.1)
