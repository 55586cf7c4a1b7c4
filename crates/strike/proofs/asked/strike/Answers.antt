use Rattle.strike.proofs.Passed.{asked_lengths, asked_many, asked_marks, asked_names}
use Rattle.strike.specs.Calls.{atoms, links}
use Rattle.std.proofs.Common.{ap, not}
use Rattle.strike.proofs.asked.strike.Goals as goal

pub returns-then-not-fit : goal.returns-then-not-fit
returns-then-not-fit c = asked_lengths c.args.marks.now (atoms c.args.positions.now c.args.velocities.now c.args.masses.now c.args.charges.now c.args.species.now) (links c.args.bonds.now c.args.lengths.now c.args.ks.now c.args.angles.now c.args.per_angle.now c.args.exclusions.now) c.atoms_fit.result c.links_fit.result c.atoms_fit.ensures c.links_fit.ensures (ap not c.if-not-fit.true)

pub returns-then-n-gt16384 : goal.returns-then-n-gt16384
returns-then-n-gt16384 c = asked_many c.args.marks.now (atoms c.args.positions.now c.args.velocities.now c.args.masses.now c.args.charges.now c.args.species.now) (links c.args.bonds.now c.args.lengths.now c.args.ks.now c.args.angles.now c.args.per_angle.now c.args.exclusions.now) c.atoms_fit.result c.links_fit.result c.atoms_fit.ensures c.links_fit.ensures (ap not c.if-not-fit.false) c.if-n-gt16384.true

pub returns-then-not-are_marks : goal.returns-then-not-are_marks
returns-then-not-are_marks c = asked_marks c.args.marks.now (atoms c.args.positions.now c.args.velocities.now c.args.masses.now c.args.charges.now c.args.species.now) (links c.args.bonds.now c.args.lengths.now c.args.ks.now c.args.angles.now c.args.per_angle.now c.args.exclusions.now) c.atoms_fit.result c.links_fit.result c.atoms_fit.ensures c.links_fit.ensures (ap not c.if-not-fit.false) c.if-n-gt16384.false c.are_marks.result c.are_marks.ensures (ap not c.if-not-are_marks.true)

pub returns : goal.returns
returns c = asked_names c.args.marks.now (atoms c.args.positions.now c.args.velocities.now c.args.masses.now c.args.charges.now c.args.species.now) (links c.args.bonds.now c.args.lengths.now c.args.ks.now c.args.angles.now c.args.per_angle.now c.args.exclusions.now) c.atoms_fit.result c.links_fit.result c.atoms_fit.ensures c.links_fit.ensures (ap not c.if-not-fit.false) c.if-n-gt16384.false c.are_marks.result c.are_marks.ensures (ap not c.if-not-are_marks.false) c.names.result c.names.ensures
