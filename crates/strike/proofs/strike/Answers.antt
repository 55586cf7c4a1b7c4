use Rattle.strike.proofs.Passed.{fit_of, strike_refused, strike_done}
use Rattle.strike.specs.Calls.{atoms, links}
use mathlib.Core.Path.{sym, ◌∙◌}
use native.Mathlib.Omega.{arith}
use Rattle.strike.proofs.strike.Goals as goal

pub returns-in-Err : goal.returns-in-Err
returns-in-Err c = strike_refused c.args.marks.now c.args.s (atoms c.args.positions.now c.args.velocities.now c.args.masses.now c.args.charges.now c.args.species.now) (links c.args.bonds.now c.args.lengths.now c.args.ks.now c.args.angles.now c.args.per_angle.now c.args.exclusions.now) c.in-Err.why (sym c.strike-a.ensures ∙ c.in-Err.is)

pub number-requires : goal.number-requires
number-requires c = ((fit_of c.args.marks.now (atoms c.args.positions.now c.args.velocities.now c.args.masses.now c.args.charges.now c.args.species.now) (links c.args.bonds.now c.args.lengths.now c.args.ks.now c.args.angles.now c.args.per_angle.now c.args.exclusions.now) (sym c.strike-a.ensures ∙ c.in_default.is)).few, omega (arith, c.blank-fresh.ensures, (fit_of c.args.marks.now (atoms c.args.positions.now c.args.velocities.now c.args.masses.now c.args.charges.now c.args.species.now) (links c.args.bonds.now c.args.lengths.now c.args.ks.now c.args.angles.now c.args.per_angle.now c.args.exclusions.now) (sym c.strike-a.ensures ∙ c.in_default.is)).few))

pub close_atoms-n-requires : goal.close_atoms-n-requires
close_atoms-n-requires c = fit_of c.args.marks.now (atoms c.args.positions.now c.args.velocities.now c.args.masses.now c.args.charges.now c.args.species.now) (links c.args.bonds.now c.args.lengths.now c.args.ks.now c.args.angles.now c.args.per_angle.now c.args.exclusions.now) (sym c.strike-a.ensures ∙ c.in_default.is)

pub shape_of-positions : goal.shape_of-positions
shape_of-positions c = c.close_atoms-n.auto.positions

pub shape_of-velocities : goal.shape_of-velocities
shape_of-velocities c = c.close_atoms-n.auto.velocities

pub shape_of-masses : goal.shape_of-masses
shape_of-masses c = c.close_atoms-n.auto.masses

pub shape_of-charges : goal.shape_of-charges
shape_of-charges c = c.close_atoms-n.auto.charges

pub returns : goal.returns
returns c = strike_done c.args.marks.now c.args.s (atoms c.args.positions.now c.args.velocities.now c.args.masses.now c.args.charges.now c.args.species.now) (links c.args.bonds.now c.args.lengths.now c.args.ks.now c.args.angles.now c.args.per_angle.now c.args.exclusions.now) c.close_atoms-n.result c.close_links-left.result c.unlisted.result (atoms c.close_atoms-n.new.positions c.close_atoms-n.new.velocities c.close_atoms-n.new.masses c.close_atoms-n.new.charges c.close_atoms-n.new.species) (links c.close_links-left.new.bonds c.close_links-left.new.lengths c.close_links-left.new.ks c.close_links-left.new.angles c.close_links-left.new.per_angle c.close_links-left.new.exclusions) (sym c.strike-a.ensures ∙ c.in_default.is) c.close_atoms-n.ensures c.close_links-left.ensures c.unlisted.ensures
