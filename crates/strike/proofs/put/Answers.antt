use Rattle.strike.proofs.Passed.{roomy_of, put_refused, put_done}
use Rattle.strike.specs.Calls.{atoms}
use mathlib.Core.Path.{sym, ◌∙◌}
use native.Mathlib.Omega.{arith}
use Rattle.strike.proofs.put.Goals as goal

pub returns-in-Err : goal.returns-in-Err
returns-in-Err c = put_refused c.args.count c.args.new c.args.s (atoms c.args.positions.now c.args.velocities.now c.args.masses.now c.args.charges.now c.args.species.now) c.in-Err.why (sym c.put-a.ensures ∙ c.in-Err.is)

pub lay-requires : goal.lay-requires
lay-requires c = (roomy_of c.args.count c.args.new (atoms c.args.positions.now c.args.velocities.now c.args.masses.now c.args.charges.now c.args.species.now) (sym c.put-a.ensures ∙ c.in_default.is)).positions

pub lay-requires-2 : goal.lay-requires-2
lay-requires-2 c = (roomy_of c.args.count c.args.new (atoms c.args.positions.now c.args.velocities.now c.args.masses.now c.args.charges.now c.args.species.now) (sym c.put-a.ensures ∙ c.in_default.is)).velocities

pub bounds-masses-at : goal.bounds-masses-at
bounds-masses-at c = (roomy_of c.args.count c.args.new (atoms c.args.positions.now c.args.velocities.now c.args.masses.now c.args.charges.now c.args.species.now) (sym c.put-a.ensures ∙ c.in_default.is)).masses

pub bounds-charges-at : goal.bounds-charges-at
bounds-charges-at c = (roomy_of c.args.count c.args.new (atoms c.args.positions.now c.args.velocities.now c.args.masses.now c.args.charges.now c.args.species.now) (sym c.put-a.ensures ∙ c.in_default.is)).charges

pub bounds-species-at : goal.bounds-species-at
bounds-species-at c = (roomy_of c.args.count c.args.new (atoms c.args.positions.now c.args.velocities.now c.args.masses.now c.args.charges.now c.args.species.now) (sym c.put-a.ensures ∙ c.in_default.is)).species

pub overflow_add-result : goal.overflow_add-result
overflow_add-result c = omega (arith, (roomy_of c.args.count c.args.new (atoms c.args.positions.now c.args.velocities.now c.args.masses.now c.args.charges.now c.args.species.now) (sym c.put-a.ensures ∙ c.in_default.is)).few)

pub returns : goal.returns
returns c = put_done c.args.count c.args.new c.args.s (atoms c.args.positions.now c.args.velocities.now c.args.masses.now c.args.charges.now c.args.species.now) c.unlisted.result c.lay.new.xs c.lay-2.new.xs (sym c.put-a.ensures ∙ c.in_default.is) c.unlisted.ensures c.lay.ensures c.lay-2.ensures
