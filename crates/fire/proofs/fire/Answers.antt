use Rattle.evaluate.specs.Steps.{settled_in}
use Rattle.fire.proofs.Turns.{begun_counts, fired_refused_lem, fired_on}
use Rattle.fire.specs.Calls.{Relaxing, settling_on}
use Rattle.verlet_step.specs.Calls.{Motion}
use mathlib.Core.Path.{refl, ap, ◌∙◌}
use Rattle.fire.proofs.fire.Goals as goal

pub returns-in-Err : goal.returns-in-Err
returns-in-Err c = let m : Motion = settling_on c.args.o c.args.setting c.args.s c.args.molecule.now c.args.masses.now c.args.exclusions.now c.args.positions.now c.args.velocities.now c.args.pairs.now c.args.references.now c.args.starts.now c.args.items.now c.args.forces.now in fired_refused_lem c.args.o m c.asked-a.ensures refl c.in-Err.is c.refuse.ensures

pub relax-t-requires : goal.relax-t-requires
relax-t-requires c = let m : Motion = settling_on c.args.o c.args.setting c.args.s c.args.molecule.now c.args.masses.now c.args.exclusions.now c.args.positions.now c.args.velocities.now c.args.pairs.now c.args.references.now c.args.starts.now c.args.items.now c.args.forces.now in let b = begun_counts m settled_in in (ap (λ (r : Relaxing). r.gait.since) c.begin-begun.ensures ∙ b.0, ap (λ (r : Relaxing). r.iteration) c.begin-begun.ensures ∙ b.1)

pub shape_of-velocities : goal.shape_of-velocities
shape_of-velocities c = c.relax-t.auto.velocities ∙ c.begin-begun.auto.velocities

pub shape_of-pairs : goal.shape_of-pairs
shape_of-pairs c = c.relax-t.auto.pairs ∙ c.begin-begun.auto.pairs

pub shape_of-references : goal.shape_of-references
shape_of-references c = c.relax-t.auto.references ∙ c.begin-begun.auto.references

pub shape_of-starts : goal.shape_of-starts
shape_of-starts c = c.relax-t.auto.starts ∙ c.begin-begun.auto.starts

pub shape_of-items : goal.shape_of-items
shape_of-items c = c.relax-t.auto.items ∙ c.begin-begun.auto.items

pub shape_of-forces : goal.shape_of-forces
shape_of-forces c = c.relax-t.auto.forces ∙ c.begin-begun.auto.forces

pub returns : goal.returns
returns c = let m : Motion = settling_on c.args.o c.args.setting c.args.s c.args.molecule.now c.args.masses.now c.args.exclusions.now c.args.positions.now c.args.velocities.now c.args.pairs.now c.args.references.now c.args.starts.now c.args.items.now c.args.forces.now in rw c.end.ensures (fired_on c.args.o m c.asked-a.ensures c.in_default.is _ c.begin-begun.ensures c.relax-t.ensures)
