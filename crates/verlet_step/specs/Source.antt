-- What the parts of a step are after passed tests: the Rust's own loops, with no case in which nothing is moved. proofs/Source.antt proves it of every motion. Definitions only.
use Rattle.std.specs.Prelude.{Ok, Option}
use Rattle.verlet.specs.declared.Thermostat.{Thermostat}
use Rattle.std.specs.Prelude.{◌≡◌, List, Float, length}
use Rattle.lists.specs.Lists.{every}
use Rattle.verlet.specs.Parts.{kicked_by, moved_by, rescaled_by, coordinate, drifts}
use Rattle.verlet.specs.Verlet.{kicked_of, moved_of, berendsen_of}
use Rattle.evaluate.specs.Calls.{settled_of}
use Rattle.verlet_step.specs.Calls.{Motion, units_of, motion_at, motion_asked}

pub record BySource (m : Motion) : Type 0 where
  -- lines 178 to 184
  pub moves : moved_by (units_of m) m.dt m.job.forces m.masses m.job.given.positions m.velocities
      ≡ moved_of (units_of m) m.dt m.job.forces m.masses m.job.given.positions m.velocities
  -- the drift's test asks whether the coordinates of these lines are in range
  pub asks : drifts (units_of m) m.dt m.job.forces m.masses m.job.given.positions m.velocities
      ≡ every coordinate (moved_of (units_of m) m.dt m.job.forces m.masses m.job.given.positions m.velocities).0
  -- lines 190 to 194, wherever the atoms were evaluated
  pub kicks : (xs vs : List Float) → length vs ≡ length m.velocities
      → kicked_by (units_of m) m.dt (settled_of (motion_at m (xs, vs)).job).total.forces m.masses vs
      ≡ kicked_of (units_of m) m.dt (settled_of (motion_at m (xs, vs)).job).total.forces m.masses vs
  -- lines 203 to 219
  pub cools : (target tau : Float) (vs : List Float) → length vs ≡ length m.velocities
      → rescaled_by (units_of m) m.dt target tau m.masses vs ≡ berendsen_of (units_of m) m.dt target tau m.masses vs

-- THEOREM. The limit of the velocities is a step's or a finishing call's
abbrev pub StepsBySource : Motion → Type 0
StepsBySource m = (limit : Float) (t : Option Thermostat) → motion_asked limit t m ≡ Ok tt → BySource m
