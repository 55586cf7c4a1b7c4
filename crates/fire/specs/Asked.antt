-- What `fire` asks beside an evaluation, at 3; at 1 it asks what a step asks. Definitions only.
use Rattle.std.specs.Prelude.{Bool, ◌&&◌, List, ℕ, leb, Float}
use Rattle.lists.specs.Lists.{every}
use Rattle.ranges.specs.Ranged.{within}
use Rattle.virial.specs.Ranged.{plain, mass}
use Rattle.verlet.specs.Ranged.{time_step}
use Rattle.verlet_step.specs.Asked.{step_limit}
use Rattle.fire.specs.declared.FireOptions.{FireOptions}

-- 02, No. 4: "the iteration limit at most 100,000"
abbrev pub most_iterations : ℕ
most_iterations = 100000

-- 3: "an iteration limit past the bound or `dt_max` outside the time step's range", the tolerance, the time step
unfoldable pub options_ok : FireOptions → Bool
options_ok o = leb o.max_iters most_iterations && plain o.force_tol && time_step o.dt && time_step o.dt_max

-- "otherwise those of a step": masses and velocities. The forces are a room, and there is no potential
unfoldable pub settling_ok : FireOptions → (masses velocities : List Float) → Bool
settling_ok o masses velocities = options_ok o && every mass masses && every (within step_limit) velocities
