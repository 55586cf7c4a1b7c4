-- The structs that stand for the options of settling and its answer. Definitions only.
use Rattle.fire.specs.declared.FireOptions.{FireOptions}
use Rattle.fire.specs.declared.Fired.{Fired}
use Rattle.field_structs.specs.declared.FlatFireOptions.{FlatFireOptions}
use Rattle.field_structs.specs.declared.FlatFired.{FlatFired}
use Rattle.field_structs.specs.Flat.{flag, flat_done, flat_state}

unfoldable pub fire_options_of : FlatFireOptions → FireOptions
fire_options_of o = record { max_iters = o.max_iters; force_tol = o.force_tol; dt = o.dt; dt_max = o.dt_max }

unfoldable pub flat_fired : Fired → FlatFired
flat_fired a =
    record {
      done = flat_done a.done;
      iteration = a.iteration;
      stopped = flag a.stopped;
      converged = flag a.converged;
      energy = a.energy;
      max_force = a.max_force;
      state = flat_state a.state;
    }
