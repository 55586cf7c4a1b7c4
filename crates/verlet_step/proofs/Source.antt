-- After passed tests the lists of a motion fit each other, and so each part of a step is the Rust's own loop. Assumes nothing.
use Rattle.std.specs.Prelude.{Ok, Option}
use Rattle.verlet.specs.declared.Thermostat.{Thermostat}
use Prim.Native.Nat.{◌*◌, ◌/◌, ◌≤◌}
use native.Mathlib.Omega.{arith}
use mathlib.Core.Path.{◌≡◌, ◌∙◌}
use mathlib.Core.List.{List}
use lib.Dec.{eqb}
use lib.Ieee.{Float}
use lib.ListN.{length}
use borrow.Author.Tests.{eqb-true}
use Rattle.lists.specs.Atoms.{atoms_of}
use Rattle.lists.proofs.Cases.{and_both}
use Rattle.verlet.specs.Verlet.{moved_of}
use Rattle.verlet.proofs.Steps.{kicked_by_lem, moved_by_lem, drifts_by, rescaled_by_lem}
use Rattle.evaluate.proofs.Settling.{asked_fits, asked_forces, asked_few, asked_thirds, settled_length}
use Rattle.verlet_step.specs.Asked.{motion_fits}
use Rattle.verlet_step.specs.Calls.{Motion, units_of, motion_at, motion_asked}
use Rattle.verlet_step.specs.Source.{BySource, StepsBySource}

module _ (limit : Float) (t : Option Thermostat) (m : Motion) (e : motion_asked limit t m ≡ Ok tt) where
  fits : (length m.velocities ≡ length m.job.given.positions) × (length m.masses ≡ length m.job.given.positions / 3)
  unfolding motion_asked motion_fits
  fits =
      let b = and_both (eqb (length m.velocities) (length m.job.given.positions)) _ (asked_fits _ _ m.job.terms m.job.given (length m.job.forces) e) in
      (eqb-true _ _ b.0, eqb-true _ _ b.1)

  -- three floats an atom in each list
  pub places : length m.job.given.positions ≡ 3 * length m.masses
  unfolding motion_asked
  places = omega (arith, fits.1, asked_thirds _ _ m.job.terms m.job.given (length m.job.forces) e)

  pub speeds : length m.velocities ≡ 3 * length m.masses
  speeds = fits.0 ∙ places

  pub pulls : length m.job.forces ≡ 3 * length m.masses
  unfolding motion_asked
  pulls = asked_forces _ _ m.job.terms m.job.given (length m.job.forces) e ∙ places

  few : (vs : List Float) → length vs ≡ length m.velocities → atoms_of vs ≤ 16384
  unfolding motion_asked
  few vs l = omega (arith, l, fits.0, asked_few _ _ m.job.terms m.job.given (length m.job.forces) e)

  parts : BySource m
  unfolding moved_of
  parts =
      record {
        moves = moved_by_lem (units_of m) m.dt m.job.forces m.masses m.velocities speeds pulls m.job.given.positions places;
        asks = drifts_by (units_of m) m.dt m.job.forces m.masses m.velocities speeds pulls m.job.given.positions places;
        kicks =
            λ xs vs l. kicked_by_lem (units_of m) m.dt _ m.masses vs (l ∙ speeds) (settled_length _ _ (motion_at m (xs, vs)).job ∙ pulls);
        cools = λ target tau vs l. rescaled_by_lem (units_of m) m.dt target tau m.masses vs (few vs l);
      }

pub by_source : (m : Motion) → StepsBySource m
by_source m limit t e = parts limit t m e
