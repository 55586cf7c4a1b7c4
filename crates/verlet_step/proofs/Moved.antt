-- The motion after an accepted drift passes the finishing call's tests: its velocities are at most 2^500, and the step tested all else. Assumes nothing.
use Rattle.std.specs.Prelude.{Option}
use Rattle.cell.specs.declared.Lattice.{Lattice}
use Rattle.verlet.specs.declared.Thermostat.{Thermostat}
use mathlib.Core.Path.{◌≡◌, sym, ◌∙◌}
use mathlib.Core.Bool.{Bool, true, ◌&&◌}
use mathlib.Core.List.{List}
use lib.Ieee.{Float}
use lib.ListN.{length}
use Rattle.lists.specs.Lists.{every}
use Rattle.lists.proofs.Cases.{and_both, both_and}
use Rattle.ranges.specs.Ranged.{within}
use Rattle.cell.specs.Ranged.{entry_limit, cell_in_range}
use Rattle.virial.specs.Ranged.{plain, mass, units_in_range}
use Rattle.verlet.specs.Ranged.{time_step, thermostat_in_range}
use Rattle.verlet.specs.Verlet.{kicked_of, moved_of}
use Rattle.verlet.proofs.Steps.{kicked_length}
use Rattle.verlet.proofs.Speeds.{accepted_speeds}
use Rattle.neighbor.specs.declared.State.{State}
use Rattle.neighbor_asked.specs.Asked.{settings_ok}
use Rattle.neighbor.specs.Rebuild.{ranges_ok}
use Rattle.evaluate.specs.Terms.{Terms}
use Rattle.potentials.specs.Ranged.{charge, rows_in_range}
use Rattle.potentials.specs.Ranged as Limits
use Rattle.evaluate.specs.Asked.{lj_ok, coulomb_ok, bond_ok, angle_ok, numbers_ok}
use Rattle.potentials_angle.specs.Ranged.{per_angle_in_range}
use Rattle.verlet_step.specs.Asked.{step_limit, finish_limit, motion_ok}
use Rattle.verlet_step.specs.Calls.{Motion, units_of, moved}
use Rattle.verlet_step.specs.Source.{BySource}
use Rattle.verlet_step.proofs.Lent.{Passed, asked_told}
use Rattle.verlet_step.proofs.Source.{by_source}
use Rattle.verlet_step.proofs.Stopping.{Stopped, places_length}

-- ---- what was asked of the numbers
module _ (limit dt : Float) (t : Option Thermostat) (ms vs fs : List Float) (p : Float) where
  motion_told : motion_ok limit dt t ms vs fs p ≡ true
      → (time_step dt ≡ true) × (thermostat_in_range t ≡ true) × (every mass ms ≡ true) × (every (within limit) vs ≡ true) × (every plain fs ≡ true) × (plain p ≡ true)
  unfolding motion_ok
  motion_told h =
      let a = and_both _ _ h in
      let b = and_both _ _ a.0 in
      let c = and_both _ _ b.0 in
      let d = and_both _ _ c.0 in
      let e = and_both _ _ d.0 in
      (e.0, e.1, d.1, c.1, b.1, a.1)

second : (a u b c d e f : Bool) → a && u && b && c && d && e && f ≡ true → u ≡ true
second a u b c d e f h =
    (and_both a u (and_both (a && u) b (and_both (a && u && b) c (and_both (a && u && b && c) d (and_both (a && u && b && c && d) e (and_both (a && u && b && c && d && e) f h).0).0).0).0).0).1

units_told : (t : Terms) → numbers_ok t.lj t.coulomb t.bond t.angle t.units t.tables.own_params t.tables.params t.charges t.lengths t.ks t.per_angle ≡ true → units_in_range t.units ≡ true
unfolding numbers_ok
units_told t h =
    second (lj_ok t.lj && coulomb_ok t.coulomb && bond_ok t.bond && angle_ok t.angle) (units_in_range t.units) (rows_in_range t.tables.own_params t.tables.params) (every charge t.charges) (every Limits.coordinate t.lengths) (every Limits.coordinate t.ks) (per_angle_in_range t.per_angle) h

module _ (limit : Float) (t : Option Thermostat) (m : Motion) (a : Passed limit t m) where
  asked_numbers : (motion_ok limit m.dt t m.masses m.velocities m.job.forces m.potential ≡ true)
      × (numbers_ok m.job.terms.lj m.job.terms.coulomb m.job.terms.bond m.job.terms.angle m.job.terms.units m.job.terms.tables.own_params m.job.terms.tables.params m.job.terms.charges m.job.terms.lengths m.job.terms.ks m.job.terms.per_angle ≡ true)
  asked_numbers = and_both _ _ a.numbers

  asked_motion : (time_step m.dt ≡ true) × (thermostat_in_range t ≡ true) × (every mass m.masses ≡ true) × (every (within limit) m.velocities ≡ true) × (every plain m.job.forces ≡ true) × (plain m.potential ≡ true)
  asked_motion = motion_told limit m.dt t m.masses m.velocities m.job.forces m.potential asked_numbers.0

  pub speeds_asked : every (within limit) m.velocities ≡ true
  speeds_asked = asked_motion.3

-- ---- the list's settings, the cell and the positions
module _ (s : State) (cell : Option Lattice) where
  pub ranges_told : (xs : List Float) → ranges_ok s cell xs ≡ true → (settings_ok s.cutoff s.skin ≡ true) × (cell_in_range cell ≡ true) × (every (within entry_limit) xs ≡ true)
  unfolding ranges_ok
  ranges_told xs h = let a = and_both _ _ h in let b = and_both _ _ a.0 in (b.0, b.1, a.1)

  pub ranges_made : (xs : List Float) → settings_ok s.cutoff s.skin ≡ true → cell_in_range cell ≡ true → every (within entry_limit) xs ≡ true → ranges_ok s cell xs ≡ true
  unfolding ranges_ok
  ranges_made xs a b c = rw (a, b, c)

module _ (t : Option Thermostat) (m : Motion) (is : Stopped t m) where
  abbrev places : List Float
  places = m.job.given.positions

  abbrev kicks : List Float
  kicks = kicked_of (units_of m) m.dt m.job.forces m.masses m.velocities

  step_passed : Passed step_limit t m
  step_passed = asked_told step_limit t m is.asked

  asked_ranges : (settings_ok m.job.given.state.cutoff m.job.given.state.skin ≡ true) × (cell_in_range m.job.given.cell ≡ true) × (every (within entry_limit) places ≡ true)
  asked_ranges = ranges_told m.job.given.state m.job.given.cell places step_passed.ranges

  source : BySource m
  source = by_source m step_limit t is.asked

  kicks_small : every (within finish_limit) kicks ≡ true
  kicks_small =
      let q = asked_motion step_limit t m step_passed in
      accepted_speeds (units_of m) m.dt m.job.forces m.masses places m.velocities (units_told m.job.terms (asked_numbers step_limit t m step_passed).1) q.0 q.4 q.2 asked_ranges.2 q.3 is.drift

  pub speeds_small : every (within finish_limit) (moved m).velocities ≡ true
  unfolding moved_of
  speeds_small = rw source.moves kicks_small

  places_small : every (within entry_limit) (moved m).job.given.positions ≡ true
  places_small = rw source.moves (sym source.asks ∙ is.drift)

  speeds_length : length (moved m).velocities ≡ length m.velocities
  unfolding moved_of
  speeds_length = rw source.moves (kicked_length (units_of m) m.dt m.job.forces m.masses m.velocities)

  finish_numbers : motion_ok finish_limit m.dt t m.masses (moved m).velocities m.job.forces m.potential ≡ true
  unfolding motion_ok
  finish_numbers = let q = asked_motion step_limit t m step_passed in rw (q.0, q.1, q.2, speeds_small, q.4, q.5)

  pub moved_passed : Passed finish_limit t (moved m)
  moved_passed =
      let a = step_passed in
      record {
        fits = rw (places_length m, speeds_length) a.fits;
        lengths = rw (places_length m) a.lengths;
        few = rw (places_length m) a.few;
        claims = a.claims;
        ranges = ranges_made m.job.given.state m.job.given.cell (moved m).job.given.positions asked_ranges.0 asked_ranges.1 places_small;
        numbers = both_and _ _ finish_numbers (asked_numbers step_limit t m step_passed).1;
        kept = rw (places_length m) a.kept;
        names = rw (places_length m) a.names;
      }
