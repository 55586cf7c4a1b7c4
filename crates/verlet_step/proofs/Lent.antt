-- The tests of a motion, one by one; and the old list in other rooms. Assumes nothing.
use Rattle.std.specs.Prelude.{Ok, Option}
use Rattle.cell.specs.declared.Lattice.{Lattice}
use Rattle.verlet.specs.declared.Thermostat.{Thermostat}
use Prim.Native.Nat.{ℕ, zero, suc, ◌+◌, ◌*◌, ◌/◌, ◌%◌, ◌≤◌, ◌<◌}
use native.Mathlib.Omega.{arith}
use mathlib.Core.Path.{◌≡◌, refl, sym, ap, ◌∙◌}
use mathlib.Core.Bool.{Bool, true, false, not, ◌&&◌, ◌||◌}
use mathlib.Core.Logic.{⊎_elim}
use mathlib.Core.List.{List}
use lib.Dec.{eqb, ltb}
use lib.Ieee.{Float, nan}
use lib.ListN.{length, take, get_or, length-take}
use lib.Seq.{get_or-take}
use borrow.Author.Tests.{le-ltb, ne_eqb}
use Rattle.cell.specs.Vec.{position_at}
use Rattle.lists.specs.Atoms.{atoms_of}
use Rattle.answer.specs.declared.Refusal.TheVariants.{Lengths, Range, Order}
use Rattle.lists.specs.Lists.{numbers, some, rows}
use Rattle.lists.proofs.Cases.{neither_or, same_or}
use Rattle.exclusions.specs.Table.{is_table}
use Rattle.neighbor_listing.specs.Listed.{unlisted}
use Rattle.cell.specs.Ranged.{cell_in_range}
use Rattle.neighbor.specs.declared.Question.TheVariants.{Outdated}
use Rattle.neighbor.specs.declared.State.{State}
use Rattle.neighbor.specs.Rebuild.{needs_of, outdated_of, claims_more, references_ok, ranges_ok, strayed_of}
use Rattle.neighbor.specs.Update.{unfit, keeps_of, lengths_bad, listed_of, first_of, misnamed, kept_asked, table_asked}
use Rattle.neighbor_asked.specs.Asked.{first_refusal}
use Rattle.neighbor.proofs.Asking.{claims_told, claims_made, listed_some}
use Rattle.potentials.specs.Calls.{tables_fit, order_asked}
use Rattle.evaluate.specs.Asked.{terms_fit, numbers_ok, bond_rows_asked, angles_named, names_asked, in_turn, job_asked}
use Rattle.neighbor.proofs.Source.{passed, both_passed, first_told, lengths_told, build_fits, build_able}
use Rattle.verlet_step.specs.Asked.{motion_fits, motion_ok}
use Rattle.verlet_step.specs.Calls.{Motion, motion_asked}
use Rattle.verlet_step.specs.Theorems.{Rooms, Carries}

-- ---- tests in turn
module _ (s : State) (cell : Option Lattice) (xs : List Float) (table pairs refs items : ℕ) where
  first_made : lengths_bad (length xs) table refs items ≡ false → ltb 16384 (atoms_of xs) ≡ false → claims_more s.built_in s.pairs (pairs / 2) s.references (refs / 3) ≡ false → ranges_ok s cell xs ≡ true
      → first_of s cell xs table pairs refs items ≡ Ok tt
  unfolding first_of
  first_made a b c d = rw (a, b, c, d)

-- a motion that passed its tests, test by test
pub record Passed (limit : Float) (t : Option Thermostat) (m : Motion) : Type 0 where
  pub fits :
      motion_fits (length m.job.given.positions) (length m.velocities) (length m.masses)
      && terms_fit (tables_fit (length m.job.terms.tables.own_ids) (length m.job.terms.tables.own_params) (length m.job.terms.tables.ids) (length m.job.terms.tables.params)) (length m.job.terms.species) (length m.job.terms.charges) (length m.job.terms.bonds) (length m.job.terms.angles) (length m.job.terms.per_angle) (length m.job.given.positions) (length m.job.forces)
      ≡ true
  pub lengths : lengths_bad (length m.job.given.positions) (length m.job.given.exclusions) (length m.job.given.references) (length m.job.given.items) ≡ false
  pub few : ltb 16384 (atoms_of m.job.given.positions) ≡ false
  pub claims : claims_more m.job.given.state.built_in m.job.given.state.pairs (length m.job.given.pairs / 2) m.job.given.state.references (length m.job.given.references / 3) ≡ false
  pub ranges : ranges_ok m.job.given.state m.job.given.cell m.job.given.positions ≡ true
  pub numbers :
      motion_ok limit m.dt t m.masses m.velocities m.job.forces m.potential
      && numbers_ok m.job.terms.lj m.job.terms.coulomb m.job.terms.bond m.job.terms.angle m.job.terms.units m.job.terms.tables.own_params m.job.terms.tables.params m.job.terms.charges m.job.terms.lengths m.job.terms.ks m.job.terms.per_angle
      ≡ true
  pub kept : kept_asked m.job.given.state (atoms_of m.job.given.positions) m.job.given.pairs m.job.given.references ≡ Ok tt
  pub names : names_asked (atoms_of m.job.given.positions) m.job.terms.bonds m.job.terms.angles m.job.given.exclusions m.job.terms.tables.own_ids m.job.terms.tables.ids ≡ Ok tt

module _ (limit : Float) (t : Option Thermostat) (m : Motion) where
  pub asked_told : motion_asked limit t m ≡ Ok tt → Passed limit t m
  unfolding motion_asked job_asked in_turn
  asked_told e =
      let a = both_passed _ _ e in
      let b = both_passed _ _ a.1 in
      let c = both_passed _ _ b.1 in
      let d = both_passed _ _ c.1 in
      let f = first_told _ _ _ _ _ _ _ b.0 in
      record {
        fits = passed _ Lengths a.0;
        lengths = f.0;
        few = f.1;
        claims = f.2;
        ranges = f.3;
        numbers = passed _ Range c.0;
        kept = d.0;
        names = d.1;
      }

  pub asked_made : Passed limit t m → motion_asked limit t m ≡ Ok tt
  unfolding motion_asked job_asked in_turn first_refusal
  asked_made p =
      let f = first_made m.job.given.state m.job.given.cell m.job.given.positions (length m.job.given.exclusions) (length m.job.given.pairs) (length m.job.given.references) (length m.job.given.items) p.lengths p.few p.claims p.ranges in
      rw (p.fits, f, p.numbers, p.kept, p.names)

-- ---- what the tests say to a build
-- rooms of at least these lengths
pub lengths_again : (xs table refs items more others : ℕ) → lengths_bad xs table refs items ≡ false → xs ≤ more → xs / 3 ≤ others → lengths_bad xs table more others ≡ false
unfolding lengths_bad
lengths_again xs table refs items more others h r i =
    let rows = not (eqb (xs % 3) 0) || not (eqb (table % 2) 0) in
    neither_or (rows || ltb more xs) (ltb others (xs / 3)) (neither_or rows (ltb more xs) (lengths_told xs table refs items h).0 (le-ltb more xs r)) (le-ltb others (xs / 3) i)

table_told : (n : ℕ) (bonds angles table own_ids ids : List ℕ) → names_asked n bonds angles table own_ids ids ≡ Ok tt → is_table (rows table) ≡ true
unfolding names_asked table_asked
table_told n bonds angles table own_ids ids e =
    passed (is_table (rows table)) Order (both_passed _ (order_asked own_ids ids) (both_passed (angles_named n angles) _ (both_passed (bond_rows_asked n bonds) _ e).1).1).0

module _ (limit : Float) (t : Option Thermostat) (m : Motion) (p : Passed limit t m) where
  pub list_fits : unfit (length m.job.given.positions) (length m.job.given.references) ≡ false
  list_fits = build_fits m.job.given p.lengths p.few

  pub list_able : unlisted m.job.given.positions m.job.given.exclusions m.job.given.items ≡ false
  list_able = build_able m.job.given p.lengths p.few (table_told _ _ _ _ _ _ p.names)

-- ---- the old list in other rooms
module _ {A : Type 0} (k : ℕ) (old new : List A) (same : take k new ≡ take k old) where
  still_room : k ≤ length old → k ≤ length new
  still_room h = omega (arith, length-take k new, length-take k old, ap length same)

  still_there : (j : ℕ) (d : A) → j < k → get_or new j d ≡ get_or old j d
  still_there j d h = sym (get_or-take k new j d h) ∙ ap (λ (l : List A). get_or l j d) same ∙ get_or-take k old j d h

some_same : (p q : ℕ → Bool) (from count : ℕ) → ((k : ℕ) → k < from + count → p k ≡ q k) → some p (numbers from count) ≡ some q (numbers from count)
unfolding some numbers
some_same p q from zero h = refl
some_same p q from (suc count) h = rw (h from (omega arith), some_same p q (from + 1) count (λ k l. h k (omega arith)))

module _ (s : State) (old new : Rooms) (c : Carries s old new)
    (claims : claims_more s.built_in s.pairs (length old.pairs / 2) s.references (length old.references / 3) ≡ false) where
  fit : (s.pairs ≤ length old.pairs / 2) × (s.references ≤ length old.references / 3) × (cell_in_range s.built_in ≡ true)
  fit = claims_told s.built_in s.pairs (length old.pairs / 2) s.references (length old.references / 3) claims

  fit_new : (s.pairs ≤ length new.pairs / 2) × (s.references ≤ length new.references / 3)
  fit_new =
      let f = fit in
      let p = still_room (2 * s.pairs) old.pairs new.pairs c.pairs (omega arith) in
      let r = still_room (3 * s.references) old.references new.references c.references (omega arith) in
      (omega arith, omega arith)

  pub claims_carried : claims_more s.built_in s.pairs (length new.pairs / 2) s.references (length new.references / 3) ≡ false
  claims_carried = claims_made s.built_in s.pairs (length new.pairs / 2) s.references (length new.references / 3) fit_new.0 fit_new.1 fit.2

  spot_carried : (k : ℕ) → k < s.references → position_at new.references k ≡ position_at old.references k
  unfolding position_at
  spot_carried k h =
      let there = still_there (3 * s.references) old.references new.references c.references in
      rw (there (3 * k) nan (omega arith), there (3 * k + 1) nan (omega arith), there (3 * k + 2) nan (omega arith))

  moved_carried : (cell : Option Lattice) (xs : List Float) (k : ℕ) → k < s.references → strayed_of s cell xs new.references k ≡ strayed_of s cell xs old.references k
  unfolding strayed_of
  moved_carried cell xs k h = rw (spot_carried k h)

  needs_carried : (cell : Option Lattice) (xs : List Float) → needs_of s cell xs new.references ≡ needs_of s cell xs old.references
  unfolding needs_of
  needs_carried cell xs =
      ⊎_elim (λ e. rw (some_same (strayed_of s cell xs new.references) (strayed_of s cell xs old.references) 0 (atoms_of xs) (λ k l. moved_carried cell xs k (omega arith))))
      (λ e. rw (ne_eqb s.references (atoms_of xs) e))
      (same_or s.references (atoms_of xs))

  -- the question has the old answer
  pub keeps_carried : (cell : Option Lattice) (xs : List Float) → keeps_of Outdated s cell xs new.references ≡ keeps_of Outdated s cell xs old.references
  unfolding keeps_of outdated_of
  keeps_carried cell xs = rw (needs_carried cell xs)

  references_carried : (n : ℕ) → references_ok s n new.references ≡ references_ok s n old.references
  unfolding references_ok
  references_carried n =
      ⊎_elim (λ e. rw (← e, c.references)) (λ e. rw (ne_eqb s.references n e)) (same_or s.references n)

  listed_carried : listed_of s new.pairs ≡ listed_of s old.pairs
  listed_carried = sym (listed_some s new.pairs fit_new.0 fit.2) ∙ c.pairs ∙ listed_some s old.pairs fit.0 fit.2

  -- and so have the tests of the old list
  pub kept_carried : (n : ℕ) → kept_asked s n new.pairs new.references ≡ kept_asked s n old.pairs old.references
  unfolding kept_asked misnamed
  kept_carried n = rw (references_carried n, listed_carried)
