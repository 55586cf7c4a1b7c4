-- The evaluation by its ways: the list refused, or the terms over it; and that after the tests the kernel's lookup and scratch are the contract's. Assumes nothing.
use Rattle.std.specs.Prelude.{Err, None, Ok, Option, Result, Some}
use Rattle.cell.specs.declared.Lattice.{Lattice}
use Prim.Native.Nat.{ℕ, ◌/◌, ◌%◌, ◌≤◌, min}
use native.Mathlib.Omega.{arith}
use mathlib.Core.Path.{◌≡◌, refl, sym, ap, ◌∙◌}
use mathlib.Core.Bool.{Bool, true, false, not, ◌&&◌}
use mathlib.Core.List.{List, [], ◌∷◌}
use lib.Dec.{eqb}
use lib.Ieee.{Float}
use lib.ListN.{length, take}
use lib.Seq.{length-take-le}
use borrow.Author.Tests.{ltb-false, eqb-true, not-false}
use Rattle.answer.specs.declared.Refusal.{Refusal}
use Rattle.answer.specs.declared.Refusal.TheVariants.{Lengths, Range}
use Rattle.answer.specs.Seen.{Seen, answered, refused, seen}
use Rattle.lists.specs.Lists.{rows}
use Rattle.lists.proofs.Cases.{and_both, or_neither}
use Rattle.virial.specs.declared.Sum.{Sum}
use Rattle.virial.specs.Virial.{zero_sum}
use Rattle.potentials_pair.specs.declared.Lj.{Lj}
use Rattle.potentials_pair.specs.declared.Mixed.{Mixed}
use Rattle.potentials_pair.specs.Pull.{Total, held}
use Rattle.potentials_pair.specs.Species.{Tables, look_by, look_of, rising}
use Rattle.potentials_pair.proofs.Lookup.{looks_all}
use Rattle.potentials.specs.Terms.{lj_over}
use Rattle.potentials.proofs.Outcomes.{order_told}
use Rattle.neighbor.specs.declared.Question.TheVariants.{Outdated}
use Rattle.neighbor.specs.declared.State.{State}
use Rattle.neighbor.specs.declared.Updated.{Updated}
use Rattle.neighbor.specs.Update.{Given, update_of, listed_of, first_of, table_asked}
use Rattle.neighbor.specs.Update as Update
use Rattle.neighbor.proofs.Source.{passed, both_passed, first_told, lengths_told}
use Rattle.evaluate.proofs.Folding.{merged_room}
use Rattle.evaluate.specs.declared.Evaluated.{Evaluated}
use Rattle.evaluate.specs.Terms.{Terms, lj_gives, contributions, merged_all}
use Rattle.evaluate.specs.Asked.{terms_fit, bond_rows_asked, angles_named, names_asked, in_turn, job_asked}
use Rattle.evaluate.specs.Calls.{Job, Outcome, total_of, after_list, settled_by, settled_of, after_asked, evaluated_of, shown}
use Rattle.evaluate.specs.Steps.{scratch_length, settled_in, evaluated_from, total_after}

-- ---- the kernel
-- the part of the scratch that is lent
pub part_of : (m : ℕ) {n : ℕ} (room : List Float) → n ≡ min m scratch_length → length room ≡ scratch_length → length (take n room) ≡ min m scratch_length
part_of m {n} room e l = length-take-le n room (omega arith) ∙ e

module _ (t : Terms) (cell : Option Lattice) (xs : List Float) (pairs : List ℕ) (forces : List Float) {d : Result (Unit {0}) Refusal} (s : State) where
  pub total_refused : {why : Refusal} → d ≡ Err why → {z : Sum} → z ≡ zero_sum → held z forces ≡ total_after t cell xs pairs forces d s
  unfolding total_after
  total_refused h e = rw (h, e)

  pub total_on : d ≡ Ok tt → {part : List ℕ} → part ≡ listed_of s pairs → {r : Total}
      → r ≡ merged_all (length forces) (contributions look_by t cell xs (min (length forces) scratch_length) (rows part)) → r ≡ total_after t cell xs pairs forces d s
  unfolding total_after
  total_on h p e = rw (h, ← p) e

pub after_made : {r : Evaluated} {u : Updated} {sum : Sum} {forces : List Float} {t : Total} → r ≡ evaluated_from u sum → held sum forces ≡ t
    → (held r.sum forces ≡ t) × (r ≡ evaluated_from u r.sum)
after_made {r} {u} {sum} {forces} q e =
    let s : r.sum ≡ sum = ap (λ (x : Evaluated). x.sum) q in
    (ap (λ (x : Sum). held x forces) s ∙ e, q ∙ ap (evaluated_from u) (sym s))

module _ (j : Job) where
  after_is : (d : Result (Unit {0}) Refusal) (o : Update.Outcome) → record { list = o; total = total_after j.terms j.given.cell j.given.positions o.pairs j.forces d o.state }
      ≡ after_list look_by (min (length j.forces) scratch_length) j (seen d) o
  unfolding total_after after_list total_of
  after_is (Ok tt) o = refl
  after_is (Err r) o = refl

  pub settled_by_lem : {u : Updated} {pairs : List ℕ} {references : List Float} {starts items : List ℕ} → Update.shown u pairs references starts items ≡ update_of Outdated j.given
      → {r : Evaluated} {forces : List Float} → held r.sum forces ≡ total_after j.terms j.given.cell j.given.positions pairs j.forces u.done u.state
      → r ≡ evaluated_from u r.sum → shown r pairs references starts items forces ≡ settled_in j
  unfolding settled_by
  settled_by_lem {u} {pairs} {references} {starts} {items} e t q =
      (λ k. record {
        list =
            record {
              answer = seen (q k).done;
              rebuilt = (q k).rebuilt;
              state = (q k).state;
              pairs = pairs;
              references = references;
              starts = starts;
              items = items;
            };
        total = t k;
      })
      ∙ after_is u.done (Update.shown u pairs references starts items)
      ∙ ap (λ (o : Update.Outcome). after_list look_by (min (length j.forces) scratch_length) j o.answer o) e

-- ---- what passed tests show
module _ (fits : Bool) (first : Result (Unit {0}) Refusal) (ok : Bool) (kept names : Result (Unit {0}) Refusal) (e : in_turn fits first ok kept names ≡ Ok tt) where
  turn_fits : fits ≡ true
  unfolding in_turn
  turn_fits = passed fits Lengths (both_passed _ _ e).0

  turn_first : first ≡ Ok tt
  unfolding in_turn
  turn_first = (both_passed first _ (both_passed _ _ e).1).0

  turn_inside : ok ≡ true
  unfolding in_turn
  turn_inside = passed ok Range (both_passed _ _ (both_passed first _ (both_passed _ _ e).1).1).0

  turn_names : names ≡ Ok tt
  unfolding in_turn
  turn_names = (both_passed kept names (both_passed _ _ (both_passed first _ (both_passed _ _ e).1).1).1).1

names_rising : (n : ℕ) (bonds angles table own_ids ids : List ℕ) → names_asked n bonds angles table own_ids ids ≡ Ok tt → (rising own_ids ≡ true) × (rising ids ≡ true)
unfolding names_asked
names_rising n bonds angles table own_ids ids e =
    order_told own_ids ids (both_passed (table_asked table) _ (both_passed (angles_named n angles) _ (both_passed (bond_rows_asked n bonds) _ e).1).1).1

fit_forces : (tables : Bool) (species charges bonds angles per xs forces : ℕ) → terms_fit tables species charges bonds angles per xs forces ≡ true → forces ≡ xs
unfolding terms_fit
fit_forces tables species charges bonds angles per xs forces e =
    eqb-true forces xs (and_both (tables && eqb species (xs / 3) && eqb charges (xs / 3) && eqb (bonds % 2) 0 && eqb (angles % 3) 0 && eqb (per % 2) 0) (eqb forces xs) e).1

first_room : (s : State) (cell : Option Lattice) (xs : List Float) (table pairs refs items : ℕ) → first_of s cell xs table pairs refs items ≡ Ok tt → (length xs % 3 ≡ 0) × (length xs ≤ 49152)
first_room s cell xs table pairs refs items e =
    let f = first_told s cell xs table pairs refs items e in
    let m : length xs / 3 ≤ 16384 = ltb-false 16384 (length xs / 3) f.1 in
    let r = or_neither (not (eqb (length xs % 3) 0)) _ (lengths_told (length xs) table refs items f.0).0 in
    let z : length xs % 3 ≡ 0 = eqb-true (length xs % 3) 0 (not-false (eqb (length xs % 3) 0) r.0) in
    (z, omega arith)

-- what an evaluation, or a step, that passed its tests may count on
module _ (fits in_range : Bool) (t : Terms) (g : Given) (forces : ℕ) (e : job_asked fits in_range t g forces ≡ Ok tt) where
  pub asked_rising : (rising t.tables.own_ids ≡ true) × (rising t.tables.ids ≡ true)
  unfolding job_asked
  asked_rising = names_rising _ _ _ _ _ _ (turn_names _ _ _ _ _ e)

  pub asked_forces : forces ≡ length g.positions
  unfolding job_asked
  asked_forces = fit_forces _ _ _ _ _ _ _ _ (and_both fits _ (turn_fits _ _ _ _ _ e)).1

  pub asked_few : length g.positions ≤ 49152
  unfolding job_asked
  asked_few = (first_room _ _ _ _ _ _ _ (turn_first _ _ _ _ _ e)).1

  pub asked_thirds : length g.positions % 3 ≡ 0
  unfolding job_asked
  asked_thirds = (first_room _ _ _ _ _ _ _ (turn_first _ _ _ _ _ e)).0

  -- what a step asks besides
  pub asked_fits : fits ≡ true
  unfolding job_asked
  asked_fits = (and_both fits _ (turn_fits _ _ _ _ _ e)).0

  pub asked_inside : in_range ≡ true
  unfolding job_asked
  asked_inside = (and_both in_range _ (turn_inside _ _ _ _ _ e)).0

-- ---- the lookup by halving is the one by membership
lj_looked : (tab : Tables) → (rising tab.own_ids ≡ true) × (rising tab.ids ≡ true) → (t : Option Lj) (cell : Option Lattice) (species : List ℕ) (xs : List Float) (room : ℕ) (l : List (ℕ × ℕ))
    → lj_gives (look_by tab) t cell species xs room l ≡ lj_gives (look_of tab) t cell species xs room l
unfolding lj_gives
lj_looked tab h None cell species xs room l = refl
lj_looked tab h (Some lj) cell species xs room l = ap (λ (look : ℕ → Mixed). lj_over look lj cell species xs room l ∷ []) (looks_all tab h.0 h.1 lj)

module _ (j : Job) (h : (rising j.terms.tables.own_ids ≡ true) × (rising j.terms.tables.ids ≡ true)) (room : ℕ) (o : Update.Outcome) where
  total_looked : total_of look_by room j o ≡ total_of look_of room j o
  unfolding total_of contributions
  total_looked = rw (lj_looked j.terms.tables h)

  after_looked : (a : Seen (Unit {0})) → after_list look_by room j a o ≡ after_list look_of room j a o
  unfolding after_list
  after_looked (answered u) = rw total_looked
  after_looked (refused n p) = refl

-- the kernel's evaluation is the contract's
pub settled_is : (j : Job) → (rising j.terms.tables.own_ids ≡ true) × (rising j.terms.tables.ids ≡ true) → length j.forces ≤ 49152 → settled_in j ≡ settled_of j
unfolding settled_by
settled_is j h l =
    let m : min (length j.forces) scratch_length ≡ length j.forces = omega arith in
    rw m (after_looked j h (length j.forces) _ _)

-- the list's outcome is the evaluation's, and the forces are as many as they were
module _ (look : Tables → Lj → ℕ → Mixed) (room : ℕ) (j : Job) where
  after_list_lem : (a : Seen (Unit {0})) (o : Update.Outcome) → (after_list look room j a o).list ≡ o
  unfolding after_list
  after_list_lem (answered u) o = refl
  after_list_lem (refused n p) o = refl

  pub settled_list : (settled_by look room j).list ≡ update_of Outdated j.given
  unfolding settled_by
  settled_list = after_list_lem _ _

  after_length : (a : Seen (Unit {0})) (o : Update.Outcome) → length (after_list look room j a o).total.forces ≡ length j.forces
  unfolding after_list total_of
  after_length (answered u) o = merged_room _ _
  after_length (refused n p) o = refl

  pub settled_length : length (settled_by look room j).total.forces ≡ length j.forces
  unfolding settled_by
  settled_length = after_length _ _

-- ---- the call
module _ (j : Job) {d : Result (Unit {0}) Refusal} (is : d ≡ job_asked true true j.terms j.given (length j.forces)) where
  pub evaluated_refused : {why : Refusal} → d ≡ Err why → {r : Evaluated} → r ≡ record { done = Err why; rebuilt = false; state = j.given.state; sum = zero_sum }
      → shown r j.given.pairs j.given.references j.given.starts j.given.items j.forces ≡ evaluated_of j
  unfolding evaluated_of after_asked
  evaluated_refused h q = rw (← is, h, q)

  pub evaluated_on : d ≡ Ok tt → {o : Outcome} → o ≡ settled_in j → o ≡ evaluated_of j
  unfolding evaluated_of after_asked
  evaluated_on h q =
      let a = sym is ∙ h in
      let f = asked_forces true true j.terms j.given (length j.forces) a in
      let l = asked_few true true j.terms j.given (length j.forces) a in
      rw (← is, h) (q ∙ settled_is j (asked_rising true true j.terms j.given (length j.forces) a) (omega arith))
