-- One walk over positions and references that finds each number quiet: the question is answered, and the list need not be built anew. Assumes nothing.
use Rattle.std.specs.Prelude.{Ok, Option}
use Rattle.cell.specs.declared.Lattice.{Lattice}
use Rattle.std.proofs.Common.{◌≡◌, ℕ, ◌+◌, ◌-◌, ◌*◌, ◌/◌, ◌%◌, ◌<◌, ◌≤◌, Bool, true, false, not, ◌&&◌, ◌||◌, eqb, ltb, List, length, take, sym, refl, ap, ◌∙◌, subst, zero-add, arith, length-take, get_or-take, ltb-false}
use mathlib.Core.Bool.{or-false, false≢true}
use lib.Ieee.{Float, nan, lt, le}
use borrow.Author.Tests.{not-true}
use Rattle.float.specs.Literals.{half}
use Rattle.float.specs.Arith.{◌⊖◌, ◌⊗◌, bits, at}
use Rattle.float.proofs.Branches.{both_true}
use Rattle.lists.specs.Atoms.{most_atoms}
use Rattle.lists.specs.Lists.{numbers, up_to, every, some}
use Rattle.lists.proofs.Cases.{or_neither, or_right}
use Rattle.lists.proofs.Walks.{every_at, at_every}
use Rattle.lists.proofs.Exactness.{numbers_at, length_numbers, length_up_to}
use Rattle.ranges.specs.Ranged.{within}
use Rattle.cell.specs.Ranged.{entry_limit, cell_in_range}
use Rattle.cell_prepared.specs.declared.Prepared.{Prepared}
use Rattle.cell_prepared.specs.Facts.{prepare_of}
use Rattle.neighbor_asked.specs.Asked.{settings_ok, in_order}
use Rattle.cell.specs.Vec.{position_at}
use Rattle.neighbor_asked.specs.Strays.{strayed, SmallEnough, half_entry, quiet_at}
use Rattle.neighbor_asked.proofs.Displaced.{none_far}
use Rattle.neighbor_asked.proofs.Quiet.{quiet_in}
use Rattle.neighbor.specs.declared.State.{State}
use Rattle.neighbor.specs.State.{skin_of}
use Rattle.neighbor.specs.Rebuild.{needs_of, same_box, outdated_of, claims_more, references_ok, ranges_ok, question_of}
use Rattle.neighbor.specs.Steps.{plain_of, RestSays}
use Rattle.neighbor.proofs.Asking.{ranges_in, needs_moved, from_first}

record Plain (s : State) (cell : Option Lattice) (xs refs : ℕ) : Type 0 where
  lengths : (not (eqb (xs % 3) 0) || ltb refs xs) ≡ false
  many : ltb most_atoms (xs / 3) ≡ false
  claims : claims_more s.built_in 0 0 s.references (refs / 3) ≡ false
  same : eqb s.references (xs / 3) ≡ true
  fine : (settings_ok s.cutoff s.skin && cell_in_range cell) ≡ true

module _ (s : State) (cell : Option Lattice) (xs refs : ℕ) where
  told : plain_of s cell xs refs ≡ true → Plain s cell xs refs
  unfolding plain_of
  told h =
      let A = not (eqb (xs % 3) 0) || ltb refs xs in
      let B = ltb most_atoms (xs / 3) in
      let C = claims_more s.built_in 0 0 s.references (refs / 3) in
      let D = eqb s.references (xs / 3) in
      let E = settings_ok s.cutoff s.skin && cell_in_range cell in
      let p = both_true (not ((A || B) || C) && D) E h in
      let q = both_true (not ((A || B) || C)) D p.0 in
      let u = or_neither (A || B) C (not-true ((A || B) || C) q.0) in
      let v = or_neither A B u.0 in
      record { lengths = v.0; many = v.1; claims = u.1; same = q.1; fine = p.1 }

  pub plain_room : plain_of s cell xs refs ≡ true → xs ≤ refs
  plain_room h = ltb-false refs xs (or_neither (not (eqb (xs % 3) 0)) (ltb refs xs) (told h).lengths).1

in_order_lem : (a b c d : Bool) (n : ℕ) → a ≡ false → b ≡ false → c ≡ false → d ≡ false → in_order a b n c d ≡ Ok tt
in_order_lem a b c d n p q r t = rw (p, q, r, t)

every_number : (q : ℕ → Bool) (f c : ℕ) → ((k : ℕ) → k < c → q (f + k) ≡ true) → every q (numbers f c) ≡ true
every_number q f c h =
    at_every 0 q (numbers f c) (λ k l.
    let below : k < c = subst (λ (z : ℕ). k < z) (length_numbers f c) l in
    subst (λ (z : ℕ). q z ≡ true) (sym (numbers_at f c k below)) (h k below))

module _ (s : State) (cell : Option Lattice) (xs refs : List Float) where
  pub not_at_rest : RestSays s cell xs refs false
  not_at_rest = record { asked = λ e. absurd (false≢true e); kept = λ e. absurd (false≢true e) }

  module _ (w : plain_of s cell (length xs) (length refs) ≡ true) {skin t : Float} (is : skin ≡ skin_of s) (rest : le skin (bits 0) ≡ false) {p : Prepared} (ip : p ≡ prepare_of cell)
      (enough : SmallEnough p ((half ⊗ skin) ⊗ (half ⊗ skin)) t) (small : lt t half_entry ≡ true) (all : every (λ k. quiet_at t (at xs k) (at refs k)) (up_to (length xs)) ≡ true)
    where
      pw : Plain s cell (length xs) (length refs)
      pw = told s cell (length xs) (length refs) w

      each : (k : ℕ) → k < length xs → (within entry_limit (at xs k) ≡ true) × (within entry_limit (at refs k) ≡ true) × (within t (at xs k ⊖ at refs k) ≡ true)
      each k l =
          quiet_in t (at xs k) (at refs k) small
          (subst (λ (z : ℕ). quiet_at t (at xs z) (at refs z) ≡ true) (numbers_at 0 (length xs) k l ∙ zero-add k)
          (every_at 0 (λ k. quiet_at t (at xs k) (at refs k)) (up_to (length xs)) all k (subst (λ (z : ℕ). k < z) (sym (length_up_to (length xs))) l)))

      positions_in : every (within entry_limit) xs ≡ true
      positions_in = at_every nan (within entry_limit) xs (λ k l. (each k l).0)

      references_in : every (within entry_limit) (take (3 * (length xs / 3)) refs) ≡ true
      references_in =
          at_every nan (within entry_limit) (take (3 * (length xs / 3)) refs) (λ k l.
          let short : k < 3 * (length xs / 3) = omega (arith, l, length-take (3 * (length xs / 3)) refs) in
          subst (λ (z : Float). within entry_limit z ≡ true) (sym (get_or-take (3 * (length xs / 3)) refs k nan short)) (each k (omega arith)).1)

      ranges_fine : ranges_ok s cell xs ≡ true
      ranges_fine = sym (ranges_in s cell xs refl refl (ap not pw.fine) (sym positions_in))

      references_fine : references_ok s (length xs / 3) refs ≡ true
      unfolding references_ok
      references_fine = or_right (not (eqb s.references (length xs / 3))) (every (within entry_limit) (take (3 * (length xs / 3)) refs)) references_in

      answered : question_of s cell xs refs ≡ Ok tt
      unfolding question_of
      answered =
          let inside : not (ranges_ok s cell xs && references_ok s (length xs / 3) refs) ≡ false = rw (ranges_fine, references_fine) in
          in_order_lem _ _ _ _ (length xs / 3) pw.lengths pw.many pw.claims inside

      none : false ≡ some (λ k. strayed p ((half ⊗ skin) ⊗ (half ⊗ skin)) (position_at xs k) (position_at refs k)) (up_to (length xs / 3))
      none =
          from_first _ (length xs / 3)
          (none_far p ((half ⊗ skin) ⊗ (half ⊗ skin)) t xs refs 0 (length xs / 3) enough
          (sym (every_number (λ k. within t (at xs k ⊖ at refs k)) (3 * 0) (3 * (length xs / 3) - 3 * 0) (λ k l. (each (3 * 0 + k) (omega arith)).2))) refl)

      needless : needs_of s cell xs refs ≡ false
      needless = sym (needs_moved s cell xs refs refl (ap not pw.same) is rest ip none)

      pub all_at_rest : RestSays s cell xs refs true
      all_at_rest = record { asked = λ e. answered; kept = λ e. needless }

  pub at_rest_says : plain_of s cell (length xs) (length refs) ≡ true → {skin t : Float} → skin ≡ skin_of s → le skin (bits 0) ≡ false → {p : Prepared} → p ≡ prepare_of cell
      → SmallEnough p ((half ⊗ skin) ⊗ (half ⊗ skin)) t → lt t half_entry ≡ true → {r : Bool} → r ≡ every (λ k. quiet_at t (at xs k) (at refs k)) (up_to (length xs)) → RestSays s cell xs refs r
  at_rest_says w {skin} {t} is rest ip enough small {r} e = go r e
    where
      go : (r : Bool) → r ≡ every (λ k. quiet_at t (at xs k) (at refs k)) (up_to (length xs)) → RestSays s cell xs refs r
      go true e = all_at_rest w is rest ip enough small (sym e)
      go false e = not_at_rest

-- `outdated` then asks for the cell alone
pub outdated_at_rest : (s : State) (cell : Option Lattice) (xs refs : List Float) {b : Bool} → b ≡ same_box s.built_in cell → needs_of s cell xs refs ≡ false → not b ≡ outdated_of s cell xs refs
unfolding outdated_of
outdated_at_rest s cell xs refs {b} e h = rw (← e, h) (sym (or-false (not b)))
