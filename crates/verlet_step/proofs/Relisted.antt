-- The list after a refused build: what it is left as, and that a build from there is the build from the old state. Assumes nothing.
use Rattle.std.specs.Prelude.{Ok, Option}
use Rattle.cell.specs.declared.Lattice.{Lattice}
use Prim.Native.Nat.{ℕ, ◌*◌, ◌/◌, ◌≤◌, ◌<◌}
use native.Mathlib.Omega.{arith}
use mathlib.Core.Path.{◌≡◌, refl, sym, ap, ◌∙◌, subst}
use mathlib.Core.Bool.{Bool, true, false, cond, not, ◌&&◌, ◌||◌, false≢true}
use mathlib.Core.Logic.{◌⊎◌, inl, inr, ⊎_elim}
use mathlib.Core.List.Memᴰ
use mathlib.Core.List.{List, [], ◌∷◌}
use lib.Dec.{eqb, ltb, leb}
use lib.ListN.{length, take, drop, take-append-drop}
use lib.Seq.{length-take-le, take-append-le, take-take}
use lib.Ieee.{Float, lt, is_nan, of_bits}
use borrow.Author.Tests.{ltb-false, leb-false, le-ltb, ne_eqb, not-false}
use Rattle.lists.specs.Atoms.{atoms_of}
use Rattle.float.specs.Arith.{bits}
use Rattle.float.specs.Def.{max_of, negative}
use Rattle.answer.specs.Seen.{Seen, answered, refused}
use Rattle.answer.specs.declared.Refusal.TheVariants.{Lengths, Range}
use Rattle.lists.specs.Exact.{◌∈◌}
use Rattle.lists.specs.Lists.{first_where, rows, Two}
use Rattle.lists.proofs.Cases.{by_test}
use Rattle.lists.proofs.Rows.{length_rows, rows_append, take_rows}
use Rattle.ranges.specs.Rows.{is_absent, absent_of}
use Rattle.bins.proofs.Laid.{laid_length}
use Rattle.cell.specs.Ranged.{cell_in_range}
use Rattle.bins.specs.Listing.{laid_of}
use Rattle.neighbor_grid.specs.Grid.{plain_of, crowded}
use Rattle.neighbor_grid.specs.Layout.{starts_laid, items_laid}
use Rattle.neighbor_listing.specs.declared.Listed.{Listed}
use Rattle.neighbor_listing.specs.declared.Listed.TheVariants.{Found, Full, Crowded, Unfit}
use Rattle.neighbor_listing.specs.Found.{near_pairs, checks_of}
use Rattle.neighbor_listing.specs.Listed as Listing
use Rattle.neighbor.specs.declared.Question.TheVariants.{Outdated}
use Rattle.neighbor.specs.declared.State.{State}
use Rattle.neighbor.specs.State.{skin_of, radius_of, built_of, emptied_of}
use Rattle.neighbor.specs.Rebuild.{same_box, needs_of, outdated_of, references_ok}
use Rattle.neighbor.specs.Update.{Given, given, Outcome, stays, kept_all, built_all, full_all, listed_all, listed_by, rebuilt_all, unfit, keeps_of, update_of, listed_of, misnamed, kept_asked}
use Rattle.answer.proofs.Passed.{pass}
use Rattle.neighbor.proofs.Asking.{listed_some}
use Rattle.neighbor.proofs.Demands.{near_exactly}
use Rattle.potentials.proofs.Source.{two_there}

-- ---- the skin, read twice as its maximum with zero, is as read once
one_of : (b : Bool) {z x u w : Float} → (u ≡ z) ⊎ (u ≡ x) → (w ≡ z) ⊎ (w ≡ x) → (cond b u w ≡ z) ⊎ (cond b u w ≡ x)
one_of true p q = p
one_of false p q = q

pub zero_or : (x : Float) → (max_of x (bits 0) ≡ bits 0) ⊎ (max_of x (bits 0) ≡ x)
unfolding max_of
zero_or x = one_of (is_nan x) (inl refl) (one_of (is_nan (bits 0)) (inr refl) (one_of (lt x (bits 0)) (inl refl) (one_of (lt (bits 0) x) (inr refl) (one_of (negative x) (inl refl) (inr refl)))))

zero_twice : max_of (bits 0) (bits 0) ≡ bits 0
unfolding max_of of_bits is_nan lt
zero_twice = refl

max_again : (x : Float) → max_of (max_of x (bits 0)) (bits 0) ≡ max_of x (bits 0)
max_again x = ⊎_elim (λ e. rw e zero_twice) (λ e. ap (λ (z : Float). max_of z (bits 0)) e) (zero_or x)

-- ---- the state that an 8 leaves: a build from it is a build from the old one
module _ (s : State) where
  pub skin_again : skin_of (emptied_of s) ≡ skin_of s
  unfolding skin_of emptied_of
  skin_again = max_again s.skin

  radius_again : radius_of (emptied_of s) ≡ radius_of s
  unfolding radius_of emptied_of
  radius_again = rw (skin_again)

  built_again : (cell : Option Lattice) (n count checks : ℕ) (fallback : Bool) → built_of (emptied_of s) cell n count checks fallback ≡ built_of s cell n count checks fallback
  unfolding built_of emptied_of
  built_again cell n count checks fallback = rw (skin_again)

  needs_again : (cell : Option Lattice) (xs refs : List Float) → 2 ≤ atoms_of xs → needs_of (emptied_of s) cell xs refs ≡ true
  unfolding needs_of emptied_of
  needs_again cell xs refs h = rw (ne_eqb 0 (atoms_of xs) (λ e. omega arith))

  -- whatever it remembers
  keeps_again : (cell : Option Lattice) (xs refs : List Float) → 2 ≤ atoms_of xs → keeps_of Outdated (emptied_of s) cell xs refs ≡ false
  unfolding keeps_of outdated_of
  keeps_again cell xs refs h =
      rw (needs_again cell xs refs h) (by_test (λ b. not (not b || true) ≡ false) (same_box (emptied_of s).built_in cell) (λ _. refl) (λ _. refl))

never : {A : Type 0} {n p : ℕ} → ◌≡◌ {A = Seen (Unit {0})} (answered tt) (refused n p) → A
never e = let z : ◌≡◌ {A = ℕ} 0 1 = cc in absurd (omega arith)

-- the same, but with the state that an 8 leaves
abbrev pub emptied : Given → Given
emptied i = given (emptied_of i.state) i.cell i.positions i.exclusions i.pairs i.references i.starts i.items

module _ (i : Given) where
  all_again : (count checks : ℕ) (fallback : Bool) (p s t : List ℕ) → built_all (emptied i) count checks fallback p s t ≡ built_all i count checks fallback p s t
  unfolding built_all
  all_again count checks fallback p s t = rw (built_again i.state i.cell (atoms_of i.positions) count checks fallback)

  listed_again : (a : Listed) (p s t : List ℕ) → (listed_all (emptied i) a p s t).answer ≡ answered tt → listed_all (emptied i) a p s t ≡ listed_all i a p s t
  unfolding listed_all full_all
  listed_again (Found count checks fallback) p s t h = all_again count checks fallback p s t
  listed_again (Full count) p s t h = never (sym h)
  listed_again Crowded p s t h = never (sym h)
  listed_again Unfit p s t h = never (sym h)

  rebuilt_again : (rebuilt_all (emptied i)).answer ≡ answered tt → rebuilt_all (emptied i) ≡ rebuilt_all i
  unfolding rebuilt_all
  rebuilt_again =
      let o = Listing.listing_of i.cell (radius_of i.state) i.positions i.exclusions i.pairs i.starts i.items in
      rw (radius_again i.state)
      (by_test
      (λ t. (cond t (built_all (emptied i) 0 0 false i.pairs i.starts i.items) (listed_by (emptied i) o)).answer ≡ answered tt
      → cond t (built_all (emptied i) 0 0 false i.pairs i.starts i.items) (listed_by (emptied i) o) ≡ cond t (built_all i 0 0 false i.pairs i.starts i.items) (listed_by i o))
      (ltb (atoms_of i.positions) 2)
      (λ _ h. all_again 0 0 false i.pairs i.starts i.items)
      (λ _ h. listed_again o.answer o.pairs o.starts o.items h))

  -- of two atoms or more, where the old state too asks for a build
  pub update_again : 2 ≤ atoms_of i.positions → keeps_of Outdated i.state i.cell i.positions i.references ≡ false
      → (update_of Outdated (emptied i)).answer ≡ answered tt → update_of Outdated (emptied i) ≡ update_of Outdated i
  unfolding update_of
  update_again many asked =
      rw (asked, keeps_again i.state i.cell i.positions i.references many)
      (by_test
      (λ t. (cond t (stays (emptied i) Lengths) (rebuilt_all (emptied i))).answer ≡ answered tt
      → cond t (stays (emptied i) Lengths) (rebuilt_all (emptied i)) ≡ cond t (stays i Lengths) (rebuilt_all i))
      (unfit (length i.positions) (length i.references))
      (λ _ h. never (sym h))
      (λ _ h. rebuilt_again h))

-- ---- what a refused build leaves
abbrev pub found_in : Given → List (ℕ × ℕ)
found_in i = near_pairs i.cell (radius_of i.state) i.positions i.exclusions

-- after a 7: the list as it came
pub record Untouched (i : Given) (o : Outcome) : Type 0 where
  pub answer : o.answer ≡ refused 7 0
  pub state : o.state ≡ i.state
  pub pairs : o.pairs ≡ i.pairs
  pub references : o.references ≡ i.references

-- after an 8: a build was asked for, and the room is full
pub record Overfull (i : Given) (o : Outcome) : Type 0 where
  pub answer : o.answer ≡ refused 8 (length (found_in i))
  pub state : o.state ≡ emptied_of i.state
  pub pairs : o.pairs ≡ laid_of i.pairs (found_in i)
  pub references : o.references ≡ i.references
  pub many : 2 ≤ atoms_of i.positions
  pub asked : keeps_of Outdated i.state i.cell i.positions i.references ≡ false
  pub over : length i.pairs / 2 < length (found_in i)

-- where the tests have passed
module _ (i : Given) (fit : unfit (length i.positions) (length i.references) ≡ false) (able : Listing.unlisted i.positions i.exclusions i.items ≡ false) (n p : ℕ) where
  abbrev Leaves : Outcome → Type 0
  Leaves o = o.answer ≡ refused n p → Untouched i o ⊎ Overfull i o

  module _ (many : 2 ≤ atoms_of i.positions) (asked : keeps_of Outdated i.state i.cell i.positions i.references ≡ false) where
    run_leaves : (fallback : Bool) (starts items : List ℕ)
        → Leaves (listed_by i (Listing.run_of i.cell (radius_of i.state) i.positions i.exclusions i.pairs starts items fallback))
    unfolding Listing.run_of Listing.shown_of listed_all full_all built_all
    run_leaves fallback starts items =
        by_test
        (λ t. Leaves (listed_all i (cond t (Found (length (found_in i)) (checks_of i.cell (radius_of i.state) i.positions i.exclusions) fallback) (Full (length (found_in i)))) (laid_of i.pairs (found_in i)) starts items))
        (leb (length (found_in i)) (length i.pairs / 2))
        (λ _ h. never h)
        (λ e _. inr (record { answer = refl; state = refl; pairs = refl; references = refl; many = many; asked = asked; over = omega (arith, leb-false (length (found_in i)) (length i.pairs / 2) e) }))

    list_leaves : Leaves (listed_by i (Listing.listing_of i.cell (radius_of i.state) i.positions i.exclusions i.pairs i.starts i.items))
    unfolding Listing.listing_of listed_all
    list_leaves =
        by_test (λ t. Leaves (listed_by i (fits t))) (Listing.unlisted i.positions i.exclusions i.items) (λ e. absurd (false≢true (sym able ∙ e)))
        (λ _.
        by_test (λ t. Leaves (listed_by i (flat t))) (plain_of i.cell (radius_of i.state) i.positions) (λ _. run_leaves true i.starts i.items)
        (λ _.
        by_test (λ t. Leaves (listed_by i (full t))) (crowded i.cell (radius_of i.state) i.positions (length i.starts))
        (λ _ _. inl (record { answer = refl; state = refl; pairs = refl; references = refl }))
        (λ _. run_leaves false _ _)))
      where
        full : Bool → Listing.Outcome
        full t =
            cond t (Listing.outcome Crowded i.pairs i.starts i.items)
            (Listing.run_of i.cell (radius_of i.state) i.positions i.exclusions i.pairs (starts_laid i.cell (radius_of i.state) i.positions i.starts) (items_laid i.cell (radius_of i.state) i.positions i.items) false)

        flat : Bool → Listing.Outcome
        flat t =
            cond t (Listing.run_of i.cell (radius_of i.state) i.positions i.exclusions i.pairs i.starts i.items true)
            (full (crowded i.cell (radius_of i.state) i.positions (length i.starts)))

        fits : Bool → Listing.Outcome
        fits t = cond t (Listing.outcome Unfit i.pairs i.starts i.items) (flat (plain_of i.cell (radius_of i.state) i.positions))

  rebuilt_leaves : keeps_of Outdated i.state i.cell i.positions i.references ≡ false → Leaves (rebuilt_all i)
  unfolding rebuilt_all built_all
  rebuilt_leaves asked =
      by_test
      (λ t. Leaves (cond t (built_all i 0 0 false i.pairs i.starts i.items)
      (listed_by i (Listing.listing_of i.cell (radius_of i.state) i.positions i.exclusions i.pairs i.starts i.items))))
      (ltb (atoms_of i.positions) 2)
      (λ _ h. never h)
      (λ e. list_leaves (ltb-false (atoms_of i.positions) 2 e) asked)

  pub update_leaves : Leaves (update_of Outdated i)
  unfolding update_of kept_all
  update_leaves =
      let keeps = keeps_of Outdated i.state i.cell i.positions i.references in
      by_test (λ t. Leaves (cond t (stays i Lengths) (cond keeps (kept_all i) (rebuilt_all i)))) (unfit (length i.positions) (length i.references))
      (λ e. absurd (false≢true (sym fit ∙ e)))
      (λ _. by_test (λ t. Leaves (cond t (kept_all i) (rebuilt_all i))) keeps (λ _ h. never h) (λ e. rebuilt_leaves e))

-- ---- the pairs that an 8 leaves name atoms that are there
first_none : {A : Type 0} (p : A → Bool) (l : List A) → ((a : A) → a ∈ l → p a ≡ false) → first_where p l ≡ length l
unfolding first_where
first_none p [] h = refl
first_none p (a ∷ l) h = rw (h a (Memᴰ.head refl), first_none p l (λ b m. h b (Memᴰ.tail m)))

of_front : {A : Type 0} (k : ℕ) (l : List A) {a : A} → a ∈ take k l → a ∈ l
of_front {A} k l {a} m = subst (λ (t : List A). a ∈ t) (take-append-drop k l) (Memᴰ.append_left (drop k l) m)

all_there : (n : ℕ) (l : List ℕ) → ((p : ℕ × ℕ) → p ∈ rows l → Two n p) → ltb (absent_of n (rows l)) (length l / 2) ≡ false
unfolding absent_of
all_there n l h =
    le-ltb (first_where (is_absent n) (rows l)) (length l / 2) (omega (arith, first_none (is_absent n) (rows l) (λ p m. two_there n p (h p m)), length_rows l))

module _ (old : List ℕ) (found : List (ℕ × ℕ)) (over : length old / 2 < length found) (k : ℕ) (room : k ≤ length old / 2) where
  laid_front : rows (take (2 * k) (laid_of old found)) ≡ take k found
  unfolding laid_of
  laid_front =
      let fit = take (length old / 2) found in
      let rest = drop (2 * length fit) old in
      take_rows (laid_of old found) k
      ∙ ap (take k) (rows_append fit rest)
      ∙ take-append-le k fit (rows rest) (omega (arith, length-take-le (length old / 2) found (omega arith)))
      ∙ take-take k (length old / 2) found room

module _ (s : State) (n : ℕ) (old : List ℕ) (found : List (ℕ × ℕ)) (over : length old / 2 < length found) (room : s.pairs ≤ length old / 2)
    (inside : cell_in_range s.built_in ≡ true) (two : (p : ℕ × ℕ) → p ∈ found → Two n p) where
  full_listed : take (2 * s.pairs) (laid_of old found) ≡ listed_of s (laid_of old found)
  full_listed = listed_some s (laid_of old found) (omega (arith, laid_length old found)) inside

  full_named : misnamed s n (laid_of old found) ≡ false
  unfolding misnamed
  full_named =
      rw (
        ← full_listed,
        all_there n (take (2 * s.pairs) (laid_of old found)) (λ p m. two p (of_front s.pairs found (subst (λ (l : List (ℕ × ℕ)). p ∈ l) (laid_front old found over s.pairs room) m))),
      )
      (by_test (λ b. b && false ≡ false) (eqb s.references n) (λ _. refl) (λ _. refl))

  full_kept : (refs : List Float) → kept_asked s n old refs ≡ Ok tt → kept_asked s n (laid_of old found) refs ≡ Ok tt
  unfolding kept_asked
  full_kept refs h = rw (not-false (references_ok s n refs) (pass (not (references_ok s n refs)) Range _ h).0, full_named)

pub overfull_kept : (i : Given) → length i.pairs / 2 < length (found_in i) → i.state.pairs ≤ length i.pairs / 2 → cell_in_range i.state.built_in ≡ true
    → kept_asked i.state (atoms_of i.positions) i.pairs i.references ≡ Ok tt
    → kept_asked i.state (atoms_of i.positions) (laid_of i.pairs (found_in i)) i.references ≡ Ok tt
overfull_kept i over room inside h =
    full_kept i.state (atoms_of i.positions) i.pairs (found_in i) over room inside (λ p m. ((near_exactly i.cell (radius_of i.state) i.positions i.exclusions).sound p m).0) i.references h
