-- The tests of the calls by their cases, as the code takes them, a search over the numbers below n, and a walk over all of them. Assumes nothing.
use Rattle.std.specs.Prelude.{Err, Ok, Option, Result}
use Rattle.cell.specs.declared.Lattice.{Lattice}
use Rattle.std.proofs.Common.{◌≡◌, ℕ, ◌+◌, ◌-◌, ◌*◌, ◌/◌, ◌%◌, ◌<◌, ◌≤◌, Bool, true, false, cond, not, ◌&&◌, ◌||◌, eqb, ltb, List, [], ◌∷◌, ◌++◌, length, take, sym, refl, ap, ◌∙◌, arith, length-take-le, take_all, ltb-false, le-ltb, eqb-true}
use native.Mathlib.Nat.{sub-zero}
use mathlib.Core.Bool.{and_assoc, or_assoc, and-true}
use lib.Ieee.{Float, lt, le}
use borrow.Author.Tests.{not-true, not-false}
use Rattle.answer.proofs.Passed.{pass}
use Rattle.float.specs.Literals.{half}
use Rattle.answer.specs.declared.Refusal.{Refusal}
use Rattle.answer.specs.declared.Refusal.TheVariants.{Lengths, Range, NotThere, Order}
use Rattle.answer.specs.Seen.{answered, refused_by}
use Rattle.float.specs.Arith.{◌⊗◌, bits}
use Rattle.ranges.specs.Ranged.{within}
use Rattle.lists.specs.Lists.{numbers, up_to, some, every, rows}
use Rattle.lists.proofs.Cases.{or_neither}
use Rattle.lists.proofs.Walks.{numbers_next, numbers_end}
use Rattle.lists.proofs.Nested.{numbers_append}
use Rattle.ranges.specs.Rows.{absent_of}
use Rattle.cell.specs.declared.Image.{Image}
use Rattle.cell.specs.Vec.{sub_of, norm2_of, position_at}
use Rattle.cell.specs.Ranged.{entry_limit, cell_in_range}
use Rattle.cell_prepared.specs.declared.Prepared.{Prepared}
use Rattle.cell_prepared.specs.Facts.{prepare_of}
use Rattle.cell_prepared.proofs.Law.{prepared_image}
use Rattle.exclusions.specs.Table.{is_table}
use Rattle.neighbor.specs.declared.State.{State}
use Rattle.neighbor_asked.specs.Asked.{settings_ok, first_refusal}
use Rattle.neighbor.specs.State.{skin_of}
use Rattle.neighbor_asked.specs.Strays.{strayed}
use Rattle.neighbor.specs.Rebuild.{allowance, needs_of, same_box, outdated_of, claims_more, references_ok, ranges_ok, question_of, needs_seen, outdated_seen, strayed_of}
use Rattle.neighbor.specs.Update.{listed_of, first_of, misnamed, kept_asked, table_asked, list_asked}

-- ---- a search of the numbers from `from` up to n, one after the other or a block after the other: what is left decides
pub record Searching (p : ℕ → Bool) (from n i : ℕ) : Type 0 where
  pub same : some p (numbers i (n - i)) ≡ some p (numbers from (n - from))

numbers_split : (i to n : ℕ) → i < to → to ≤ n → numbers i (n - i) ≡ numbers i (to - i) ++ numbers to (n - to)
numbers_split i to n h k =
    let q : n - i ≡ (to - i) + (n - to) = omega arith in
    let e : i + (to - i) ≡ to = omega arith in
    ap (numbers i) q ∙ numbers_append i (to - i) (n - to) ∙ ap (λ (z : ℕ). numbers i (to - i) ++ numbers z (n - to)) e

some_append : (p : ℕ → Bool) (l m : List ℕ) → some p (l ++ m) ≡ (some p l || some p m)
unfolding some
some_append p [] m = refl
some_append p (a ∷ l) m = ap (λ (z : Bool). p a || z) (some_append p l m) ∙ sym (or_assoc (p a) (some p l) (some p m))

module _ (p : ℕ → Bool) (from n : ℕ) where
  pub searching_begin : Searching p from n from
  searching_begin = record { same = refl }

  module _ {i : ℕ} (u : Searching p from n i) where
    module _ (l : i < n) where
      pub searching_turn : p i ≡ false → Searching p from n (i + 1)
      unfolding some
      searching_turn h = record { same = rw (numbers_next n i l, h) at u.same }

      pub searching_finds : p i ≡ true → true ≡ some p (numbers from (n - from))
      unfolding some
      searching_finds h = rw (numbers_next n i l, h) at u.same

    module _ {to : ℕ} (l : i < to) (m : to ≤ n) {r : Bool} (e : r ≡ some p (numbers i (to - i))) where
      block : (r || some p (numbers to (n - to))) ≡ some p (numbers from (n - from))
      block = ap (λ (z : Bool). z || some p (numbers to (n - to))) e ∙ sym (some_append p (numbers i (to - i)) (numbers to (n - to))) ∙ ap (some p) (sym (numbers_split i to n l m)) ∙ u.same

      pub searching_block : r ≡ false → Searching p from n to
      searching_block h = record { same = ap (λ (z : Bool). z || some p (numbers to (n - to))) (sym h) ∙ block }

      pub searching_block_finds : r ≡ true → true ≡ some p (numbers from (n - from))
      searching_block_finds h = ap (λ (z : Bool). z || some p (numbers to (n - to))) (sym h) ∙ block

    pub searching_end : n ≤ i → false ≡ some p (numbers from (n - from))
    unfolding some
    searching_end l = rw (numbers_end n i l) at u.same

-- .. from the first one on
pub from_first : (p : ℕ → Bool) (n : ℕ) {r : Bool} → r ≡ some p (numbers 0 (n - 0)) → r ≡ some p (up_to n)
from_first p n e = rw (← sub-zero n) e

-- ---- a walk over all of them: what it has found and what is left decide
pub record Looking (p : ℕ → Bool) (from n : ℕ) (ok : Bool) (i : ℕ) : Type 0 where
  pub same : every p (numbers from (n - from)) ≡ (ok && every p (numbers i (n - i)))

module _ (p : ℕ → Bool) (from n : ℕ) where
  pub looking_begin : Looking p from n true from
  looking_begin = record { same = refl }

  module _ {ok : Bool} {i : ℕ} (u : Looking p from n ok i) where
    pub looking_turn : i < n → {b : Bool} → b ≡ p i → Looking p from n (ok && b) (i + 1)
    unfolding every
    looking_turn l {b} e =
        let q : every p (numbers i (n - i)) ≡ (p i && every p (numbers (i + 1) (n - (i + 1)))) = rw (numbers_next n i l) refl in
        record { same = u.same ∙ rw (q, ← e) (sym (and_assoc ok b (every p (numbers (i + 1) (n - (i + 1)))))) }

    pub looking_end : n ≤ i → ok ≡ every p (numbers from (n - from))
    unfolding every
    looking_end l = sym (u.same ∙ rw (numbers_end n i l) (and-true ok))

pub all_from_first : (p : ℕ → Bool) (n : ℕ) {r : Bool} → r ≡ every p (numbers 0 (n - 0)) → r ≡ every p (up_to n)
all_from_first p n e = rw (← sub-zero n) e

-- ---- 3 and 4 of a list that may be kept
module _ (s : State) (n : ℕ) (pairs : List ℕ) (refs : List Float) {a : Bool} (ia : a ≡ references_ok s n refs) where
  pub kept_range : not a ≡ true → Err Range ≡ kept_asked s n pairs refs
  unfolding kept_asked
  kept_range h = rw (← ia, h)

  module _ (h : not a ≡ false) {part : List ℕ} (ip : part ≡ listed_of s pairs) {row : ℕ} (ir : row ≡ absent_of n (rows part)) {b : Bool} (ib : b ≡ eqb s.references n) where
    test_is : b && ltb row (length part / 2) ≡ misnamed s n pairs
    unfolding misnamed
    test_is = rw (ib, ir, ip)

    pub kept_bad : b && ltb row (length part / 2) ≡ true → Err (NotThere row) ≡ kept_asked s n pairs refs
    unfolding kept_asked
    kept_bad f = let q : misnamed s n pairs ≡ true = sym test_is ∙ f in rw (← ia, h, q, ir, ip)

    pub kept_fine : b && ltb row (length part / 2) ≡ false → (Ok tt) ≡ kept_asked s n pairs refs
    unfolding kept_asked
    kept_fine f = let q : misnamed s n pairs ≡ false = sym test_is ∙ f in rw (← ia, h, q)

-- ---- the tests in turn
module _ (table : List ℕ) {t : Bool} (is : t ≡ is_table (rows table)) where
  pub table_fine : t ≡ true → (Ok tt) ≡ table_asked table
  unfolding table_asked
  table_fine h = rw (← is, h)

  pub table_bad : t ≡ false → Err Order ≡ table_asked table
  unfolding table_asked
  table_bad h = rw (← is, h)

module _ (may : Bool) (s : State) (cell : Option Lattice) (xs : List Float) (table pairs : List ℕ) (refs : List Float) (items : ℕ) {d : Result (Unit {0}) Refusal} (is : d ≡ first_of s cell xs (length table) (length pairs) (length refs) items) where
  pub asked_refused : {r : Refusal} → d ≡ Err r → Err r ≡ list_asked may s cell xs table pairs refs items
  unfolding list_asked first_refusal
  asked_refused q = rw (← is, q)

  pub asked_on : d ≡ Ok tt → {e : Result (Unit {0}) Refusal} → e ≡ first_refusal (cond may (kept_asked s (length xs / 3) pairs refs) (Ok tt)) (table_asked table) → e ≡ list_asked may s cell xs table pairs refs items
  unfolding list_asked first_refusal
  asked_on q p = rw (← is, q) p

-- ---- single tests
pub references_same : (s : State) (n : ℕ) (refs : List Float) {b : Bool} → b ≡ eqb s.references n → not b ≡ false → {r : Bool}
    → r ≡ every (within entry_limit) (take (3 * s.references) refs) → r ≡ references_ok s n refs
unfolding references_ok
references_same s n refs {b} is h p =
    let e : b ≡ true = not-false b h in
    let q : s.references ≡ n = eqb-true s.references n (sym is ∙ e) in
    rw (← is, e, ← q) p

module _ (s : State) (cell : Option Lattice) (xs : List Float) {a b : Bool} (ia : a ≡ settings_ok s.cutoff s.skin) (ib : b ≡ cell_in_range cell) where
  pub ranges_out : not (a && b) ≡ true → false ≡ ranges_ok s cell xs
  unfolding ranges_ok
  ranges_out h = rw (← ia, ← ib, not-true (a && b) h)

  pub ranges_in : not (a && b) ≡ false → {r : Bool} → r ≡ every (within entry_limit) xs → r ≡ ranges_ok s cell xs
  unfolding ranges_ok
  ranges_in h e = rw (← ia, ← ib, not-false (a && b) h) e

-- ---- the question
module _ (s : State) (cell : Option Lattice) (xs refs : List Float) {b : Bool} (ib : b ≡ eqb s.references (length xs / 3)) where
  pub needs_other : not b ≡ true → true ≡ needs_of s cell xs refs
  unfolding needs_of
  needs_other h = rw (← ib, not-true b h)

  module _ (h : not b ≡ false) {skin : Float} (is : skin ≡ skin_of s) where
    pub needs_none : le skin (bits 0) ≡ true → true ≡ needs_of s cell xs refs
    unfolding needs_of
    needs_none e = rw (← ib, not-false b h, ← is, e)

    moved_at : {p : Prepared} → p ≡ prepare_of cell → (k : ℕ) → strayed p ((half ⊗ skin) ⊗ (half ⊗ skin)) (position_at xs k) (position_at refs k) ≡ strayed_of s cell xs refs k
    unfolding strayed_of allowance strayed
    moved_at ip k =
        rw (ip, is) (ap (λ (v : Image). lt ((half ⊗ skin_of s) ⊗ (half ⊗ skin_of s)) (norm2_of v.diff)) (prepared_image cell (sub_of (position_at xs k) (position_at refs k))))

    pub needs_moved : le skin (bits 0) ≡ false → {r : Bool} {p : Prepared} → p ≡ prepare_of cell
        → r ≡ some (λ k. strayed p ((half ⊗ skin) ⊗ (half ⊗ skin)) (position_at xs k) (position_at refs k)) (up_to (length xs / 3)) → r ≡ needs_of s cell xs refs
    unfolding needs_of
    needs_moved e ip q = rw (← ib, not-false b h, ← is, e) (q ∙ (λ i. some (λ k. moved_at ip k i) (up_to (length xs / 3))))

-- ---- the second question
module _ (s : State) (cell : Option Lattice) (xs refs : List Float) {b : Bool} (ib : b ≡ same_box s.built_in cell) where
  pub outdated_box : not b ≡ true → true ≡ outdated_of s cell xs refs
  unfolding outdated_of
  outdated_box h = rw (← ib, h)

  pub outdated_moved : not b ≡ false → {r : Bool} → r ≡ needs_of s cell xs refs → r ≡ outdated_of s cell xs refs
  unfolding outdated_of
  outdated_moved h e = rw (← ib, h) e

-- ---- what is lent is long enough where the tests have passed
pub question_room : (s : State) (cell : Option Lattice) (xs refs : List Float) → question_of s cell xs refs ≡ Ok tt → length xs ≤ length refs
unfolding question_of
question_room s cell xs refs h =
    ltb-false (length refs) (length xs)
    (or_neither (not (eqb (length xs % 3) 0)) (ltb (length refs) (length xs)) (pass (not (eqb (length xs % 3) 0) || ltb (length refs) (length xs)) Lengths _ h).0).1

module _ (s : State) (cell : Option Lattice) (xs refs : List Float) {d : Result (Unit {0}) Refusal} (is : d ≡ question_of s cell xs refs) where
  pub needs_refused : {r : Refusal} → d ≡ Err r → refused_by r ≡ needs_seen s cell xs refs (question_of s cell xs refs)
  unfolding needs_seen
  needs_refused e = rw (← is, e)

  pub needs_answered : d ≡ Ok tt → {b : Bool} → b ≡ needs_of s cell xs refs → answered b ≡ needs_seen s cell xs refs (question_of s cell xs refs)
  unfolding needs_seen
  needs_answered e q = rw (← is, e, q)

  pub outdated_refused : {r : Refusal} → d ≡ Err r → refused_by r ≡ outdated_seen s cell xs refs (question_of s cell xs refs)
  unfolding outdated_seen
  outdated_refused e = rw (← is, e)

  pub outdated_answered : d ≡ Ok tt → {b : Bool} → b ≡ outdated_of s cell xs refs → answered b ≡ outdated_seen s cell xs refs (question_of s cell xs refs)
  unfolding outdated_seen
  outdated_answered e q = rw (← is, e, q)

-- ---- what a state claims
module _ (remembered : Option Lattice) (a b c d : ℕ) where
  pub claims_told : claims_more remembered a b c d ≡ false → (a ≤ b) × (c ≤ d) × (cell_in_range remembered ≡ true)
  unfolding claims_more
  claims_told e =
      let p = or_neither (ltb b a || ltb d c) (not (cell_in_range remembered)) e in
      let q = or_neither (ltb b a) (ltb d c) p.0 in
      (ltb-false b a q.0, ltb-false d c q.1, not-false (cell_in_range remembered) p.1)

  pub claims_made : a ≤ b → c ≤ d → cell_in_range remembered ≡ true → claims_more remembered a b c d ≡ false
  unfolding claims_more
  claims_made h k r = rw (le-ltb b a h, le-ltb d c k, r)

-- ---- the listed part
module _ (s : State) (pairs : List ℕ) where
  module _ {b : Bool} (is : b ≡ claims_more s.built_in s.pairs (length pairs / 2) 0 0) where
    pub listed_none : b ≡ true → [] ≡ listed_of s pairs
    unfolding listed_of
    listed_none h = rw (← is, h)

    pub listed_part : b ≡ false → take (2 * s.pairs) pairs ≡ listed_of s pairs
    unfolding listed_of
    listed_part h = rw (← is, h)

    pub listed_room : b ≡ false → s.pairs ≤ length pairs / 2
    listed_room h = (claims_told s.built_in s.pairs (length pairs / 2) 0 0 (sym is ∙ h)).0

  pub listed_some : s.pairs ≤ length pairs / 2 → cell_in_range s.built_in ≡ true → take (2 * s.pairs) pairs ≡ listed_of s pairs
  listed_some h r = listed_part refl (claims_made s.built_in s.pairs (length pairs / 2) 0 0 h (omega arith) r)

-- ---- the part that is tested
pub first_all : (p : Float → Bool) (m : ℕ) (refs : List Float) {r : Bool} → length refs < m → r ≡ every p refs → r ≡ every p (take m refs)
first_all p m refs h e = rw (take_all m refs (omega arith)) e

pub part_long : {A : Type 0} (m : ℕ) (l : List A) → m ≤ length l → m ≡ length (take m l)
part_long m l h = sym (length-take-le m l h)
