-- A strike without a mark: everything stands where it stood. Assumes nothing.
use Rattle.std.specs.Prelude.{Err, Ok, Result}
use Rattle.answer.specs.declared.Refusal.{Refusal}
use Prim.Native.Nat.{ℕ, zero, suc, ◌+◌, ◌*◌, ◌/◌, ◌%◌, ◌≤◌, ◌<◌, min}
use mathlib.Core.Path.{◌≡◌, refl, sym, ap, ◌∙◌}
use mathlib.Core.Logic.{⊎_elim}
use mathlib.Core.Bool.{Bool, true, false, cond, ◌&&◌}
use mathlib.Core.List.{List}
use native.Mathlib.Nat.{zero-add}
use native.Mathlib.Omega.{arith}
use lib.Dec.{eqb, ltb}
use lib.Ieee.{nan}
use lib.ListN.{length, get_or}
use borrow.Author.Tests.{lt-ltb, ltb-true, eq-eqb, eqb-true, not-false}
use Rattle.lists.specs.Atoms.{atoms_of, most_atoms}
use Rattle.lists.specs.Lists.{up_to, how_many, every, rows}
use Rattle.lists.proofs.Cases.{both_and, and_both, below_or}
use Rattle.lists.proofs.Exactness.{length_up_to, numbers_at}
use Rattle.lists.proofs.First.{none_there}
use Rattle.lists.proofs.Rows.{length_rows, rows_at}
use Rattle.lists.proofs.Walks.{every_at, at_every}
use Rattle.answer.proofs.Passed.{pass}
use Rattle.answer.specs.declared.Refusal.TheVariants.{Lengths, TooMany, Range, NotThere, Order}
use Rattle.ranges.specs.Rows.{is_absent, absent_of}
use Rattle.exclusions.specs.Table.{is_table}
use Rattle.potentials_angle.specs.Rows.{corner_at, is_missing, missing_of}
use Rattle.strike.specs.Closed.{survives, new_number, row_survives, link_survives}
use Rattle.strike.specs.Calls.{LentAtoms, Links, is_mark, strike_fits, links_asked, strike_asked, atoms_left, links_left}
use Rattle.strike.specs.Theorems.{Keeps, Unmoved, NothingMoves}
use Rattle.strike.proofs.Rows.{many_more, many_same, many_few}
use Rattle.strike.proofs.Passed.{passed, fit_of}
use Rattle.strike.proofs.Turns.{link_there, link_past}
use Rattle.strike.proofs.Kept.{strike_keeps}
use Rattle.strike.proofs.Ordered.{none_struck}

-- ---- a table whose first p rows pass and no later one
module _ (q : ℕ → Bool) (p m : ℕ) (few : p ≤ m) (all : (o : ℕ) → o < p → q o ≡ true) (none : (o : ℕ) → p ≤ o → o < m → q o ≡ false) where
  all_before : (o : ℕ) → o ≤ p → how_many q (up_to o) ≡ o
  all_before zero l = omega (arith, many_few q 0)
  all_before (suc o) l =
      ap (λ (n : ℕ). how_many q (up_to n)) (omega arith) ∙ many_more q o (all o (omega arith)) ∙ omega (arith, all_before o (omega arith))

  all_of : (o : ℕ) → p ≤ o → o ≤ m → how_many q (up_to o) ≡ p
  all_of zero l r = omega (arith, many_few q 0)
  all_of (suc o) l r =
      ⊎_elim
      (λ (x : o < p). all_before (suc o) (omega arith) ∙ omega arith)
      (λ (x : p ≤ o). ap (λ (n : ℕ). how_many q (up_to n)) (omega arith) ∙ many_same q o (none o x (omega arith)) ∙ all_of o x (omega arith))
      (below_or o p)

  module _ {A : Type 0} (d : A) (f : A → A) (w : ℕ) (before after : List A) (k : Keeps d f w m q before after) (fixed : (e : ℕ) → e < w * p → f (get_or before e d) ≡ get_or before e d) where
    in_row : (e o c : ℕ) → w * o + c ≡ e → o < p → c < w → e < w * p → get_or after e d ≡ get_or before e d
    in_row e o c s x y z =
        ap (λ (n : ℕ). get_or after n d) (sym s)
        ∙ ap (λ (n : ℕ). get_or after (w * n + c) d) (sym (all_before o (omega arith)))
        ∙ k.same o c (omega arith) (all o x) y
        ∙ ap (λ (n : ℕ). f (get_or before n d)) s
        ∙ fixed e z

    behind : (e : ℕ) → w * p ≤ e → get_or after e d ≡ get_or before e d
    behind e x = k.past e (rw (all_of m few (omega arith)) x)

  one_a_row : {A : Type 0} (d : A) (f : A → A) (before after : List A) → Keeps d f 1 m q before after → ((e : ℕ) → e < 1 * p → f (get_or before e d) ≡ get_or before e d) → (e : ℕ) → get_or after e d ≡ get_or before e d
  one_a_row d f before after k fixed e =
      ⊎_elim (λ (x : e < 1 * p). in_row d f 1 before after k fixed e e 0 (omega arith) (omega arith) (omega arith) x) (λ (x : 1 * p ≤ e). behind d f 1 before after k fixed e x) (below_or e (1 * p))

  two_a_row : {A : Type 0} (d : A) (f : A → A) (before after : List A) → Keeps d f 2 m q before after → ((e : ℕ) → e < 2 * p → f (get_or before e d) ≡ get_or before e d) → (e : ℕ) → get_or after e d ≡ get_or before e d
  two_a_row d f before after k fixed e =
      ⊎_elim (λ (x : e < 2 * p). in_row d f 2 before after k fixed e (e / 2) (e % 2) (omega arith) (omega arith) (omega arith) x) (λ (x : 2 * p ≤ e). behind d f 2 before after k fixed e x) (below_or e (2 * p))

  three_a_row : {A : Type 0} (d : A) (f : A → A) (before after : List A) → Keeps d f 3 m q before after → ((e : ℕ) → e < 3 * p → f (get_or before e d) ≡ get_or before e d) → (e : ℕ) → get_or after e d ≡ get_or before e d
  three_a_row d f before after k fixed e =
      ⊎_elim (λ (x : e < 3 * p). in_row d f 3 before after k fixed e (e / 3) (e % 3) (omega arith) (omega arith) (omega arith) x) (λ (x : 3 * p ≤ e). behind d f 3 before after k fixed e x) (below_or e (3 * p))

-- ---- the first of a list that passes, where none does
-- of two, and of three, each atom is there
pair_there : (n : ℕ) (t : List ℕ) → ltb (absent_of n (rows t)) (length t / 2) ≡ false → (e : ℕ) → e < 2 * (length t / 2) → get_or t e 0 < n
unfolding absent_of
pair_there n t h e l =
    let k : e / 2 < length t / 2 = omega arith in
    let b : is_absent n (get_or t (2 * (e / 2)) 0, get_or t (2 * (e / 2) + 1) 0) ≡ false = rw (rows_at t (e / 2) k) at (none_there (0, 0) (is_absent n) (rows t) (rw (length_rows t) h) (e / 2) (omega (arith, length_rows t))) in
    let c = and_both (ltb (get_or t (2 * (e / 2)) 0) n) (ltb (get_or t (2 * (e / 2) + 1) 0) n) (not-false (ltb (get_or t (2 * (e / 2)) 0) n && ltb (get_or t (2 * (e / 2) + 1) 0) n) b) in
    ⊎_elim
    (λ (x : e % 2 < 1). let s : 2 * (e / 2) ≡ e = omega arith in rw s at (ltb-true (get_or t (2 * (e / 2)) 0) n c.0))
    (λ (x : 1 ≤ e % 2). let s : 2 * (e / 2) + 1 ≡ e = omega arith in rw s at (ltb-true (get_or t (2 * (e / 2) + 1) 0) n c.1))
    (below_or (e % 2) 1)

corner_there : (n : ℕ) (t : List ℕ) → ltb (missing_of n t) (length t / 3) ≡ false → (e : ℕ) → e < 3 * (length t / 3) → get_or t e 0 < n
unfolding missing_of corner_at
corner_there n t h e l =
    let r = e / 3 in
    let k : e / 3 < length t / 3 = omega arith in
    let j : get_or (up_to (length t / 3)) (e / 3) 0 ≡ e / 3 = numbers_at 0 (length t / 3) (e / 3) k ∙ zero-add (e / 3) in
    let b : is_missing n (corner_at t (e / 3)) ≡ false = rw j at (none_there 0 (λ r. is_missing n (corner_at t r)) (up_to (length t / 3)) (rw (length_up_to (length t / 3)) h) (e / 3) (omega (arith, length_up_to (length t / 3)))) in
    let A = ltb (get_or t (3 * (e / 3)) 0) n in
    let B = ltb (get_or t (3 * (e / 3) + 1) 0) n in
    let C = ltb (get_or t (3 * (e / 3) + 2) 0) n in
    let x = and_both (A && B) C (not-false (A && B && C) b) in
    let y = and_both A B x.0 in
    ⊎_elim
    (λ (u : e % 3 < 1). let s : 3 * (e / 3) ≡ e = omega arith in rw s at (ltb-true (get_or t (3 * (e / 3)) 0) n y.0))
    (λ (u : 1 ≤ e % 3).
    ⊎_elim
    (λ (v : e % 3 < 2). let s : 3 * (e / 3) + 1 ≡ e = omega arith in rw s at (ltb-true (get_or t (3 * (e / 3) + 1) 0) n y.1))
    (λ (v : 2 ≤ e % 3). let s : 3 * (e / 3) + 2 ≡ e = omega arith in rw s at (ltb-true (get_or t (3 * (e / 3) + 2) 0) n x.1))
    (below_or (e % 3) 2))
    (below_or (e % 3) 1)

-- ---- no mark
module _ (marks : List ℕ) (z : every (eqb 0) marks ≡ true) where
  unmarked : (k : ℕ) → k < length marks → survives marks k ≡ true
  unfolding survives
  unmarked k m =
      both_and (ltb k (length marks)) (eqb (get_or marks k 0) 0) (lt-ltb k (length marks) m) (eq-eqb (get_or marks k 0) 0 (sym (eqb-true 0 (get_or marks k 0) (every_at 0 (eqb 0) marks z k m))))

  module _ (w : ℕ) (names : List ℕ) (there : (k c : ℕ) → k < length names / w → c < w → get_or names (w * k + c) 0 < length marks) where
    row_stays : (k : ℕ) → k < length names / w → row_survives marks w names k ≡ true
    unfolding row_survives
    row_stays k l =
        at_every 0 (λ c. survives marks (get_or names (w * k + c) 0)) (up_to w)
        (λ c h. let u : c < w = omega (arith, length_up_to w) in let j : get_or (up_to w) c 0 ≡ c = numbers_at 0 w c u ∙ zero-add c in rw j (unmarked (get_or names (w * k + c) 0) (there k c l u)))

  keeps_name : (names : List ℕ) (e : ℕ) → get_or names e 0 < length marks → new_number marks (get_or names e 0) ≡ get_or names e 0
  keeps_name names e l = none_struck marks z (get_or names e 0) (omega arith)

module _ (marks : List ℕ) (a : LentAtoms) (l : Links) (h : strike_asked marks a l ≡ Ok tt) where
  abbrev room : ℕ
  room = atoms_of a.positions

  abbrev angled : Result (Unit {0}) Refusal
  angled = cond (ltb (missing_of room l.angles) (length l.angles / 3)) (Err (NotThere (missing_of room l.angles))) (cond (is_table (rows l.exclusions)) (Ok tt) (Err Order))

  linked : links_asked room l ≡ Ok tt
  unfolding strike_asked
  linked =
      let later = cond (ltb most_atoms room) (Err (TooMany room)) (cond (every is_mark marks) (links_asked room l) (Err Range)) in
      let f = passed (strike_fits marks a l) Lengths later h in
      let g = pass (ltb most_atoms room) (TooMany room) (cond (every is_mark marks) (links_asked room l) (Err Range)) f.1 in
      (passed (every is_mark marks) Range (links_asked room l) g.1).1

  bonded : (ltb (absent_of room (rows l.bonds)) (length l.bonds / 2) ≡ false) × (angled ≡ Ok tt)
  unfolding links_asked
  bonded = pass (ltb (absent_of room (rows l.bonds)) (length l.bonds / 2)) (NotThere (absent_of room (rows l.bonds))) angled linked

  bond_there : (e : ℕ) → e < 2 * (length l.bonds / 2) → get_or l.bonds e 0 < length marks
  bond_there e x = omega (arith, pair_there room l.bonds bonded.0 e x, (fit_of marks a l h).positions)

  angle_there : (e : ℕ) → e < 3 * (length l.angles / 3) → get_or l.angles e 0 < length marks
  angle_there e x =
      let b = pass (ltb (missing_of room l.angles) (length l.angles / 3)) (NotThere (missing_of room l.angles)) (cond (is_table (rows l.exclusions)) (Ok tt) (Err Order)) bonded.1 in
      omega (arith, corner_there room l.angles b.0 e x, (fit_of marks a l h).positions)

  module _ (z : every (eqb 0) marks ≡ true) where
    bond_stays : (k : ℕ) → k < length l.bonds / 2 → row_survives marks 2 l.bonds k ≡ true
    bond_stays = row_stays marks z 2 l.bonds (λ k c x y. bond_there (2 * k + c) (omega arith))

    angle_stays : (k : ℕ) → k < length l.angles / 3 → row_survives marks 3 l.angles k ≡ true
    angle_stays = row_stays marks z 3 l.angles (λ k c x y. angle_there (3 * k + c) (omega arith))

    -- a table beside: its rows up to the last bond or angle stay, and no later one
    beside_stays : (w : ℕ) (names : List ℕ) → ((k : ℕ) → k < length names / w → row_survives marks w names k ≡ true) → (m o : ℕ) → o < min m (length names / w) → link_survives marks w (length names / w) names o ≡ true
    beside_stays w names s m o x = link_there marks w (length names / w) names o (omega arith) ∙ s o (omega arith)

    beside_goes : (w : ℕ) (names : List ℕ) (m o : ℕ) → min m (length names / w) ≤ o → o < m → link_survives marks w (length names / w) names o ≡ false
    beside_goes w names m o x y = link_past marks w (length names / w) names o (omega arith)

    unmoved : Unmoved marks a l
    unmoved =
        let b = strike_keeps marks a l h in
        let k = b.0 in
        let r = b.1 in
        let n = length marks in
        let q = survives marks in
        let no : (o : ℕ) → n ≤ o → o < n → q o ≡ false = λ o x y. absurd (omega arith) in
        record {
          positions = three_a_row q n n (omega arith) (unmarked marks z) no nan (λ x. x) a.positions (atoms_left marks a).positions k.positions (λ e x. refl);
          velocities = three_a_row q n n (omega arith) (unmarked marks z) no nan (λ x. x) a.velocities (atoms_left marks a).velocities k.velocities (λ e x. refl);
          masses = one_a_row q n n (omega arith) (unmarked marks z) no nan (λ x. x) a.masses (atoms_left marks a).masses k.masses (λ e x. refl);
          charges = one_a_row q n n (omega arith) (unmarked marks z) no nan (λ x. x) a.charges (atoms_left marks a).charges k.charges (λ e x. refl);
          species = one_a_row q n n (omega arith) (unmarked marks z) no 0 (λ x. x) a.species (atoms_left marks a).species k.species (λ e x. refl);
          bonds = two_a_row (row_survives marks 2 l.bonds) (length l.bonds / 2) (length l.bonds / 2) (omega arith) bond_stays (λ o x y. absurd (omega arith)) 0 (new_number marks) l.bonds (links_left marks l).bonds r.bonds (λ e x. keeps_name marks z l.bonds e (bond_there e x));
          lengths = one_a_row (link_survives marks 2 (length l.bonds / 2) l.bonds) (min (length l.lengths / 1) (length l.bonds / 2)) (length l.lengths / 1) (omega arith) (beside_stays 2 l.bonds bond_stays (length l.lengths / 1)) (beside_goes 2 l.bonds (length l.lengths / 1)) nan (λ x. x) l.lengths (links_left marks l).lengths r.lengths (λ e x. refl);
          ks = one_a_row (link_survives marks 2 (length l.bonds / 2) l.bonds) (min (length l.ks / 1) (length l.bonds / 2)) (length l.ks / 1) (omega arith) (beside_stays 2 l.bonds bond_stays (length l.ks / 1)) (beside_goes 2 l.bonds (length l.ks / 1)) nan (λ x. x) l.ks (links_left marks l).ks r.ks (λ e x. refl);
          angles = three_a_row (row_survives marks 3 l.angles) (length l.angles / 3) (length l.angles / 3) (omega arith) angle_stays (λ o x y. absurd (omega arith)) 0 (new_number marks) l.angles (links_left marks l).angles r.angles (λ e x. keeps_name marks z l.angles e (angle_there e x));
          per_angle = two_a_row (link_survives marks 3 (length l.angles / 3) l.angles) (min (length l.per_angle / 2) (length l.angles / 3)) (length l.per_angle / 2) (omega arith) (beside_stays 3 l.angles angle_stays (length l.per_angle / 2)) (beside_goes 3 l.angles (length l.per_angle / 2)) nan (λ x. x) l.per_angle (links_left marks l).per_angle r.per_angle (λ e x. refl);
        }

pub nothing_moves : (marks : List ℕ) (a : LentAtoms) (l : Links) → NothingMoves marks a l
nothing_moves marks a l h z = unmoved marks a l h z
