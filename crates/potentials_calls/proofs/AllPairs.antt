-- Every pair of n atoms as rows of a table: the next pair, a row stored, and the loop over tables. Assumes nothing.
use Rattle.std.specs.Prelude.{Ok, Option, Result}
use Rattle.answer.specs.declared.Refusal.{Refusal}
use Rattle.cell.specs.declared.Lattice.{Lattice}
use mathlib.Core.Path.{◌≡◌, sym, ap, ◌∙◌}
use mathlib.Core.Bool.{true, ◌&&◌}
use mathlib.Core.List.{List, [], ◌∷◌, ◌++◌, append_assoc, foldl, foldl-append}
use Prim.Native.Nat.{ℕ, zero, suc, ◌+◌, ◌*◌, ◌-◌, ◌<◌, ◌≤◌}
use native.Mathlib.Nat.{sub-zero}
use native.Mathlib.Numerals.{add-one}
use native.Mathlib.Omega.{arith}
use borrow.Author.Tests.{leb-true, ltb-true}
use lib.Dec.{ltb}
use lib.Ieee.{Float}
use lib.ListN.{length, take, set, length-append}
use lib.Seq.{take-suc-set, length-take-le}
use Rattle.lists.specs.Atoms.{atoms_of}
use Rattle.lists.specs.Lists.{numbers, with_each, inside, all_pairs, rows}
use Rattle.lists.proofs.Cases.{and_both}
use Rattle.lists.proofs.Exactness.{ordered_rising}
use Rattle.lists.proofs.Rows.{length_rows, take_rows, set_row}
use Rattle.lists.proofs.Walks.{later_next, later_end, pairs_next, pairs_end}
use Rattle.virial.specs.declared.Units.{Units}
use Rattle.potentials_pair.specs.declared.Lj.{Lj}
use Rattle.potentials_pair.specs.Species.{Tables}
use Rattle.potentials.specs.Calls.{lj_asked, coulomb_asked}
use Rattle.potentials.proofs.Outcomes.{asked_told}
use Rattle.potentials_calls.specs.AllPairs.{pairs_from, PairPut, PairsFilled, PairsLeft}

-- ---- the next pair: the next partner of the atom, or the next atom's first
with_first : (n i j : ℕ) → i < j → j < n → with_each i (numbers j (n - j)) ≡ (i, j) ∷ with_each i (numbers (j + 1) (n - (j + 1)))
unfolding with_each
with_first n i j a b = rw (later_next i n j b, ordered_rising i j (omega arith))

module _ (n i j : ℕ) (a : i < j) (b : j < n) where
  next_partner : pairs_from n i j ≡ (i, j) ∷ pairs_from n i (j + 1)
  unfolding pairs_from
  next_partner = rw (with_first n i j a b)

  next_atom : n ≤ j + 1 → pairs_from n i j ≡ (i, j) ∷ pairs_from n (i + 1) (i + 1 + 1)
  unfolding pairs_from
  next_atom h = rw (with_first n i j a b, later_end i n (j + 1) h, pairs_next n (i + 1) (omega arith))

  pub put_partner : {table table' : List ℕ} (c : ℕ) → j + 1 < n → table' ≡ set (set table (2 * c) i) (2 * c + 1) j → PairPut n table table' c i j i (j + 1)
  put_partner c h e = record { spot = record { rises = omega arith; ends = λ q. omega (arith, q) }; stored = e; next = next_partner }

  pub put_atom : {table table' : List ℕ} (c : ℕ) → n ≤ j + 1 → table' ≡ set (set table (2 * c) i) (2 * c + 1) j → PairPut n table table' c i j (i + 1) (i + 1 + 1)
  put_atom c h e = record { spot = record { rises = omega arith; ends = λ q. q }; stored = e; next = next_atom h }

-- room in the table, and a pair
pub both_below : (a b c d : ℕ) → (ltb a b && ltb c d) ≡ true → (a < b) × (c < d)
both_below a b c d e =
    let p = and_both (ltb a b) (ltb c d) e in
    (ltb-true a b p.0, ltb-true c d p.1)

-- ---- rows stored
module _ (n : ℕ) (table : List ℕ) (l : length table ≡ 2048) where
  stored : {table' : List ℕ} (c i j : ℕ) → c < 1024 → table' ≡ set (set table (2 * c) i) (2 * c + 1) j → take (c + 1) (rows table') ≡ take c (rows table) ++ ((i, j) ∷ [])
  stored c i j h e = rw (e, set_row table c i j, add-one c) (take-suc-set (rows table) c (i, j) (omega (arith, length_rows table, l)))

  pub filled_first : {table' : List ℕ} {i j i' j' : ℕ} → PairPut n table table' 0 i j i' j' → PairsFilled n table' 1 i j i' j'
  filled_first {table'} {i} {j} {i'} {j'} p =
      record { spot = p.spot; some = omega arith; few = omega arith; same = rw (stored 0 i j (omega arith) p.stored) (sym p.next) }

  pub filled_turn : {table' : List ℕ} {c i j i' j' i'' j'' : ℕ} → c < 1024 → PairsFilled n table c i j i' j' → PairPut n table table' c i' j' i'' j'' → PairsFilled n table' (c + 1) i j i'' j''
  filled_turn {c = c} {i' = i'} {j' = j'} {i'' = i''} {j'' = j''} h f p =
      record {
        spot = p.spot;
        some = omega arith;
        few = omega arith;
        same =
            rw (stored c i' j' h p.stored)
            (append_assoc (take c (rows table)) ((i', j') ∷ []) (pairs_from n i'' j'') ∙ ap (λ (x : List (ℕ × ℕ)). take c (rows table) ++ x) (sym p.next) ∙ f.same);
      }

  pub filled_less : {c i j i' j' : ℕ} → PairsFilled n table c i j i' j' → length (pairs_from n i' j') < length (pairs_from n i j)
  filled_less {c} {i} {j} {i'} {j'} f =
      omega (arith, ap length f.same, length-append (take c (rows table)) (pairs_from n i' j'), length-take-le c (rows table) (omega (arith, f.few, length_rows table, l)), f.some)

  -- ---- the loop over tables
  pub left_turn : {B : Type 0} {f : B → ℕ × ℕ → B} {c i j i' j' : ℕ} {t t' r : B} → PairsLeft f n i j t r → PairsFilled n table c i j i' j' → t' ≡ foldl f t (rows (take (2 * c) table)) → PairsLeft f n i' j' t' r
  left_turn {f = f} {c} {i} {j} {i'} {j'} {t} {t'} w p e =
      record {
        spot = p.spot;
        same =
            ap (λ x. foldl f x (pairs_from n i' j')) (e ∙ ap (λ (x : List (ℕ × ℕ)). foldl f t x) (take_rows table c))
            ∙ sym (foldl-append f t (take c (rows table)) (pairs_from n i' j')) ∙ ap (λ (x : List (ℕ × ℕ)). foldl f t x) p.same ∙ w.same;
      }

whole : (n : ℕ) → pairs_from n 0 1 ≡ all_pairs n
unfolding pairs_from inside numbers
whole zero = rw (later_end 0 0 1 (omega arith), pairs_end 0 (0 + 1) (omega arith))
whole (suc n) = sym (pairs_next (suc n) 0 (omega arith)) ∙ rw (sub-zero (suc n))

none : (n i j : ℕ) → n ≤ j → n ≤ i + 1 → pairs_from n i j ≡ []
unfolding pairs_from
none n i j a b = rw (later_end i n j a, pairs_end n (i + 1) b)

module _ {B : Type 0} {f : B → ℕ × ℕ → B} (n : ℕ) where
  pub left_first : (t : B) → PairsLeft f n 0 1 t (foldl f t (all_pairs n))
  left_first t = record { spot = record { rises = omega arith; ends = λ q. q }; same = ap (λ (x : List (ℕ × ℕ)). foldl f t x) (whole n) }

  pub left_last : {i j : ℕ} {t r : B} → n ≤ j → PairsLeft f n i j t r → t ≡ r
  left_last {i} {j} {t} h w = ap (λ (x : List (ℕ × ℕ)). foldl f t x) (sym (none n i j h (w.spot.ends h))) ∙ w.same

-- ---- an answered call has few atoms
module _ {done : Result (Unit {0}) Refusal} where
  pub lj_few : (lj : Lj) (cell : Option Lattice) (tab : Tables) (species : ℕ) (xs : List Float) (forces : ℕ) → done ≡ lj_asked lj cell tab species xs forces 0 0 → done ≡ Ok tt → atoms_of xs ≤ 16384
  unfolding lj_asked
  lj_few lj cell tab species xs forces A e = leb-true _ _ (asked_told _ _ _ _ _ _ (sym A ∙ e)).few

  pub coulomb_few : (units : Units) (cutoff : Float) (cell : Option Lattice) (charges xs : List Float) (forces : ℕ) → done ≡ coulomb_asked units cutoff cell charges xs forces 0 0 → done ≡ Ok tt → atoms_of xs ≤ 16384
  unfolding coulomb_asked
  coulomb_few units cutoff cell charges xs forces A e = leb-true _ _ (asked_told _ _ _ _ _ _ (sym A ∙ e)).few
