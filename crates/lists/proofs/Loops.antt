-- Laws of the loops' definitions: where a loop starts, one turn of it, where it ends. Assumes nothing.
use mathlib.Core.Path.{◌≡◌, refl, ◌∙◌, ap}
use mathlib.Core.List.{List, [], ◌∷◌}
use Prim.Native.Nat.{ℕ, zero, suc, ◌+◌, ◌<◌, ◌≤◌}
use native.Mathlib.Nat.{add-zero, zero-add, not-suc-le-zero}
use native.Mathlib.Numerals.{add-one}
use native.Mathlib.Omega.{arith}
use lib.ListN.{length, get_or, set, take}
use lib.Seq.{length-take-le}
use Rattle.lists.specs.Loops.{fold_up_to, map_from, map_at, part_from, part_at}

module _ {A : Type 0} (f : ℕ → A → A) where
  pub fold_up_to_none : (a : A) → fold_up_to f 0 a ≡ a
  unfolding fold_up_to
  fold_up_to_none a = refl

  pub fold_up_to_turn : (k : ℕ) (a : A) {s r : A} → s ≡ fold_up_to f k a → r ≡ f k s → r ≡ fold_up_to f (k + 1) a
  unfolding fold_up_to
  fold_up_to_turn k a e h = rw (add-one k) (h ∙ ap (f k) e)

module _ {A : Type 0} (g : ℕ → A → A) (d : A) where
  pub part_from_same : (n k : ℕ) (l : List A) → get_or (part_from g n k l) k d ≡ get_or l k d
  unfolding part_from
  part_from_same n zero l = refl
  part_from_same n (suc k) [] = refl
  part_from_same n (suc k) (a ∷ l) = part_from_same (suc n) k l

  pub part_from_turn : (n k : ℕ) (l : List A) → k < length l → set (part_from g n k l) k (g (n + k) (get_or l k d)) ≡ part_from g n (suc k) l
  unfolding part_from
  part_from_turn n k [] h = absurd (not-suc-le-zero h)
  part_from_turn n zero (a ∷ l) h = rw (add-zero n)
  part_from_turn n (suc k) (a ∷ l) h = let e : n + suc k ≡ suc n + k = omega arith in rw e (ap (λ (t : List A). g n a ∷ t) (part_from_turn (suc n) k l (omega arith)))

  pub part_from_all : (n : ℕ) (l : List A) → part_from g n (length l) l ≡ map_from g n l
  unfolding part_from map_from
  part_from_all n [] = refl
  part_from_all n (a ∷ l) = ap (λ (t : List A). g n a ∷ t) (part_from_all (suc n) l)

  pub length_part_from : (n k : ℕ) (l : List A) → length (part_from g n k l) ≡ length l
  unfolding part_from
  length_part_from n zero l = refl
  length_part_from n (suc k) [] = refl
  length_part_from n (suc k) (a ∷ l) = ap suc (length_part_from (suc n) k l)

  pub length_map_from : (n : ℕ) (l : List A) → length (map_from g n l) ≡ length l
  unfolding map_from
  length_map_from n [] = refl
  length_map_from n (a ∷ l) = ap suc (length_map_from (suc n) l)

  pub length_map_at : (l : List A) → length (map_at g l) ≡ length l
  length_map_at l = length_map_from 0 l

  -- what stands at k
  pub get_d_map_from : (n k : ℕ) (l : List A) → k < length l → get_or (map_from g n l) k d ≡ g (n + k) (get_or l k d)
  unfolding map_from
  get_d_map_from n k [] h = absurd (not-suc-le-zero h)
  get_d_map_from n zero (a ∷ l) h = rw (add-zero n)
  get_d_map_from n (suc k) (a ∷ l) h = let e : n + suc k ≡ suc n + k = omega arith in rw e (get_d_map_from (suc n) k l (omega arith))

  pub get_d_map_at : (k : ℕ) (l : List A) → k < length l → get_or (map_at g l) k d ≡ g k (get_or l k d)
  get_d_map_at k l h = get_d_map_from 0 k l h ∙ rw (zero-add k)

  -- one turn of a loop that changes a list from the front
  pub part_turn : (k : ℕ) (l₀ : List A) {l : List A} {v : A} → k < length l₀ → l ≡ part_at g k l₀ → v ≡ g k (get_or l k d) → set l k v ≡ part_at g (k + 1) l₀
  part_turn k l₀ {l} {v} h e ev =
      let at : get_or l k d ≡ get_or l₀ k d = ap (λ (t : List A). get_or t k d) e ∙ part_from_same 0 k l₀ in
      rw (add-one k, e, ev, at, ← part_from_turn 0 k l₀ h, zero-add k)

  pub part_done : (k : ℕ) (l₀ : List A) {l : List A} → k ≡ length l₀ → l ≡ part_at g k l₀ → l ≡ map_at g l₀
  part_done k l₀ h e = e ∙ ap (λ (n : ℕ). part_at g n l₀) h ∙ part_from_all 0 l₀

  pub part_length : (k : ℕ) (l₀ : List A) {l : List A} → l ≡ part_at g k l₀ → length l ≡ length l₀
  part_length k l₀ e = ap length e ∙ length_part_from 0 k l₀

  pub part_none : (l : List A) → l ≡ part_at g 0 l
  unfolding part_from
  part_none l = refl

-- the front of a room that holds the most there can be
pub room_front : {A : Type 0} (room : List A) (n : ℕ) {most : ℕ} → length room ≡ most → n ≤ most → length (take n room) ≡ n
room_front room n big few = length-take-le n room (omega arith)
