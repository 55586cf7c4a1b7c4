-- Runs of stores in any list, rows of a width, and the rows that stay. Assumes nothing.
use Prim.Native.Nat.{ℕ, zero, suc, ◌+◌, ◌*◌, ◌≤◌, ◌<◌}
use mathlib.Core.Path.{◌≡◌, refl, sym, ap, ◌∙◌}
use mathlib.Core.Bool.{Bool, true, false, cond}
use mathlib.Core.List.Memᴰ
use mathlib.Core.List.{List, [], ◌∷◌, ◌++◌, map, append-nil}
use native.Mathlib.Nat.{add-zero, zero-add, mul-zero, mul-suc, mul-le-mul_left}
use native.Mathlib.Omega.{arith}
use lib.ListN.{length, get_or, set, length-append, length-map, length-set}
use lib.Seq.{sets, get_or-set_same, get_or-set_other}
use Rattle.lists.specs.Exact.{◌∈◌}
use Rattle.lists.specs.Lists.{numbers, up_to, each, keep, how_many}
use Rattle.lists.proofs.Cases.{by_test}
use Rattle.lists.proofs.Exactness.{length_up_to, length_keep, many_keep, mem_up_to}
use Rattle.lists.proofs.Nested.{numbers_append}
use Rattle.strike.specs.Closed.{row_from}

-- ---- stores in a run
module _ {A : Type 0} where
  -- one run after the other
  pub sets_more : (xs ys l : List A) (i n : ℕ) → n ≡ i + length xs → sets (sets l i xs) n ys ≡ sets l i (xs ++ ys)
  sets_more [] ys l i n e = let q : n ≡ i = omega arith in rw q
  sets_more (x ∷ xs) ys l i n e = sets_more xs ys (set l i x) (suc i) n (omega arith)

  -- what lies outside the run stays
  pub sets_before : (d : A) (vs l : List A) (i j : ℕ) → j < i → get_or (sets l i vs) j d ≡ get_or l j d
  sets_before d [] l i j h = refl
  sets_before d (v ∷ vs) l i j h = sets_before d vs (set l i v) (suc i) j (omega arith) ∙ get_or-set_other l i j v d (λ e. omega arith)

  pub sets_past : (d : A) (vs l : List A) (i j : ℕ) → i + length vs ≤ j → get_or (sets l i vs) j d ≡ get_or l j d
  sets_past d [] l i j h = refl
  sets_past d (v ∷ vs) l i j h = sets_past d vs (set l i v) (suc i) j (omega arith) ∙ get_or-set_other l i j v d (λ e. omega arith)

  -- what stands in it
  pub sets_at : (d : A) (vs l : List A) (i k : ℕ) → k < length vs → i + length vs ≤ length l → get_or (sets l i vs) (i + k) d ≡ get_or vs k d
  sets_at d [] l i k h m = absurd (omega arith)
  sets_at d (v ∷ vs) l i zero h m = rw (add-zero i) (sets_before d vs (set l i v) (suc i) i (omega arith) ∙ get_or-set_same l i v d (omega arith))
  sets_at d (v ∷ vs) l i (suc k) h m =
      ap (λ (n : ℕ). get_or (sets (set l i v) (suc i) vs) n d) (omega arith)
      ∙ sets_at d vs (set l i v) (suc i) k (omega arith) (omega (arith, length-set l i v))

-- ---- rows
pub map_agree : {A B : Type 0} (f g : A → B) (l : List A) → ((a : A) → a ∈ l → f a ≡ g a) → map f l ≡ map g l
map_agree f g [] h = refl
map_agree f g (a ∷ l) h = λ i. h a (Memᴰ.head refl) i ∷ map_agree f g l (λ b m. h b (Memᴰ.tail m)) i

module _ {A : Type 0} where
  pub row_agree : (f g : ℕ → A) (w k : ℕ) → ((c : ℕ) → c < w → f (w * k + c) ≡ g (w * k + c)) → row_from f w k ≡ row_from g w k
  unfolding row_from
  row_agree f g w k h = map_agree (λ c. f (w * k + c)) (λ c. g (w * k + c)) (up_to w) (λ c m. h c (mem_up_to w m))

  pub row_long : (f : ℕ → A) (w k : ℕ) → length (row_from f w k) ≡ w
  unfolding row_from
  row_long f w k = length-map (up_to w) (λ c. f (w * k + c)) ∙ length_up_to w

  -- one number a row
  pub row_one : (f : ℕ → A) (k : ℕ) → row_from f 1 k ≡ f k ∷ []
  unfolding row_from numbers
  row_one f k = let e : 1 * k + 0 ≡ k = omega arith in rw e

  pub rows_long : (f : ℕ → A) (w : ℕ) (l : List ℕ) → length (each (row_from f w) l) ≡ w * length l
  unfolding each
  rows_long f w [] = sym (mul-zero w)
  rows_long f w (k ∷ l) =
      length-append (row_from f w k) (each (row_from f w) l) ∙ omega (arith, row_long f w k, rows_long f w l, mul-suc w (length l))

-- row k is there where the rows are
pub row_there : (w k m n : ℕ) → k < m → w * m ≤ n → w * k + w ≤ n
row_there w k m n h e = omega (arith, mul-suc w k, mul-le-mul_left {m = suc k} {n = m} w (omega arith))

pub row_below : (w r k : ℕ) → r ≤ k → w * r ≤ w * k
row_below w r k h = mul-le-mul_left w h

-- ---- the rows that stay, and one more
pub keep_append : {A : Type 0} (q : A → Bool) (s t : List A) → keep q (s ++ t) ≡ keep q s ++ keep q t
unfolding keep
keep_append q [] t = refl
keep_append {A} q (a ∷ s) t =
    by_test (λ b. cond b (a ∷ keep q (s ++ t)) (keep q (s ++ t)) ≡ cond b (a ∷ keep q s) (keep q s) ++ keep q t) (q a)
    (λ e. ap (λ (l : List A). a ∷ l) (keep_append q s t)) (λ e. keep_append q s t)

pub up_to_last : (k : ℕ) → up_to (k + 1) ≡ up_to k ++ (k ∷ [])
up_to_last k = numbers_append 0 k 1 ∙ ap (λ (l : List ℕ). up_to k ++ l) last
  where
    last : numbers (0 + k) 1 ≡ k ∷ []
    last = unfold numbers in rw (zero-add k)

module _ (q : ℕ → Bool) (k : ℕ) where
  pub kept_more : q k ≡ true → keep q (up_to (k + 1)) ≡ keep q (up_to k) ++ (k ∷ [])
  kept_more e = ap (keep q) (up_to_last k) ∙ keep_append q (up_to k) (k ∷ []) ∙ ap (λ (l : List ℕ). keep q (up_to k) ++ l) (unfold keep in rw e)

  pub kept_same : q k ≡ false → keep q (up_to (k + 1)) ≡ keep q (up_to k)
  kept_same e = ap (keep q) (up_to_last k) ∙ keep_append q (up_to k) (k ∷ []) ∙ (unfold keep in rw e (append-nil (keep q (up_to k))))

  pub many_more : q k ≡ true → how_many q (up_to (k + 1)) ≡ how_many q (up_to k) + 1
  many_more e =
      many_keep q (up_to (k + 1)) ∙ ap length (kept_more e) ∙ length-append (keep q (up_to k)) (k ∷ []) ∙ omega (arith, many_keep q (up_to k))

  pub many_same : q k ≡ false → how_many q (up_to (k + 1)) ≡ how_many q (up_to k)
  many_same e = many_keep q (up_to (k + 1)) ∙ ap length (kept_same e) ∙ sym (many_keep q (up_to k))

  pub many_few : how_many q (up_to k) ≤ k
  many_few = omega (arith, many_keep q (up_to k), length_keep q (up_to k), length_up_to k)
