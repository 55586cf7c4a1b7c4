-- Exactly, Once and rising lists through `++`, `map`, `each`, `keep`, `up_to`, `inside`, `across`. Assumes nothing.
use mathlib.Core.Path.{◌≡◌, refl, sym, ap, ◌∙◌, subst}
use mathlib.Core.Logic.{◌⊎◌, inl, inr, ⊎_elim}
use mathlib.Core.Bool.{Bool, true, false, cond, ◌&&◌}
use mathlib.Core.List.Memᴰ
use mathlib.Core.List.{List, [], ◌∷◌, ◌++◌, map, append_assoc}
use Prim.Native.Nat.{ℕ, zero, suc, ◌+◌, ◌*◌, ◌≤◌, ◌<◌, min, max}
use native.Mathlib.Nat.{suc-mul, mul-suc}
use native.Mathlib.Omega.{arith}
use lib.ListN.{length, get_or, length-append, length-map}
use Rattle.lists.specs.Exact.{◌∈◌, Once, Exactly}
use Rattle.lists.specs.Lists.{numbers, up_to, each, keep, how_many, ordered, with_each, inside, across, all_pairs, Two}
use Rattle.lists.proofs.Cases.{by_test, below_or, same_or}

-- ---- `++` and `map`
pub once_append : {A : Type 0} (s t : List A) → Once s → Once t → ((a : A) → a ∈ s → a ∈ t → ⊥) → Once (s ++ t)
once_append [] t hs ht d = ht
once_append (a ∷ s) t hs ht d = (
  λ m. ⊎_elim (λ h. hs.0 h) (λ h. d a (Memᴰ.head refl) h) (Memᴰ.append_cases s m),
  once_append s t hs.1 ht (λ b p q. d b (Memᴰ.tail p) q),
)

pub once_map : {A B : Type 0} (f : A → B) (l : List A) → Once l → ((a b : A) → a ∈ l → b ∈ l → f a ≡ f b → a ≡ b) → Once (map f l)
once_map f [] h inj = tt
once_map f (a ∷ l) h inj = (
  λ m.
      let r = Memᴰ.of_map f l m in
      h.0 (Memᴰ.cast (inj a r.0 (Memᴰ.head refl) (Memᴰ.tail r.1) (sym r.2)) r.1),
  once_map f l h.1 (λ b c p q. inj b c (Memᴰ.tail p) (Memᴰ.tail q)),
)

-- ---- `each`
module _ {A B : Type 0} (f : A → List B) where
  pub mem_each : (l : List A) {b : B} → b ∈ each f l → (a : A) × (a ∈ l) × (b ∈ f a)
  unfolding each
  mem_each [] m = absurd (Memᴰ.not-nil m)
  mem_each (a ∷ l) m =
      ⊎_elim (λ h. (a, Memᴰ.head refl, h)) (λ h. let r = mem_each l h in (r.0, Memᴰ.tail r.1, r.2))
      (Memᴰ.append_cases (f a) m)

  pub each_mem : {a : A} {l : List A} {b : B} → a ∈ l → b ∈ f a → b ∈ each f l
  unfolding each
  each_mem {a = a} {l = []} {b = b} x' m = elim x' [ ]
  each_mem {l = x ∷ xs} {b = b} (Memᴰ.head e) m = Memᴰ.append_left (each f xs) (subst (λ (t : A). b ∈ f t) e m)
  each_mem {l = x ∷ xs} (Memᴰ.tail p) m = Memᴰ.append_right (f x) (each_mem p m)

  pub once_each : (l : List A) → Once l → ((a : A) → a ∈ l → Once (f a)) → ((a c : A) (b : B) → a ∈ l → c ∈ l → b ∈ f a → b ∈ f c → a ≡ c) → Once (each f l)
  unfolding each
  once_each [] h o k = tt
  once_each (a ∷ l) h o k =
      once_append (f a) (each f l) (o a (Memᴰ.head refl))
      (once_each l h.1 (λ b p. o b (Memᴰ.tail p)) (λ b c d p q. k b c d (Memᴰ.tail p) (Memᴰ.tail q)))
      (λ b p q.
      let r = mem_each l q in
      h.0 (Memᴰ.cast (k a r.0 b (Memᴰ.head refl) (Memᴰ.tail r.1) p r.2) r.1))

  pub each_append : (s t : List A) → each f (s ++ t) ≡ each f s ++ each f t
  unfolding each
  each_append [] t = refl
  each_append (a ∷ s) t = rw (each_append s t) (sym (append_assoc (f a) (each f s) (each f t)))

-- ---- rising lists
abbrev pub Rising : List ℕ → Type 0
Rising [] = Unit {0}
Rising (a ∷ l) = ((b : ℕ) → b ∈ l → a < b) × Rising l

pub rising_once : (l : List ℕ) → Rising l → Once l
rising_once [] h = tt
rising_once (a ∷ l) h = (λ m. let p = h.0 a m in omega arith, rising_once l h.1)

-- ---- `numbers` and `up_to`
pub mem_numbers : (k n : ℕ) {i : ℕ} → i ∈ numbers k n → (k ≤ i) × (i < k + n)
unfolding numbers
mem_numbers k zero m = absurd (Memᴰ.not-nil m)
mem_numbers k (suc n) {i} m =
    ⊎_elim (λ (e : i ≡ k). (omega arith, omega arith))
    (λ (h : i ∈ numbers (k + 1) n). let r = mem_numbers (k + 1) n h in (omega (arith, r.0), omega (arith, r.1)))
    (Memᴰ.cases_cons m)

pub numbers_mem : (k n : ℕ) {i : ℕ} → k ≤ i → i < k + n → i ∈ numbers k n
unfolding numbers
numbers_mem k zero l h = absurd (omega arith)
numbers_mem k (suc n) {i} l h =
    ⊎_elim (λ (e : i ≡ k). Memᴰ.head e) (λ (e : i ≡ k → ⊥). Memᴰ.tail (numbers_mem (k + 1) n (omega (arith, e)) (omega arith))) (same_or i k)

pub rising_numbers : (k n : ℕ) → Rising (numbers k n)
unfolding numbers
rising_numbers k zero = tt
rising_numbers k (suc n) = (λ b m. omega (arith, (mem_numbers (k + 1) n m).0), rising_numbers (k + 1) n)

pub length_numbers : (k n : ℕ) → length (numbers k n) ≡ n
unfolding numbers
length_numbers k zero = refl
length_numbers k (suc n) = ap suc (length_numbers (k + 1) n)

pub numbers_at : (k n i : ℕ) → i < n → get_or (numbers k n) i 0 ≡ k + i
unfolding numbers
numbers_at k zero i h = absurd (omega arith)
numbers_at k (suc n) zero h = omega arith
numbers_at k (suc n) (suc i) h = numbers_at (k + 1) n i (omega arith) ∙ omega arith

pub mem_up_to : (n : ℕ) {k : ℕ} → k ∈ up_to n → k < n
mem_up_to n m = omega (arith, (mem_numbers 0 n m).1)

pub up_to_mem : (n : ℕ) {k : ℕ} → k < n → k ∈ up_to n
up_to_mem n h = numbers_mem 0 n (omega arith) (omega arith)

pub rising_up_to : (n : ℕ) → Rising (up_to n)
rising_up_to n = rising_numbers 0 n

pub length_up_to : (n : ℕ) → length (up_to n) ≡ n
length_up_to n = length_numbers 0 n

-- ---- `keep`
module _ {A : Type 0} (q : A → Bool) where
  pub mem_keep : (l : List A) {a : A} → a ∈ keep q l → (a ∈ l) × (q a ≡ true)
  unfolding keep
  mem_keep [] m = absurd (Memᴰ.not-nil m)
  mem_keep (b ∷ l) {a} m = go (q b) refl m (λ r. mem_keep l r)
    where
      go : (t : Bool) → q b ≡ t → a ∈ cond t (b ∷ keep q l) (keep q l) → (a ∈ keep q l → (a ∈ l) × (q a ≡ true)) → (a ∈ b ∷ l) × (q a ≡ true)
      go true e m below =
          ⊎_elim (λ h. (Memᴰ.head h, ap q h ∙ e)) (λ h. (Memᴰ.tail (below h).0, (below h).1)) (Memᴰ.cases_cons m)
      go false e m below = (Memᴰ.tail (below m).0, (below m).1)

  pub keep_mem : {a : A} {l : List A} → a ∈ l → q a ≡ true → a ∈ keep q l
  unfolding keep
  keep_mem {a = a} {l = []} x' t = elim x' [ ]
  keep_mem {l = x ∷ xs} (Memᴰ.head e) t = rw (sym (ap q e) ∙ t) (Memᴰ.head e)
  keep_mem {a} {l = x ∷ xs} (Memᴰ.tail p) t = go (q x) (keep_mem p t)
    where
      go : (b : Bool) → a ∈ keep q xs → a ∈ cond b (x ∷ keep q xs) (keep q xs)
      go true m = Memᴰ.tail m
      go false m = m

  pub once_keep : (l : List A) → Once l → Once (keep q l)
  unfolding keep
  once_keep [] h = tt
  once_keep (b ∷ l) h = go (q b) (once_keep l h.1)
    where
      go : (t : Bool) → Once (keep q l) → Once (cond t (b ∷ keep q l) (keep q l))
      go true o = (λ m. h.0 (mem_keep l m).0, o)
      go false o = o

pub rising_keep : (q : ℕ → Bool) (l : List ℕ) → Rising l → Rising (keep q l)
unfolding keep
rising_keep q [] h = tt
rising_keep q (b ∷ l) h = go (q b) (rising_keep q l h.1)
  where
    go : (t : Bool) → Rising (keep q l) → Rising (cond t (b ∷ keep q l) (keep q l))
    go true o = (λ c m. h.0 c (mem_keep q l m).0, o)
    go false o = o

-- ---- pairs of numbers
pub pair_is : (p r : ℕ × ℕ) → p.0 ≡ r.0 → p.1 ≡ r.1 → p ≡ r
pair_is p r e f = λ i. (e i, f i)

pub ordered_low : (i j : ℕ) → (ordered i j).0 ≡ min i j
unfolding ordered
ordered_low i j = refl

pub ordered_high : (i j : ℕ) → (ordered i j).1 ≡ max i j
unfolding ordered
ordered_high i j = refl

-- what is known of a pair that is i and j in order
pub low_of : (i j : ℕ) {p : ℕ × ℕ} → ordered i j ≡ p → p.0 ≡ min i j
low_of i j e = ap (λ (t : ℕ × ℕ). t.0) (sym e) ∙ ordered_low i j

pub high_of : (i j : ℕ) {p : ℕ × ℕ} → ordered i j ≡ p → p.1 ≡ max i j
high_of i j e = ap (λ (t : ℕ × ℕ). t.1) (sym e) ∙ ordered_high i j

pub is_ordered : (i j : ℕ) (p : ℕ × ℕ) → p.0 ≡ min i j → p.1 ≡ max i j → p ≡ ordered i j
is_ordered i j p e f = pair_is p (ordered i j) (e ∙ sym (ordered_low i j)) (f ∙ sym (ordered_high i j))

pub ordered_rising : (i j : ℕ) → i ≤ j → ordered i j ≡ (i, j)
ordered_rising i j h = sym (is_ordered i j (i, j) (omega arith) (omega arith))

pub ordered_falling : (i j : ℕ) → j ≤ i → ordered i j ≡ (j, i)
ordered_falling i j h = sym (is_ordered i j (j, i) (omega arith) (omega arith))

-- ---- `inside`: of a rising list, the pairs of its elements, low before high
abbrev pub Between : List ℕ → ℕ × ℕ → Type 0
Between l p = (p.0 ∈ l) × (p.1 ∈ l) × (p.0 < p.1)

mem_inside : (l : List ℕ) → Rising l → (p : ℕ × ℕ) → p ∈ inside l → Between l p
unfolding inside with_each
mem_inside [] h p m = absurd (Memᴰ.not-nil m)
mem_inside (i ∷ l) h p m =
    ⊎_elim
    (λ q.
    let r = Memᴰ.of_map (ordered i) l q in
    let less = h.0 r.0 r.1 in
    let e = low_of i r.0 r.2 in
    let f = high_of i r.0 r.2 in
    (Memᴰ.head (omega arith), Memᴰ.tail (Memᴰ.cast (omega arith) r.1), omega arith))
    (λ q. let r = mem_inside l h.1 p q in (Memᴰ.tail r.0, Memᴰ.tail r.1, r.2))
    (Memᴰ.append_cases (map (ordered i) l) m)

inside_mem : (l : List ℕ) → Rising l → (p : ℕ × ℕ) → Between l p → p ∈ inside l
unfolding inside with_each
inside_mem [] h p b = absurd (Memᴰ.not-nil b.0)
inside_mem (i ∷ l) h p b =
    ⊎_elim
    (λ e.
    ⊎_elim (λ f. absurd (omega (arith, b.2)))
    (λ q.
    let less = b.2 in
    Memᴰ.append_left (inside l) (Memᴰ.cast (is_ordered i p.1 p (omega arith) (omega arith)) (Memᴰ.map (ordered i) q)))
    (Memᴰ.cases_cons b.1))
    (λ q.
    ⊎_elim (λ f. absurd (omega (arith, b.2, h.0 p.0 q)))
    (λ r. Memᴰ.append_right (map (ordered i) l) (inside_mem l h.1 p (q, r, b.2))) (Memᴰ.cases_cons b.1))
    (Memᴰ.cases_cons b.0)

once_inside : (l : List ℕ) → Rising l → Once (inside l)
unfolding inside with_each
once_inside [] h = tt
once_inside (i ∷ l) h =
    once_append (map (ordered i) l) (inside l)
    (once_map (ordered i) l (rising_once l h.1)
    (λ a b p q e. omega (arith, h.0 a p, h.0 b q, high_of i a e, ordered_high i b)))
    (once_inside l h.1)
    (λ p m n.
    let r = Memᴰ.of_map (ordered i) l m in
    omega (arith, h.0 r.0 r.1, low_of i r.0 r.2, h.0 p.0 (mem_inside l h.1 p n).0))

pub exactly_inside : (l : List ℕ) → Rising l → Exactly (Between l) (inside l)
exactly_inside l h = record { sound = mem_inside l h; complete = inside_mem l h; once = once_inside l h }

-- ---- `across`: of two lists with nothing in common, one of the first with one of the second
abbrev pub Across : List ℕ → List ℕ → ℕ × ℕ → Type 0
Across is js p = (p.0 < p.1) × (((p.0 ∈ is) × (p.1 ∈ js)) ⊎ ((p.1 ∈ is) × (p.0 ∈ js)))

pub exactly_across : (is js : List ℕ) → Once is → Once js → ((k : ℕ) → k ∈ is → k ∈ js → ⊥) → Exactly (Across is js) (across is js)
unfolding across with_each
exactly_across is js hi hj d = record { sound = snd; complete = cpl; once = one }
  where
    apart : (i j : ℕ) → i ∈ is → j ∈ js → i ≡ j → ⊥
    apart i j p q e = d i p (Memᴰ.cast e q)

    snd : (p : ℕ × ℕ) → p ∈ across is js → Across is js p
    snd p m =
        let r = mem_each (λ i. map (ordered i) js) is m in
        let t = Memᴰ.of_map (ordered r.0) js r.2 in
        let e = low_of r.0 t.0 t.2 in
        let f = high_of r.0 t.0 t.2 in
        let n = apart r.0 t.0 r.1 t.1 in (
          omega arith,
          ⊎_elim (λ (l : r.0 < t.0). inl (Memᴰ.cast (omega arith) r.1, Memᴰ.cast (omega arith) t.1))
              (λ (l : t.0 ≤ r.0). inr (Memᴰ.cast (omega arith) r.1, Memᴰ.cast (omega arith) t.1)) (below_or r.0 t.0),
        )

    cpl : (p : ℕ × ℕ) → Across is js p → p ∈ across is js
    cpl p a =
        let less = a.0 in
        ⊎_elim
        (λ b. each_mem (λ i. map (ordered i) js) b.0 (Memᴰ.cast (is_ordered p.0 p.1 p (omega arith) (omega arith)) (Memᴰ.map (ordered p.0) b.1)))
        (λ b. each_mem (λ i. map (ordered i) js) b.0 (Memᴰ.cast (is_ordered p.1 p.0 p (omega arith) (omega arith)) (Memᴰ.map (ordered p.1) b.1)))
        a.1

    one : Once (across is js)
    one =
        once_each (λ i. map (ordered i) js) is hi
        (λ i p.
        once_map (ordered i) js hj
        (λ a b q r e. omega (arith, high_of i a e, ordered_high i b, low_of i a e, ordered_low i b)))
        (λ i k p mi mk pi pk.
        let r = Memᴰ.of_map (ordered i) js pi in
        let t = Memᴰ.of_map (ordered k) js pk in
        let n = apart i t.0 mi t.1 in
        let n' = apart k r.0 mk r.1 in
        omega (arith, low_of i r.0 r.2, high_of i r.0 r.2, low_of k t.0 t.2, high_of k t.0 t.2))

-- ---- lists that hold exactly the same are equally long
taken_out : {A : Type 0} {a : A} {l : List A} → a ∈ l → (r : List A) × (length l ≡ suc (length r)) × ((b : A) → b ∈ l → (b ≡ a) ⊎ (b ∈ r))
taken_out {A = A} {a = a} {l = []} x' = elim x' [ ]
taken_out {l = x ∷ xs} (Memᴰ.head e) =
    (xs, refl, λ b m. ⊎_elim (λ f. inl (f ∙ sym e)) (λ p. inr p) (Memᴰ.cases_cons m))
taken_out {l = x ∷ xs} (Memᴰ.tail p) =
    let t = taken_out p in (
      x ∷ t.0,
      ap suc t.1,
      λ b m.
          ⊎_elim (λ f. inr (Memᴰ.head f)) (λ q. ⊎_elim (λ g. inl g) (λ u. inr (Memᴰ.tail u)) (t.2 b q))
          (Memᴰ.cases_cons m),
    )

no_longer : {A : Type 0} (l r : List A) → Once l → ((a : A) → a ∈ l → a ∈ r) → length l ≤ length r
no_longer [] r h f = omega arith
no_longer (a ∷ l) r h f =
    let t = taken_out (f a (Memᴰ.head refl)) in
    let below =
    no_longer l t.0 h.1
    (λ b m. ⊎_elim (λ e. absurd (h.0 (Memᴰ.cast (sym e) m))) (λ q. q) (t.2 b (f b (Memᴰ.tail m)))) in
    omega (arith, t.1)

pub equally_long : {A : Type 0} {P : A → Type 0} (l r : List A) → Exactly P l → Exactly P r → length l ≡ length r
equally_long l r h k =
    omega (arith, no_longer l r h.once (λ a m. k.complete a (h.sound a m)), no_longer r l k.once (λ a m. h.complete a (k.sound a m)))

-- ---- a filter, and a change of words
pub exactly_keep : {A : Type 0} {P : A → Type 0} (q : A → Bool) (l : List A) → Exactly P l → Exactly (λ a. P a × (q a ≡ true)) (keep q l)
exactly_keep q l h =
    record {
      sound = λ a m. let r = mem_keep q l m in (h.sound a r.0, r.1);
      complete = λ a p. keep_mem q (h.complete a p.0) p.1;
      once = once_keep q l h.once;
    }

pub exactly_as : {A : Type 0} {P Q : A → Type 0} (l : List A) → Exactly P l → ((a : A) → P a → Q a) → ((a : A) → Q a → P a) → Exactly Q l
exactly_as l h f g =
    record { sound = λ a m. f a (h.sound a m); complete = λ a q. h.complete a (g a q); once = h.once }

-- ---- a loop over the numbers below n, each of which lists something else
pub exactly_each : {B : Type 0} (P : ℕ → B → Type 0) (f : ℕ → List B) (n : ℕ) → ((i : ℕ) → i < n → Exactly (P i) (f i)) → ((i j : ℕ) → i < n → j < n → (b : B) → P i b → P j b → i ≡ j) → Exactly (λ b. (i : ℕ) × (i < n) × P i b) (each f (up_to n))
exactly_each P f n h key =
    record {
      sound = λ b m. let r = mem_each f (up_to n) m in let l = mem_up_to n r.1 in (r.0, l, (h r.0 l).sound b r.2);
      complete = λ b r. each_mem f (up_to_mem n r.1) ((h r.0 r.1).complete b r.2);
      once =
          once_each f (up_to n) (rising_once (up_to n) (rising_up_to n)) (λ i m. (h i (mem_up_to n m)).once)
          (λ i j b mi mj bi bj. key i j (mem_up_to n mi) (mem_up_to n mj) b ((h i (mem_up_to n mi)).sound b bi) ((h j (mem_up_to n mj)).sound b bj));
    }

-- ---- all pairs
-- below two atoms there is no pair
pub no_pairs : (n : ℕ) → n < 2 → all_pairs n ≡ []
unfolding inside numbers with_each
no_pairs zero h = refl
no_pairs (suc zero) h = refl
no_pairs (suc (suc n)) h = absurd (omega arith)

pub all_exactly : (n : ℕ) → Exactly (Two n) (all_pairs n)
all_exactly n =
    exactly_as (inside (up_to n)) (exactly_inside (up_to n) (rising_up_to n)) (λ p b. (b.2, mem_up_to n b.1))
    (λ p t. let l = t.0 in let m = t.1 in (up_to_mem n (omega arith), up_to_mem n m, l))

-- ---- how many there are
pub length_with : (i : ℕ) (l : List ℕ) → length (with_each i l) ≡ length l
unfolding with_each
length_with i l = length-map l (ordered i)

pub length_inside : (l : List ℕ) → length (inside l) ≤ length l * length l
unfolding inside
length_inside [] = omega arith
length_inside (i ∷ l) =
    let n : ℕ = length l in
    omega (arith, length_inside l, length-append (with_each i l) (inside l), length_with i l, suc-mul n (suc n), mul-suc n n)

pub length_all : (n : ℕ) → length (all_pairs n) ≤ n * n
length_all n = rw length_up_to at (length_inside (up_to n))

pub length_keep : {A : Type 0} (q : A → Bool) (l : List A) → length (keep q l) ≤ length l
unfolding keep
length_keep q [] = omega arith
length_keep q (a ∷ l) =
    by_test (λ t. length (cond t (a ∷ keep q l) (keep q l)) ≤ suc (length l)) (q a) (λ e. omega (arith, length_keep q l)) (λ e. omega (arith, length_keep q l))

pub many_keep : {A : Type 0} (q : A → Bool) (l : List A) → how_many q l ≡ length (keep q l)
unfolding how_many keep
many_keep q [] = refl
many_keep q (a ∷ l) =
    by_test (λ t. cond t (suc (how_many q l)) (how_many q l) ≡ length (cond t (a ∷ keep q l) (keep q l))) (q a) (λ e. ap suc (many_keep q l)) (λ e. many_keep q l)

-- ---- two tests, one after the other
pub keep_keep : {A : Type 0} (r q : A → Bool) (l : List A) → keep q (keep r l) ≡ keep (λ a. r a && q a) l
unfolding keep
keep_keep r q [] = refl
keep_keep r q (a ∷ l) =
    by_test (λ t. keep q (cond t (a ∷ keep r l) (keep r l)) ≡ cond (t && q a) (a ∷ keep (λ a. r a && q a) l) (keep (λ a. r a && q a) l)) (r a)
    (λ e. rw (keep_keep r q l) refl) (λ e. keep_keep r q l)

-- ---- an element by its place
pub get_d_mem : {A : Type 0} (d : A) (l : List A) (a : ℕ) → a < length l → get_or l a d ∈ l
get_d_mem d [] a h = absurd (omega arith)
get_d_mem d (x ∷ l) zero h = Memᴰ.head refl
get_d_mem d (x ∷ l) (suc a) h = Memᴰ.tail (get_d_mem d l a (omega arith))

pub mem_get_d : {A : Type 0} (d : A) (l : List A) {a : A} → a ∈ l → (k : ℕ) × (k < length l) × (get_or l k d ≡ a)
mem_get_d d [] m = absurd (Memᴰ.not-nil m)
mem_get_d d (x ∷ l) m =
    ⊎_elim (λ e. (0, omega arith, sym e)) (λ h. let r = mem_get_d d l h in (suc r.0, omega (arith, r.1), r.2)) (Memᴰ.cases_cons m)
