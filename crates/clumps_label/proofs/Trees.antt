-- Laws of the forest: an atom that points elsewhere, a path cut short, two trees made one, every atom at its root. Assumes nothing.
use Prim.Native.Nat.{ℕ, zero, suc, ◌+◌, ◌*◌, ◌/◌, ◌≤◌, ◌<◌, min, max}
use mathlib.Core.Path.{◌≡◌, refl, sym, ap, subst, ◌∙◌}
use mathlib.Core.Bool.{Bool, cond, false, ◌&&◌}
use mathlib.Core.Logic.{◌⊎◌, inl, inr, ⊎_elim}
use mathlib.Core.List.{List, [], ◌∷◌, ◌++◌, map, foldl, foldl-append}
use native.Mathlib.Numerals.{add-one}
use native.Mathlib.Omega.{arith}
use lib.ListN.{length, get_or, set, take, length-set, length-map, get_or-map, get_or-eq_default}
use lib.Seq.{get_or-set_same, get_or-set_other, take-suc, ext_get_or}
use lib.Dec.{eqb, ltb}
use borrow.Author.Tests.{eq-eqb, ne_eqb, ltb-true, not-false}
use Rattle.lists.specs.Lists.{up_to, numbers, how_many, first_where, rows}
use Rattle.lists.proofs.Cases.{same_or, below_or, by_test, and_both}
use Rattle.lists.proofs.Exactness.{length_up_to, numbers_at}
use Rattle.lists.proofs.Nested.{numbers_append}
use Rattle.lists.proofs.Rows.{length_rows, rows_at}
use Rattle.lists.proofs.Walks.{any_default}
use Rattle.ranges.specs.Rows.{is_absent, absent_of}
use Rattle.clumps_label.specs.Label.{linked}
use Rattle.clumps_label.specs.Steps.{Falling, Forest, Moved, Climbed, Found, Step, Settled}

-- ---- an atom points elsewhere
module _ (p : List ℕ) (at v : ℕ) (h : at < length p) where
  there : (j : ℕ) → j ≡ at → get_or (set p at v) j 0 ≡ v
  there j e = ap (λ (k : ℕ). get_or (set p at v) k 0) e ∙ get_or-set_same p at v 0 h

  pub falling_set : Falling p → v ≤ at → Falling (set p at v)
  falling_set d l =
      record {
        down =
            λ j. ⊎_elim (λ (e : j ≡ at). omega (arith, there j e)) (λ (n : j ≡ at → ⊥). omega (arith, get_or-set_other p at j v 0 n, d.down j)) (same_or j at);
      }

  pub forest_set : (f : ℕ → ℕ) → Forest f p → f v ≡ f at → (v ≡ at → f at ≡ at) → Forest f (set p at v)
  forest_set f t e o =
      record {
        same =
            λ j l. let k : j < length p = omega (arith, length-set p at v) in
            ⊎_elim (λ (i : j ≡ at). ap f (there j i) ∙ e ∙ ap f (sym i))
            (λ (n : j ≡ at → ⊥). ap f (get_or-set_other p at j v 0 n) ∙ t.same j k) (same_or j at);
        own =
            λ j l g. let k : j < length p = omega (arith, length-set p at v) in
            ⊎_elim (λ (i : j ≡ at). ap f i ∙ o (sym (there j i) ∙ g ∙ i) ∙ sym i)
            (λ (n : j ≡ at → ⊥). t.own j k (sym (get_or-set_other p at j v 0 n) ∙ g)) (same_or j at);
      }

  pub moved_set : Falling p → v ≤ at → ((f : ℕ → ℕ) → Forest f p → f v ≡ f at) → ((f : ℕ → ℕ) → Forest f p → v ≡ at → f at ≡ at) → Moved (λ f. f) p (set p at v)
  moved_set d l e o =
      record { long = length-set p at v; falls = falling_set d l; forest = λ f t. forest_set f t (e f t) (o f t) }

pub moved_none : (p : List ℕ) → Falling p → Moved (λ f. f) p p
moved_none p d = record { long = refl; falls = d; forest = λ f t. t }

pub moved_then : (g h : (ℕ → ℕ) → ℕ → ℕ) (p q r : List ℕ) → Moved g p q → Moved h q r → Moved (λ f. h (g f)) p r
moved_then g h p q r a b =
    record { long = b.long ∙ a.long; falls = b.falls; forest = λ f t. b.forest (g f) (a.forest f t) }

-- ---- down a path
pub climb_start : (p : List ℕ) (i : ℕ) → Falling p → Climbed p i i p
climb_start p i d = record { moved = moved_none p d; least = omega arith; label = λ f t. refl }

module _ (p₀ : List ℕ) (i at : ℕ) (p : List ℕ) (within : i < length p₀) (c : Climbed p₀ i at p) (lower : get_or p at 0 < at) where
  inside : at < length p
  inside = omega (arith, c.moved.long, c.least)

  over : ℕ
  over = get_or p (get_or p at 0) 0

  past : (f : ℕ → ℕ) → Forest f p → f over ≡ f at
  unfolding over
  past f t = t.same (get_or p at 0) (omega (arith, inside)) ∙ t.same at inside

  under : over < at
  unfolding over
  under = omega (arith, c.moved.falls.down (get_or p at 0))

  pub climb_on : Climbed p₀ i (get_or p (get_or p at 0) 0) (set p at (get_or p (get_or p at 0) 0))
  unfolding over
  climb_on =
      record {
        moved =
            moved_then (λ f. f) (λ f. f) p₀ p (set p at over) c.moved
            (moved_set p at over inside c.moved.falls (omega (arith, under)) past (λ f t e. absurd (omega (arith, under))));
        least = omega (arith, under, c.least);
        label = λ f t. past f (c.moved.forest f t) ∙ c.label f t;
      }

-- the same as the code has it, which has each index once more
module _ (p₀ : List ℕ) (i at : ℕ) (p : List ℕ) (up w₂ w₃ : ℕ) (within : i < length p₀) (c : Climbed p₀ i at p) (is : up ≡ get_or p at 0) (lower : up < at) (e : w₂ ≡ up) (g : w₃ ≡ at) where
  low : get_or p at 0 < at
  low = omega (arith, is)

  same₂ : w₂ ≡ get_or p at 0
  same₂ = e ∙ is

  pub climb_less : get_or p w₂ 0 < at
  climb_less = omega (arith, c.moved.falls.down w₂, e)

  pub climb_turn : Climbed p₀ i (get_or p w₂ 0) (set p w₃ (get_or p w₂ 0))
  climb_turn = rw (same₂, g) (climb_on p₀ i at p within c low)

-- ---- one row more
module _ (f : ℕ → ℕ) (a b lo hi : ℕ) (bottom : min (f a) (f b) ≡ lo) (top : max (f a) (f b) ≡ hi) where
  hit : (j : ℕ) → f j ≡ hi → linked f (a, b) j ≡ lo
  unfolding linked
  hit j e = rw (eq-eqb (f j) (max (f a) (f b)) (e ∙ sym top)) bottom

  miss : (j : ℕ) → (f j ≡ hi → ⊥) → linked f (a, b) j ≡ f j
  unfolding linked
  miss j n = rw (ne_eqb (f j) (max (f a) (f b)) (λ e. n (e ∙ top)))

  alike : (j k : ℕ) → f j ≡ f k → linked f (a, b) j ≡ linked f (a, b) k
  unfolding linked
  alike j k e = rw e

  -- under the roots lo and hi
  module _ (p : List ℕ) (h : hi < length p) (t : Forest f p) (l : f lo ≡ lo) (u : f hi ≡ hi) where
    low_stays : linked f (a, b) lo ≡ lo
    low_stays = ⊎_elim (λ (e : lo ≡ hi). hit lo (l ∙ e)) (λ (n : lo ≡ hi → ⊥). miss lo (λ e. n (sym l ∙ e)) ∙ l) (same_or lo hi)

    pub united : Forest (linked f (a, b)) (set p hi lo)
    united =
        record {
          same =
              λ j m. let k : j < length p = omega (arith, length-set p hi lo) in
              ⊎_elim (λ (e : j ≡ hi). ap (linked f (a, b)) (there p hi lo h j e) ∙ low_stays ∙ sym (hit j (ap f e ∙ u)))
              (λ (n : j ≡ hi → ⊥). ap (linked f (a, b)) (get_or-set_other p hi j lo 0 n) ∙ alike (get_or p j 0) j (t.same j k)) (same_or j hi);
          own =
              λ j m g. let k : j < length p = omega (arith, length-set p hi lo) in
              ⊎_elim (λ (e : j ≡ hi). hit j (ap f e ∙ u) ∙ sym (there p hi lo h j e) ∙ g)
              (λ (n : j ≡ hi → ⊥). let o = t.own j k (sym (get_or-set_other p hi j lo 0 n) ∙ g) in miss j (λ e. n (sym o ∙ e)) ∙ o) (same_or j hi);
        }

-- two roots found one after the other, and the higher made to point at the lower
module _ (p q q' : List ℕ) (a b x y lo hi : ℕ) (l : a < length p) (r : b < length p) (m : Found p a x q) (n : Found q b y q') (bottom : min x y ≡ lo) (top : max x y ≡ hi) where
  long : length q' ≡ length p
  long = n.climbed.moved.long ∙ m.climbed.moved.long

  high : hi < length q'
  high = omega (arith, long, m.climbed.least, n.climbed.least, top)

  module _ (f : ℕ → ℕ) (t : Forest f p) where
    first : Forest f q
    first = m.climbed.moved.forest f t

    second : Forest f q'
    second = n.climbed.moved.forest f first

    left_own : f x ≡ x
    left_own = first.own x (omega (arith, m.climbed.moved.long, m.climbed.least)) m.root

    right_own : f y ≡ y
    right_own = second.own y (omega (arith, long, n.climbed.least)) n.root

    left_is : f a ≡ x
    left_is = sym (m.climbed.label f t) ∙ left_own

    right_is : f b ≡ y
    right_is = sym (n.climbed.label f first) ∙ right_own

    own_by : (z : ℕ) → (x ≡ z) ⊎ (y ≡ z) → f z ≡ z
    own_by z = ⊎_elim (λ (e : x ≡ z). subst (λ (k : ℕ). f k ≡ k) e left_own) (λ (e : y ≡ z). subst (λ (k : ℕ). f k ≡ k) e right_own)

    low_one : (x ≡ lo) ⊎ (y ≡ lo)
    low_one = ⊎_elim (λ (h : x < y). inl (omega (arith, bottom))) (λ (h : y ≤ x). inr (omega (arith, bottom))) (below_or x y)

    high_one : (x ≡ hi) ⊎ (y ≡ hi)
    high_one = ⊎_elim (λ (h : x < y). inr (omega (arith, top))) (λ (h : y ≤ x). inl (omega (arith, top))) (below_or x y)

    both : Forest (linked f (a, b)) (set q' hi lo)
    both =
        united f a b lo hi (omega (arith, left_is, right_is, bottom)) (omega (arith, left_is, right_is, top)) q' high second (own_by lo low_one)
        (own_by hi high_one)

  pub moved_united : Moved (λ f. linked f (a, b)) p (set q' hi lo)
  moved_united =
      record {
        long = length-set q' hi lo ∙ long;
        falls = falling_set q' hi lo high n.climbed.moved.falls (omega (arith, bottom, top));
        forest = both;
      }

-- two atoms of one label: nothing moves
joined_stays : (f : ℕ → ℕ) (a b j : ℕ) → f a ≡ f b → linked f (a, b) j ≡ f j
joined_stays f a b j e =
    ⊎_elim (λ (i : f j ≡ f a). hit f a b (f a) (f a) (omega arith) (omega arith) j i ∙ sym i)
    (λ (n : f j ≡ f a → ⊥). miss f a b (f a) (f a) (omega arith) (omega arith) j n) (same_or (f j) (f a))

forest_as : (f g : ℕ → ℕ) (p : List ℕ) → ((j : ℕ) → g j ≡ f j) → Forest f p → Forest g p
forest_as f g p e t =
    record { same = λ j h. e (get_or p j 0) ∙ t.same j h ∙ sym (e j); own = λ j h o. e j ∙ t.own j h o }

pub moved_same : (p : List ℕ) (a b : ℕ) → Falling p → a < length p → b < length p → get_or p a 0 ≡ get_or p b 0 → Moved (λ f. linked f (a, b)) p p
moved_same p a b d l r e =
    record {
      long = refl;
      falls = d;
      forest =
          λ f t. forest_as f (linked f (a, b)) p (λ j. joined_stays f a b j (sym (t.same a l) ∙ ap f e ∙ t.same b r)) t;
    }

-- ---- the first k rows
before_first : {A : Type 0} (d : A) (q : A → Bool) (l : List A) (k : ℕ) → k < first_where q l → q (get_or l k d) ≡ false
unfolding first_where
before_first d q [] k h = absurd (omega arith)
before_first d q (a ∷ l) zero h =
    by_test (λ c. zero < cond c 0 (suc (first_where q l)) → c ≡ false) (q a) (λ _ g. absurd (omega arith)) (λ _ g. refl) h
before_first d q (a ∷ l) (suc k) h =
    by_test (λ c. suc k < cond c 0 (suc (first_where q l)) → q (get_or l k d) ≡ false) (q a) (λ _ g. absurd (omega arith))
    (λ _ g. before_first d q l k (omega arith)) h

-- where no row names an atom that is not there
pub row_there : (n : ℕ) (t : List ℕ) (k : ℕ) → length (rows t) ≤ absent_of n (rows t) → k < length t / 2 → (get_or t (2 * k) 0 < n) × (get_or t (2 * k + 1) 0 < n)
unfolding absent_of
row_there n t k a h =
    let e = rw (rows_at t k h) at (before_first (0, 0) (is_absent n) (rows t) k (omega (arith, length_rows t))) in
    let b = and_both (ltb (get_or t (2 * k) 0) n) (ltb (get_or t (2 * k + 1) 0) n) (not-false (ltb (get_or t (2 * k) 0) n && ltb (get_or t (2 * k + 1) 0) n) e) in
    (ltb-true (get_or t (2 * k) 0) n b.0, ltb-true (get_or t (2 * k + 1) 0) n b.1)

module _ (l : List (ℕ × ℕ)) (k : ℕ) (h : k < length l) where
  one_more : (f : ℕ → ℕ) → foldl linked f (take (k + 1) l) ≡ linked (foldl linked f (take k l)) (get_or l k (0, 0))
  one_more f =
      let e : take (k + 1) l ≡ take k l ++ (get_or l k (0, 0) ∷ []) = rw add-one (take-suc l k (0, 0) h) in
      ap (λ (x : List (ℕ × ℕ)). foldl linked f x) e
      ∙ foldl-append linked f (take k l) (get_or l k (0, 0) ∷ [])

  pub moved_row : (p q r : List ℕ) → Moved (λ f. foldl linked f (take k l)) p q → Moved (λ f. linked f (get_or l k (0, 0))) q r → Moved (λ f. foldl linked f (take (k + 1) l)) p r
  moved_row p q r a b =
      let m = moved_then (λ f. foldl linked f (take k l)) (λ f. linked f (get_or l k (0, 0))) p q r a b in
      record {
        long = m.long;
        falls = m.falls;
        forest = λ f t. subst (λ (g : ℕ → ℕ). Forest g r) (sym (one_more f)) (m.forest f t);
      }

-- ---- every atom at its root
many_append : (q : ℕ → Bool) (s t : List ℕ) → how_many q (s ++ t) ≡ how_many q s + how_many q t
unfolding how_many
many_append q [] t = omega arith
many_append q (a ∷ s) t =
    by_test (λ c. cond c (suc (how_many q (s ++ t))) (how_many q (s ++ t)) ≡ cond c (suc (how_many q s)) (how_many q s) + how_many q t) (q a)
    (λ _. omega (arith, many_append q s t)) (λ _. many_append q s t)

pub many_more : (q : ℕ → Bool) (k : ℕ) → how_many q (up_to (k + 1)) ≡ how_many q (up_to k) + cond (q k) 1 0
unfolding how_many numbers
many_more q k =
    ap (λ (l : List ℕ). how_many q l) (numbers_append 0 k 1) ∙ many_append q (up_to k) (numbers (0 + k) 1)
    ∙ ap (λ (i : ℕ). how_many q (up_to k) + cond (q i) 1 0) (omega arith)

pub settled_none : (p : List ℕ) → Falling p → Settled p 0 0 p
unfolding how_many numbers
settled_none p d =
    record { moved = moved_none p d; few = omega arith; done = λ f t j h. absurd (omega arith); roots = λ f t. refl }

module _ (p : List ℕ) (k count : ℕ) (q : List ℕ) (r : ℕ) (q' : List ℕ) (h : k < length p) (s : Settled p k count q) (g : Step q k r q') where
  here : k < length q
  here = omega (arith, s.moved.long)

  falls : get_or q k 0 ≤ k
  falls = s.moved.falls.down k

  module _ (f : ℕ → ℕ) (t : Forest f p) where
    tree : Forest f q
    tree = s.moved.forest f t

    -- where the atom points in the end
    root_is : get_or q (get_or q k 0) 0 ≡ f k
    root_is =
        ⊎_elim (λ (e : get_or q k 0 ≡ k). ap (λ (i : ℕ). get_or q i 0) e ∙ e ∙ sym (tree.own k here e))
        (λ (n : get_or q k 0 ≡ k → ⊥). s.done f t (get_or q k 0) (omega (arith, falls, n)) ∙ tree.same k here) (same_or (get_or q k 0) k)

    is_root : eqb (get_or q k 0) k ≡ eqb (f k) k
    is_root =
        ⊎_elim (λ (e : get_or q k 0 ≡ k). eq-eqb (get_or q k 0) k e ∙ sym (eq-eqb (f k) k (tree.own k here e)))
        (λ (n : get_or q k 0 ≡ k → ⊥). ne_eqb (get_or q k 0) k n
        ∙ sym (ne_eqb (f k) k (λ e. n (omega (arith, falls, s.moved.falls.down (get_or q k 0), root_is, e))))) (same_or (get_or q k 0) k)

  settled_moved : Moved (λ f. f) p q'
  settled_moved =
      subst (λ (x : List ℕ). Moved (λ f. f) p x) (sym g.stored)
      (moved_then (λ f. f) (λ f. f) p q (set q k (get_or q (get_or q k 0) 0)) s.moved
      (moved_set q k (get_or q (get_or q k 0) 0) here s.moved.falls (omega (arith, falls, s.moved.falls.down (get_or q k 0)))
      (λ f t. t.same (get_or q k 0) (omega (arith, falls, here)) ∙ t.same k here)
      (λ f t e. t.own k here (omega (arith, falls, s.moved.falls.down (get_or q k 0), e)))))

  pub settled_on : Settled p (k + 1) (count + r) q'
  settled_on =
      record {
        moved = settled_moved;
        few = by_test (λ c. r ≡ cond c 1 0 → count + r ≤ k + 1) (eqb (get_or q k 0) k) (λ _ e. omega (arith, s.few)) (λ _ e. omega (arith, s.few)) g.counted;
        done =
            λ f t j l. ap (λ (x : List ℕ). get_or x j 0) g.stored
            ∙ ⊎_elim (λ (e : j ≡ k). there q k (get_or q (get_or q k 0) 0) here j e ∙ root_is f t ∙ ap f (sym e))
            (λ (n : j ≡ k → ⊥). get_or-set_other q k j (get_or q (get_or q k 0) 0) 0 n ∙ s.done f t j (omega (arith, n))) (same_or j k);
        roots =
            λ f t. ap (λ (n : ℕ). count + n) (g.counted ∙ ap (λ (c : Bool). cond c 1 0) (is_root f t))
            ∙ ap (λ (n : ℕ). n + cond (eqb (f k) k) 1 0) (s.roots f t) ∙ sym (many_more (λ j. eqb (f j) j) k);
      }

-- ---- the forest before the first row, and the labels in the end
pub planting : (p : List ℕ) (i : ℕ) → i < length p → ((j : ℕ) → j < i → get_or p j 0 ≡ j) → (j : ℕ) → j < i + 1 → get_or (set p i i) j 0 ≡ j
planting p i h a j l =
    ⊎_elim (λ (e : j ≡ i). there p i i h j e ∙ sym e) (λ (n : j ≡ i → ⊥). get_or-set_other p i j i 0 n ∙ a j (omega (arith, n))) (same_or j i)

pub all_planted : (p : List ℕ) (i n : ℕ) → length p ≡ n → n ≤ i → ((j : ℕ) → j < i → get_or p j 0 ≡ j) → p ≡ up_to n
all_planted p i n e h a =
    ext_get_or 0 p (up_to n) (e ∙ sym (length_up_to n)) (λ j k. a j (omega arith) ∙ sym (numbers_at 0 n j (omega arith) ∙ omega arith))

pub planted : (n : ℕ) → Falling (up_to n) × Forest (λ i. i) (up_to n)
planted n = (
  record {
    down =
        λ j. ⊎_elim (λ (h : j < n). omega (arith, numbers_at 0 n j h))
        (λ (h : n ≤ j). omega (arith, get_or-eq_default (up_to n) 0 {n = j} (omega (arith, length_up_to n)))) (below_or j n);
  },
  record {
    same = λ j h. numbers_at 0 n j (omega (arith, length_up_to n)) ∙ omega arith;
    own = λ j h e. refl;
  },
)

pub all_settled : (f : ℕ → ℕ) (p : List ℕ) (count : ℕ) (q : List ℕ) → Settled p (length p) count q → Forest f p → q ≡ map f (up_to (length p))
all_settled f p count q s t =
    let n = length p in
    let long : length (map f (up_to n)) ≡ n = length-map (up_to n) f ∙ length_up_to n in
    ext_get_or 0 q (map f (up_to n)) (s.moved.long ∙ sym long)
    (λ i h. let k : i < n = omega (arith, s.moved.long) in
    s.done f t i k
    ∙ sym (any_default (map f (up_to n)) i 0 (f 0) (omega (arith, long)) ∙ get_or-map f (up_to n) i 0 ∙ ap f (numbers_at 0 n i k ∙ omega arith)))
