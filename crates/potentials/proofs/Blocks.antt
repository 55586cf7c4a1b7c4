-- A block of pairs in local arrays: what its places add is what its pairs add, and a loop over blocks is the loop over pairs. Assumes nothing.
use Rattle.std.specs.Prelude.{Option}
use mathlib.Core.Bool.{Bool, true, false, cond}
use mathlib.Core.Path.{◌≡◌, refl, sym, ap, ◌∙◌, subst}
use mathlib.Core.Logic.{⊎_elim}
use mathlib.Core.List.{List, foldl, foldl-append}
use Prim.Native.Nat.{ℕ, suc, zero, ◌+◌, ◌*◌, ◌<◌, ◌≤◌}
use native.Mathlib.Nat.{zero-add}
use native.Mathlib.Omega.{arith}
use lib.Ieee.{Float, nan}
use lib.ListN.{length, get_or, set, drop, length-set}
use lib.Seq.{get_or-set_same, get_or-set_other}
use Rattle.lists.specs.Lists.{numbers, up_to}
use Rattle.lists.proofs.Cases.{same_or}
use Rattle.lists.proofs.Exactness.{numbers_at, length_up_to}
use Rattle.lists.proofs.Nested.{numbers_append}
use Rattle.lists.proofs.Walks.{fold_next}
use Rattle.float.specs.Arith.{at}
use Rattle.cell.specs.declared.Vec3.{Vec3}
use Rattle.cell.specs.Vec.{position_at}
use Rattle.potentials_pair.specs.Pull.{Pull, Total, after}
use Rattle.potentials.proofs.Folds.{Left}
use Rattle.potentials.specs.Blocks.{block_step, set_vec, with_pull, Block, PlaceAdds, Sifted, Pulled}

-- ---- folds over the places that are taken
module _ {B : Type 0} {p p' : B → ℕ → B} where
  agree_from : (k n : ℕ) → ((m : ℕ) → k ≤ m → m < k + n → (t : B) → p' t m ≡ p t m) → (t : B) → foldl p' t (numbers k n) ≡ foldl p t (numbers k n)
  unfolding numbers
  agree_from k zero e t = refl
  agree_from k (suc n) e t =
      ap (λ (x : B). foldl p' x (numbers (k + 1) n)) (e k (omega arith) (omega arith) t) ∙ agree_from (k + 1) n (λ m l h. e m (omega arith) (omega arith)) (p t k)

  pub folds_agree : (c : ℕ) → ((m : ℕ) → m < c → (t : B) → p' t m ≡ p t m) → (t : B) → foldl p' t (up_to c) ≡ foldl p t (up_to c)
  folds_agree c e t = agree_from 0 c (λ m l h. e m (omega arith)) t

pub fold_last : {B : Type 0} (p : B → ℕ → B) (c : ℕ) (t : B) → foldl p t (up_to (c + 1)) ≡ p (foldl p t (up_to c)) c
unfolding numbers
fold_last p c t =
    ap (foldl p t) (numbers_append 0 c 1) ∙ foldl-append p t (up_to c) (numbers (0 + c) 1) ∙ ap (λ (k : ℕ). p (foldl p t (up_to c)) k) (zero-add c)

-- ---- two elements at 2 c, three at 3 c
module _ {A : Type 0} (l : List A) (c : ℕ) (x y e : A) where
  abbrev pair : List A
  pair = set (set l (2 * c) x) (2 * c + 1) y

  module _ (h : 2 * c + 1 < length l) where
    pub pair_first : get_or pair (2 * c) e ≡ x
    pair_first = get_or-set_other (set l (2 * c) x) (2 * c + 1) (2 * c) y e (λ q. omega (arith, q)) ∙ get_or-set_same l (2 * c) x e (omega arith)

    pub pair_second : get_or pair (2 * c + 1) e ≡ y
    pair_second = get_or-set_same (set l (2 * c) x) (2 * c + 1) y e (omega (arith, length-set l (2 * c) x))

  pub pair_other : (k : ℕ) → k < 2 * c → get_or pair k e ≡ get_or l k e
  pair_other k h = get_or-set_other (set l (2 * c) x) (2 * c + 1) k y e (λ q. omega (arith, q)) ∙ get_or-set_other l (2 * c) k x e (λ q. omega (arith, q))

module _ (l : List Float) (c : ℕ) (d : Vec3) where
  abbrev one : List Float
  one = set l (3 * c) d.x

  abbrev both : List Float
  both = set one (3 * c + 1) d.y

  pub vec_here : 3 * c + 2 < length l → position_at (set_vec l c d) c ≡ d
  unfolding position_at
  vec_here h =
      let n : length one ≡ length l = length-set l (3 * c) d.x in
      let m : length both ≡ length l = length-set one (3 * c + 1) d.y ∙ n in
      rw (
        get_or-set_other both (3 * c + 2) (3 * c) d.z nan (λ q. omega (arith, q)),
        get_or-set_other one (3 * c + 1) (3 * c) d.y nan (λ q. omega (arith, q)),
        get_or-set_same l (3 * c) d.x nan (omega arith),
        get_or-set_other both (3 * c + 2) (3 * c + 1) d.z nan (λ q. omega (arith, q)),
        get_or-set_same one (3 * c + 1) d.y nan (omega (arith, n)),
        get_or-set_same both (3 * c + 2) d.z nan (omega (arith, m)),
      )

  vec_at : (k : ℕ) → k < 3 * c → at (set_vec l c d) k ≡ at l k
  vec_at k h =
      get_or-set_other both (3 * c + 2) k d.z nan (λ q. omega (arith, q))
      ∙ get_or-set_other one (3 * c + 1) k d.y nan (λ q. omega (arith, q))
      ∙ get_or-set_other l (3 * c) k d.x nan (λ q. omega (arith, q))

  pub vec_below : (m : ℕ) → m < c → position_at (set_vec l c d) m ≡ position_at l m
  unfolding position_at
  vec_below m h = rw (vec_at (3 * m) (omega arith), vec_at (3 * m + 1) (omega arith), vec_at (3 * m + 2) (omega arith))

-- ---- a place that is written
module _ (pull : Float → Vec3 → Float → Option Pull) {A : Type 0} (f : Total → A → Total) (r : A) (atoms : List ℕ) (apart two : List Float) (c i j : ℕ) (d : Vec3) (u v : Float)
    (a : 256 ≤ length atoms) (b : 384 ≤ length apart) (w : length two ≡ 256) (h : c < 128) where
  abbrev step : Total → ℕ → Total
  step = block_step pull atoms apart two

  abbrev step' : Total → ℕ → Total
  step' = block_step pull (pair atoms c i j 0) (set_vec apart c d) (pair two c u v nan)

  put_here : (t : Total) → step' t c ≡ after t (i, j) (pull u d v)
  put_here t =
      unfold block_step in
      rw (
        pair_first atoms c i j 0 (omega (arith, a)),
        pair_second atoms c i j 0 (omega (arith, a)),
        pair_first two c u v nan (omega (arith, w)),
        pair_second two c u v nan (omega (arith, w)),
        vec_here apart c d (omega (arith, b)),
      )

  put_below : (m : ℕ) → m < c → (t : Total) → step' t m ≡ step t m
  put_below m l t =
      unfold block_step in
      rw (
        pair_other atoms c i j 0 (2 * m) (omega arith),
        pair_other atoms c i j 0 (2 * m + 1) (omega arith),
        pair_other two c u v nan (2 * m) (omega arith),
        pair_other two c u v nan (2 * m + 1) (omega arith),
        vec_below apart c d m l,
      )

  -- it stays, or is written over
  placed' : (skipped : Bool) → ((t : Total) → f t r ≡ cond skipped t (after t (i, j) (pull u d v))) → {c' : ℕ} → c' ≡ cond skipped c (c + 1) → PlaceAdds step step' c c' f r
  placed' true e q =
      record {
        few = omega (arith, q);
        same = λ t. ap (λ (n : ℕ). foldl step' t (up_to n)) q ∙ folds_agree c put_below t ∙ sym (e (foldl step t (up_to c)));
      }
  placed' false e q =
      record {
        few = omega (arith, q);
        same =
            λ t. ap (λ (n : ℕ). foldl step' t (up_to n)) q ∙ fold_last step' c t ∙ put_here (foldl step' t (up_to c))
            ∙ ap (λ (x : Total). after x (i, j) (pull u d v)) (folds_agree c put_below t) ∙ sym (e (foldl step t (up_to c)));
      }

  pub placed : {atoms'' : List ℕ} {apart'' two'' : List Float} → atoms'' ≡ pair atoms c i j 0 → apart'' ≡ set_vec apart c d → two'' ≡ pair two c u v nan → (skipped : Bool)
      → ((t : Total) → f t r ≡ cond skipped t (after t (i, j) (pull u d v))) → {c' : ℕ} → c' ≡ cond skipped c (c + 1) → PlaceAdds step (block_step pull atoms'' apart'' two'') c c' f r
  placed ea eb ew skipped e q = rw (ea, eb, ew) (placed' skipped e q)

-- ---- the two floats of a place, found after the sift
module _ (e g : ℕ → Float) where
  pub pulled_none : (pulls : List Float) → Pulled e g pulls 0
  pulled_none pulls = record { energy = λ m h. absurd (omega arith); slope = λ m h. absurd (omega arith) }

  with_pull_lem : (pulls : List Float) {n : ℕ} → 2 * n + 1 < length pulls → Pulled e g pulls n → Pulled e g (with_pull e g pulls n) (n + 1)
  with_pull_lem pulls {n} l p =
      record {
        energy =
            λ m h. ⊎_elim
            (λ (q : m ≡ n). rw q (pair_first pulls n (e n) (g n) nan l))
            (λ (q : m ≡ n → ⊥). pair_other pulls n (e n) (g n) nan (2 * m) (omega (arith, q)) ∙ p.energy m (omega (arith, q)))
            (same_or m n);
        slope =
            λ m h. ⊎_elim
            (λ (q : m ≡ n). rw q (pair_second pulls n (e n) (g n) nan l))
            (λ (q : m ≡ n → ⊥). pair_other pulls n (e n) (g n) nan (2 * m + 1) (omega (arith, q)) ∙ p.slope m (omega (arith, q)))
            (same_or m n);
      }

  pub pulled_turn : (pulls : List Float) {n : ℕ} → 2 * n + 1 < length pulls → Pulled e g pulls n → {pulls' : List Float} → pulls' ≡ with_pull e g pulls n → Pulled e g pulls' (n + 1)
  pulled_turn pulls l p q = rw q (with_pull_lem pulls l p)

  pub pulled_end : (pulls : List Float) {m n : ℕ} → n ≤ m → Pulled e g pulls m → Pulled e g pulls n
  pulled_end pulls h p = record { energy = λ k l. p.energy k (omega arith); slope = λ k l. p.slope k (omega arith) }

-- no place for a pair that adds nothing
pub unplaced : {A B : Type 0} (p : B → ℕ → B) (c : ℕ) (f : B → A → B) (a : A) → ((t : B) → t ≡ f t a) → PlaceAdds p p c c f a
unplaced p c f a e = record { few = omega arith; same = λ t. e (foldl p t (up_to c)) }

-- ---- the loop over a block's pairs
module _ {A B : Type 0} {f : B → A → B} (l : List A) where
  pub sifted_begin : (p : B → ℕ → B) (from : ℕ) → Sifted p 0 f l from from
  unfolding numbers
  sifted_begin p from = record { few = omega arith; same = λ t. refl }

  pub sifted_turn : (e : A) {p p' : B → ℕ → B} {c c' from k : ℕ} → k < length l → Sifted p c f l from k → PlaceAdds p p' c c' f (get_or l k e) → Sifted p' c' f l from (k + 1)
  sifted_turn e {p} {p'} {c} {c'} {from} {k} h s q =
      record {
        few = omega (arith, s.few, q.few);
        same =
            λ t. ap (λ (x : B). foldl f x (drop (k + 1) l)) (q.same t) ∙ sym (fold_next e l k f (foldl p t (up_to c)) h) ∙ s.same t;
      }

  pub sifted_end : {p : B → ℕ → B} {c from k to : ℕ} → to ≤ k → k ≤ to → Sifted p c f l from k → Sifted p c f l from to
  sifted_end {p} {c} {from} {k} {to} a b s = subst (λ (n : ℕ). Sifted p c f l from n) (omega arith) s

  -- ---- and the loop over blocks
  pub block_turn : {p : B → ℕ → B} {c k to : ℕ} {t t' r : B} → Left f l k t r → Sifted p c f l k to → t' ≡ foldl p t (up_to c) → Left f l to t' r
  block_turn {p} {c} {k} {to} {t} w s e = record { same = ap (λ (x : B). foldl f x (drop to l)) e ∙ s.same t ∙ w.same }

-- ---- over the numbers below n
pub sifted_number : {B : Type 0} {f : B → ℕ → B} (n : ℕ) {p p' : B → ℕ → B} {c c' from k : ℕ} → k < n → Sifted p c f (up_to n) from k → PlaceAdds p p' c c' f k → Sifted p' c' f (up_to n) from (k + 1)
sifted_number {f = f} n {p} {p'} {c} {c'} {k = k} h s q =
    sifted_turn (up_to n) 0 (omega (arith, length_up_to n)) s (subst (λ (a : ℕ). PlaceAdds p p' c c' f a) (sym (numbers_at 0 n k h ∙ zero-add k)) q)

-- ---- a room stays as long as it was
pub at_least : {a b k : ℕ} → a ≡ b → k ≤ b → k ≤ a
at_least e h = omega (arith, e, h)

pub block_kept : {atoms atoms' : List ℕ} {apart apart' two two' : List Float} → Block atoms apart two → length atoms' ≡ length atoms → length apart' ≡ length apart → length two' ≡ length two → Block atoms' apart' two'
block_kept b x y z = record { atoms256 = at_least x b.atoms256; apart384 = at_least y b.apart384; two256 = z ∙ b.two256 }
