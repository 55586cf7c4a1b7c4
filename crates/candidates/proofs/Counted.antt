-- The checks are the candidates less the exclusion rows that are among them; and a run that looks up near pairs only finds the same. Assumes nothing.
use Prim.Native.Nat.{ℕ, suc, ◌+◌, ◌<◌}
use mathlib.Core.Path.{◌≡◌, refl, sym, ap, ◌∙◌}
use mathlib.Core.Logic.{⊎_elim}
use mathlib.Core.Bool.{Bool, true, false, cond, not, ◌&&◌, false≢true}
use mathlib.Core.List.Memᴰ
use mathlib.Core.List.{List, [], ◌∷◌, ◌++◌}
use native.Mathlib.Omega.{arith}
use lib.ListN.{length, take, drop}
use lib.Dec.{ltb}
use borrow.Author.Tests.{ltb-true, lt-ltb}
use Rattle.lists.specs.Lists.{keep, how_many, some, rows, all_pairs, Two}
use Rattle.lists.specs.Exact.{◌∈◌, Once, Exactly}
use Rattle.lists.proofs.Cases.{by_test, and_both, both_and, or_cases, or_left, or_right}
use Rattle.lists.proofs.Exactness.{equally_long, exactly_keep, exactly_as, all_exactly, many_keep, keep_keep, mem_get_d}
use Rattle.bins.specs.declared.Grid.{Grid}
use Rattle.bins.specs.declared.Cell.{Cell}
use Rattle.bins.specs.Stencil.{GoodGrid, InGrid, flatten, home_of, touching}
use Rattle.bins.specs.Traversal.{bin, pairs_of, Placed}
use Rattle.bins.specs.Listing.{Scene, free, close, checked_of, found_of}
use Rattle.bins.proofs.TraversalLaws.{checks_counted}
use Rattle.bins.proofs.FlatLaws as flat
use Rattle.bins.proofs.Tables.{Filled, done_long, done_at, done_front}
use Rattle.exclusions.specs.Table.{before, same_pair, is_table, is_row}
use Rattle.exclusions.proofs.RowOrder.{before_other, pair_same, same_pair_lem}
use Rattle.exclusions.proofs.Search.{ascending, tail_table}
use Rattle.candidates.specs.Checks.{lazy, there, beside_in, cell_from, rows_below, rows_touching}

-- ---- tests on a list
keep_all : {A : Type 0} (l : List A) → keep (λ a. true) l ≡ l
unfolding keep
keep_all [] = refl
keep_all {A} (a ∷ l) = ap (λ (t : List A). a ∷ t) (keep_all l)

many_agree : {A : Type 0} (q r : A → Bool) (l : List A) → ((a : A) → q a ≡ r a) → how_many q l ≡ how_many r l
many_agree q r l h = λ i. how_many (λ a. h a i) l

and_turned : (a b : Bool) → a && b ≡ b && a
and_turned true true = refl
and_turned true false = refl
and_turned false true = refl
and_turned false false = refl

and_true : (a : Bool) → a && true ≡ a
and_true true = refl
and_true false = refl

-- those that pass a test are those that fail another besides, and those that pass it
many_split : {A : Type 0} (q r : A → Bool) (l : List A) → how_many q l ≡ how_many (λ a. q a && not (r a)) l + how_many (λ a. q a && r a) l
unfolding how_many
many_split q r [] = refl
many_split q r (a ∷ l) = go (q a) (r a) (many_split q r l)
  where
    go : (s t : Bool) → how_many q l ≡ how_many (λ a. q a && not (r a)) l + how_many (λ a. q a && r a) l
        → cond s (suc (how_many q l)) (how_many q l)
        ≡ cond (s && not t) (suc (how_many (λ a. q a && not (r a)) l)) (how_many (λ a. q a && not (r a)) l)
        + cond (s && t) (suc (how_many (λ a. q a && r a) l)) (how_many (λ a. q a && r a) l)
    go true true h = omega arith
    go true false h = omega arith
    go false t h = h

-- ---- the lookup of near pairs only
module _ (e : Scene) (cands : List (ℕ × ℕ)) where
  pub lazy_checked : checked_of (lazy e) cands ≡ cands
  unfolding lazy
  lazy_checked = keep_all cands

  pub lazy_found : found_of (lazy e) cands ≡ found_of e cands
  unfolding lazy
  lazy_found =
      ap (keep (close (lazy e))) (keep_all cands)
      ∙ (λ i. keep (λ p. and_turned (close e p) (free e p) i) cands)
      ∙ sym (keep_keep (free e) (close e) cands)

-- ---- the rows of a table: low before high, and none twice
row_mem : (p : ℕ × ℕ) (l : List (ℕ × ℕ)) → is_row p l ≡ true → p ∈ l
unfolding is_row
row_mem p [] h = absurd (false≢true h)
row_mem p (q ∷ l) h =
    ⊎_elim (λ e. Memᴰ.head (pair_same p q e)) (λ e. Memᴰ.tail (row_mem p l e)) (or_cases (same_pair p q) (some (same_pair p) l) h)

mem_row : (p : ℕ × ℕ) (l : List (ℕ × ℕ)) → p ∈ l → is_row p l ≡ true
unfolding is_row
mem_row p [] m = absurd (Memᴰ.not-nil m)
mem_row p (q ∷ l) m =
    ⊎_elim (λ e. or_left (same_pair p q) (some (same_pair p) l) (same_pair_lem p q e)) (λ t. or_right (same_pair p q) (some (same_pair p) l) (mem_row p l t))
    (Memᴰ.cases_cons m)

table_rising : (l : List (ℕ × ℕ)) → is_table l ≡ true → (p : ℕ × ℕ) → p ∈ l → p.0 < p.1
unfolding is_table
table_rising [] h p m = absurd (Memᴰ.not-nil m)
table_rising (q ∷ l) h p m =
    ⊎_elim
    (λ e.
    let less = ltb-true q.0 q.1 (and_both (ltb q.0 q.1) _ h).0 in
    let low = ap (λ (t : ℕ × ℕ). t.0) e in
    let high = ap (λ (t : ℕ × ℕ). t.1) e in
    omega arith)
    (λ t. table_rising l (tail_table q l h) p t) (Memᴰ.cases_cons m)

table_once : (l : List (ℕ × ℕ)) → is_table l ≡ true → Once l
table_once [] h = tt
table_once (p ∷ l) h = (
  λ m.
      let r = mem_get_d (0, 0) l m in
      let e : before p p ≡ true = rw r.2 at (ascending (p ∷ l) h 0 (suc r.0) (omega arith) (omega (arith, r.1))) in
      false≢true (sym (before_other p p e) ∙ same_pair_lem p p refl),
  table_once l (tail_table p l h),
)

-- ---- of all pairs, those that are rows: as many as there are rows of atoms that are there
module _ (rs : List (ℕ × ℕ)) (h : is_table rs ≡ true) (n : ℕ) (q : ℕ × ℕ → Bool) where
  rows_exactly : Exactly (λ p. Two n p × (q p && is_row p rs ≡ true)) (keep (λ p. there n p && q p) rs)
  rows_exactly =
      exactly_as (keep (λ p. there n p && q p) rs)
      (exactly_keep (λ p. there n p && q p) rs (record { sound = λ p m. m; complete = λ p m. m; once = table_once rs h })) to from
    where
      to : (p : ℕ × ℕ) → (p ∈ rs) × (there n p && q p ≡ true) → Two n p × (q p && is_row p rs ≡ true)
      to p u =
          let r = and_both (there n p) (q p) u.1 in
          let t = and_both (ltb p.0 n) (ltb p.1 n) r.0 in
          ((table_rising rs h p u.0, ltb-true p.1 n t.1), both_and (q p) (is_row p rs) r.1 (mem_row p rs u.0))

      from : (p : ℕ × ℕ) → Two n p × (q p && is_row p rs ≡ true) → (p ∈ rs) × (there n p && q p ≡ true)
      from p u =
          let r = and_both (q p) (is_row p rs) u.1 in
          let less = u.0.0 in
          let few = u.0.1 in
          (row_mem p rs r.1, both_and (there n p) (q p) (both_and (ltb p.0 n) (ltb p.1 n) (lt-ltb p.0 n (omega arith)) (lt-ltb p.1 n few)) r.0)

  rows_many : how_many (λ p. q p && is_row p rs) (all_pairs n) ≡ how_many (λ p. there n p && q p) rs
  rows_many =
      many_keep (λ p. q p && is_row p rs) (all_pairs n)
      ∙ equally_long _ _ (exactly_keep (λ p. q p && is_row p rs) (all_pairs n) (all_exactly n)) rows_exactly
      ∙ sym (many_keep (λ p. there n p && q p) rs)

-- ---- the checks: the candidates less the rows among them
module _ (table : List ℕ) (h : is_table (rows table) ≡ true) (n : ℕ) where
  many_all : {A : Type 0} (l : List A) → length l ≡ how_many (λ a. true) l
  many_all l = ap length (sym (keep_all l)) ∙ sym (many_keep (λ a. true) l)

  pub plain_less : length (all_pairs n) ≡ how_many (λ p. not (is_row p (rows table))) (all_pairs n) + rows_below n (rows table)
  unfolding rows_below
  plain_less =
      many_all (all_pairs n)
      ∙ many_split (λ p. true) (λ p. is_row p (rows table)) (all_pairs n)
      ∙ ap (λ (k : ℕ). how_many (λ p. not (is_row p (rows table))) (all_pairs n) + k)
      (rows_many (rows table) h n (λ p. true) ∙ many_agree (λ p. there n p && true) (there n) (rows table) (λ p. and_true (there n p)))

  module _ (g : Grid) (good : GoodGrid g) (cell_of : ℕ → Cell) (placed : Placed g n cell_of) where
    pub binned_less : length (pairs_of g (bin n cell_of))
        ≡ how_many (λ p. touching g (cell_of p.0) (cell_of p.1) && not (is_row p (rows table))) (all_pairs n) + rows_touching g n cell_of (rows table)
    unfolding rows_touching
    binned_less =
        let q : ℕ × ℕ → Bool = (λ p. touching g (cell_of p.0) (cell_of p.1)) in
        checks_counted g good n cell_of placed
        ∙ sym (many_keep q (all_pairs n))
        ∙ many_split q (λ p. is_row p (rows table)) (all_pairs n)
        ∙ ap (λ (k : ℕ). how_many (λ p. q p && not (is_row p (rows table))) (all_pairs n) + k) (rows_many (rows table) h n q)

-- ---- only the cells of atoms that are there count
touching_agree : (g : Grid) (n : ℕ) (c d : ℕ → Cell) (rs : List (ℕ × ℕ)) → ((k : ℕ) → k < n → c k ≡ d k) → rows_touching g n c rs ≡ rows_touching g n d rs
unfolding rows_touching
touching_agree g n c d rs same =
    many_agree (beside_in g n c) (beside_in g n d) rs
    (λ p.
    by_test (λ t. there n p ≡ t → t && touching g (c p.0) (c p.1) ≡ t && touching g (d p.0) (d p.1)) (there n p)
    (λ e f.
    let r = and_both (ltb p.0 n) (ltb p.1 n) f in
    rw (same p.0 (ltb-true p.0 n r.0), same p.1 (ltb-true p.1 n r.1)))
    (λ e f. refl) refl)

-- the cell at a cell's place is that cell
home_flat : (g : Grid) (c : Cell) → InGrid g c → home_of g (flatten g c) ≡ c
home_flat g c k =
    let l = flat.flatten_less g c k in
    flat.flatten_inj g (home_of g (flatten g c)) c (flat.home_in g (flatten g c) l) k (flat.home_flat g (flatten g c) l)

-- each atom's cell is the one at its place: the count over the places at the front of a room is that over the cells
module _ {g : Grid} {n : ℕ} {cell_of : ℕ → Cell} {room done : List ℕ} (h : Filled g n cell_of room done) where
  pub done_rows : {own : Grid} → own ≡ g → (rs : List (ℕ × ℕ))
      → rows_touching own (length (take n (done ++ drop n room))) (cell_from own (take n (done ++ drop n room))) rs ≡ rows_touching g n cell_of rs
  done_rows e rs =
      rw (done_front h, done_long h, e)
      (touching_agree g n (cell_from g done) cell_of rs (λ k l. ap (home_of g) (done_at h k l) ∙ home_flat g (cell_of k) (h.placed k l)))
