-- The traversal lists every two atoms whose cells touch, once. Assumes nothing.
use Rattle.std.specs.Prelude.{None, Option, Some}
use mathlib.Core.Path.{◌≡◌, refl, sym, ap, ◌∙◌, subst}
use mathlib.Core.Logic.{◌⊎◌, inl, inr, ⊎_elim}
use mathlib.Core.Bool.{Bool, true}
use mathlib.Core.List.Memᴰ
use mathlib.Core.List.{List, []}
use Prim.Native.Nat.{ℕ, zero, suc, ◌*◌, ◌≤◌, ◌<◌}
use native.Mathlib.Omega.{arith}
use borrow.Author.Tests.{eqb-true, eq-eqb}
use lib.ListN.{length, get_or}
use Rattle.bins.specs.declared.Grid.{Grid}
use Rattle.bins.specs.declared.Cell.{Cell}
use Rattle.lists.specs.Exact.{◌∈◌, Exactly}
use Rattle.lists.specs.Lists.{up_to, keep, inside, across, all_pairs, Two}
use Rattle.bins.specs.Stencil.{GoodGrid, InGrid, touching, same_cell, reached}
use Rattle.bins.specs.Traversal.{bin, met, visit, cell_pairs, pairs_of, Near, Placed}
use Rattle.lists.proofs.Exactness.{Rising, rising_once, mem_up_to, up_to_mem, rising_up_to, mem_keep, keep_mem, rising_keep, Between, exactly_inside, Across, exactly_across, equally_long, exactly_keep, exactly_as, exactly_each, all_exactly, length_keep, length_all, get_d_mem}
use Rattle.lists.proofs.Cases.{and_both, both_and}
use Rattle.bins.proofs.StencilLaws.{nowhere_to, to_inj, LeadsBy, way, cell_is, stays, same_home, only_home, only_row, there_and_back, touching_row, touching_turned, way_touching, reached_way, way_reached}

-- ---- the atoms of a cell
pub same_is : (a b : Cell) → same_cell a b ≡ true → a ≡ b
unfolding same_cell
same_is a b h =
    let p = and_both _ _ h in
    let q = and_both _ _ p.1 in
    cell_is a b (eqb-true _ _ p.0) (eqb-true _ _ q.0) (eqb-true _ _ q.1)

pub is_same : (a b : Cell) → a ≡ b → same_cell a b ≡ true
unfolding same_cell
is_same a b e =
    both_and _ _ (eq-eqb _ _ (ap (λ (t : Cell). t.x) e))
    (both_and _ _ (eq-eqb _ _ (ap (λ (t : Cell). t.y) e)) (eq-eqb _ _ (ap (λ (t : Cell). t.z) e)))

module _ (n : ℕ) (cell_of : ℕ → Cell) where
  pub mem_bin : (c : Cell) {k : ℕ} → k ∈ bin n cell_of c → (k < n) × (cell_of k ≡ c)
  unfolding bin
  mem_bin c {k} m = let r = mem_keep (λ k. same_cell (cell_of k) c) (up_to n) m in (mem_up_to n r.0, same_is (cell_of k) c r.1)

  pub bin_mem : (c : Cell) {k : ℕ} → k < n → cell_of k ≡ c → k ∈ bin n cell_of c
  unfolding bin
  bin_mem c {k} h e = keep_mem (λ k. same_cell (cell_of k) c) (up_to_mem n h) (is_same (cell_of k) c e)

  pub rising_bin : (c : Cell) → Rising (bin n cell_of c)
  unfolding bin
  rising_bin c = rising_keep (λ k. same_cell (cell_of k) c) (up_to n) (rising_up_to n)

module _ (g : Grid) (good : GoodGrid g) (n : ℕ) (cell_of : ℕ → Cell) (placed : Placed g n cell_of) where
  -- row s lists p from the home cell h
  Seen : Cell → ℕ → ℕ × ℕ → Type 0
  Seen h s p = Two n p × (((h ≡ cell_of p.0) × LeadsBy g (way s) (cell_of p.0) (cell_of p.1)) ⊎ ((h ≡ cell_of p.1) × LeadsBy g (way s) (cell_of p.1) (cell_of p.0)))

  -- from one home cell only, and by one row only
  seen_once : (h k : Cell) (s t : ℕ) → s < 14 → t < 14 → (p : ℕ × ℕ) → Seen h s p → Seen k t p → (h ≡ k) × (s ≡ t)
  unfolding Seen
  seen_once h k s t ls lt p a b =
      ⊎_elim
      (λ u.
      ⊎_elim (λ v. (u.0 ∙ sym v.0, only_row g good (cell_of p.0) (cell_of p.1) s t ls lt u.1 v.1))
      (λ v. both (cell_of p.0) (cell_of p.1) u.0 v.0 u.1 v.1) b.1)
      (λ u.
      ⊎_elim (λ v. both (cell_of p.1) (cell_of p.0) u.0 v.0 u.1 v.1)
      (λ v. (u.0 ∙ sym v.0, only_row g good (cell_of p.1) (cell_of p.0) s t ls lt u.1 v.1)) b.1)
      a.1
    where
      both : (c d : Cell) → h ≡ c → k ≡ d → LeadsBy g (way s) c d → LeadsBy g (way t) d c → (h ≡ k) × (s ≡ t)
      both c d e f u v =
          let z = there_and_back g good c d s t ls lt u v in
          (e ∙ same_home g c d (subst (λ (r : ℕ). LeadsBy g (way r) c d) z.0 u) ∙ sym f, omega arith)

  leads_reached : (h : Cell) (s i j : ℕ) → s < 14 → i < n → j < n → h ≡ cell_of i → LeadsBy g (way s) (cell_of i) (cell_of j) → reached g h s ≡ Some (cell_of j)
  leads_reached h s i j l hi hj e w = rw e (way_reached g (cell_of i) (cell_of j) s (placed i hi) (placed j hj) l w)

  -- in the home cell
  home_exactly : (h : Cell) → Exactly (Seen h 0) (inside (bin n cell_of h))
  unfolding Seen
  home_exactly h = exactly_as (inside (bin n cell_of h)) (exactly_inside (bin n cell_of h) (rising_bin n cell_of h)) there here
    where
      there : (p : ℕ × ℕ) → Between (bin n cell_of h) p → Seen h 0 p
      there p (u, v, l) =
          let r = mem_bin n cell_of h u in
          let t = mem_bin n cell_of h v in
          ((l, t.0), inl (sym r.1, subst (λ (c : Cell). LeadsBy g (way 0) (cell_of p.0) c) (r.1 ∙ sym t.1) (stays g (cell_of p.0))))

      here : (p : ℕ × ℕ) → Seen h 0 p → Between (bin n cell_of h) p
      here p ((l, m), inl u) =
          (bin_mem n cell_of h (omega arith) (sym u.0), bin_mem n cell_of h m (sym (u.0 ∙ same_home g _ _ u.1)), l)
      here p ((l, m), inr u) =
          (bin_mem n cell_of h (omega arith) (sym (u.0 ∙ same_home g _ _ u.1)), bin_mem n cell_of h m (sym u.0), l)

  -- between two cells
  other_exactly : (h o : Cell) (s : ℕ) → InGrid g h → 0 < s → s < 14 → reached g h s ≡ Some o → Exactly (Seen h s) (across (bin n cell_of h) (bin n cell_of o))
  unfolding Seen
  other_exactly h o s k f l e =
      exactly_as (across (bin n cell_of h) (bin n cell_of o))
      (exactly_across (bin n cell_of h) (bin n cell_of o) (rising_once (bin n cell_of h) (rising_bin n cell_of h)) (rising_once (bin n cell_of o) (rising_bin n cell_of o)) apart)
      there here
    where
      lead : LeadsBy g (way s) h o
      lead = reached_way g h o s k l e

      lead_at : (i j : ℕ) → cell_of i ≡ h → cell_of j ≡ o → LeadsBy g (way s) (cell_of i) (cell_of j)
      lead_at i j p q = rw (p, q) lead

      apart : (i : ℕ) → i ∈ bin n cell_of h → i ∈ bin n cell_of o → ⊥
      apart i p q =
          let r = mem_bin n cell_of h p in
          let t = mem_bin n cell_of o q in
          omega (arith, only_home g good (cell_of i) s l (lead_at i i r.1 t.1))

      there : (p : ℕ × ℕ) → Across (bin n cell_of h) (bin n cell_of o) p → Seen h s p
      there p (l, inl u) =
          let r = mem_bin n cell_of h u.0 in
          let t = mem_bin n cell_of o u.1 in
          ((l, t.0), inl (sym r.1, lead_at p.0 p.1 r.1 t.1))
      there p (l, inr u) =
          let r = mem_bin n cell_of h u.0 in
          let t = mem_bin n cell_of o u.1 in
          ((l, r.0), inr (sym r.1, lead_at p.1 p.0 r.1 t.1))

      is_other : (i j : ℕ) → i < n → j < n → h ≡ cell_of i → LeadsBy g (way s) (cell_of i) (cell_of j) → cell_of j ≡ o
      is_other i j hi hj u w = to_inj (cell_of j) o (sym (leads_reached h s i j l hi hj u w) ∙ e)

      here : (p : ℕ × ℕ) → Seen h s p → Across (bin n cell_of h) (bin n cell_of o) p
      here p ((l, m), inl u) =
          (l, inl (bin_mem n cell_of h (omega arith) (sym u.0), bin_mem n cell_of o m (is_other p.0 p.1 (omega arith) m u.0 u.1)))
      here p ((l, m), inr u) =
          (l, inr (bin_mem n cell_of h m (sym u.0), bin_mem n cell_of o (omega arith) (is_other p.1 p.0 m (omega arith) u.0 u.1)))

  visit_exactly : (h : Cell) (s : ℕ) → InGrid g h → s < 14 → Exactly (Seen h s) (visit g (bin n cell_of) h s)
  unfolding visit Seen
  visit_exactly h s k l = go s l (reached g h s) refl
    where
      nowhere : (s : ℕ) → s < 14 → reached g h s ≡ None → (p : ℕ × ℕ) → Seen h s p → ⊥
      nowhere s l e p ((lt, m), inl u) = nowhere_to _ (sym e ∙ leads_reached h s p.0 p.1 l (omega arith) m u.0 u.1)
      nowhere s l e p ((lt, m), inr u) = nowhere_to _ (sym e ∙ leads_reached h s p.1 p.0 l m (omega arith) u.0 u.1)

      go : (s : ℕ) → s < 14 → (o : Option Cell) → reached g h s ≡ o → Exactly (Seen h s) (met (bin n cell_of) h s o)
      go s l None e = record { sound = λ p m. absurd (Memᴰ.not-nil m); complete = λ p w. absurd (nowhere s l e p w); once = tt }
      go zero l (Some o) e = home_exactly h
      go (suc s) l (Some o) e = other_exactly h o (suc s) k (omega arith) l e

  -- what the rows list from one home cell, then along z, y and x
  SeenRow : Cell → ℕ × ℕ → Type 0
  SeenRow h p = (s : ℕ) × (s < 14) × Seen h s p

  row_once : (h k : Cell) (p : ℕ × ℕ) → SeenRow h p → SeenRow k p → h ≡ k
  unfolding SeenRow
  row_once h k p a b = (seen_once h k a.0 b.0 a.1 b.1 p a.2 b.2).0

  SeenZ : ℕ → ℕ → ℕ × ℕ → Type 0
  SeenZ x y p = (z : ℕ) × (z < g.z.size) × SeenRow (record { x = x; y = y; z = z }) p

  SeenY : ℕ → ℕ × ℕ → Type 0
  SeenY x p = (y : ℕ) × (y < g.y.size) × SeenZ x y p

  SeenX : ℕ × ℕ → Type 0
  SeenX p = (x : ℕ) × (x < g.x.size) × SeenY x p

  seen_exactly : Exactly SeenX (pairs_of g (bin n cell_of))
  unfolding pairs_of cell_pairs SeenX SeenY SeenZ SeenRow
  seen_exactly =
      exactly_each SeenY _ g.x.size
      (λ x hx.
      exactly_each (SeenZ x) _ g.y.size
      (λ y hy.
      exactly_each (λ z. SeenRow (record { x = x; y = y; z = z })) _ g.z.size
      (λ z hz.
      exactly_each (λ s. Seen (record { x = x; y = y; z = z }) s) _ 14
      (λ s hs. visit_exactly (record { x = x; y = y; z = z }) s (hx, hy, hz) hs) (λ s t hs ht p a b. (seen_once _ _ s t hs ht p a b).1))
      (λ z w hz hw p a b. ap (λ (c : Cell). c.z) (row_once _ _ p a b)))
      (λ y w hy hw p a b. ap (λ (c : Cell). c.y) (row_once _ _ p a.2 b.2)))
      (λ x w hx hw p a b. ap (λ (c : Cell). c.x) (row_once _ _ p a.2.2 b.2.2))

  seen_near : (p : ℕ × ℕ) → SeenX p → Near g n cell_of p
  unfolding SeenX SeenY SeenZ SeenRow Seen
  seen_near p u =
      let v = u.2.2.2.2 in (
        v.0,
        ⊎_elim (λ r. way_touching g (way u.2.2.2.0) _ _ r.1)
            (λ r. touching_turned g _ _ (way_touching g (way u.2.2.2.0) _ _ r.1)) v.1,
      )

  seen_at : (i s : ℕ) (p : ℕ × ℕ) → i < n → s < 14 → Seen (cell_of i) s p → SeenX p
  unfolding SeenX SeenY SeenZ SeenRow
  seen_at i s p h l w =
      let k = placed i h in
      ((cell_of i).x, k.0, ((cell_of i).y, k.1, ((cell_of i).z, k.2, (s, l, w))))

  near_seen : (p : ℕ × ℕ) → Near g n cell_of p → SeenX p
  unfolding Seen
  near_seen p ((l, m), h) =
      ⊎_elim (λ r. seen_at p.0 r.0 p (omega arith) r.1 ((l, m), inl (refl, r.2)))
      (λ r. seen_at p.1 r.0 p m r.1 ((l, m), inr (refl, r.2))) (touching_row g _ _ h)

  -- The traversal lists every two atoms whose cells touch, low before high, nothing else, and nothing twice.
  pub pairs_exactly : Exactly (Near g n cell_of) (pairs_of g (bin n cell_of))
  pairs_exactly = exactly_as (pairs_of g (bin n cell_of)) seen_exactly seen_near near_seen

module _ (g : Grid) (good : GoodGrid g) (n : ℕ) (cell_of : ℕ → Cell) (placed : Placed g n cell_of) where
  -- The number of candidates is the number of touching pairs.
  pub checks_counted : length (pairs_of g (bin n cell_of)) ≡ length (keep (λ (p : ℕ × ℕ). touching g (cell_of p.0) (cell_of p.1)) (all_pairs n))
  checks_counted =
      equally_long _ _ (pairs_exactly g good n cell_of placed) (exactly_keep (λ (p : ℕ × ℕ). touching g (cell_of p.0) (cell_of p.1)) (all_pairs n) (all_exactly n))

  -- With a test on top: exactly the touching pairs that pass it.
  pub kept_exactly : (q : ℕ × ℕ → Bool) → Exactly (λ p. Near g n cell_of p × (q p ≡ true)) (keep q (pairs_of g (bin n cell_of)))
  kept_exactly q = exactly_keep q (pairs_of g (bin n cell_of)) (pairs_exactly g good n cell_of placed)

-- ---- for the code: what a visit is, case by case
module _ (g : Grid) (atoms : Cell → List ℕ) (h : Cell) where
  pub visit_nowhere : (s : ℕ) → reached g h s ≡ None → visit g atoms h s ≡ []
  unfolding visit
  visit_nowhere s e = rw e refl

  pub visit_home : (s : ℕ) (o : Cell) → s ≡ 0 → reached g h s ≡ Some o → visit g atoms h s ≡ inside (atoms h)
  unfolding visit
  visit_home zero o z e = rw e refl
  visit_home (suc s) o z e = absurd (omega arith)

  pub visit_other : (s : ℕ) (o : Cell) → (s ≡ 0 → ⊥) → reached g h s ≡ Some o → visit g atoms h s ≡ across (atoms h) (atoms o)
  unfolding visit
  visit_other zero o z e = absurd (z refl)
  visit_other (suc s) o z e = rw e refl

pub bin_less : (n : ℕ) (cell_of : ℕ → Cell) (c : Cell) (a : ℕ) → a < length (bin n cell_of c) → get_or (bin n cell_of c) a 0 < n
bin_less n cell_of c a h = (mem_bin n cell_of c (get_d_mem 0 (bin n cell_of c) a h)).0

-- ---- how many there can be
pub pairs_few : (g : Grid) → GoodGrid g → (n : ℕ) (cell_of : ℕ → Cell) → Placed g n cell_of → length (pairs_of g (bin n cell_of)) ≤ n * n
pairs_few g good n cell_of placed =
    omega (arith, checks_counted g good n cell_of placed, length_keep (λ (p : ℕ × ℕ). touching g (cell_of p.0) (cell_of p.1)) (all_pairs n), length_all n)

-- the checks figure: the touching pairs that are not excluded
pub checks_free : (g : Grid) → GoodGrid g → (n : ℕ) (cell_of : ℕ → Cell) → Placed g n cell_of → (r : ℕ × ℕ → Bool) → length (keep r (pairs_of g (bin n cell_of))) ≡ length (keep r (keep (λ (p : ℕ × ℕ). touching g (cell_of p.0) (cell_of p.1)) (all_pairs n)))
checks_free g good n cell_of placed r =
    equally_long _ _ (exactly_keep r (pairs_of g (bin n cell_of)) (pairs_exactly g good n cell_of placed))
    (exactly_keep r (keep (λ (p : ℕ × ℕ). touching g (cell_of p.0) (cell_of p.1)) (all_pairs n)) (exactly_keep (λ (p : ℕ × ℕ). touching g (cell_of p.0) (cell_of p.1)) (all_pairs n) (all_exactly n)))
