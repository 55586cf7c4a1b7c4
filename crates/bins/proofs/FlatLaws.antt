-- A cell's place in the tables: below the number of cells, no two cells have the same, and each has a cell. Assumes nothing.
use mathlib.Core.Path.{◌≡◌, sym, ap, ◌∙◌}
use mathlib.Core.Logic.{◌⊎◌, inl, inr, ⊎_elim}
use Prim.Native.Nat.{ℕ, ◌+◌, ◌*◌, ◌/◌, ◌%◌, ◌≤◌, ◌<◌}
use native.Mathlib.Omega.{arith}
use mathlib.Core.List.{List}
use native.Mathlib.Nat.{add-mul, mul-le-mul_right, mul-zero, eq-zero-or-pos, div-lt_iff_lt-mul, mod-lt, div-add-mod'}
use borrow.Author.Tests.{lt-ltb, le-ltb}
use Rattle.lists.specs.Lists.{up_to, each}
use Rattle.lists.proofs.Exactness.{mem_up_to}
use Rattle.lists.proofs.Nested.{loop_two, each_agree}
use Rattle.bins.specs.Traversal.{cell_pairs, pairs_of}
use Rattle.bins.specs.declared.Grid.{Grid}
use Rattle.bins.specs.declared.Cell.{Cell}
use Rattle.bins.specs.Stencil.{InGrid, flatten, cells, home_of}
use Rattle.lists.proofs.Cases.{below_or}
use Rattle.bins.proofs.StencilLaws.{cell_is}

-- two digits
pub two_less : (m n x y : ℕ) → x < m → y < n → x * n + y < m * n
two_less m n x y h k =
    let b : (x + 1) * n ≤ m * n = mul-le-mul_right n (omega arith) in
    omega (arith, add-mul x 1 n)

two_high : (n x y z w : ℕ) → y < n → w < n → x * n + y ≡ z * n + w → x ≤ z
two_high n x y z w h k e =
    ⊎_elim
    (λ l.
    let b : (z + 1) * n ≤ x * n = mul-le-mul_right n (omega arith) in
    absurd (omega (arith, add-mul z 1 n)))
    (λ l. l) (below_or z x)

pub two_inj : (n x y z w : ℕ) → y < n → w < n → x * n + y ≡ z * n + w → (x ≡ z) × (y ≡ w)
two_inj n x y z w h k e =
    let q : x ≡ z = omega (arith, two_high n x y z w h k e, two_high n z w x y k h (sym e)) in
    (q, omega (arith, ap (λ (t : ℕ). t * n) q))

pub flatten_less : (g : Grid) (c : Cell) → InGrid g c → flatten g c < cells g
unfolding flatten cells
flatten_less g c k =
    two_less (g.x.size * g.y.size) g.z.size (c.x * g.y.size + c.y) c.z (two_less g.x.size g.y.size c.x c.y k.0 k.1) k.2

pub flatten_inj : (g : Grid) (a b : Cell) → InGrid g a → InGrid g b → flatten g a ≡ flatten g b → a ≡ b
unfolding flatten
flatten_inj g a b k l e =
    let p = two_inj g.z.size (a.x * g.y.size + a.y) a.z (b.x * g.y.size + b.y) b.z k.2 l.2 e in
    let q = two_inj g.y.size a.x a.y b.x b.y k.1 l.1 p.0 in
    cell_is a b q.0 q.1 p.1

-- ---- the cell at a place
two_first : (m n h : ℕ) → h < m * n → h / n < m
two_first m n h l = by_zero n (eq-zero-or-pos n) l
  where
    by_zero : (n : ℕ) → (n ≡ 0) ⊎ (0 < n) → h < m * n → h / n < m
    by_zero n (inl e) l = absurd (omega (arith, l, ap (λ (t : ℕ). m * t) e, mul-zero m))
    by_zero n (inr p) l = (div-lt_iff_lt-mul p).1 l

two_second : (m n h : ℕ) → h < m * n → h % n < n
two_second m n h l = by_zero n (eq-zero-or-pos n) l
  where
    by_zero : (n : ℕ) → (n ≡ 0) ⊎ (0 < n) → h < m * n → h % n < n
    by_zero n (inl e) l = absurd (omega (arith, l, ap (λ (t : ℕ). m * t) e, mul-zero m))
    by_zero n (inr p) l = mod-lt h p

-- the three numbers of a place, of a grid of a, b and c bins
pub place_parts : (a b c h : ℕ) → h < a * b * c → (0 < b) × (0 < c) × (h / c / b < a) × (h / c % b < b) × (h % c < c)
place_parts a b c h l =
    let q = two_first (a * b) c h l in
    let y = two_second a b (h / c) q in
    let z = two_second (a * b) c h l in
    (omega arith, omega arith, two_first a b (h / c) q, y, z)

pub place_in : (g : Grid) (h : ℕ) {a b c : ℕ} → a ≡ g.x.size → b ≡ g.y.size → c ≡ g.z.size → h < a * b * c → h < cells g
unfolding cells
place_in g h p q r l = rw (← p, ← q, ← r) l

module _ (g : Grid) (h : ℕ) (l : h < cells g) where
  pub home_is : home_of g h ≡ record { x = h / g.z.size / g.y.size; y = h / g.z.size % g.y.size; z = h % g.z.size }
  unfolding home_of
  home_is = rw (lt-ltb h (cells g) l)

  pub home_in : InGrid g (home_of g h)
  unfolding cells
  home_in = let p = place_parts g.x.size g.y.size g.z.size h l in rw home_is (p.2, p.3, p.4)

  pub home_flat : flatten g (home_of g h) ≡ h
  unfolding flatten
  home_flat = rw (home_is, div-add-mod' (h / g.z.size) g.y.size, div-add-mod' h g.z.size)

pub home_past : (g : Grid) (h : ℕ) {a b c : ℕ} → a ≡ g.x.size → b ≡ g.y.size → c ≡ g.z.size → a * b * c ≤ h → record { x = 0; y = 0; z = 0 } ≡ home_of g h
unfolding home_of cells
home_past g h {a} {b} {c} p q r l = rw (← p, ← q, ← r, le-ltb h (a * b * c) l)

-- home cells by x, y, z are the places of the tables in their order
pub pairs_linear : (g : Grid) (atoms : Cell → List ℕ) → pairs_of g atoms ≡ each (λ h. cell_pairs g atoms (home_of g h)) (up_to (cells g))
unfolding pairs_of cells
pairs_linear g atoms =
    let f : ℕ → ℕ → ℕ → List (ℕ × ℕ) = (λ x y z. cell_pairs g atoms (record { x = x; y = y; z = z })) in
    sym (loop_two (λ x y. each (f x y) (up_to g.z.size)) g.y.size g.x.size)
    ∙ sym (loop_two (λ q. f (q / g.y.size) (q % g.y.size)) g.z.size (g.x.size * g.y.size))
    ∙ each_agree (λ h. f (h / g.z.size / g.y.size) (h / g.z.size % g.y.size) (h % g.z.size)) (λ h. cell_pairs g atoms (home_of g h)) (up_to (cells g))
    (λ h m. ap (cell_pairs g atoms) (sym (home_is g h (mem_up_to (cells g) m))))
