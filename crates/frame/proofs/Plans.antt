-- The grid of a frame: the plan by its cases, sizes that fit, and that each atom has a cell of the grid. Assumes nothing.
use Prim.Native.Nat.{ℕ, ◌+◌, ◌*◌, ◌/◌, ◌≤◌, ◌<◌}
use mathlib.Core.Path.{◌≡◌, refl, ap}
use mathlib.Core.Bool.{true, false, ◌||◌}
use mathlib.Core.List.{List}
use native.Mathlib.Nat.{mul-le-mul, mul-le-mul_left, mul-le-mul_right, mul-one, one-mul, div-le_of_le-mul}
use native.Mathlib.Omega.{arith}
use lib.ListN.{length, set}
use lib.Dec.{ltb, leb}
use borrow.Author.Tests.{eq-eqb, ne_eqb, lt-ltb, le-ltb}
use Rattle.lists.specs.Loops.{map_at, part_at}
use Rattle.lists.proofs.Loops.{part_turn, part_done, part_length, part_none}
use Rattle.bins.specs.declared.Axis.{Axis}
use Rattle.bins.specs.declared.Grid.{Grid}
use Rattle.bins.specs.declared.Cell.{Cell}
use Rattle.bins.specs.Edge.{bins_on, bin_on, axis_on}
use Rattle.bins.specs.Stencil.{InGrid, flatten, cells}
use Rattle.bins.proofs.EdgeLaws.{bin_in}
use Rattle.bins.proofs.FlatLaws.{flatten_less}
use Rattle.frame.specs.declared.Frame.{Frame}
use Rattle.frame.specs.declared.Spot.{Spot}
use Rattle.bins.specs.declared.Plan.TheVariants.{AllPairs, Laid, TooMany}
use Rattle.frame.specs.Laying.{grid_of, cell_of_spot, narrow, plain_of, crowded, home_at}
use Rattle.frame.specs.Steps.{Inside, Gridded, plan_of}

-- a factor of a product that is at most m
pub factor_first : (a b c : ℕ) {m : ℕ} → 1 ≤ b → 1 ≤ c → a * b * c ≤ m → a ≤ m
factor_first a b c hb hc h = omega (arith, mul-le-mul_left a hb, mul-one a, mul-le-mul_left (a * b) hc, mul-one (a * b))

pub factor_second : (a b c : ℕ) {m : ℕ} → 1 ≤ a → 1 ≤ c → a * b * c ≤ m → b ≤ m
factor_second a b c ha hc h = omega (arith, mul-le-mul_right b ha, one-mul b, mul-le-mul_left (a * b) hc, mul-one (a * b))

pub factor_third : (a b c : ℕ) {m : ℕ} → 1 ≤ a → 1 ≤ b → a * b * c ≤ m → c ≤ m
factor_third a b c ha hb h =
    let p : 1 ≤ a * b = omega (arith, mul-le-mul_left a hb, mul-one a) in omega (arith, mul-le-mul_right c p, one-mul c)

pub product_small : {a b : ℕ} (m n : ℕ) → a ≤ m → b ≤ n → a * b ≤ m * n
product_small {a} {b} m n h k = mul-le-mul {n₁ = a} {m₁ = b} {n₂ = m} {m₂ = n} h k

pub bin_most : (edge bins c : ℕ) → c < edge → c * bins / edge ≤ bins
bin_most edge bins c h = div-le_of_le-mul edge (mul-le-mul_right bins (omega arith))

-- ---- the plan
module _ (f : Frame) (starts : ℕ) where
  pub plan_zero : f.radius ≡ 0 → AllPairs ≡ plan_of f starts
  unfolding plan_of plain_of
  plan_zero h = rw (eq-eqb f.radius 0 h)

  module _ (some : f.radius ≡ 0 → ⊥) where
    pub plan_narrow : narrow f.x f.radius || narrow f.y f.radius || narrow f.z f.radius ≡ true → AllPairs ≡ plan_of f starts
    unfolding plan_of plain_of
    plan_narrow h = rw (ne_eqb f.radius 0 some, h)

    module _ (wide : narrow f.x f.radius || narrow f.y f.radius || narrow f.z f.radius ≡ false) {k : ℕ} (is : k ≡ cells (grid_of f)) where
      pub plan_few : k < 8 → AllPairs ≡ plan_of f starts
      unfolding plan_of plain_of
      plan_few h = rw (ne_eqb f.radius 0 some, wide, ← is, lt-ltb k 8 h)

      module _ (many : 8 ≤ k) where
        pub plan_crowded : ltb 32768 k || leb starts k ≡ true → TooMany ≡ plan_of f starts
        unfolding plan_of plain_of crowded
        plan_crowded h = rw (ne_eqb f.radius 0 some, wide, ← is, le-ltb k 8 many, h)

        pub plan_laid : ltb 32768 k || leb starts k ≡ false → {g : Grid} → g ≡ grid_of f → Laid g ≡ plan_of f starts
        unfolding plan_of plain_of crowded
        plan_laid h e = rw (ne_eqb f.radius 0 some, wide, ← is, le-ltb k 8 many, h, e)

  pub cells_are : {a b c : ℕ} → a ≡ bins_on f.x.edge f.radius → b ≡ bins_on f.y.edge f.radius → c ≡ bins_on f.z.edge f.radius → a * b * c ≡ cells (grid_of f)
  unfolding cells grid_of axis_on
  cells_are p q r = rw (p, q, r)

  pub grid_is : {x y z : Axis} {a b c : ℕ} → a ≡ bins_on f.x.edge f.radius → b ≡ bins_on f.y.edge f.radius → c ≡ bins_on f.z.edge f.radius
      → x ≡ record { size = a; round = f.x.round } → y ≡ record { size = b; round = f.y.round } → z ≡ record { size = c; round = f.z.round }
      → record { x = x; y = y; z = z } ≡ grid_of f
  unfolding grid_of axis_on
  grid_is p q r ex ey ez = rw (ex, ey, ez, p, q, r)

-- ---- the cell of an atom
module _ (f : Frame) (a : Spot) where
  pub cell_made : {g : Grid} {x y z : ℕ} → g ≡ grid_of f → x ≡ bin_on f.x.edge g.x.size a.x → y ≡ bin_on f.y.edge g.y.size a.y → z ≡ bin_on f.z.edge g.z.size a.z
      → record { x = x; y = y; z = z } ≡ cell_of_spot f a
  unfolding cell_of_spot grid_of axis_on
  cell_made e p q r = rw (p, q, r, e)

  pub in_grid : Inside f a → InGrid (grid_of f) (cell_of_spot f a)
  unfolding grid_of axis_on cell_of_spot
  in_grid h = (bin_in f.x.edge f.radius a.x h.x, bin_in f.y.edge f.radius a.y h.y, bin_in f.z.edge f.radius a.z h.z)

  pub place_small : (g : Grid) → Gridded f g → Inside f a → flatten (grid_of f) (cell_of_spot f a) < 32768
  place_small g w h =
      let e : cells g ≡ cells (grid_of f) = ap cells w.is in
      omega (arith, flatten_less (grid_of f) (cell_of_spot f a) (in_grid h), w.few)

  pub place_is : {g : Grid} {c : Cell} {r : ℕ} → g ≡ grid_of f → c ≡ cell_of_spot f a → r ≡ flatten g c → r ≡ flatten (grid_of f) (cell_of_spot f a)
  place_is e q p = rw (← e, ← q) p

-- ---- the places of the first atoms, so far
pub record Filling (f : Frame) (xs old new : List ℕ) (i : ℕ) : Type 0 where
  pub within : i ≤ length old
  pub same : length new ≡ length old
  pub part : new ≡ part_at (λ k _. home_at f xs k) i old

module _ (f : Frame) (xs old : List ℕ) where
  pub filling_begin : Filling f xs old old 0
  filling_begin = record { within = omega arith; same = refl; part = part_none (λ k _. home_at f xs k) 0 old }

  pub filling_turn : {new : List ℕ} {i p : ℕ} → Filling f xs old new i → i < length new → p ≡ home_at f xs i → Filling f xs old (set new i p) (i + 1)
  filling_turn {new} {i} {p} h l e =
      let lt : i < length old = omega (arith, h.same) in
      let q = part_turn (λ k _. home_at f xs k) 0 i old lt h.part e in
      record { within = omega arith; same = part_length (λ k _. home_at f xs k) 0 (i + 1) old q; part = q }

  pub filling_end : {new : List ℕ} {i : ℕ} → Filling f xs old new i → length new ≤ i → new ≡ map_at (λ k _. home_at f xs k) old
  filling_end {new} {i} h l =
      let e : i ≡ length old = omega (arith, h.within, h.same) in part_done (λ k _. home_at f xs k) 0 i old e h.part
