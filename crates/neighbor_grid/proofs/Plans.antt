-- The plan by its cases. Assumes nothing.
use Prim.Native.Nat.{ℕ, ◌*◌, ◌≤◌, ◌<◌}
use mathlib.Core.Path.{◌≡◌}
use mathlib.Core.Logic.{⊎_elim}
use mathlib.Core.Bool.{true, false, ◌||◌}
use native.Mathlib.Nat.{mul-le-mul, mul-le-mul_left, mul-le-mul_right, mul-one, one-mul}
use native.Mathlib.Omega.{arith}
use lib.Ieee.{Float, le}
use Rattle.float.specs.Arith.{bits}
use lib.Dec.{ltb, leb}
use borrow.Author.Tests.{ltb-true, ltb-false, lt-ltb, le-ltb}
use Rattle.lists.proofs.Cases.{or_cases, or_neither}
use Rattle.bins.specs.declared.Grid.{Grid}
use Rattle.bins.specs.Stencil.{cells}
use Rattle.neighbor_grid.specs.declared.measuring.Measure.{Measure}
use Rattle.bins.specs.declared.Plan.{Plan}
use Rattle.bins.specs.declared.Plan.TheVariants.{AllPairs, TooMany, Laid}
use Rattle.neighbor_grid.specs.Grid.{bins_in, size_of, grid_by, narrow, plain_by, crowded_by}
use Rattle.neighbor_grid.specs.Steps.{sized, plan_sizes, plan_of}

-- a product of three is no less than each of them
module _ (a b c : ℕ) (ha : 1 ≤ a) (hb : 1 ≤ b) (hc : 1 ≤ c) where
  pub over_first : a ≤ a * b * c
  over_first = omega (arith, mul-le-mul_left a hb, mul-one a, mul-le-mul_left (a * b) hc, mul-one (a * b))

  pub over_second : b ≤ a * b * c
  over_second = omega (arith, mul-le-mul_right b ha, one-mul b, mul-le-mul_left (a * b) hc, mul-one (a * b))

  pub over_third : c ≤ a * b * c
  over_third = let p : 1 ≤ a * b = omega (arith, mul-le-mul_left a hb, mul-one a) in omega (arith, mul-le-mul_right c p, one-mul c)

  pub over_all : ltb 32768 a || ltb 32768 b || ltb 32768 c ≡ true → 32768 < a * b * c
  over_all h =
      ⊎_elim
      (λ p. ⊎_elim (λ q. omega (arith, ltb-true 32768 a q, over_first)) (λ q. omega (arith, ltb-true 32768 b q, over_second)) (or_cases (ltb 32768 a) (ltb 32768 b) p))
      (λ p. omega (arith, ltb-true 32768 c p, over_third))
      (or_cases (ltb 32768 a || ltb 32768 b) (ltb 32768 c) h)

-- what is left of the sizes where none is long
pub none_long : (a b c : ℕ) → ltb 32768 a || ltb 32768 b || ltb 32768 c ≡ false → (a ≤ 32768) × (b ≤ 32768) × (c ≤ 32768)
none_long a b c h =
    let p = or_neither (ltb 32768 a || ltb 32768 b) (ltb 32768 c) h in
    let q = or_neither (ltb 32768 a) (ltb 32768 b) p.0 in
    (ltb-false 32768 a q.0, ltb-false 32768 b q.1, ltb-false 32768 c p.1)

pub two_fit : {a b : ℕ} → a ≤ 32768 → b ≤ 32768 → a * b ≤ 1073741824
two_fit {a} {b} h k = mul-le-mul {n₁ = a} {m₁ = b} {n₂ = 32768} {m₂ = 32768} h k

pub three_fit : {a b c : ℕ} → a ≤ 32768 → b ≤ 32768 → c ≤ 32768 → a * b * c ≤ 35184372088832
three_fit {a} {b} {c} h k l = mul-le-mul {n₁ = a * b} {m₁ = c} {n₂ = 1073741824} {m₂ = 32768} (two_fit h k) l

module _ (m : Measure) (nx ny nz starts : ℕ) where
  pub plan_narrow : narrow (sized m nx ny nz).x || narrow (sized m nx ny nz).y || narrow (sized m nx ny nz).z ≡ true → AllPairs ≡ plan_sizes (sized m nx ny nz) starts
  unfolding plan_sizes plain_by
  plan_narrow h = rw h

  module _ (wide : narrow (sized m nx ny nz).x || narrow (sized m nx ny nz).y || narrow (sized m nx ny nz).z ≡ false) where
    pub plan_long : 32768 < nx * ny * nz → TooMany ≡ plan_sizes (sized m nx ny nz) starts
    unfolding plan_sizes plain_by crowded_by cells
    plan_long h = rw (wide, le-ltb (nx * ny * nz) 8 (omega arith), lt-ltb 32768 (nx * ny * nz) h)

    pub plan_few : nx * ny * nz < 8 → AllPairs ≡ plan_sizes (sized m nx ny nz) starts
    unfolding plan_sizes plain_by cells
    plan_few h = rw (wide, lt-ltb (nx * ny * nz) 8 h)

    module _ (many : 8 ≤ nx * ny * nz) where
      pub plan_crowded : ltb 32768 (nx * ny * nz) || leb starts (nx * ny * nz) ≡ true → TooMany ≡ plan_sizes (sized m nx ny nz) starts
      unfolding plan_sizes plain_by crowded_by cells
      plan_crowded h = rw (wide, le-ltb (nx * ny * nz) 8 many, h)

      pub plan_laid : ltb 32768 (nx * ny * nz) || leb starts (nx * ny * nz) ≡ false → {g : Grid} → g ≡ sized m nx ny nz → Laid g ≡ plan_sizes (sized m nx ny nz) starts
      unfolding plan_sizes plain_by crowded_by cells
      plan_laid h e = rw (wide, le-ltb (nx * ny * nz) 8 many, h, e)

  pub plan_by : {p : Plan} (r : Float) → le r (bits 0) || m.singular ≡ false
      → nx ≡ size_of (bins_in m.widths.x r) → ny ≡ size_of (bins_in m.widths.y r) → nz ≡ size_of (bins_in m.widths.z r)
      → p ≡ plan_sizes (sized m nx ny nz) starts → p ≡ plan_of m r starts
  unfolding plan_of grid_by
  plan_by r h ex ey ez e = rw (h, ← ex, ← ey, ← ez) e
