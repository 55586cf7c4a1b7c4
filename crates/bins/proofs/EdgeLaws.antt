-- One axis of whole numbers: what is near lies in bins that touch. Over the edge and the number of bins. Assumes nothing.
use mathlib.Core.Path.{◌≡◌, refl, ap}
use mathlib.Core.Logic.{inl, inr, ⊎_elim}
use mathlib.Core.Bool.{Bool, true, false}
use Prim.Native.Nat.{ℕ, ◌+◌, ◌-◌, ◌*◌, ◌/◌, ◌≤◌, ◌<◌}
use native.Mathlib.Omega.{arith}
use native.Mathlib.Nat.{eq-zero-or-pos, add-mul, mul_comm, mul-le-mul_right, div-mul-le_self, lt-div-mul-add, div-lt_iff_lt-mul, le-div_iff_mul-le, div-eq_of_lt}
use Rattle.lists.proofs.Cases.{below_or}
use Rattle.bins.specs.Axis.{Good, touch}
use Rattle.bins.specs.Edge.{bins_on, bin_on, gap, distance, axis_on}
use Rattle.bins.proofs.AxisLaws.{back, stay, on, Leads-touch}

-- ---- bins that are at least as wide as r
module _ (E n r : ℕ) (pos : 0 < E) (some : 0 < n) where
  -- the bin's number is below n
  bin_below : (c : ℕ) → c < E → c * n / E < n
  bin_below c h =
      let b : (c + 1) * n ≤ E * n = mul-le-mul_right n (omega arith) in
      (div-lt_iff_lt-mul pos).1 (omega (arith, add-mul c 1 n, mul_comm E n))

  bin_mono : (c d : ℕ) → c ≤ d → c * n / E ≤ d * n / E
  bin_mono c d h =
      let b : c * n ≤ d * n = mul-le-mul_right n h in
      (le-div_iff_mul-le pos).1 (omega (arith, div-mul-le_self (c * n) E))

  module _ (wide : n * r ≤ E) where
    -- not further than r on: the same bin or the next
    next_bin : (c d : ℕ) → d ≤ c + r → d * n / E ≤ c * n / E + 1
    next_bin c d h =
        let q = c * n / E in
        let a : c * n < q * E + E = lt-div-mul-add pos in
        let b : d * n ≤ (c + r) * n = mul-le-mul_right n h in
        let s : d * n < (q + 2) * E = omega (arith, add-mul c r n, add-mul q 2 E, mul_comm n r) in
        let t : d * n / E < q + 2 = (div-lt_iff_lt-mul pos).1 s in
        omega arith

    first_bin : (c : ℕ) → c < r → c * n / E ≡ 0
    first_bin c h =
        let b : (c + 1) * n ≤ r * n = mul-le-mul_right n (omega arith) in
        div-eq_of_lt (omega (arith, add-mul c 1 n, mul_comm n r))

    last_bin : (d : ℕ) → d < E → E ≤ d + r → d * n / E + 1 ≡ n
    last_bin d k h =
        let m = n - 1 in
        let e : m + 1 ≡ n = omega arith in
        let b : E * n ≤ (d + r) * n = mul-le-mul_right n h in
        let s : m * E ≤ d * n = omega (arith, add-mul d r n, add-mul m 1 E, ap (λ (t : ℕ). t * E) e, mul_comm n r, mul_comm E n) in
        let t : m ≤ d * n / E = (le-div_iff_mul-le pos).1 s in
        omega (arith, bin_below d k)

    -- on an axis of n bins
    near_on : (t : Bool) (c d : ℕ) → gap c d ≤ r → touch (record { size = n; round = t }) (c * n / E) (d * n / E) ≡ true
    unfolding gap
    near_on t c d h = ⊎_elim (λ l. up (bin_mono c d (omega arith)) (next_bin c d (omega arith))) (λ l. down (bin_mono d c l) (next_bin d c (omega arith))) (below_or c d)
      where
        up : c * n / E ≤ d * n / E → d * n / E ≤ c * n / E + 1 → touch (record { size = n; round = t }) (c * n / E) (d * n / E) ≡ true
        up a b = ⊎_elim (λ l. Leads-touch _ _ _ on (inl (omega arith))) (λ l. Leads-touch _ _ _ stay (omega arith)) (below_or (c * n / E) (d * n / E))

        down : d * n / E ≤ c * n / E → c * n / E ≤ d * n / E + 1 → touch (record { size = n; round = t }) (c * n / E) (d * n / E) ≡ true
        down a b = ⊎_elim (λ l. Leads-touch _ _ _ back (inl (omega arith))) (λ l. Leads-touch _ _ _ stay (omega arith)) (below_or (d * n / E) (c * n / E))

    near_round : (c d : ℕ) → c < E → d < E → E - gap c d ≤ r → touch (record { size = n; round = true }) (c * n / E) (d * n / E) ≡ true
    unfolding gap
    near_round c d hc hd h =
        ⊎_elim (λ l. Leads-touch _ _ _ back (inr (refl, last_bin d hd (omega arith), first_bin c (omega arith))))
        (λ l. Leads-touch _ _ _ on (inr (refl, last_bin c hc (omega arith), first_bin d (omega arith)))) (below_or c d)

    near_touch : (t : Bool) (c d : ℕ) → c < E → d < E → distance t E c d ≤ r → touch (record { size = n; round = t }) (c * n / E) (d * n / E) ≡ true
    unfolding distance
    near_touch true c d hc hd h = ⊎_elim (λ l. near_round c d hc hd (omega arith)) (λ l. near_on true c d l) (below_or r (gap c d))
    near_touch false c d hc hd h = near_on false c d h

-- On one axis: coordinates no further apart than the radius are in bins that touch.
pub close_touch : (t : Bool) (e r c d : ℕ) → c < e → d < e → distance t e c d ≤ r → touch (axis_on t e r) (bin_on e (bins_on e r) c) (bin_on e (bins_on e r) d) ≡ true
unfolding axis_on bin_on bins_on
close_touch t e r c d hc hd h = ⊎_elim one many (eq-zero-or-pos (e / r))
  where
    n : ℕ
    n = bins_on e r

    one : e / r ≡ 0 → touch (axis_on t e r) (bin_on e (bins_on e r) c) (bin_on e (bins_on e r) d) ≡ true
    one z =
        let b : n ≡ 1 = omega arith in
        let p = bin_below e n r (omega arith) (omega arith) c hc in
        let q = bin_below e n r (omega arith) (omega arith) d hd in
        Leads-touch (axis_on t e r) _ _ stay (omega arith)

    many : 0 < e / r → touch (axis_on t e r) (bin_on e (bins_on e r) c) (bin_on e (bins_on e r) d) ≡ true
    many z =
        let b : n ≡ e / r = omega arith in
        near_touch e n r (omega arith) (omega arith) (rw b (div-mul-le_self e r)) t c d hc hd h

-- the bin of a coordinate is one of the axis
pub bin_in : (e r c : ℕ) → c < e → bin_on e (bins_on e r) c < bins_on e r
unfolding bin_on bins_on
bin_in e r c h = bin_below e (bins_on e r) r (omega arith) (omega arith) c h

-- an axis that is open, or has three bins, is a good one
pub axis_good : (t : Bool) (e r : ℕ) → (t ≡ true → 3 ≤ e / r) → Good (axis_on t e r)
unfolding axis_on bins_on
axis_good t e r h = (omega arith, λ k. omega (arith, h k))
