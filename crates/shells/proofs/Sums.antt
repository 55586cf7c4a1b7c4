-- The sum of the totals grows by one with each pair. Assumes nothing.
use Prim.Native.Nat.{ℕ, zero, suc, ◌+◌, ◌≤◌, ◌<◌}
use mathlib.Core.Path.{◌≡◌, refl, sym, ap, ◌∙◌}
use mathlib.Core.List.{List, [], ◌∷◌}
use native.Mathlib.Nat.{not-suc-le-zero}
use native.Mathlib.Numerals.{add-one}
use native.Mathlib.Omega.{arith}
use lib.ListN.{length, get_or, set, take, replicate}
use lib.Seq.{take-length}
use Rattle.shells.specs.Shells.{totals_with}
use Rattle.shells.specs.Theorems.{sum_over}
use Rattle.shells.proofs.Totals.{turn, start, grown_long}

abbrev pub sum : List ℕ → ℕ
sum l = sum_over (λ total. total) l

sum_set : (l : List ℕ) (s v : ℕ) → s < length l → sum (set l s v) + get_or l s 0 ≡ sum l + v
unfolding sum_over
sum_set [] s v h = absurd (not-suc-le-zero h)
sum_set (a ∷ l) zero v h = omega arith
sum_set (a ∷ l) (suc s) v h = omega (arith, sum_set l s v (omega arith))

pub sum_zeros : (n : ℕ) → sum (replicate n 0) ≡ 0
unfolding sum_over
sum_zeros zero = refl
sum_zeros (suc n) = omega (arith, sum_zeros n)

pub zero_at : (n k : ℕ) → ◌≡◌ {A = ℕ} (get_or (replicate n 0) k 0) 0
zero_at zero k = refl
zero_at (suc n) zero = refl
zero_at (suc n) (suc k) = zero_at n k

module _ (shell : ℕ × ℕ → ℕ) (ps : List (ℕ × ℕ)) (before : List ℕ) (h : (p : ℕ × ℕ) → shell p < length before) where
  abbrev first : ℕ → List ℕ
  first k = totals_with shell (take k ps) before

  turned : (k : ℕ) → k < length ps → set (first k) (shell (get_or ps k (0, 0))) (get_or (first k) (shell (get_or ps k (0, 0))) 0 + 1) ≡ first (k + 1)
  unfolding totals_with
  turned k l = turn ◌+◌ (λ t. t + 1) (λ t n. omega arith) (λ t. omega arith) shell ps k l before (first k) refl (h (get_or ps k (0, 0))) (get_or (first k) (shell (get_or ps k (0, 0))) 0 + 1) refl

  none : first 0 ≡ before
  unfolding totals_with
  none = sym (start ◌+◌ (λ t. t + 1) (λ t n. omega arith) (λ t. omega arith) shell ps before)

  part : (k : ℕ) → k ≤ length ps → sum (first k) ≡ sum before + k
  part zero l = ap sum none ∙ omega arith
  part (suc k) l =
      let s = shell (get_or ps k (0, 0)) in
      let more = sum_set (first k) s (get_or (first k) s 0 + 1) (rw (grown_long shell (take k ps) before) (h (get_or ps k (0, 0)))) in
      rw (← add-one k) (ap sum (sym (turned k (omega arith))) ∙ omega (arith, more, part k (omega arith)))

  pub sum_grown : sum (totals_with shell ps before) ≡ sum before + length ps
  sum_grown = ap (λ (l : List (ℕ × ℕ)). sum (totals_with shell l before)) (sym (take-length ps)) ∙ part (length ps) (omega arith)
