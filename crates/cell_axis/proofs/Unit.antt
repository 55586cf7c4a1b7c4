-- `nearest-one`: x - round(x) is the formula at len 1, for a division and a product by 1 change nothing. Assumes nothing.
use mathlib.Core.Path.{◌≡◌, refl, ap, ◌∙◌}
use Prim.Native.Nat.{ℕ, ◌*◌}
use native.Mathlib.Nat.{mul-one, one-mul, mul-pos, zero-lt-suc}
use mathlib.Core.Bool.{Bool, true, false}
use lib.IntN.{ℤ}
use lib.Dec.{T}
use lib.Ieee.{Float, nan, inf, fin, binary64, up, down, sub, mul, div, fits, round}
use lib.Ieee.Fits.{down_pos, nan-fits, inf-fits, round-fits}
use Rattle.float.specs.Def.{round_of}
use Rattle.float.proofs.Unique.{round_own}
use Rattle.float.proofs.Whole.{one+}
use Rattle.cell_axis.specs.Image.{nearest_of, fraction_of}

div_fin : (s : Bool) (m : ℕ) (e : ℤ) → div binary64 (fin s m e) one+ ≡ round binary64 s (m * up e * 1) (1 * 1 * down e)
unfolding div
div_fin true m e = refl
div_fin false m e = refl

by_one : (x : Float) → T (fits binary64 x) → div binary64 x one+ ≡ x
by_one nan F = unfold div in refl
by_one (inf true) F = unfold div in refl
by_one (inf false) F = unfold div in refl
by_one (fin s m e) F = div_fin s m e ∙ round_own binary64 (fin s m e) s (m * up e * 1) (1 * 1 * down e) (mul-pos (mul-pos (zero-lt-suc 0) (zero-lt-suc 0)) (down_pos e)) F (refl, flat (m * up e) (down e))
  where
    flat : (a b : ℕ) → a * (1 * 1 * b) ≡ a * 1 * b
    flat a b = simp (mul-one, one-mul)

mul_fin : (s : Bool) (m : ℕ) (e : ℤ) → mul binary64 one+ (fin s m e) ≡ round binary64 s (1 * 1 * (m * up e)) (1 * down e)
unfolding mul
mul_fin true m e = refl
mul_fin false m e = refl

one_by : (x : Float) → T (fits binary64 x) → mul binary64 one+ x ≡ x
one_by nan F = unfold mul in refl
one_by (inf true) F = unfold mul in refl
one_by (inf false) F = unfold mul in refl
one_by (fin s m e) F = mul_fin s m e ∙ round_own binary64 (fin s m e) s (1 * 1 * (m * up e)) (1 * down e) (mul-pos (zero-lt-suc 0) (down_pos e)) F (refl, flat (m * up e) (down e))
  where
    flat : (a b : ℕ) → a * (1 * b) ≡ 1 * 1 * a * b
    flat a b = simp (mul-one, one-mul)

round_of_fits : (x : Float) → T (fits binary64 (round_of x))
unfolding round_of
round_of_fits nan = nan-fits binary64
round_of_fits (inf s) = inf-fits binary64 s
round_of_fits (fin s m e) = round-fits binary64 s _ 1

pub nearest_one : (x : Float) → T (fits binary64 x) → nearest_of one+ x ≡ fraction_of x
unfolding nearest_of fraction_of
nearest_one x F = ap (λ (z : Float). sub binary64 x (mul binary64 one+ (round_of z))) (by_one x F) ∙ ap (λ (z : Float). sub binary64 x z) (one_by (round_of x) (round_of_fits x))
