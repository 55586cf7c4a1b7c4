-- |x + x| is |x| + |x|: a rounded fraction keeps its magnitude under either sign. Assumes nothing.
use mathlib.Core.Path.{◌≡◌, refl, ap, ◌∙◌}
use mathlib.Core.Bool.{Bool, true, false, cond}
use Prim.Native.Nat.{ℕ, zero, suc, ◌+◌, ◌*◌, ◌^◌}
use lib.Dec.{ltb}
use lib.Ieee.{Float, nan, inf, fin, Format, binary64, prec, emax, low, up, down, odd, units, round, sum, add}
use Rattle.float.specs.Def.{abs_of}

odd_abs : (d : ℕ) (s : Bool) (q k l : ℕ) → abs_of (odd d s q k l) ≡ odd d false q k l
unfolding abs_of odd
odd_abs d s zero k l = refl
odd_abs d s (suc q) k l = refl

cond_abs : (b : Bool) (x : Float) (s : Bool) → abs_of (cond b x (inf s)) ≡ cond b (abs_of x) (inf false)
unfolding abs_of
cond_abs true x s = refl
cond_abs false x s = refl

units_abs : (f : Format) (s : Bool) (q k : ℕ) → abs_of (units f s q k) ≡ units f false q k
unfolding units
units_abs f s q k =
    let b = ltb (q * 2 ^ k) (2 ^ (low f + suc (emax f))) in
    cond_abs b (odd (suc (prec f)) s q k (low f)) s ∙ ap (λ (z : Float). cond b z (inf false)) (odd_abs (suc (prec f)) s q k (low f))

round_abs : (f : Format) (s : Bool) (a c : ℕ) → abs_of (round f s a c) ≡ round f false a c
unfolding round
round_abs f s a c = units_abs f s _ _

pub twice : (x : Float) → abs_of (add binary64 x x) ≡ add binary64 (abs_of x) (abs_of x)
unfolding abs_of add sum
twice nan = refl
twice (inf true) = refl
twice (inf false) = refl
twice (fin true m e) = round_abs binary64 true (m * up e * down e + m * up e * down e) (down e * down e)
twice (fin false m e) = round_abs binary64 false (m * up e * down e + m * up e * down e) (down e * down e)
