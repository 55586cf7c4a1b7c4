-- THEOREM. Flags to mask and mask to flags are inverse. Assumes nothing.
use Prim.Native.Nat.{ℕ, zero, suc}
use mathlib.Core.Path.{refl}
use mathlib.Core.Bool.{Bool, true, false}
use native.Mathlib.Omega.{arith}
use Rattle.sheet_written.specs.Written.{mask_of}
use Rattle.sheet_written.specs.Theorems.{FlagsBack, MaskBack}

pub flags_back : (px py pz : Bool) → FlagsBack px py pz
unfolding mask_of
flags_back false false false = (omega arith, refl, refl, refl)
flags_back true false false = (omega arith, refl, refl, refl)
flags_back false true false = (omega arith, refl, refl, refl)
flags_back true true false = (omega arith, refl, refl, refl)
flags_back false false true = (omega arith, refl, refl, refl)
flags_back true false true = (omega arith, refl, refl, refl)
flags_back false true true = (omega arith, refl, refl, refl)
flags_back true true true = (omega arith, refl, refl, refl)

pub mask_back : (mask : ℕ) → MaskBack mask
unfolding mask_of
mask_back zero h = refl
mask_back (suc zero) h = refl
mask_back (suc (suc zero)) h = refl
mask_back (suc (suc (suc zero))) h = refl
mask_back (suc (suc (suc (suc zero)))) h = refl
mask_back (suc (suc (suc (suc (suc zero))))) h = refl
mask_back (suc (suc (suc (suc (suc (suc zero)))))) h = refl
mask_back (suc (suc (suc (suc (suc (suc (suc zero))))))) h = refl
mask_back (suc (suc (suc (suc (suc (suc (suc (suc m)))))))) h = absurd (omega (arith, h))
