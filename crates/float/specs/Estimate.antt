-- An estimate of a root: from the bits of x the first digits of 1 / root, three of Newton's steps for it, and one for the root. These are the code's operations; nobody has to believe
-- anything of their value, for the root from any guess at all is `rootOf`. Definitions only.
use Rattle.std.specs.Prelude.{◌-◌, ◌/◌, ◌%◌, ◌^◌, cond, from_bits, to_bits, Float}
use Rattle.std.specs.Float.{binary64}
use Rattle.std.specs.Float.Ieee.{ne}
use Rattle.float.specs.Arith.{◌⊕◌, ◌⊖◌, ◌⊗◌, bits}
use Rattle.float.specs.Literals.{f0, half}

-- a, nearer to 1 / root, from half of x
abbrev pub nearer : Float → Float → Float
nearer h a = a ⊗ (bits 0x3ff8_0000_0000_0000 ⊖ h ⊗ a ⊗ a)

-- d is about 1 / root
abbrev pub last_step : Float → Float → Float
last_step x d = x ⊗ d ⊕ half ⊗ d ⊗ (x ⊖ x ⊗ d ⊗ (x ⊗ d))

abbrev pub first_digits : Float → Float
first_digits x = from_bits binary64 (6910469410427058089 - to_bits binary64 x / 2 % 2 ^ 62)

-- of a number
unfoldable pub newton_of : Float → Float
newton_of x = let h = half ⊗ x in last_step x (nearer h (nearer h (nearer h (first_digits x))))

-- of any float: a not-a-number has the estimate of 0
unfoldable pub estimate_of : Float → Float
estimate_of x = newton_of (cond (ne x x) f0 x)
