-- How many boxes the minimum image takes off a difference: 02, No. 2, in the reading of docs/CALLS-02.md. Definitions only.
use Rattle.std.specs.Prelude.{Bool, cond, ◌&&◌, pos, Float}
use Rattle.std.specs.Float.Ieee.{neg, lt, le, to_signed}
use Rattle.float.specs.Arith.{bits}
use Rattle.float.specs.Def.{round_of}
use Rattle.cell.specs.declared.Triple.{Triple}
use Rattle.cell.specs.declared.Uncounted.{Uncounted}
use Rattle.cell.specs.declared.Uncounted.TheVariants.{NoFit}
use Rattle.std.specs.Prelude.{Result, Ok, Err}

-- what the source rounds and takes off on a periodic axis, the quotient or the fraction q; 0 on an open one
unfoldable pub rounded_of : Bool → Float → Float
rounded_of p q = cond p (round_of q) (bits 0)

-- A whole number from -2^31 to 2^31 - 1: no infinity and no not-a-number.
abbrev pub past_whole : Float
past_whole = bits 0x41e0_0000_0000_0000

unfoldable pub fits_of : Float → Bool
fits_of r = le (neg past_whole) r && lt r past_whole

-- "as signed 32-bit numbers, or the word that a count doesn't fit": one that doesn't leaves none of the three. -0 is 0.
abbrev pub triple : Float → Float → Float → Triple
triple x y z = record { x = to_signed 31 x; y = to_signed 31 y; z = to_signed 31 z }

unfoldable pub counted_of : Float → Float → Float → Result Triple Uncounted
counted_of x y z = cond (fits_of x && fits_of y && fits_of z) (Ok (triple x y z)) (Err NoFit)

-- "An open axis counts zero, so does a missing cell."
abbrev pub no_boxes : Result Triple Uncounted
no_boxes = Ok (record { x = pos 0; y = pos 0; z = pos 0 })
