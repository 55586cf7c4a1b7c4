-- The floats that the Rust writes as literals, each once. Definitions only.
use Rattle.std.specs.Prelude.{Float}
use Rattle.float.specs.Arith.{bits}

abbrev pub f0 : Float
f0 = bits 0

abbrev pub half : Float
half = bits 0x3fe0_0000_0000_0000

abbrev pub f1 : Float
f1 = bits 0x3ff0_0000_0000_0000

abbrev pub f2 : Float
f2 = bits 0x4000_0000_0000_0000

abbrev pub f3 : Float
f3 = bits 0x4008_0000_0000_0000

abbrev pub f4 : Float
f4 = bits 0x4010_0000_0000_0000

abbrev pub f6 : Float
f6 = bits 0x4018_0000_0000_0000

-- 1e-12
abbrev pub tiny : Float
tiny = bits 0x3d71_9799_812d_ea11
