-- The range tests that decide refusal 3, as Bool definitions.
use Rattle.std.specs.Prelude.{Float, Bool, ◌&&◌}
use Rattle.std.specs.Float.Ieee.{le}
use Rattle.float.specs.Def.{abs_of}

-- finite and of magnitude at most the limit: a not-a-number compares as false, an infinity is above each finite limit
unfoldable pub within : Float → Float → Bool
within limit x = le (abs_of x) limit

unfoldable pub between : Float → Float → Float → Bool
between low high x = le low x && le x high
