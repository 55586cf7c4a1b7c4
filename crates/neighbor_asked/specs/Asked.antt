-- 01's ranges of a list's settings, and its order of refusals. Definitions only.
use Rattle.std.specs.Prelude.{Err, Ok, Result}
use Rattle.answer.specs.declared.Refusal.{Refusal}
use Rattle.std.specs.Prelude.{ℕ, Bool, cond, ◌&&◌, Float}
use Rattle.float.specs.Arith.{bits}
use Rattle.ranges.specs.Ranged.{within, between}
use Rattle.answer.specs.declared.Refusal.TheVariants.{Lengths, TooMany, Range, Claims}
use Rattle.cell.specs.Ranged.{entry_limit}

-- "Cutoff 0 to 2^20; skin -2^20 to 2^20"
unfoldable pub settings_ok : Float → Float → Bool
settings_ok cutoff skin = between (bits 0) entry_limit cutoff && within entry_limit skin

-- 01: "Tested in number order, but 6 right after 2": 1, 2, 6, 3, each by whether it is to be given
abbrev pub in_order : (lengths many : Bool) → (atoms : ℕ) → (claims range : Bool) → Result (Unit {0}) Refusal
in_order lengths many atoms claims range =
    cond lengths (Err Lengths) (cond many (Err (TooMany atoms)) (cond claims (Err Claims) (cond range (Err Range) (Ok tt))))

-- the first refusal of two tests
unfoldable pub first_refusal : Result (Unit {0}) Refusal → Result (Unit {0}) Refusal → Result (Unit {0}) Refusal
first_refusal (Err r) d = Err r
first_refusal (Ok tt) d = d
