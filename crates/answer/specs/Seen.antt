-- What an answer shows: the number and place that 01's table gives to each refusal, and the value of an answered call. Definitions only.
use Rattle.std.specs.Prelude.{ℕ, Result, Ok, Err}
use Rattle.answer.specs.declared.Refusal.{Refusal}
use Rattle.answer.specs.declared.Refusal.TheVariants.{Lengths, TooMany, Range, Drifted, NotThere, Order, HouseOrder, Claims, Cells, Room, Malformed, Again, Absent}

-- 01, "Refusal numbers", the column "No."
abbrev pub number_of : Refusal → ℕ
number_of Lengths = 1
number_of (TooMany n) = 2
number_of Range = 3
number_of Drifted = 3
number_of (NotThere k) = 4
number_of Order = 5
number_of HouseOrder = 5
number_of Claims = 6
number_of Cells = 7
number_of (Room n) = 8
number_of (Malformed k) = 9
number_of (Again k) = 10
number_of (Absent k) = 11

-- "Each carries a place, 0 unless named"
abbrev pub place_of : Refusal → ℕ
place_of Lengths = 0
place_of (TooMany n) = n
place_of Range = 0
place_of Drifted = 1
place_of (NotThere k) = k
place_of Order = 0
place_of HouseOrder = 1
place_of Claims = 0
place_of Cells = 0
place_of (Room n) = n
place_of (Malformed k) = k
place_of (Again k) = k
place_of (Absent k) = k

-- the place of 11 where no header is there
abbrev pub no_header : ℕ
no_header = 0xffff_ffff

-- What a caller sees of any answer: a value, or a refusal's number and place.
pub data Seen (A : Type 0) : Type 0 where
  answered : A → Seen A
  refused : (number place : ℕ) → Seen A

abbrev pub refused_by : {A : Type 0} → Refusal → Seen A
refused_by r = refused (number_of r) (place_of r)

abbrev pub seen : {A : Type 0} → Result A Refusal → Seen A
seen (Ok x) = answered x
seen (Err r) = refused_by r
