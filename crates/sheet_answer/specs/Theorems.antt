-- THEOREM (00, C.2): "An accepted sheet with its whole lines in another order prints the same." proofs/AnyOrder.antt proves it of every input. Definitions only.
use Rattle.std.specs.Prelude.{ℕ, ◌≤◌, ◌≡◌, length}
use mathlib.Core.List.{List, Perm}
use Rattle.answer.specs.Seen.{answered}
use Rattle.sheet_lines.specs.Grammar.{AllWhole, join_all}
use Rattle.sheet.specs.Reading.{Sound, sheet_of}
use Rattle.sheet_answer.specs.Solve.{printed, solve_of}
use Rattle.sheet_answer.specs.Either.{either_sound, printed_either}

-- an accepted sheet: short enough, and sound
pub record Accepted (s : List ℕ) : Type 0 where
  pub short : length s ≤ 65536
  pub sound : Sound
  pub is : sheet_of s ≡ answered sound

pub record InAnyOrder (s : List ℕ) : Type 0 where
  -- the sheet is whole lines, one after the other, and these alone
  pub lines : List (List ℕ)
  pub whole : AllWhole lines
  pub joined : s ≡ join_all lines
  pub only : (cs : List (List ℕ)) → AllWhole cs → s ≡ join_all cs → cs ≡ lines
  -- in any order they print the same, and `solve` answers and leaves the same
  pub prints : (ds : List (List ℕ)) → Perm lines ds → printed (join_all ds) ≡ printed s
  pub solves : (ds : List (List ℕ)) → Perm lines ds → (out : List ℕ) → solve_of (join_all ds) out ≡ solve_of s out

abbrev pub AcceptedInAnyOrder : List ℕ → Type 0
AcceptedInAnyOrder s = Accepted s → InAnyOrder s

-- The same of sheets of either form (02, No. 9: "Demand 2's line order covers accepted sheets of each form").
abbrev pub EitherPrints : List ℕ → Type 0
EitherPrints s =
    (a : Sound) → either_sound s ≡ answered a → (cs ds : List (List ℕ)) → AllWhole cs → s ≡ join_all cs → Perm cs ds → printed_either (join_all ds) ≡ printed_either s

-- A sheet of the first form prints as it did.
abbrev pub FirstPrints : List ℕ → Type 0
FirstPrints s = (a : Sound) → sheet_of s ≡ answered a → printed_either s ≡ printed s
