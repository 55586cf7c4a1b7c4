-- THEOREMS (02, No. 9 and 10) about what `to_two` and `to_one` answer and leave. proofs/ThereAndBack.antt proves them of every input. Definitions only.
use Rattle.std.specs.Prelude.{ℕ, ◌≤◌, ◌<◌, ◌≡◌, length, get_or, take}
use mathlib.Core.List.{List, Perm}
use Rattle.answer.specs.Seen.{Seen, answered, refused}
use Rattle.lists.specs.Lists.{flat}
use Rattle.sheet_lines.specs.Grammar.{AllWhole, join_all}
use Rattle.sheet.specs.Reading.{Sound, sheet_of}
use Rattle.sheet.specs.Read as reading
use Rattle.sheet.specs.ReadTwo.{SoundTwo, sheet_two}
use Rattle.sheet.specs.declared.Job.{Job}
use Rattle.sheet_either.specs.declared.Formed.{Formed}
use Rattle.sheet_either.specs.Either.{zeroed, either_of}
use Rattle.sheet_written.specs.Write.{write_of, laid_in}
use Rattle.sheet_rewritten.specs.Rewrite.{box_of, rewritten}
use Rattle.sheet_moved.specs.Moved.{to_one_of, to_two_of}

-- "Moving there and back yields the written first form of No. 8": after an answered `to_two`, `to_one` of these bytes lays what `rewrite` gives.
abbrev pub ThereAndBack : (s out : List ℕ) → Type 0
ThereAndBack s out = (n : ℕ) → (to_two_of s out).shown ≡ answered n → (to : List ℕ) → to_one_of (take n (to_two_of s out).out) to ≡ laid_in (rewritten s) to

-- of the second form, rule 1
abbrev pub formed_there : Seen Job → Seen Formed
formed_there (answered j) = answered (record { job = j; form = 2; rule = 1 })
formed_there (refused n p) = refused n p

-- What is written in the second form reads back: as the sheet itself was read, each species 0, of form 2 and rule 1.
abbrev pub TwoReads : (s out : List ℕ) → Type 0
TwoReads s out =
    (n : ℕ) → (to_two_of s out).shown ≡ answered n → (co sp ex : List ℕ) → 3072 ≤ length co → 1024 ≤ length sp → 2048 ≤ length ex
    → either_of (take n (to_two_of s out).out) co sp ex ≡ record { shown = formed_there (reading.read_of s co ex).shown; coordinates = (reading.read_of s co ex).coordinates; species = zeroed (reading.read_of s co ex).shown sp; exclusions = (reading.read_of s co ex).exclusions }

-- "Going back is possible exactly when every species is 0", and "needs rule 1": then it is the writer's, else it is 12, at ffffffff for rule 2, or at the lowest atom that has a species.
-- The rule is 1 or 2 (`HeaderSaysRule` in sheet/specs/Theorems).
pub record GoesBack (s out : List ℕ) (a : SoundTwo) : Type 0 where
  pub possible : a.rule ≡ 1 → ((k : ℕ) → get_or a.species k 0 ≡ 0) → to_one_of s out ≡ write_of (box_of a.sound) a.sound.coords (flat a.sound.rows) out
  pub second_rule : a.rule ≡ 2 → to_one_of s out ≡ record { shown = refused 12 0xffff_ffff; out = out }
  pub typed : a.rule ≡ 1 → (k : ℕ) → k < a.sound.head.atoms → (get_or a.species k 0 ≡ 0 → ⊥) → ((i : ℕ) → i < k → get_or a.species i 0 ≡ 0) → to_one_of s out ≡ record { shown = refused 12 k; out = out }
  pub only : (n : ℕ) → (to_one_of s out).shown ≡ answered n → (a.rule ≡ 1) × ((k : ℕ) → get_or a.species k 0 ≡ 0)

abbrev pub BackExactly : (s out : List ℕ) → Type 0
BackExactly s out = length s ≤ 65536 → (a : SoundTwo) → sheet_two s ≡ answered a → GoesBack s out a

-- Whole lines of an accepted sheet in another order are moved alike.
abbrev pub ToOneInAnyOrder : (s out : List ℕ) → Type 0
ToOneInAnyOrder s out =
    (a : SoundTwo) → sheet_two s ≡ answered a → (cs ds : List (List ℕ)) → AllWhole cs → s ≡ join_all cs → Perm cs ds → to_one_of (join_all ds) out ≡ to_one_of s out

abbrev pub ToTwoInAnyOrder : (s out : List ℕ) → Type 0
ToTwoInAnyOrder s out =
    (a : Sound) → sheet_of s ≡ answered a → (cs ds : List (List ℕ)) → AllWhole cs → s ≡ join_all cs → Perm cs ds → to_two_of (join_all ds) out ≡ to_two_of s out
