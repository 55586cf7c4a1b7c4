-- How the desk and its three tables stand for a meaning while the lines are read. Definitions only.
use Rattle.std.specs.Prelude.{Err, None, Ok, Option as RustOption, Result, Some}
use Rattle.answer.specs.declared.Refusal.{Refusal}
use Rattle.std.specs.Prelude.{ℕ, suc, ◌+◌, ◌≤◌, ◌<◌, ◌≡◌, true, List, [], ◌∷◌, length, take}
use Rattle.std.proofs.Math.Option.{Option, none, some}
use Rattle.answer.specs.Seen.{Seen, answered, refused_by}
use Rattle.lists.specs.Lists.{rows}
use Rattle.exclusions.specs.Table.{is_table}
use Rattle.sheet_lines.specs.Grammar.{WellFormed}
use Rattle.sheet_lines.specs.declared.Head.{Head}
use Rattle.sheet_lines.specs.declared.Line.{Line}
use Rattle.sheet_lines.specs.declared.Line.TheVariants.{Header, Atom, Exclusion, Malformed, End}
use Rattle.sheet.specs.Meaning.{Meaning}
use Rattle.sheet.specs.ReadTwo.{rule_in}
use Rattle.sheet.specs.declared.desk.Desk.{Desk}

abbrev pub header_in : RustOption Head → Option Head
header_in (Some h) = some h
header_in None = none

abbrev pub header_for : Desk → Option Head
header_for d = header_in d.head

abbrev pub meaning_for : Desk → List ℕ → List ℕ → List ℕ → Meaning
meaning_for d co se ta =
    record { header = header_for d; atoms = record { coords = co; marks = se }; rows = take d.count (rows ta) }

abbrev pub shown_kept : Result Desk Refusal → List ℕ → List ℕ → List ℕ → Seen Meaning
shown_kept (Ok d) co se ta = answered (meaning_for d co se ta)
shown_kept (Err r) co se ta = refused_by r

-- the rule, of a desk on which the species were read
abbrev pub rule_kept : Result Desk Refusal → ℕ
rule_kept (Ok d) = rule_in (header_for d)
rule_kept (Err r) = 1

abbrev pub shown_rows : RustOption ℕ → List ℕ → Option (List (ℕ × ℕ))
shown_rows (Some n) ta = some (take n (rows ta))
shown_rows None ta = none

abbrev pub shown_judged : Result Head Refusal → Seen Head
shown_judged (Ok h) = answered h
shown_judged (Err r) = refused_by r

-- the first rows of the table are an exclusion table
pub record Fit (count : ℕ) (ta : List ℕ) : Type 0 where
  pub size : length ta ≡ 2048
  pub few : count ≤ 1024
  pub table : is_table (take count (rows ta)) ≡ true

abbrev pub FitCount : RustOption ℕ → List ℕ → Type 0
FitCount (Some n) ta = Fit n ta
FitCount None ta = Unit {0}

abbrev pub FitKept : Result Desk Refusal → List ℕ → Type 0
FitKept (Ok d) ta = Fit d.count ta
FitKept (Err r) ta = Unit {0}

-- an atom line's number is below 1,024
abbrev pub NumberBelow : Line → Type 0
NumberBelow (Header h) = Unit {0}
NumberBelow (Atom n x y z) = n < 1024
NumberBelow (Exclusion a b) = Unit {0}
NumberBelow Malformed = Unit {0}
NumberBelow End = Unit {0}

-- what the reader of a line tells: the line, and how many bytes it takes
pub record LineTold (l : Line) (w : ℕ) : Type 0 where
  pub below : NumberBelow l
  pub least : WellFormed l → 11 ≤ w
  pub most : w ≤ 43

-- the lines of n bytes from a place on, at most as many as the first argument says, by what is told at each place
pub record LinesBy (told : ℕ → Line × ℕ → Type 0) (n : ℕ) (lines : ℕ → ℕ → List Line) : Type 0 where
  pub past : (f at : ℕ) → n ≤ at → lines f at ≡ []
  pub first : (f at : ℕ) (l : Line) (w : ℕ) → at < n → told at (l, w) → lines (suc f) at ≡ l ∷ lines f (at + w)
