-- The written form of a frame in the second form (02, No. 9 and 10), and what `write_two` answers and leaves: the lines of the first form in their order, each in the second form's
-- text, the header with rule 01, the atoms with species 0; the tests are those of `write`. Definitions only.
use Rattle.std.specs.Prelude.{Result}
use Rattle.answer.specs.declared.Refusal.{Refusal}
use Rattle.std.specs.Prelude.{ℕ, ◌≡◌, List, ◌∷◌, ◌++◌, map}
use Rattle.answer.specs.Seen.{seen}
use Rattle.lists.specs.Atoms.{atoms_of}
use Rattle.lists.specs.Lists.{rows}
use Rattle.frame.specs.declared.Frame.{Frame}
use Rattle.sheet_lines.specs.declared.Head.{Head}
use Rattle.sheet_lines.specs.declared.Line.{Line}
use Rattle.sheet_lines.specs.declared.Line.TheVariants.{Header}
use Rattle.sheet_lines_two.specs.declared.TwoLine.{TwoLine}
use Rattle.sheet_lines_two.specs.Twos.{plain_two}
use Rattle.sheet_lines_two.specs.Grammar.{text_two}
use Rattle.sheet_written.specs.Written.{head_of, atom_lines, row_line}
use Rattle.sheet_written.specs.Write.{write_asked, Outcome, write_after}

-- atoms and exclusions in the second form, each species 0
abbrev pub plain_text : List Line → List ℕ
plain_text ls = text_two (map plain_two ls)

-- `writtenLines` in the second form; of the rule "the writer always puts it"
unfoldable pub two_lines : Head → List ℕ → List (ℕ × ℕ) → List TwoLine
two_lines h xs l = record { core = Header h; extra = 1 } ∷ map plain_two (atom_lines xs ++ map row_line l)

-- the bytes
unfoldable pub written_two : Frame → List ℕ → List ℕ → List ℕ
written_two f xs table = text_two (two_lines (head_of f (atoms_of xs)) xs (rows table))

unfoldable pub write_two_of : Frame → List ℕ → List ℕ → List ℕ → Outcome
write_two_of f xs table out = write_after (write_asked f xs table) (written_two f xs table) out

abbrev pub WriteTwoSays : Frame → List ℕ → List ℕ → List ℕ → Result ℕ Refusal → List ℕ → Type 0
WriteTwoSays f xs table out r out' = record { shown = seen r; out = out' } ≡ write_two_of f xs table out
