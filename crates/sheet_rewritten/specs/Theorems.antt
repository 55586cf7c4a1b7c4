-- THEOREMS (02, No. 8): "writing what was read gives the same bytes for every sheet with equal meaning". proofs/OneForm.antt proves them of every input.
-- Definitions only.
use Rattle.std.specs.Prelude.{Result}
use Rattle.answer.specs.declared.Refusal.{Refusal}
use Rattle.std.specs.Prelude.{ℕ, ◌*◌, ◌≤◌, ◌≡◌, true, cond, length, take}
use mathlib.Core.List.{List, Perm}
use Rattle.answer.specs.Seen.{answered, refused, seen}
use Rattle.exclusions.specs.Table.{is_row}
use Rattle.frame.specs.Build.{ranges_ok}
use Rattle.sheet_lines.specs.Grammar.{AllWhole, join_all}
use Rattle.sheet.specs.declared.Job.{Job}
use Rattle.sheet.specs.Reading.{Sound, sheet_of}
use Rattle.sheet.specs.Read as reading
use Rattle.sheet_answer.specs.Solve.{frame_for, printed, solve_of}
use Rattle.sheet_written.specs.Write as writing
use Rattle.sheet_rewritten.specs.Rewrite.{box_of, rewritten, rewrite_of}

-- a sheet that has a written form: short enough, sound, and in range
pub record Written (s : List ℕ) : Type 0 where
  pub short : length s ≤ 65536
  pub sound : Sound
  pub is : sheet_of s ≡ answered sound
  pub ranged : ranges_ok (box_of sound) sound.coords ≡ true

-- equal meaning: one header, each atom at one place, and the same pairs excluded, atoms or not
pub record Alike (a b : Sound) : Type 0 where
  pub head : a.head ≡ b.head
  pub coords : a.coords ≡ b.coords
  pub pairs : (p : ℕ × ℕ) → is_row p a.rows ≡ is_row p b.rows

-- Sheets of equal meaning are rewritten to the same bytes, and sheets that are rewritten to the same bytes have equal meaning: `rewrite` compares sheets.
pub record OneForm (s t : List ℕ) (v : Written s) (w : Written t) : Type 0 where
  pub same : Alike v.sound w.sound → rewritten s ≡ rewritten t
  pub calls : Alike v.sound w.sound → (out : List ℕ) → rewrite_of s out ≡ rewrite_of t out
  pub only : rewritten s ≡ rewritten t → Alike v.sound w.sound

-- The written form is a sheet of the same meaning: rewritten again it is itself, and the program `pairs` prints the same for both.
pub record RewriteSettles (s : List ℕ) (v : Written s) : Type 0 where
  pub means : sheet_of (rewritten s) ≡ answered v.sound
  pub twice : rewritten (rewritten s) ≡ rewritten s
  pub prints : printed (rewritten s) ≡ printed s
  pub solves : (out : List ℕ) → solve_of (rewritten s) out ≡ solve_of s out

-- `write` of what `read` answered and left: the text that `rewrite` gives, where it fits; or 3, as it came.
abbrev pub WritesRead : (s co ex out : List ℕ) → Type 0
WritesRead s co ex out =
    3072 ≤ length co → 2048 ≤ length ex → (j : Job) → (reading.read_of s co ex).shown ≡ answered j
    → writing.write_of (frame_for j) (take (3 * j.atoms) (reading.read_of s co ex).coordinates) (take (2 * j.count) (reading.read_of s co ex).exclusions) out ≡ cond (ranges_ok (frame_for j) (take (3 * j.atoms) (reading.read_of s co ex).coordinates)) (writing.laid_in (rewritten s) out) (record { shown = refused 3 0; out = out })

-- Whole lines of a written sheet in another order are rewritten to the same bytes.
abbrev pub AnyOrder : List ℕ → Type 0
AnyOrder s = Written s → (cs ds : List (List ℕ)) → AllWhole cs → s ≡ join_all cs → Perm cs ds → rewritten (join_all ds) ≡ rewritten s

-- After an answered `rewrite` the first n bytes are the whole text, and no text is longer than 43,049 bytes: nothing is cut off, and the writer's 8 never occurs.
pub record WholeForm (s : List ℕ) (n : ℕ) (out' : List ℕ) : Type 0 where
  pub most : n ≤ 43049
  pub room : n ≤ length out'
  pub text : take n out' ≡ rewritten s

abbrev pub RewriteFits : List ℕ → Result ℕ Refusal → List ℕ → Type 0
RewriteFits s r out' = (n : ℕ) → seen r ≡ answered n → WholeForm s n out'
