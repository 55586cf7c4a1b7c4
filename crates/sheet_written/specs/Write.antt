-- What `write` answers, and what it leaves in the lent buffer: one outcome from the entry values alone, the tests in 01's order. Definitions only.
use Rattle.std.specs.Prelude.{Err, Ok, Result}
use Rattle.answer.specs.declared.Refusal.{Refusal}
use Rattle.std.specs.Prelude.{ℕ, ◌/◌, ◌%◌, ◌≡◌, Bool, cond, not, ◌&&◌, ◌||◌, List, length, eqb, ltb, leb}
use Rattle.std.proofs.lemmas.List.Edits.{sets}
use Rattle.answer.specs.Seen.{Seen, answered, refused_by, seen}
use Rattle.answer.specs.declared.Refusal.TheVariants.{Lengths, TooMany, Range, Order, Room}
use Rattle.lists.specs.Atoms.{atoms_of}
use Rattle.lists.specs.Lists.{every, rows}
use Rattle.exclusions.specs.Table.{is_table}
use Rattle.frame.specs.declared.Frame.{Frame}
use Rattle.frame.specs.Build.{ranges_ok}
use Rattle.sheet_written.specs.Written.{written_text}

-- 1: coordinates no multiple of 3, half a row of exclusions
unfoldable pub uneven_rows : ℕ → ℕ → Bool
uneven_rows xs table = not (eqb (xs % 3) 0) || not (eqb (table % 2) 0)

-- 5: "for the exclusion table, also when it holds over 1,024 pairs or a number above ffff"
unfoldable pub table_fits : List ℕ → Bool
table_fits table = not (ltb 1024 (length table / 2)) && (is_table (rows table) && every (λ k. leb k 65535) table)

-- 1, "2 past 1,024 atoms; 3 as for a build", 5
unfoldable pub write_asked : Frame → List ℕ → List ℕ → Result (Unit {0}) Refusal
write_asked f xs table =
    cond (uneven_rows (length xs) (length table)) (Err Lengths)
    (cond (ltb 1024 (atoms_of xs)) (Err (TooMany (atoms_of xs)))
    (cond (not (ranges_ok f xs)) (Err Range) (cond (not (table_fits table)) (Err Order) (Ok tt))))

-- what is shown, and the lent buffer as it is left
pub record Outcome : Type 0 where
  pub shown : Seen ℕ
  pub out : List ℕ

-- the text at the front of the buffer, past it as it came; "8 when the bytes don't fit, place the bytes needed, buffer untouched"
unfoldable pub laid_in : List ℕ → List ℕ → Outcome
laid_in text out =
    cond (ltb (length out) (length text)) (record { shown = refused_by (Room (length text)); out = out })
    (record { shown = answered (length text); out = sets out 0 text })

abbrev pub write_after : Result (Unit {0}) Refusal → List ℕ → List ℕ → Outcome
write_after (Err r) text out = record { shown = refused_by r; out = out }
write_after (Ok tt) text out = laid_in text out

unfoldable pub write_of : Frame → List ℕ → List ℕ → List ℕ → Outcome
write_of f xs table out = write_after (write_asked f xs table) (written_text f xs table) out

abbrev pub WriteSays : Frame → List ℕ → List ℕ → List ℕ → Result ℕ Refusal → List ℕ → Type 0
WriteSays f xs table out r out' = record { shown = seen r; out = out' } ≡ write_of f xs table out
