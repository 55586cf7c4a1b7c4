-- What the private functions say of themselves: nobody has to believe it. Definitions only.
use Rattle.std.specs.Prelude.{Err, Ok, Result}
use Rattle.answer.specs.declared.Refusal.{Refusal}
use Rattle.std.specs.Prelude.{ℕ, List}
use Rattle.answer.specs.Seen.{number_of, place_of}
use Rattle.frame.specs.declared.Frame.{Frame}
use Rattle.sheet_printed.specs.Printed.{refusal_line}
use Rattle.sheet_written.specs.Written.{written_text}
use Rattle.sheet_written.specs.Write.{write_asked}

abbrev pub done_text : Result (Unit {0}) Refusal → List ℕ → List ℕ
done_text (Ok tt) text = text
done_text (Err r) text = refusal_line (number_of r) (place_of r)

-- the text of a frame, or its refusal's line
unfoldable pub frame_text : Frame → List ℕ → List ℕ → List ℕ
frame_text f xs table = done_text (write_asked f xs table) (written_text f xs table)
