-- What private functions say of themselves. Nobody has to believe it.
use Rattle.std.specs.Prelude.{ℕ, List}
use Rattle.answer.specs.Seen.{Seen, answered, refused}
use Rattle.sheet_printed.specs.Printed.{refusal_line}
use Rattle.sheet_answer.specs.Solve.{shown_text}
use Rattle.sheet_answer.specs.declared.SheetList.{SheetList}

-- the text of a list: its refusal, or its build's
abbrev pub list_text : Seen SheetList → List ℕ → List ℕ
list_text (answered c) pairs = shown_text (answered c.built) pairs
list_text (refused n p) pairs = refusal_line n p
