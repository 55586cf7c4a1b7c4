-- What the answers of this crate show: the value, or the number and place that 01's table gives to the refusal. Definitions only.
use Rattle.std.specs.Prelude.{Err, None, Ok, Result, Some}
use Rattle.answer.specs.declared.Refusal.{Refusal}
use Rattle.std.specs.Prelude.{Float, List, [], ◌∷◌}
use Rattle.answer.specs.Seen.{Seen, answered, refused_by, seen}
use Rattle.float.specs.Arith.{bits, row}
use Rattle.cell.specs.declared.Vec3.{Vec3}
use Rattle.cell.specs.declared.Lattice.{Lattice}
use Rattle.cell.specs.declared.Image.{Image}
use Rattle.cell.specs.declared.Rows.{Rows}

-- three rows beside an answer: those of a matrix, or zeros where there are none to give
unfoldable pub rows_of : List (List Float) → Rows
rows_of m = record { x = row m 0; y = row m 1; z = row m 2 }

abbrev pub zero_row : List Float
zero_row = bits 0 ∷ bits 0 ∷ bits 0 ∷ []

unfoldable pub zero_rows : Rows
zero_rows = record { x = zero_row; y = zero_row; z = zero_row }
