-- A part of a lent table, which C is told by its first element and its length. Definitions only.
use Rattle.std.specs.Prelude.{Result}
use Rattle.answer.specs.declared.Refusal.{Refusal}
use Rattle.std.specs.Prelude.{ℕ, ◌≡◌, cond, List, length, get_or, take, drop}
use Rattle.bins.specs.Sort.{cell_held}
use Rattle.field_structs.specs.Flat.{flat_done}
use Rattle.field_structs.specs.Shown.{Shown}
use Rattle.field_structs.specs.declared.FlatPart.{FlatPart}

-- `asked` is what the call beside the part says of its answer (CALLS.md, "Parts handed out"); so many elements from `start` on are the part
pub record PartSays (asked : Result (Unit {0}) Refusal → Type 0) (first : ℕ) (part table : List ℕ) (r : FlatPart) : Type 0 where
  pub done : Shown flat_done asked r.done
  pub begins : r.start ≡ first
  pub counts : r.length ≡ length part
  pub told : take r.length (drop r.start table) ≡ part

-- where the atoms of a grid cell begin
unfoldable pub cell_start : ℕ → List ℕ → List ℕ → ℕ
cell_start cell starts items = cond (cell_held cell starts items) (get_or starts cell 0) 0
