-- A species' row (02, No. 7), which C is told by its table and its two numbers. Definitions only.
use Rattle.std.specs.Prelude.{ℕ, ◌≡◌, cond, List, [], eqb, ltb, Float, length}
use Rattle.float.specs.Arith.{at}
use Rattle.float.specs.Literals.{f0}
use Rattle.potentials_pair.specs.Species.{Tables, tables, row_of}
use Rattle.potentials.specs.Calls.{rows_asked, row_after, SpeciesRowAskedSays}
use Rattle.field_structs.specs.Flat.{flat_done}
use Rattle.field_structs.specs.Shown.{Shown}
use Rattle.field_structs.specs.declared.FlatRow.{FlatRow}

-- the part that `species_row` gives
abbrev pub row_given : Tables → (species : ℕ) → List Float
row_given t z = row_after (rows_asked t) (row_of t z)

-- .. from the own table alone
abbrev pub own_given : Tables → (species : ℕ) → List Float
own_given t z = row_given (tables t.own_ids t.own_params [] []) z

-- 0 where there is no row, 1 where it is the own table's, 2 where it is the house's; by the lengths of the two
unfoldable pub table_by : (own row : ℕ) → ℕ
table_by own row = cond (eqb row 0) 0 (cond (eqb own 0) 2 1)

-- a number of the row, zero where there is none
unfoldable pub number_in : List Float → ℕ → Float
number_in row k = cond (ltb k (length row)) (at row k) f0

pub record RowSays (t : Tables) (species : ℕ) (r : FlatRow) : Type 0 where
  pub done : Shown flat_done (SpeciesRowAskedSays t) r.done
  pub table : r.table ≡ table_by (length (own_given t species)) (length (row_given t species))
  pub epsilon : r.epsilon ≡ number_in (row_given t species) 0
  pub sigma : r.sigma ≡ number_in (row_given t species) 1
