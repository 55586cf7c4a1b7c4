-- The species tables, a desk's own before the house's: what a species' row and numbers are, and the lookup by halving, which in ascending tables finds them. Definitions only.
use Rattle.std.specs.Prelude.{Bool, cond, ◌&&◌, List, [], ℕ, ◌+◌, ◌-◌, ◌*◌, ◌/◌, eqb, ltb, Float, length, get_or, take, drop}
use Rattle.float.specs.Arith.{at}
use Rattle.lists.specs.Lists.{up_to, every, first_where}
use Rattle.lists.specs.Loops.{halved}
use Rattle.potentials_pair.specs.declared.Lj.{Lj}
use Rattle.potentials_pair.specs.declared.Mixed.{Mixed}
use Rattle.potentials_pair.specs.declared.SpeciesTables.{SpeciesTables}

-- 01's refusal 5 does not apply: each id below the next
unfoldable pub rising : List ℕ → Bool
rising ids = every (λ k. ltb (get_or ids k 0) (get_or ids (k + 1) 0)) (up_to (length ids - 1))

-- two tables, a desk's own and the house's: ids, and epsilon, sigma a row for each
pub record Tables : Type 0 where
  pub own_ids : List ℕ
  pub own_params : List Float
  pub ids : List ℕ
  pub params : List Float

abbrev pub tables : (own_ids : List ℕ) (own_params : List Float) (ids : List ℕ) (params : List Float) → Tables
tables own_ids own_params ids params = record { own_ids = own_ids; own_params = own_params; ids = ids; params = params }

-- what the code's tables hold
abbrev pub tables_of : SpeciesTables → Tables
tables_of t = tables t.own_ids.now t.own_params.now t.ids.now t.params.now

-- "Absent species take the default"
abbrev pub default_of : Lj → Mixed
default_of lj = record { epsilon = lj.epsilon; sigma = lj.sigma }

-- row k of `params`, two floats a row; a row that is not lent (refusal 1 keeps it from a public call) is empty
unfoldable pub params_at : List Float → ℕ → List Float
params_at params k = cond (ltb k (length params / 2)) (take 2 (drop (2 * k) params)) []

-- the row of the species z in one table, empty where the table lacks it
unfoldable pub row_in : List ℕ → List Float → ℕ → List Float
row_in ids params z =
    let k = first_where (λ id. eqb id z) ids in
    cond (ltb k (length ids)) (params_at params k) []

abbrev pub or_else : List Float → List Float → List Float
or_else own house = cond (ltb 0 (length own)) own house

-- 02, No. 7: "the row as a part of the desk's table when the species is there, otherwise of the house table, otherwise the default"
unfoldable pub row_of : Tables → ℕ → List Float
row_of t z = or_else (row_in t.own_ids t.own_params z) (row_in t.ids t.params z)

unfoldable pub numbers_in : List Float → Lj → Mixed
numbers_in row lj = cond (ltb 1 (length row)) (record { epsilon = at row 0; sigma = at row 1 }) (default_of lj)

-- lines 118 and 119, over two tables
unfoldable pub look_of : Tables → Lj → ℕ → Mixed
look_of t lj z = numbers_in (row_of t z) lj

-- ---- by halving, over any table; proofs/Lookup.antt: over ascending ones it is look_of

-- the first id that is not below z
unfoldable pub place_in : List ℕ → ℕ → ℕ
place_in ids z = halved (λ k. ltb (get_or ids k 0) z) (length ids) 0 (length ids)

unfoldable pub is_at : List ℕ → ℕ → ℕ → Bool
is_at ids p z = ltb p (length ids) && eqb (get_or ids p 0) z

unfoldable pub row_in_by : List ℕ → List Float → ℕ → List Float
row_in_by ids params z =
    let p = place_in ids z in
    cond (is_at ids p z) (params_at params p) []

unfoldable pub row_by : Tables → ℕ → List Float
row_by t z = or_else (row_in_by t.own_ids t.own_params z) (row_in_by t.ids t.params z)

unfoldable pub look_by : Tables → Lj → ℕ → Mixed
look_by t lj z = numbers_in (row_by t z) lj
