-- What is asked before an evaluation: refusals 1, 2, 6, 3, 4, 5, in this order, of everything lent, also of tables whose term is absent. Definitions only.
use Rattle.std.specs.Prelude.{Err, None, Ok, Option, Result, Some}
use Rattle.answer.specs.declared.Refusal.{Refusal}
use Rattle.potentials.specs.declared.Bond.{Bond}
use Rattle.potentials.specs.declared.coulomb.Coulomb.{Coulomb}
use Rattle.potentials_angle.specs.declared.Angle.{Angle}
use Rattle.potentials_pair.specs.declared.Lj.{Lj}
use Rattle.std.specs.Prelude.{ℕ, ◌/◌, ◌%◌, Bool, true, cond, ◌&&◌, List, eqb, ltb, Float, length}
use Rattle.lists.specs.Atoms.{atoms_of}
use Rattle.answer.specs.declared.Refusal.TheVariants.{Lengths, Range, NotThere}
use Rattle.lists.specs.Lists.{every, rows}
use Rattle.ranges.specs.Rows.{absent_of}
use Rattle.virial.specs.declared.Units.{Units}
use Rattle.virial.specs.Ranged.{units_in_range}
use Rattle.potentials.specs.Calls.{tables_fit, order_asked}
use Rattle.potentials_angle.specs.Ranged.{angle_in_range, per_angle_in_range}
use Rattle.potentials_angle.specs.Rows.{missing_of}
use Rattle.potentials.specs.Ranged.{coordinate, cutoff_ok, charge, rows_in_range, lj_in_range, bond_in_range}
use Rattle.neighbor_asked.specs.Asked.{first_refusal}
use Rattle.neighbor.specs.Update.{Given, first_of, kept_asked, table_asked}
use Rattle.evaluate.specs.Terms.{Terms}

-- 1 of the terms' tables: "rows not two an id" in either species table (`tables`); "species, charges not n; bonds .. half a row; forces not as long as positions"; half a row of angles or of their numbers. The other arguments are lengths
unfoldable pub terms_fit : (tables : Bool) (species charges bonds angles per_angle xs forces : ℕ) → Bool
terms_fit tables species charges bonds angles per_angle xs forces =
    tables && eqb species (xs / 3) && eqb charges (xs / 3) && eqb (bonds % 2) 0 && eqb (angles % 3) 0 && eqb (per_angle % 2) 0
    && eqb forces xs

-- 3 of the present terms' numbers
unfoldable pub lj_ok : Option Lj → Bool
lj_ok None = true
lj_ok (Some lj) = lj_in_range lj

unfoldable pub coulomb_ok : Option Coulomb → Bool
coulomb_ok None = true
coulomb_ok (Some coulomb) = cutoff_ok coulomb.cutoff

unfoldable pub bond_ok : Option Bond → Bool
bond_ok None = true
bond_ok (Some bond) = bond_in_range bond

unfoldable pub angle_ok : Option Angle → Bool
angle_ok None = true
angle_ok (Some angle) = angle_in_range angle

-- 3 of the terms and of their tables
unfoldable pub numbers_ok : Option Lj → Option Coulomb → Option Bond → Option Angle → Units → (own_params params charges lengths ks per_angle : List Float) → Bool
numbers_ok lj coulomb bond angle units own_params params charges lengths ks per_angle =
    lj_ok lj && coulomb_ok coulomb && bond_ok bond && angle_ok angle && units_in_range units
    && rows_in_range own_params params && every charge charges && every coordinate lengths && every coordinate ks && per_angle_in_range per_angle

-- 4: "a pair, then a bond, names an atom not there"
unfoldable pub bond_rows_asked : ℕ → List ℕ → Result (Unit {0}) Refusal
bond_rows_asked n bonds = cond (ltb (absent_of n (rows bonds)) (length bonds / 2)) (Err (NotThere (absent_of n (rows bonds)))) (Ok tt)

-- 4 of an angle, "after bonds"
unfoldable pub angles_named : ℕ → List ℕ → Result (Unit {0}) Refusal
angles_named n angles = cond (ltb (missing_of n angles) (length angles / 3)) (Err (NotThere (missing_of n angles))) (Ok tt)

-- a bond's 4, then an angle's, then 5 of the exclusions, then 5 of the desk's own species, then of the house's
unfoldable pub names_asked : ℕ → (bonds angles table own_ids ids : List ℕ) → Result (Unit {0}) Refusal
names_asked n bonds angles table own_ids ids = first_refusal (bond_rows_asked n bonds) (first_refusal (angles_named n angles) (first_refusal (table_asked table) (order_asked own_ids ids)))

-- one test after the other: 1, then the list's 1, 2, 6, 3, then 3, then 3 and 4 of the old list, then what is asked of names
unfoldable pub in_turn : (fits : Bool) (first : Result (Unit {0}) Refusal) (in_range : Bool) (kept names : Result (Unit {0}) Refusal) → Result (Unit {0}) Refusal
in_turn fits first in_range kept names =
    first_refusal (cond fits (Ok tt) (Err Lengths)) (first_refusal first (first_refusal (cond in_range (Ok tt) (Err Range)) (first_refusal kept names)))

-- The tests. `fits` and `inRange` are what a step asks besides, at 1 and at 3; an evaluation asks nothing besides
unfoldable pub job_asked : (fits in_range : Bool) → Terms → Given → (forces : ℕ) → Result (Unit {0}) Refusal
job_asked fits in_range t g forces =
    in_turn
    (fits && terms_fit (tables_fit (length t.tables.own_ids) (length t.tables.own_params) (length t.tables.ids) (length t.tables.params)) (length t.species) (length t.charges) (length t.bonds) (length t.angles) (length t.per_angle) (length g.positions) forces)
    (first_of g.state g.cell g.positions (length g.exclusions) (length g.pairs) (length g.references) (length g.items))
    (in_range && numbers_ok t.lj t.coulomb t.bond t.angle t.units t.tables.own_params t.tables.params t.charges t.lengths t.ks t.per_angle)
    (kept_asked g.state (atoms_of g.positions) g.pairs g.references)
    (names_asked (atoms_of g.positions) t.bonds t.angles g.exclusions t.tables.own_ids t.tables.ids)
