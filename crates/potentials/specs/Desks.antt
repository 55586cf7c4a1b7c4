-- THEOREMS (02, No. 7) about the calls: what a row of a desk's own table changes, that it is gone when it is taken out, and that an empty own table is none. proofs/Desks.antt
-- proves each of every input. Definitions only.
use Rattle.std.specs.Prelude.{Option}
use Rattle.potentials_pair.specs.Pull.{Pull}
use Rattle.std.specs.Prelude.{Err, Ok, Option, Result}
use Rattle.answer.specs.declared.Refusal.{Refusal}
use Rattle.cell.specs.declared.Lattice.{Lattice}
use Rattle.virial.specs.declared.Sum.{Sum}
use Rattle.std.specs.Prelude.{◌≡◌, Bool, false, cond, ◌&&◌, ◌||◌, List, [], ℕ, ◌/◌, ◌%◌, eqb, Float, length, get_or}
use Rattle.lists.specs.Atoms.{atoms_of}
use Rattle.lists.specs.Exact.{◌∈◌}
use Rattle.lists.specs.Lists.{every, rows, all_pairs}
use Rattle.answer.specs.declared.Refusal.TheVariants.{HouseOrder}
use Rattle.cell.specs.declared.Vec3.{Vec3}
use Rattle.cell.specs.declared.Image.{Image}
use Rattle.cell.specs.Cell.{image_of}
use Rattle.cell.specs.Ranged.{cell_in_range}
use Rattle.ranges.specs.Rows.{absent_of}
use Rattle.potentials_pair.specs.declared.Lj.{Lj}
use Rattle.potentials_pair.specs.Species.{Tables, tables, rising, look_of}
use Rattle.potentials_pair.specs.Desks.{with_row, without_row, Places}
use Rattle.potentials.specs.Ranged.{coordinate, depth, lj_in_range}
use Rattle.potentials.specs.Terms.{over_pairs, lj_pair}
use Rattle.potentials.specs.Calls.{asked_by, lj_fits, lj_asked, outcome_of, left, LjPairsSays, LjAllSays, SpeciesRowSays}
use Rattle.potentials.specs.Source.{accumulated, in_table, in_tables}

-- ---- "A row added to a desk's own table changes force and energy only of pairs with an atom of that species"

-- a pair with an atom of species s
abbrev pub has_atom : (s : ℕ) (species : List ℕ) → ℕ × ℕ → Bool
has_atom s species p = eqb (get_or species p.0 0) s || eqb (get_or species p.1 0) s

-- the pull, which is energy and force, of every pair without an atom of species s stays
abbrev pub OtherPairsStay : ℕ → (s : ℕ) (epsilon sigma : Float) → Tables → Type 0
OtherPairsStay k s epsilon sigma t =
    Places k t → (image : Vec3 → Image) (lj : Lj) (species : List ℕ) (xs : List Float) (p : ℕ × ℕ) → has_atom s species p ≡ false
    → lj_pair image (look_of (with_row k s epsilon sigma t) lj) lj species xs p ≡ lj_pair image (look_of t lj) lj species xs p

-- what each pair adds with the row: by it where the pair has an atom of s, else what it added before
abbrev pub changed_pull : ℕ → (s : ℕ) (epsilon sigma : Float) → Tables → Lj → Option Lattice → (species : List ℕ) → List Float → ℕ × ℕ → Option Pull
changed_pull k s epsilon sigma t lj cell species xs p =
    cond (has_atom s species p) (lj_pair (λ d. image_of d cell) (look_of (with_row k s epsilon sigma t) lj) lj species xs p)
    (lj_pair (λ d. image_of d cell) (look_of t lj) lj species xs p)

-- so over a list the contributions that change are those of pairs with an atom of s: of `lj_pairs` ..
abbrev pub LjPairsChange : ℕ → (s : ℕ) (epsilon sigma : Float) (t : Tables) (lj : Lj) (cell : Option Lattice) (species : List ℕ) (positions : List Float) (pairs : List ℕ) (forces : List Float) → Result Sum Refusal → (after : List Float) → Type 0
LjPairsChange k s epsilon sigma t lj cell species xs pairs forces r after =
    Places k t → LjPairsSays lj cell (with_row k s epsilon sigma t) species xs pairs forces r after
    → left r after
    ≡ outcome_of (lj_asked lj cell (with_row k s epsilon sigma t) (length species) xs (length forces) (length pairs) (absent_of (atoms_of xs) (rows pairs)))
    (over_pairs (atoms_of xs) (changed_pull k s epsilon sigma t lj cell species xs) (length forces) (rows pairs)) forces

-- .. and of `lj_all`
abbrev pub LjAllChange : ℕ → (s : ℕ) (epsilon sigma : Float) (t : Tables) (lj : Lj) (cell : Option Lattice) (species : List ℕ) (positions forces : List Float) → Result Sum Refusal → (after : List Float) → Type 0
LjAllChange k s epsilon sigma t lj cell species xs forces r after =
    Places k t → LjAllSays lj cell (with_row k s epsilon sigma t) species xs forces r after
    → left r after
    ≡ outcome_of (lj_asked lj cell (with_row k s epsilon sigma t) (length species) xs (length forces) 0 0)
    (over_pairs (atoms_of xs) (changed_pull k s epsilon sigma t lj cell species xs) (length forces) (all_pairs (atoms_of xs))) forces

-- and where no listed pair has an atom of s, a call that is accepted with the row and without it answers and leaves the same
abbrev pub LjPairsStay : ℕ → (s : ℕ) (epsilon sigma : Float) (t : Tables) (lj : Lj) (cell : Option Lattice) (species : List ℕ) (positions : List Float) (pairs : List ℕ) (forces : List Float) → Result Sum Refusal → (after : List Float) → Type 0
LjPairsStay k s epsilon sigma t lj cell species xs pairs forces r after =
    Places k t → ((p : ℕ × ℕ) → p ∈ rows pairs → has_atom s species p ≡ false)
    → lj_asked lj cell (with_row k s epsilon sigma t) (length species) xs (length forces) (length pairs) (absent_of (atoms_of xs) (rows pairs)) ≡ Ok tt
    → lj_asked lj cell t (length species) xs (length forces) (length pairs) (absent_of (atoms_of xs) (rows pairs)) ≡ Ok tt
    → LjPairsSays lj cell (with_row k s epsilon sigma t) species xs pairs forces r after → LjPairsSays lj cell t species xs pairs forces r after

-- ---- "taken out again, it brings back the house row": every answer is the one of before
abbrev pub LjPairsBack : ℕ → (s : ℕ) (epsilon sigma : Float) (t : Tables) (lj : Lj) (cell : Option Lattice) (species : List ℕ) (positions : List Float) (pairs : List ℕ) (forces : List Float) → Result Sum Refusal → (after : List Float) → Type 0
LjPairsBack k s epsilon sigma t lj cell species xs pairs forces r after =
    Places k t → LjPairsSays lj cell (without_row k (with_row k s epsilon sigma t)) species xs pairs forces r after → LjPairsSays lj cell t species xs pairs forces r after

abbrev pub LjAllBack : ℕ → (s : ℕ) (epsilon sigma : Float) (t : Tables) (lj : Lj) (cell : Option Lattice) (species : List ℕ) (positions forces : List Float) → Result Sum Refusal → (after : List Float) → Type 0
LjAllBack k s epsilon sigma t lj cell species xs forces r after =
    Places k t → LjAllSays lj cell (without_row k (with_row k s epsilon sigma t)) species xs forces r after → LjAllSays lj cell t species xs forces r after

abbrev pub SpeciesRowBack : ℕ → (s : ℕ) (epsilon sigma : Float) → Tables → (species : ℕ) → List Float → Type 0
SpeciesRowBack k s epsilon sigma t z r = Places k t → SpeciesRowSays (without_row k (with_row k s epsilon sigma t)) z r → SpeciesRowSays t z r

-- ---- "With an empty own table demand 2 stands as it was"

-- the Rust's lookup in the one table
abbrev pub EmptyOwn : (ids : List ℕ) (params : List Float) → Type 0
EmptyOwn ids params = (lj : Lj) (z : ℕ) → in_tables (tables [] [] ids params) lj z ≡ in_table ids params lj z

-- the tests of a call with one table, whose 5 has place 1
unfoldable pub one_asked : Lj → Option Lattice → (ids : List ℕ) (params : List Float) (species : ℕ) (positions : List Float) (forces pairs absent : ℕ) → Result (Unit {0}) Refusal
one_asked lj cell ids params species xs forces pairs absent =
    asked_by (lj_fits (eqb (length params / 2) (length ids) && eqb (length params % 2) 0) species (length xs) pairs forces) (atoms_of xs)
    (lj_in_range lj && cell_in_range cell && every depth params && every coordinate xs) (pairs / 2) absent
    (cond (rising ids) (Ok tt) (Err HouseOrder))

-- the calls: the tests of one table, and the Rust's loop with its lookup in it
abbrev pub EmptyOwnPairs : (lj : Lj) (cell : Option Lattice) (ids : List ℕ) (params : List Float) (species : List ℕ) (positions : List Float) (pairs : List ℕ) (forces : List Float) → Result Sum Refusal → (after : List Float) → Type 0
EmptyOwnPairs lj cell ids params species xs pairs forces r after =
    LjPairsSays lj cell (tables [] [] ids params) species xs pairs forces r after
    → left r after
    ≡ outcome_of (one_asked lj cell ids params (length species) xs (length forces) (length pairs) (absent_of (atoms_of xs) (rows pairs)))
    (accumulated (lj_pair (λ d. image_of d cell) (in_table ids params lj) lj species xs) (length forces) (rows pairs)) forces

abbrev pub EmptyOwnAll : (lj : Lj) (cell : Option Lattice) (ids : List ℕ) (params : List Float) (species : List ℕ) (positions forces : List Float) → Result Sum Refusal → (after : List Float) → Type 0
EmptyOwnAll lj cell ids params species xs forces r after =
    LjAllSays lj cell (tables [] [] ids params) species xs forces r after
    → left r after
    ≡ outcome_of (one_asked lj cell ids params (length species) xs (length forces) 0 0)
    (accumulated (lj_pair (λ d. image_of d cell) (in_table ids params lj) lj species xs) (length forces) (all_pairs (atoms_of xs))) forces
