-- THEOREMS (02, No. 7) about `evaluate`, whose Lennard-Jones term reads a desk's own table and the house's. proofs/Desks.antt proves each of every input. Definitions only.
use Rattle.std.specs.Prelude.{Ok}
use Rattle.std.specs.Prelude.{◌≡◌, true, false, List, [], ℕ, Float, length}
use Rattle.lists.specs.Exact.{◌∈◌}
use Rattle.lists.specs.Lists.{rows}
use Rattle.potentials_pair.specs.declared.Lj.{Lj}
use Rattle.potentials_pair.specs.declared.Mixed.{Mixed}
use Rattle.potentials_pair.specs.Species.{Tables, tables, row_in, numbers_in}
use Rattle.potentials_pair.specs.Desks.{with_row, without_row, Places}
use Rattle.potentials.specs.Desks.{has_atom}
use Rattle.neighbor.specs.declared.Question.TheVariants.{Outdated}
use Rattle.neighbor.specs.Update.{update_of, listed_of}
use Rattle.evaluate.specs.declared.Evaluated.{Evaluated}
use Rattle.evaluate.specs.Calls.{Job, asked_of, settled_by, settled_of, EvaluateSays}

-- the same evaluation over other species tables
abbrev pub with_tables : Tables → Job → Job
with_tables t j =
    record {
      terms =
          record {
            lj = j.terms.lj;
            coulomb = j.terms.coulomb;
            bond = j.terms.bond;
            angle = j.terms.angle;
            units = j.terms.units;
            tables = t;
            species = j.terms.species;
            charges = j.terms.charges;
            bonds = j.terms.bonds;
            lengths = j.terms.lengths;
            ks = j.terms.ks;
            angles = j.terms.angles;
            per_angle = j.terms.per_angle;
          };
      given = j.given;
      forces = j.forces;
    }

-- the pairs over which its terms run: the list when it is up to date
abbrev pub settled_pairs : Job → List (ℕ × ℕ)
settled_pairs j = rows (listed_of (update_of Outdated j.given).state (update_of Outdated j.given).pairs)

-- a row of species s in the own table: where no listed pair has an atom of s, an evaluation that is accepted with the row and without it answers and leaves the same
abbrev pub EvaluateStays : ℕ → (s : ℕ) (epsilon sigma : Float) (t : Tables) → Job → Evaluated → (pairs : List ℕ) → (references : List Float) → (starts items : List ℕ) → (forces : List Float) → Type 0
EvaluateStays k s epsilon sigma t j r pairs references starts items forces =
    Places k t → ((p : ℕ × ℕ) → p ∈ settled_pairs j → has_atom s j.terms.species p ≡ false)
    → asked_of true true (with_tables (with_row k s epsilon sigma t) j) ≡ Ok tt → asked_of true true (with_tables t j) ≡ Ok tt
    → EvaluateSays (with_tables (with_row k s epsilon sigma t) j) r pairs references starts items forces → EvaluateSays (with_tables t j) r pairs references starts items forces

-- "taken out again"
abbrev pub EvaluateBack : ℕ → (s : ℕ) (epsilon sigma : Float) (t : Tables) → Job → Evaluated → (pairs : List ℕ) → (references : List Float) → (starts items : List ℕ) → (forces : List Float) → Type 0
EvaluateBack k s epsilon sigma t j r pairs references starts items forces =
    Places k t → EvaluateSays (with_tables (without_row k (with_row k s epsilon sigma t)) j) r pairs references starts items forces
    → EvaluateSays (with_tables t j) r pairs references starts items forces

-- "With an empty own table demand 2 stands as it was": an accepted evaluation is the one that looks in the house's table alone
abbrev pub house_look : Tables → Lj → ℕ → Mixed
house_look t lj z = numbers_in (row_in t.ids t.params z) lj

abbrev pub EvaluateOne : (ids : List ℕ) (params : List Float) → Job → Type 0
EvaluateOne ids params j =
    settled_of (with_tables (tables [] [] ids params) j) ≡ settled_by house_look (length j.forces) (with_tables (tables [] [] ids params) j)
