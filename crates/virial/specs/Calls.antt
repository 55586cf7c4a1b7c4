-- What each public call answers, and what it leaves in the lent forces: one relation a call. Tests in 01's order, 1, 2, 3, 4; a refusal leaves the forces as they came. Definitions only.
use Rattle.std.specs.Prelude.{Err, None, Ok, Result, Some}
use Rattle.answer.specs.declared.Refusal.{Refusal}
use Rattle.std.specs.Prelude.{◌≡◌, Bool, cond, ◌&&◌, List, ℕ, ◌*◌, ◌%◌, eqb, leb, ltb, Float, length}
use Rattle.lists.specs.Atoms.{atoms_of, most_atoms}
use Rattle.answer.specs.Seen.{Seen, answered, refused, refused_by, seen}
use Rattle.cell.specs.declared.Rows.{Rows}
use Rattle.cell.specs.declared.Vec3.{Vec3}
use Rattle.cell.specs.Calls.{when}
use Rattle.cell.specs.Ranged.{other_limit, vec_within}
use Rattle.cell.specs.Seen.{rows_of}
use Rattle.lists.specs.Lists.{every}
use Rattle.virial.specs.declared.Sum.{Sum}
use Rattle.virial.specs.declared.Units.{Units}
use Rattle.virial.specs.Ranged.{plain, velocity, mass, plain_rows, plain_sum, units_in_range}
use Rattle.virial.specs.Virial.{zero_sum, zero_forces, merged_sum, merged_forces, forces_with_pair, sum_with_pair, with_pair, scalar_virial_of, pressure_of, pressure_tensor_of, to_gpa_of}

-- ---- what is seen of an answer

-- ---- the tests of lengths and atoms (1 and 2)

-- three floats an atom
abbrev pub threes : List Float → Bool
threes l = eqb (length l % 3) 0

abbrev pub few_atoms : ℕ → Bool
few_atoms n = leb n most_atoms

-- ---- the calls. Of an outcome the first part is what is seen, and the second the forces at exit, or the rows beside the answer.

unfoldable pub zeros_outcome : List Float → Seen Sum × List Float
zeros_outcome forces =
    cond (threes forces)
    (cond (few_atoms (atoms_of forces))
    (answered zero_sum, zero_forces (length forces))
    (refused 2 (atoms_of forces), forces))
    (refused 1 0, forces)

abbrev pub ZerosSays : (forces : List Float) → Result Sum Refusal → (after : List Float) → Type 0
ZerosSays forces r after = (seen r, after) ≡ zeros_outcome forces

-- 1: also a target that is shorter than the source
abbrev pub merge_fits : List Float → List Float → Bool
merge_fits forces added = threes forces && threes added && leb (length added) (length forces)

unfoldable pub merge_in_range : Sum → List Float → Sum → List Float → Bool
merge_in_range sum forces other added = plain_sum sum && every plain forces && plain_sum other && every plain added

unfoldable pub merge_outcome : Sum → List Float → Sum → List Float → Seen Sum × List Float
merge_outcome sum forces other added =
    cond (merge_fits forces added)
    (cond (few_atoms (atoms_of forces))
    (cond (merge_in_range sum forces other added)
    (answered (merged_sum sum other), merged_forces forces added)
    (refused 3 0, forces))
    (refused 2 (atoms_of forces), forces))
    (refused 1 0, forces)

abbrev pub MergeSays : (sum : Sum) (forces : List Float) (other : Sum) (added : List Float) → Result Sum Refusal → (after : List Float) → Type 0
MergeSays sum forces other added r after = (seen r, after) ≡ merge_outcome sum forces other added

unfoldable pub pair_in_range : Sum → List Float → Vec3 → Vec3 → Bool
pair_in_range sum forces d f = plain_sum sum && every plain forces && vec_within other_limit d && vec_within other_limit f

unfoldable pub pair_outcome : Sum → List Float → ℕ → ℕ → Vec3 → Vec3 → Seen Sum × List Float
pair_outcome sum forces i j d f =
    cond (threes forces)
    (cond (few_atoms (atoms_of forces))
    (cond (pair_in_range sum forces d f)
    (cond (ltb i (atoms_of forces) && ltb j (atoms_of forces))
    (answered (sum_with_pair sum d f), forces_with_pair forces i j f)
    (refused 4 0, forces))
    (refused 3 0, forces))
    (refused 2 (atoms_of forces), forces))
    (refused 1 0, forces)

abbrev pub AddPairForceSays : (sum : Sum) (forces : List Float) (i j : ℕ) (d f : Vec3) → Result Sum Refusal → (after : List Float) → Type 0
AddPairForceSays sum forces i j d f r after = (seen r, after) ≡ pair_outcome sum forces i j d f

-- from here on nothing is lent to be written
unfoldable pub virial_in_range : List (List Float) → Vec3 → Vec3 → Bool
virial_in_range w d f = plain_rows w && vec_within other_limit d && vec_within other_limit f

unfoldable pub virial_outcome : List (List Float) → Vec3 → Vec3 → Seen Rows
virial_outcome w d f = cond (virial_in_range w d f) (answered (rows_of (with_pair w d f))) (refused 3 0)

abbrev pub VirialFromPairSays : (virial : List (List Float)) (d f : Vec3) → Result Rows Refusal → Type 0
VirialFromPairSays virial d f r = seen r ≡ virial_outcome virial d f

abbrev pub ScalarVirialSays : (virial : List (List Float)) → Result Float Refusal → Type 0
ScalarVirialSays virial r = seen r ≡ when (plain_rows virial) (scalar_virial_of virial)

abbrev pub PressureSays : (kinetic scalar volume : Float) → Result Float Refusal → Type 0
PressureSays kinetic scalar volume r = seen r ≡ when (plain kinetic && plain scalar && plain volume) (pressure_of kinetic scalar volume)

unfoldable pub tensor_in_range : Units → Float → List (List Float) → List Float → List Float → Bool
tensor_in_range units volume w vs ms = units_in_range units && plain volume && plain_rows w && every velocity vs && every mass ms

unfoldable pub tensor_outcome : Units → Float → List (List Float) → List Float → List Float → Seen Rows
tensor_outcome units volume w vs ms =
    cond (eqb (length vs) (3 * length ms))
    (cond (few_atoms (length ms))
    (cond (tensor_in_range units volume w vs ms)
    (answered (rows_of (pressure_tensor_of units volume w vs ms)))
    (refused 3 0))
    (refused 2 (length ms)))
    (refused 1 0)

abbrev pub PressureTensorSays : (units : Units) (volume : Float) (virial : List (List Float)) (velocities masses : List Float) → Result Rows Refusal → Type 0
PressureTensorSays units volume virial velocities masses r = seen r ≡ tensor_outcome units volume virial velocities masses

abbrev pub ToGpaSays : (units : Units) (pressure : Float) → Result Float Refusal → Type 0
ToGpaSays units pressure r = seen r ≡ when (units_in_range units && plain pressure) (to_gpa_of units pressure)
