-- THEOREMS (02, No. 8) about what `write` leaves and `read` then answers. proofs/Back.antt and proofs/Flags.antt prove them of every input. Definitions only.
use Rattle.std.specs.Prelude.{ℕ, ◌/◌, ◌%◌, ◌≤◌, ◌<◌, ◌≡◌, Bool, List, length, take, eqb}
use Rattle.std.proofs.lemmas.List.Edits.{sets}
use Rattle.answer.specs.Seen.{answered}
use Rattle.lists.specs.Atoms.{atoms_of}
use Rattle.frame.specs.declared.Frame.{Frame}
use Rattle.sheet.specs.declared.Job.{Job}
use Rattle.sheet.specs.Read.{read_of}
use Rattle.sheet_written.specs.Written.{mask_of}
use Rattle.sheet_written.specs.Write.{write_of}

-- the frame as `read` answers it, with so many atoms and exclusions
unfoldable pub job_with : Frame → ℕ → ℕ → Job
job_with f atoms count =
    record {
      atoms = atoms;
      ex = f.x.edge;
      ey = f.y.edge;
      ez = f.z.edge;
      px = f.x.round;
      py = f.y.round;
      pz = f.z.round;
      radius = f.radius;
      count = count;
    }

-- "Reading what was written gives back that frame and set": after an answered `write` the bytes that it left are read as the frame, all its fields,
-- and the coordinates and the exclusion rows stand at the front of the lent rooms, past them as they came.
abbrev pub WriteReads : Frame → List ℕ → List ℕ → List ℕ → Type 0
WriteReads f xs table out =
    (n : ℕ) → (write_of f xs table out).shown ≡ answered n → (co ex : List ℕ) → 3072 ≤ length co → 2048 ≤ length ex → read_of (take n (write_of f xs table out).out) co ex ≡ record { shown = answered (job_with f (atoms_of xs) (length table / 2)); coordinates = sets co 0 xs; exclusions = sets ex 0 table }

-- ---- flags to mask and mask to flags are inverse
abbrev pub on_x : ℕ → Bool
on_x mask = eqb (mask % 2) 1

abbrev pub on_y : ℕ → Bool
on_y mask = eqb (mask / 2 % 2) 1

abbrev pub on_z : ℕ → Bool
on_z mask = eqb (mask / 4 % 2) 1

abbrev pub FlagsBack : Bool → Bool → Bool → Type 0
FlagsBack px py pz = (mask_of px py pz < 8) × (on_x (mask_of px py pz) ≡ px) × (on_y (mask_of px py pz) ≡ py) × (on_z (mask_of px py pz) ≡ pz)

abbrev pub MaskBack : ℕ → Type 0
MaskBack mask = mask < 8 → mask_of (on_x mask) (on_y mask) (on_z mask) ≡ mask
