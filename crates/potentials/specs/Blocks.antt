-- A block of pairs in local arrays: two atoms a place, three floats of how they lie to each other, and two floats more. Nobody has to believe it. Definitions only.
use Rattle.std.specs.Prelude.{Option, Some}
use Rattle.std.specs.Prelude.{◌≡◌, Bool, cond, ℕ, ◌+◌, ◌*◌, ◌<◌, ◌≤◌, Float, length, get_or, set, drop}
use mathlib.Core.List.{List, foldl}
use Rattle.std.specs.Float.Ieee.{lt}
use Rattle.float.specs.Arith.{◌⊗◌, ◌⊘◌, at}
use Rattle.float.specs.Def.{root_of}
use Rattle.float.specs.Literals.{tiny}
use Rattle.lists.specs.Lists.{up_to}
use Rattle.cell.specs.declared.Vec3.{Vec3}
use Rattle.cell.specs.Vec.{scale_of, norm_of, position_at}
use Rattle.potentials_pair.specs.declared.Lj.{Lj}
use Rattle.potentials_pair.specs.declared.Numbers.{Numbers}
use Rattle.potentials_pair.specs.Bond.{bond_pull, bond_energy, bond_slope}
use Rattle.potentials_pair.specs.Once.{energy_by, slope_by, near_by}
use Rattle.potentials_pair.specs.Pull.{Pull, Total, after}
use Rattle.potentials_pair.specs.Species.{Tables}
use Rattle.potentials.specs.Steps.{numbers_for, Kept}

-- what place m adds; `pull` makes it of the two floats and of how the atoms lie
unfoldable pub block_step : (Float → Vec3 → Float → Option Pull) → List ℕ → List Float → List Float → Total → ℕ → Total
block_step pull atoms apart two t m =
    after t (get_or atoms (2 * m) 0, get_or atoms (2 * m + 1) 0) (pull (at two (2 * m)) (position_at apart m) (at two (2 * m + 1)))

-- an energy, and a force g times as long as d
unfoldable pub scaled_pull : Float → Vec3 → Float → Option Pull
scaled_pull energy d g = Some (record { energy = energy; d = d; f = scale_of d g })

-- the three floats of place c
abbrev pub set_vec : List Float → ℕ → Vec3 → List Float
set_vec l c d = set (set (set l (3 * c) d.x) (3 * c + 1) d.y) (3 * c + 2) d.z

-- 128 places
pub record Block (atoms : List ℕ) (apart two : List Float) : Type 0 where
  pub atoms256 : 256 ≤ length atoms
  pub apart384 : 384 ≤ length apart
  pub two256 : length two ≡ 256

-- c places are taken, and c' after the pair a: they add what those before and then the pair add
pub record PlaceAdds {A B : Type 0} (p p' : B → ℕ → B) (c c' : ℕ) (f : B → A → B) (a : A) : Type 0 where
  pub few : c' ≤ c + 1
  pub same : (t : B) → foldl p' t (up_to c') ≡ f (foldl p t (up_to c)) a

-- the c places that are taken add what the pairs from `from` to k of a list add
pub record Sifted {A B : Type 0} (p : B → ℕ → B) (c : ℕ) (f : B → A → B) (l : List A) (from k : ℕ) : Type 0 where
  pub few : c + from ≤ k
  pub same : (t : B) → foldl f (foldl p t (up_to c)) (drop k l) ≡ foldl f t (drop from l)

-- the two floats of `coulombNear` at place m, from the charges' product and the squared distance there
unfoldable pub coulomb_energy : List Float → ℕ → Float
coulomb_energy two m = at two (2 * m) ⊘ root_of (at two (2 * m + 1))

unfoldable pub coulomb_slope : List Float → ℕ → Float
coulomb_slope two m = at two (2 * m) ⊘ (at two (2 * m + 1) ⊗ root_of (at two (2 * m + 1)))

-- energies e and slopes g, at place m
abbrev pub with_pull : (ℕ → Float) → (ℕ → Float) → List Float → ℕ → List Float
with_pull e g pulls m = set (set pulls (2 * m) (e m)) (2 * m + 1) (g m)

-- .. at the first n places
pub record Pulled (e g : ℕ → Float) (pulls : List Float) (n : ℕ) : Type 0 where
  pub energy : (m : ℕ) → m < n → at pulls (2 * m) ≡ e m
  pub slope : (m : ℕ) → m < n → at pulls (2 * m + 1) ≡ g m

-- ---- a block of bonds: its two floats are a force constant and a length at rest

unfoldable pub bond_at : Float → Vec3 → Float → Option Pull
bond_at k d r0 = bond_pull k r0 d

unfoldable pub length_on : List Float → ℕ → Float
length_on apart m = norm_of (position_at apart m)

unfoldable pub bond_energy_on : List Float → List Float → ℕ → Float
bond_energy_on apart two m = bond_energy (at two (2 * m)) (at two (2 * m + 1)) (length_on apart m)

unfoldable pub bond_slope_on : List Float → List Float → ℕ → Float
bond_slope_on apart two m = bond_slope (at two (2 * m)) (at two (2 * m + 1)) (length_on apart m)

-- the first n places have their lengths, energies and slopes
pub record Bonded (apart two roots pulls : List Float) (n : ℕ) : Type 0 where
  pub long : (m : ℕ) → m < n → at roots m ≡ length_on apart m
  pub pulled : Pulled (bond_energy_on apart two) (bond_slope_on apart two) pulls n

-- what place m adds by them
unfoldable pub bonded_step : List ℕ → List Float → List Float → List Float → Total → ℕ → Total
bonded_step atoms apart roots pulls t m = cond (lt (at roots m) tiny) t (block_step scaled_pull atoms apart pulls t m)

-- ---- a block of Lennard-Jones: the rows that are kept, by their places, and its room

-- a pair that is not skipped, by the numbers of its species
unfoldable pub lj_with : Lj → Tables → List ℕ → ℕ → ℕ → Vec3 → Float → Option Pull
lj_with lj tab species i j d r2 = near_by lj.shift (numbers_for lj tab (get_or species i 0) (get_or species j 0)) d r2

-- the keys, the places' numbers and the rows are as they were
pub record NearRest (atoms atoms' : List ℕ) (room room' : List Float) : Type 0 where
  pub keys : (k : ℕ) → 128 ≤ k → get_or atoms' k 0 ≡ get_or atoms k 0
  pub rest : (k : ℕ) → 128 ≤ k → at room' k ≡ at room k

-- the numbers of place m, and those of the species of its atoms
abbrev pub numbers_on : List Float → ℕ → Numbers
numbers_on room m = record { depth = at room (128 + m); square = at room (256 + m); shift = at room (384 + m) }

unfoldable pub numbers_with : Lj → Tables → List ℕ → List ℕ → ℕ → List ℕ → ℕ → Numbers
numbers_with lj tab species table from atoms m =
    let k = from + get_or atoms m 0 in
    numbers_for lj tab (get_or species (get_or table (2 * k) 0) 0) (get_or species (get_or table (2 * k + 1) 0) 0)

-- place m has its numbers, and nothing else of the places has changed
pub record NumberedAt (lj : Lj) (tab : Tables) (species table : List ℕ) (from : ℕ) (atoms atoms' : List ℕ) (room room' : List Float) (m : ℕ) : Type 0 where
  pub kept : Kept lj tab atoms' room'
  pub same_atoms : (k : ℕ) → k < 128 → get_or atoms' k 0 ≡ get_or atoms k 0
  pub same_room : (k : ℕ) → k < 513 → (k ≡ 128 + m → ⊥) → (k ≡ 256 + m → ⊥) → (k ≡ 384 + m → ⊥) → at room' k ≡ at room k
  pub here : numbers_on room' m ≡ numbers_with lj tab species table from atoms m

-- .. the first n places
pub record Recalled (lj : Lj) (tab : Tables) (species table : List ℕ) (from : ℕ) (atoms atoms' : List ℕ) (room room' : List Float) (n : ℕ) : Type 0 where
  pub kept : Kept lj tab atoms' room'
  pub same_atoms : (k : ℕ) → k < 128 → get_or atoms' k 0 ≡ get_or atoms k 0
  pub same_room : (k : ℕ) → k < 128 → at room' k ≡ at room k
  pub right : (m : ℕ) → m < n → numbers_on room' m ≡ numbers_with lj tab species table from atoms m

-- the two floats of `nearBy` at place m
unfoldable pub lj_energy_on : Bool → List Float → ℕ → Float
lj_energy_on shift room m = energy_by shift (numbers_on room m) (at room m)

unfoldable pub lj_slope_on : List Float → ℕ → Float
lj_slope_on room m = slope_by (numbers_on room m) (at room m)
