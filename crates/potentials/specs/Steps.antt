-- What the loops say of themselves: a cell's facts are asked once, species are looked up by halving, and the numbers of two species are remembered. Nobody has to believe it. Definitions only.
use Rattle.std.specs.Prelude.{◌≡◌, List, ℕ, ◌+◌, ◌*◌, ◌%◌, ◌^◌, ◌<◌, Float, length, get_or}
use Rattle.lists.specs.Atoms.{atoms_of}
use Rattle.float.specs.Arith.{at}
use Rattle.cell_prepared.specs.declared.Prepared.{Prepared}
use Rattle.cell_prepared.specs.Facts.{image_in}
use Rattle.potentials_pair.specs.declared.Lj.{Lj}
use Rattle.potentials_pair.specs.declared.Numbers.{Numbers}
use Rattle.potentials_pair.specs.Lj.{mix_of}
use Rattle.potentials_pair.specs.Once.{numbers_of}
use Rattle.potentials_pair.specs.Pull.{Total}
use Rattle.potentials_pair.specs.Species.{Tables, look_by}
use Rattle.potentials.specs.Terms.{step, lj_pair, coulomb_pair}

unfoldable pub lj_step : Lj → Prepared → Tables → List ℕ → List Float → Total → ℕ × ℕ → Total
lj_step lj p tab species xs = step (atoms_of xs) (lj_pair (λ d. image_in p d) (look_by tab lj) lj species xs)

unfoldable pub coulomb_step : Float → Float → Prepared → List Float → List Float → Total → ℕ × ℕ → Total
coulomb_step ke cutoff p charges xs = step (atoms_of xs) (coulomb_pair (λ d. image_in p d) ke cutoff charges xs)

-- ---- the numbers of two species, remembered
unfoldable pub numbers_for : Lj → Tables → ℕ → ℕ → Numbers
numbers_for lj tab y z = numbers_of lj (mix_of lj.rule (look_by tab lj y) (look_by tab lj z))

-- the row of two species
abbrev pub slot_of : ℕ → ℕ → ℕ
slot_of y z = y % 4 * 4 + z % 4

-- row s
abbrev pub row_on : List Float → ℕ → Numbers
row_on room s = record { depth = at room (3 * (171 + s)); square = at room (3 * (171 + s) + 1); shift = at room (3 * (171 + s) + 2) }

-- Lennard-Jones's room: 128 places of rows that are kept, with 16 keys behind them; their squared distances (m) and their three numbers (128 + m, 256 + m, 384 + m), with 16 rows behind
-- them
pub record NearBlock (atoms : List ℕ) (room : List Float) : Type 0 where
  pub atoms144 : length atoms ≡ 144
  pub room561 : length room ≡ 561

-- a row has the numbers of its key, y * 2 ^ 32 + z
pub record Kept (lj : Lj) (tab : Tables) (atoms : List ℕ) (room : List Float) : Type 0 where
  pub block : NearBlock atoms room
  pub right : (y z : ℕ) → y < 2 ^ 32 → z < 2 ^ 32 → get_or atoms (128 + slot_of y z) 0 ≡ y * 2 ^ 32 + z → row_on room (slot_of y z) ≡ numbers_for lj tab y z

-- .. where it is made anew: what the places have is as it was
pub record Renewed (lj : Lj) (tab : Tables) (atoms atoms' : List ℕ) (room room' : List Float) : Type 0 where
  pub kept : Kept lj tab atoms' room'
  pub same_atoms : (k : ℕ) → k < 128 → get_or atoms' k 0 ≡ get_or atoms k 0
  pub same_room : (k : ℕ) → k < 513 → at room' k ≡ at room k

-- .. at first: every key is 0, and row 0 is right
pub record BlankKeys (atoms : List ℕ) : Type 0 where
  pub atoms144 : length atoms ≡ 144
  pub zero : (k : ℕ) → k < 144 → get_or atoms k 0 ≡ 0

pub record FirstRow (lj : Lj) (tab : Tables) (room : List Float) : Type 0 where
  pub room561 : length room ≡ 561
  pub right : row_on room 0 ≡ numbers_for lj tab 0 0
