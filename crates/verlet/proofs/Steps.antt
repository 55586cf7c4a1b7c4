-- Laws of a step's loops: lengths, what stands at a place afterwards, and what a test of the lengths tells. Assumes nothing.
use mathlib.Core.Path.{◌≡◌, ◌∙◌, ap}
use mathlib.Core.Bool.{true}
use mathlib.Core.List.{List}
use Prim.Native.Nat.{ℕ, ◌*◌, ◌<◌, ◌≤◌}
use borrow.Author.Tests.{eqb-true, eq-eqb, le-leb}
use lib.Ieee.{Float, nan}
use lib.ListN.{length}
use Rattle.lists.specs.Atoms.{atoms_of}
use Rattle.float.specs.Literals.{half}
use Rattle.float.specs.Arith.{◌⊕◌, ◌⊗◌, at}
use Rattle.lists.proofs.Cases.{and_both}
use Rattle.lists.proofs.Loops.{length_map_at, get_d_map_at}
use Rattle.lists.specs.Lists.{every}
use Rattle.virial.specs.declared.Units.{Units}
use Rattle.verlet.specs.Parts.{three_each, kick_fits, move_fits, kicked_by, moved_by, rescaled_by, coordinate, drifts}
use Rattle.verlet.specs.Verlet.{kick_at, kicked_of, drift_at, drifted_of, moved_of, berendsen_of}

pub kicked_length : (units : Units) (dt : Float) (fs ms vs : List Float) → length (kicked_of units dt fs ms vs) ≡ length vs
unfolding kicked_of
kicked_length units dt fs ms vs = length_map_at _ nan vs

pub drifted_length : (dt : Float) (vs xs : List Float) → length (drifted_of dt vs xs) ≡ length xs
unfolding drifted_of
drifted_length dt vs xs = length_map_at _ nan xs

-- a coordinate after the kick and the drift
pub drifted_at :
    (units : Units) (dt : Float) (fs ms xs vs : List Float) (k : ℕ) → k < length xs → k < length vs
    → at (drifted_of dt (kicked_of units dt fs ms vs) xs) k ≡ at xs k ⊕ kick_at units.force_to_accel (half ⊗ dt) fs ms k (at vs k) ⊗ dt
unfolding drifted_of kicked_of
drifted_at units dt fs ms xs vs k h m =
    get_d_map_at (drift_at dt (kicked_of units dt fs ms vs)) nan k xs h
    ∙ ap (λ (v : Float). at xs k ⊕ v ⊗ dt) (get_d_map_at (kick_at units.force_to_accel (half ⊗ dt) fs ms) nan k vs m)

-- three floats an atom, and so in both lists of a kick, and all three of a move
pub each_three : (m n : ℕ) → three_each m n ≡ true → m ≡ 3 * n
unfolding three_each
each_three m n e = eqb-true m (3 * n) e

pub kick_fit : (fs ms vs : List Float) → kick_fits fs ms vs ≡ true → (length vs ≡ 3 * length ms) × (length fs ≡ 3 * length ms)
unfolding kick_fits
kick_fit fs ms vs e =
    let both = and_both (three_each (length vs) (length ms)) (three_each (length fs) (length ms)) e in
    (each_three (length vs) (length ms) both.0, each_three (length fs) (length ms) both.1)

pub move_fit :
    (fs ms xs vs : List Float) → move_fits fs ms xs vs ≡ true
    → (length vs ≡ 3 * length ms) × (length fs ≡ 3 * length ms) × (length xs ≡ 3 * length ms)
unfolding move_fits
move_fit fs ms xs vs e =
    let both = and_both (kick_fits fs ms vs) (three_each (length xs) (length ms)) e in
    let kick = kick_fit fs ms vs both.0 in
    (kick.0, kick.1, each_three (length xs) (length ms) both.1)

-- lists that fit: what each kernel does is the source's loop
module _ (units : Units) (dt : Float) (fs ms vs : List Float) (speeds : length vs ≡ 3 * length ms) (pulls : length fs ≡ 3 * length ms) where
  pub fits_kick : kick_fits fs ms vs ≡ true
  unfolding kick_fits three_each
  fits_kick = rw (eq-eqb (length vs) (3 * length ms) speeds, eq-eqb (length fs) (3 * length ms) pulls)

  pub kicked_by_lem : kicked_by units dt fs ms vs ≡ kicked_of units dt fs ms vs
  unfolding kicked_by
  kicked_by_lem = rw fits_kick

  module _ (xs : List Float) (places : length xs ≡ 3 * length ms) where
    pub fits_move : move_fits fs ms xs vs ≡ true
    unfolding move_fits three_each
    fits_move = rw (fits_kick, eq-eqb (length xs) (3 * length ms) places)

    pub moved_by_lem : moved_by units dt fs ms xs vs ≡ moved_of units dt fs ms xs vs
    unfolding moved_by
    moved_by_lem = rw fits_move

    pub drifts_by : drifts units dt fs ms xs vs ≡ every coordinate (drifted_of dt (kicked_of units dt fs ms vs) xs)
    unfolding drifts
    drifts_by = rw fits_move

-- at most 16,384 atoms: the source's thermostat
module _ (units : Units) (dt target tau : Float) (ms vs : List Float) where
  pub rescaled_by_lem : atoms_of vs ≤ 16384 → rescaled_by units dt target tau ms vs ≡ berendsen_of units dt target tau ms vs
  unfolding rescaled_by
  rescaled_by_lem h = rw (le-leb (atoms_of vs) 16384 h)
