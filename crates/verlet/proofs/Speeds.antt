-- A drift that is accepted leaves no velocity above 2^500, so that a call that goes on from there never refuses one. Assumes nothing.
use mathlib.Core.Path.{◌≡◌, refl}
use mathlib.Core.Bool.{Bool, true, false, cond, false≢true}
use mathlib.Core.List.{List}
use mathlib.Core.Logic.{⊎_elim}
use Prim.Native.Nat.{ℕ, ◌*◌, ◌+◌, ◌^◌, ◌<◌, ◌/◌}
use native.Mathlib.Omega.{arith}
use lib.Dec.{T, leb→le}
use lib.Ieee.{Float, nan, of_bits, round}
use lib.Ieee.Exact.{HasValue}
use lib.Ieee.Positive.{positive}
use lib.ListN.{length}
use Rattle.float.specs.Literals.{half}
use Rattle.cell.specs.Ranged.{entry_limit, other_limit}
use Rattle.float.specs.Arith.{◌⊕◌, ◌⊗◌, ◌⊘◌, bits, at}
use Rattle.lists.proofs.Cases.{and_both}
use Rattle.lists.proofs.Loops.{get_d_map_at}
use Rattle.lists.proofs.Walks.{every_at, at_every}
use Rattle.lists.specs.Lists.{every}
use Rattle.virial.specs.Ranged.{plain, velocity, mass, unit, units_in_range}
use Rattle.virial.specs.declared.Units.{Units}
use Rattle.verlet.specs.Ranged.{time_step}
use Rattle.verlet.specs.Parts.{coordinate, move_fits, drifts}
use Rattle.verlet.specs.Verlet.{kick_of, kick_at, kicked_of, drifted_of}
use Rattle.verlet.proofs.Sizes.{Small, Large, Exact, mul_small, mul_large, div_small, add_small, add_large, clash, by_size, within_small, small_within, between_small, between_large}
use Rattle.verlet.proofs.Steps.{kicked_length, drifted_length, drifted_at, move_fit}

-- the ends of the ranges
entry_is : HasValue entry_limit false (2 ^ 20) 1
unfolding of_bits
entry_is = (refl, refl)

other_is : HasValue other_limit false (2 ^ 500) 1
unfolding of_bits
other_is = (refl, refl)

step_is : HasValue (bits 0x4090000000000000) false (2 ^ 10) 1
unfolding of_bits
step_is = (refl, refl)

unit_least : HasValue (bits 0x3d70000000000000) false 1 (2 ^ 40)
unfolding of_bits
unit_least = (refl, refl)

unit_most : HasValue (bits 0x4270000000000000) false (2 ^ 40) 1
unfolding of_bits
unit_most = (refl, refl)

mass_least : HasValue (bits 0x3f50000000000000) false 1 (2 ^ 10)
unfolding of_bits
mass_least = (refl, refl)

some_unit : T (positive (bits 0x3d70000000000000))
unfolding of_bits
some_unit = tt

some_mass : T (positive (bits 0x3f50000000000000))
unfolding of_bits
some_mass = tt

half_small : Small 1 2 half
unfolding of_bits
half_small = leb→le 2 2 tt

one : 0 < 1
one = leb→le 1 1 tt

-- the bounds on the way
exact_10 : Exact (2 ^ 10) 1
unfolding round
exact_10 = (refl, refl)

exact_50 : Exact (2 ^ 50) 1
unfolding round
exact_50 = (refl, refl)

exact_400 : Exact (2 ^ 400) 1
unfolding round
exact_400 = (refl, refl)

exact_440 : Exact (2 ^ 440) 1
unfolding round
exact_440 = (refl, refl)

exact_490 : Exact (2 ^ 490) 1
unfolding round
exact_490 = (refl, refl)

exact_500 : Exact (2 ^ 500) 1
unfolding round
exact_500 = (refl, refl)

exact_550 : Exact (2 ^ 550) 1
unfolding round
exact_550 = (refl, refl)

exact_560 : Exact (2 ^ 560) 1
unfolding round
exact_560 = (refl, refl)

exact_561 : Exact (2 ^ 561) 1
unfolding round
exact_561 = (refl, refl)

exact_tiny : Exact 1 (2 ^ 60)
unfolding round
exact_tiny = (refl, refl)

module _ (accel m f v x dt : Float)
    (inAccel : unit accel ≡ true) (inMass : mass m ≡ true) (inForce : plain f ≡ true) (inSpeed : velocity v ≡ true) (inPlace : coordinate x ≡ true) (inStep : time_step dt ≡ true) where
  quotient : Small (2 ^ 50) 1 (accel ⊘ m)
  quotient =
      div_small (2 ^ 40) 1 1 (2 ^ 10) (2 ^ 50) 1 one one one exact_50 accel m (2 ^ 20)
      (between_small _ _ 1 (2 ^ 40) (2 ^ 40) 1 unit_least unit_most some_unit accel inAccel)
      (between_small _ _ 1 (2 ^ 10) (2 ^ 20) 1 mass_least entry_is some_mass m inMass)
      (between_large _ _ 1 (2 ^ 10) (2 ^ 20) 1 mass_least entry_is some_mass m inMass)
      (leb→le (2 ^ 40 * 2 ^ 10 * 1) (2 ^ 50 * (1 * 1)) tt)

  pull : Small (2 ^ 550) 1 (f ⊗ (accel ⊘ m))
  pull =
      mul_small (2 ^ 500) 1 (2 ^ 50) 1 (2 ^ 550) 1 one one exact_550 f (accel ⊘ m) (within_small other_limit (2 ^ 500) 1 other_is f inForce) quotient
      (leb→le (2 ^ 500 * 2 ^ 50 * 1) (2 ^ 550 * (1 * 1)) tt)

  speed : Small (2 ^ 20) 1 v
  speed = within_small entry_limit (2 ^ 20) 1 entry_is v inSpeed

  time : Small (2 ^ 10) 1 dt
  unfolding time_step
  time = within_small (bits 0x4090000000000000) (2 ^ 10) 1 step_is dt inStep

  -- a step of at most 2^-60 gives no more than 2^490 to a velocity
  in-a-short-step : Small 1 (2 ^ 60) dt → Small (2 ^ 500) 1 (kick_of accel (half ⊗ dt) f m v)
  unfolding kick_of
  in-a-short-step h =
      add_small (2 ^ 20) (2 ^ 490) (2 ^ 500) exact_500 v (f ⊗ (accel ⊘ m) ⊗ (half ⊗ dt)) speed
      (mul_small (2 ^ 550) 1 1 (2 ^ 60) (2 ^ 490) 1 (leb→le 1 (1 * 2 ^ 60) tt) one exact_490 (f ⊗ (accel ⊘ m)) (half ⊗ dt) pull
      (mul_small 1 2 1 (2 ^ 60) 1 (2 ^ 60) (leb→le 1 (2 * 2 ^ 60) tt) (leb→le 1 (2 ^ 60) tt) exact_tiny half dt half_small h (leb→le (1 * 1 * 2 ^ 60) (1 * (2 * 2 ^ 60)) tt))
      (leb→le (2 ^ 550 * 1 * 1) (2 ^ 490 * (1 * 2 ^ 60)) tt))
      (leb→le (2 ^ 20 + 2 ^ 490) (2 ^ 500) tt)

  -- in any step it stays a number
  in-a-step : Small (2 ^ 561) 1 (kick_of accel (half ⊗ dt) f m v)
  unfolding kick_of
  in-a-step =
      add_small (2 ^ 20) (2 ^ 560) (2 ^ 561) exact_561 v (f ⊗ (accel ⊘ m) ⊗ (half ⊗ dt)) speed
      (mul_small (2 ^ 550) 1 (2 ^ 10) 1 (2 ^ 560) 1 one one exact_560 (f ⊗ (accel ⊘ m)) (half ⊗ dt) pull
      (mul_small 1 2 (2 ^ 10) 1 (2 ^ 10) 1 (leb→le 1 2 tt) one exact_10 half dt half_small time (leb→le (1 * 2 ^ 10 * 1) (2 ^ 10 * (2 * 1)) tt))
      (leb→le (2 ^ 550 * 2 ^ 10 * 1) (2 ^ 560 * (1 * 1)) tt))
      (leb→le (2 ^ 20 + 2 ^ 560) (2 ^ 561) tt)

  -- a velocity of 2^500 carries an atom out of range in a step of 2^-60 or more
  carried : (w : Float) → Small (2 ^ 561) 1 w → Large 1 (2 ^ 60) dt → Large (2 ^ 500) 1 w → Large (2 ^ 400) 1 (x ⊕ w ⊗ dt)
  carried w s l h =
      add_large (2 ^ 20) (2 ^ 440) (2 ^ 400) exact_400 x (w ⊗ dt) (within_small entry_limit (2 ^ 20) 1 entry_is x inPlace)
      (mul_large (2 ^ 500) 1 1 (2 ^ 60) (2 ^ 440) 1 (leb→le 1 (1 * 2 ^ 60) tt) one exact_440 w dt (2 ^ 561) (2 ^ 10) s time h l (leb→le (2 ^ 440 * (1 * 2 ^ 60)) (2 ^ 500 * 1 * 1) tt))
      (leb→le (2 ^ 400 + 2 ^ 20) (2 ^ 440) tt)

  module _ (there : coordinate (x ⊕ kick_of accel (half ⊗ dt) f m v ⊗ dt) ≡ true) where
    kicked_small : Small (2 ^ 500) 1 (kick_of accel (half ⊗ dt) f m v)
    kicked_small =
        let w = kick_of accel (half ⊗ dt) f m v in
        ⊎_elim in-a-short-step
        (λ l. ⊎_elim (λ h. h)
        (λ h. absurd (clash (2 ^ 20) (2 ^ 400) (x ⊕ w ⊗ dt) (within_small entry_limit (2 ^ 20) 1 entry_is (x ⊕ w ⊗ dt) there) (carried w in-a-step l h) (leb→le (2 ^ 20 + 1) (2 ^ 400) tt)))
        (by_size (2 ^ 561) (2 ^ 500) 1 w in-a-step))
        (by_size (2 ^ 10) 1 (2 ^ 60) dt time)

    pub kicked_plain : plain (kick_of accel (half ⊗ dt) f m v) ≡ true
    kicked_plain = small_within other_limit (2 ^ 500) 1 other_is (kick_of accel (half ⊗ dt) f m v) one kicked_small

-- ---- the lists of a step
both_told : (b e : Bool) → cond b e false ≡ true → (b ≡ true) × (e ≡ true)
both_told true e h = (refl, h)
both_told false e h = absurd (false≢true h)

first_unit : (units : Units) → units_in_range units ≡ true → unit units.force_to_accel ≡ true
unfolding units_in_range
first_unit units h = (and_both _ _ (and_both _ _ (and_both _ _ h).0).0).0

-- Where every number is in range and the drift is accepted, every kicked velocity is at most 2^500.
module _ (units : Units) (dt : Float) (fs ms xs vs : List Float)
    (inUnits : units_in_range units ≡ true) (inStep : time_step dt ≡ true) (inForces : every plain fs ≡ true)
    (inMasses : every mass ms ≡ true) (inPlaces : every coordinate xs ≡ true) (inSpeeds : every velocity vs ≡ true)
    (accepted : drifts units dt fs ms xs vs ≡ true) where
  told : (move_fits fs ms xs vs ≡ true) × (every coordinate (drifted_of dt (kicked_of units dt fs ms vs) xs) ≡ true)
  unfolding drifts
  told = both_told (move_fits fs ms xs vs) (every coordinate (drifted_of dt (kicked_of units dt fs ms vs) xs)) accepted

  at_place : (k : ℕ) → k < length vs → plain (kick_at units.force_to_accel (half ⊗ dt) fs ms k (at vs k)) ≡ true
  at_place k h =
      let fit = move_fit fs ms xs vs told.0 in
      let same = drifted_at units dt fs ms xs vs k (omega arith) h in
      kicked_plain units.force_to_accel (at ms (k / 3)) (at fs k) (at vs k) (at xs k) dt
      (first_unit units inUnits)
      (every_at nan mass ms inMasses (k / 3) (omega arith))
      (every_at nan plain fs inForces k (omega arith))
      (every_at nan velocity vs inSpeeds k h)
      (every_at nan coordinate xs inPlaces k (omega arith))
      inStep
      (rw same at (every_at nan coordinate (drifted_of dt (kicked_of units dt fs ms vs) xs) told.1 k (omega (arith, drifted_length dt (kicked_of units dt fs ms vs) xs))))

  pub accepted_speeds : every plain (kicked_of units dt fs ms vs) ≡ true
  unfolding kicked_of
  accepted_speeds =
      at_every nan plain (kicked_of units dt fs ms vs)
      (λ k h. let there : k < length vs = omega (arith, kicked_length units dt fs ms vs) in
      rw (get_d_map_at (kick_at units.force_to_accel (half ⊗ dt) fs ms) nan k vs there) (at_place k there))
