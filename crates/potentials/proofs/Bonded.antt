-- A block of bonds: their lengths, energies and slopes are found for all of it before the sums, where a bond whose atoms are not apart is passed over. Assumes nothing.
use mathlib.Core.Bool.{true, false}
use mathlib.Core.Path.{◌≡◌, refl, sym, ◌∙◌}
use mathlib.Core.Logic.{⊎_elim}
use mathlib.Core.List.{List, foldl}
use Prim.Native.Nat.{ℕ, ◌+◌, ◌*◌, ◌<◌, ◌≤◌}
use native.Mathlib.Omega.{arith}
use lib.Ieee.{Float, nan, lt}
use lib.ListN.{length, get_or, set}
use lib.Seq.{get_or-set_same, get_or-set_other}
use Rattle.float.specs.Def.{root_of}
use Rattle.float.specs.Literals.{tiny}
use Rattle.float.specs.Arith.{at}
use Rattle.lists.specs.Lists.{up_to}
use Rattle.lists.proofs.Cases.{same_or}
use Rattle.cell.specs.declared.Vec3.{Vec3}
use Rattle.cell.specs.Vec.{norm2_of, norm_of, position_at}
use Rattle.potentials_pair.specs.Pull.{Total}
use Rattle.potentials_pair.specs.Bond.{bond_near, bond_pull, bond_energy, bond_slope}
use Rattle.potentials.proofs.Blocks.{folds_agree, pulled_none, pulled_turn, pulled_end}
use Rattle.potentials.proofs.Places.{skip_one}
use Rattle.potentials.specs.Blocks.{block_step, scaled_pull, bond_at, length_on, bond_energy_on, bond_slope_on, bonded_step, with_pull, Bonded}

module _ (apart two : List Float) where
  pub bonded_none : (roots pulls : List Float) → Bonded apart two roots pulls 0
  bonded_none roots pulls = record { long = λ m h. absurd (omega arith); pulled = pulled_none (bond_energy_on apart two) (bond_slope_on apart two) pulls }

  pub bonded_turn : (roots pulls : List Float) {n : ℕ} → n < length roots → 2 * n + 1 < length pulls → Bonded apart two roots pulls n → {roots' pulls' : List Float}
      → roots' ≡ set roots n (length_on apart n) → pulls' ≡ with_pull (bond_energy_on apart two) (bond_slope_on apart two) pulls n → Bonded apart two roots' pulls' (n + 1)
  bonded_turn roots pulls {n} l h b x y =
      record {
        long =
            λ m k. rw x (⊎_elim
            (λ (q : m ≡ n). rw q (get_or-set_same roots n (length_on apart n) nan l))
            (λ (q : m ≡ n → ⊥). get_or-set_other roots n m (length_on apart n) nan q ∙ b.long m (omega (arith, q)))
            (same_or m n));
        pulled = pulled_turn (bond_energy_on apart two) (bond_slope_on apart two) pulls h b.pulled y;
      }

  pub bonded_end : {roots pulls : List Float} {m n : ℕ} → n ≤ m → Bonded apart two roots pulls m → Bonded apart two roots pulls n
  bonded_end {pulls = pulls} h b =
      record { long = λ k l. b.long k (omega arith); pulled = pulled_end (bond_energy_on apart two) (bond_slope_on apart two) pulls h b.pulled }

  near : (k r0 r : Float) (d : Vec3) → bond_near k r0 d r ≡ scaled_pull (bond_energy k r0 r) d (bond_slope k r0 r)
  near k r0 r d = unfold bond_near in unfold scaled_pull in unfold bond_energy in unfold bond_slope in refl

  -- what the places add by their lengths and two floats
  at_place : (atoms : List ℕ) (roots pulls : List Float) (n m : ℕ) → m < n → Bonded apart two roots pulls n → (t : Total) → bonded_step atoms apart roots pulls t m ≡ block_step bond_at atoms apart two t m
  at_place atoms roots pulls n m h b t =
      unfold bonded_step in unfold block_step in
      rw (b.long m h, b.pulled.energy m h, b.pulled.slope m h)
      (unfold bond_energy_on in unfold bond_slope_on in unfold bond_at in unfold bond_pull in unfold length_on in
      rw (← near (at two (2 * m)) (at two (2 * m + 1)) (norm_of (position_at apart m)) (position_at apart m))
      (sym (skip_one (lt (norm_of (position_at apart m)) tiny) t (get_or atoms (2 * m) 0, get_or atoms (2 * m + 1) 0) (bond_near (at two (2 * m)) (at two (2 * m + 1)) (position_at apart m) (norm_of (position_at apart m))))))

  pub bonded_sum : (atoms : List ℕ) (roots pulls : List Float) (n : ℕ) → Bonded apart two roots pulls n → (t : Total) {t' : Total} → t' ≡ foldl (bonded_step atoms apart roots pulls) t (up_to n)
      → t' ≡ foldl (block_step bond_at atoms apart two) t (up_to n)
  bonded_sum atoms roots pulls n b t e =
      e ∙ folds_agree {p = block_step bond_at atoms apart two} {p' = bonded_step atoms apart roots pulls} n (λ m h x. at_place atoms roots pulls n m h b x) t

-- ---- the length, the energy and the slope of a place, as the code makes them
pub long_at : (apart : List Float) (m : ℕ) {d : Vec3} {r2 r : Float} → d ≡ position_at apart m → r2 ≡ norm2_of d → r ≡ root_of r2 → r ≡ length_on apart m
long_at apart m ed e2 er = unfold length_on in unfold norm_of in rw (er, e2, ed)

module _ (apart two : List Float) (m : ℕ) {r : Float} (e : r ≡ length_on apart m) where
  pub energy_at : {x : Float} → x ≡ bond_energy (at two (2 * m)) (at two (2 * m + 1)) r → x ≡ bond_energy_on apart two m
  energy_at h = unfold bond_energy_on in rw (← e) h

  pub slope_at : {x : Float} → x ≡ bond_slope (at two (2 * m)) (at two (2 * m + 1)) r → x ≡ bond_slope_on apart two m
  slope_at h = unfold bond_slope_on in rw (← e) h

-- ---- a place passed over, or added
module _ (atoms : List ℕ) (apart roots pulls : List Float) (t : Total) (m : ℕ) where
  pub passed_over : lt (at roots m) tiny ≡ true → t ≡ bonded_step atoms apart roots pulls t m
  passed_over h = unfold bonded_step in rw h

  pub not_passed : lt (at roots m) tiny ≡ false → {r : Total} → r ≡ block_step scaled_pull atoms apart pulls t m → r ≡ bonded_step atoms apart roots pulls t m
  not_passed h e = unfold bonded_step in rw h e
