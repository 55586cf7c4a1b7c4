-- The source's first loop, which kicks and drifts an atom at a time, is all kicks and then all drifts. Assumes nothing.
use mathlib.Core.Path.{◌≡◌, refl, sym, ap, ap₂, ◌∙◌}
use mathlib.Core.List.{List, [], ◌∷◌}
use Prim.Native.Nat.{ℕ, zero, suc, ◌+◌, ◌*◌, ◌/◌, ◌<◌, ◌≤◌}
use native.Mathlib.Nat.{add-zero, zero-add, not-suc-le-zero, le_of_suc-le-suc}
use native.Mathlib.Numerals.{add-one}
use native.Mathlib.Omega.{arith}
use lib.Ieee.{Float, nan}
use lib.ListN.{length, set}
use Rattle.lists.specs.Atoms.{atoms_of}
use Rattle.float.specs.Literals.{half}
use Rattle.cell.specs.declared.Vec3.{Vec3}
use Rattle.float.specs.Arith.{◌⊕◌, ◌⊗◌, at}
use Rattle.lists.proofs.Loops.{part_turn, part_none, part_done, part_length, part_from_same, get_d_map_at}
use Rattle.lists.specs.Loops.{fold_up_to, part_from, part_at, map_at}
use Rattle.virial.proofs.Forces.{added_there}
use Rattle.virial.specs.declared.Units.{Units}
use Rattle.virial.specs.Virial.{added_at, velocity_at}
use Rattle.verlet.specs.Verlet.{kick_of, kick_at, kicked_of, drift_at, drifted_of, moved_of, kicked_atom, drifted_atom, moved_atom, moved_by_atoms}

module _ (g : ℕ → Float → Float) where
  -- past the part that is done everything is as it came
  later : (n k j : ℕ) (l : List Float) → k ≤ j → at (part_from g n k l) j ≡ at l j
  unfolding part_from
  later n zero j l h = refl
  later n (suc k) j [] h = refl
  later n (suc k) zero (a ∷ l) h = absurd (not-suc-le-zero h)
  later n (suc k) (suc j) (a ∷ l) h = later (suc n) k j l (le_of_suc-le-suc h)

  -- and in it everything is done
  earlier : (n k j : ℕ) (l : List Float) → j < k → j < length l → at (part_from g n k l) j ≡ g (n + j) (at l j)
  unfolding part_from
  earlier n zero j l h m = absurd (not-suc-le-zero h)
  earlier n (suc k) j [] h m = absurd (not-suc-le-zero m)
  earlier n (suc k) zero (a ∷ l) h m = rw (add-zero n)
  earlier n (suc k) (suc j) (a ∷ l) h m =
      let e : n + suc j ≡ suc n + j = omega arith in
      rw e (earlier (suc n) k j l (le_of_suc-le-suc h) (le_of_suc-le-suc m))

  module _ (l : List Float) (i : ℕ) (v : Vec3) (there : 3 * i + 2 < length l)
      (ex : at l (3 * i) ⊕ v.x ≡ g (3 * i) (at l (3 * i)))
      (ey : at l (3 * i + 1) ⊕ v.y ≡ g (3 * i + 1) (at l (3 * i + 1)))
      (ez : at l (3 * i + 2) ⊕ v.z ≡ g (3 * i + 2) (at l (3 * i + 2))) where
    -- a vector added at the next atom does three places more
    three_more : added_at (part_at g (3 * i) l) i v ≡ part_at g (3 * (i + 1)) l
    three_more =
        let p = part_at g (3 * i) l in
        let long = part_length g nan (3 * i) l {l = p} refl in
        let x0 : at p (3 * i) ≡ at l (3 * i) = later 0 (3 * i) (3 * i) l (omega arith) in
        let y0 : at p (3 * i + 1) ≡ at l (3 * i + 1) = later 0 (3 * i) (3 * i + 1) l (omega arith) in
        let z0 : at p (3 * i + 2) ≡ at l (3 * i + 2) = later 0 (3 * i) (3 * i + 2) l (omega arith) in
        let p1 = set p (3 * i) (at p (3 * i) ⊕ v.x) in
        let e1 : p1 ≡ part_at g (3 * i + 1) l = part_turn g nan (3 * i) l (omega arith) refl (rw x0 ex) in
        let y1 : at p1 (3 * i + 1) ≡ at l (3 * i + 1) = ap (λ (t : List Float). at t (3 * i + 1)) e1 ∙ part_from_same g nan 0 (3 * i + 1) l in
        let p2 = set p1 (3 * i + 1) (at p (3 * i + 1) ⊕ v.y) in
        let e2 : p2 ≡ part_at g (3 * i + 1 + 1) l = part_turn g nan (3 * i + 1) l (omega arith) e1 (rw (y0, y1) ey) in
        let k2 : 3 * i + 1 + 1 ≡ 3 * i + 2 = omega arith in
        let e2' : p2 ≡ part_at g (3 * i + 2) l = rw k2 at e2 in
        let z1 : at p2 (3 * i + 2) ≡ at l (3 * i + 2) = ap (λ (t : List Float). at t (3 * i + 2)) e2' ∙ part_from_same g nan 0 (3 * i + 2) l in
        let e3 : set p2 (3 * i + 2) (at p (3 * i + 2) ⊕ v.z) ≡ part_at g (3 * i + 2 + 1) l = part_turn g nan (3 * i + 2) l there e2' (rw (z0, z1) ez) in
        let k3 : 3 * i + 2 + 1 ≡ 3 * (i + 1) = omega arith in
        let whole : i < atoms_of p = omega arith in
        added_there p i v whole ∙ (rw k3 at e3)

module _ (units : Units) (dt : Float) (fs ms xs vs : List Float) (speeds : length vs ≡ 3 * length ms) (places : length xs ≡ 3 * length ms) where
  abbrev kick : ℕ → Float → Float
  kick = kick_at units.force_to_accel (half ⊗ dt) fs ms

  abbrev kicked : List Float
  kicked = map_at kick vs

  abbrev drift : ℕ → Float → Float
  drift = drift_at dt kicked

  own_mass : (i c k : ℕ) → c < 3 → k ≡ 3 * i + c → at ms i ≡ at ms (k / 3)
  own_mass i c k h e = let j : i ≡ k / 3 = omega arith in ap (λ (n : ℕ). at ms n) j

  kick_turn : (i : ℕ) → i < length ms → kicked_atom units dt fs ms i (part_at kick (3 * i) vs) ≡ part_at kick (3 * (i + 1)) vs
  unfolding kicked_atom velocity_at kick_of
  kick_turn i h =
      three_more kick vs i _ (omega arith)
      (rw (← own_mass i 0 (3 * i) (omega arith) (omega arith)))
      (rw (← own_mass i 1 (3 * i + 1) (omega arith) refl))
      (rw (← own_mass i 2 (3 * i + 2) (omega arith) refl))

  -- the velocities of the atoms that are done
  done_at : (k j : ℕ) → j < k → j < length vs → at (part_at kick k vs) j ≡ at kicked j
  done_at k j h m = earlier kick 0 k j vs h m ∙ rw (zero-add j) (sym (get_d_map_at kick nan j vs m))

  drift_turn : (i : ℕ) → i < length ms → drifted_atom dt (part_at kick (3 * (i + 1)) vs) i (part_at drift (3 * i) xs) ≡ part_at drift (3 * (i + 1)) xs
  unfolding drifted_atom velocity_at
  drift_turn i h =
      three_more drift xs i _ (omega arith)
      (rw (done_at (3 * (i + 1)) (3 * i) (omega arith) (omega arith)))
      (rw (done_at (3 * (i + 1)) (3 * i + 1) (omega arith) (omega arith)))
      (rw (done_at (3 * (i + 1)) (3 * i + 2) (omega arith) (omega arith)))

  atom_turn : (i : ℕ) → i < length ms → moved_atom units dt fs ms i (part_at drift (3 * i) xs, part_at kick (3 * i) vs) ≡ (part_at drift (3 * (i + 1)) xs, part_at kick (3 * (i + 1)) vs)
  unfolding moved_atom
  atom_turn i h = rw (kick_turn i h, drift_turn i h)

  after : (n : ℕ) → n ≤ length ms → fold_up_to (moved_atom units dt fs ms) n (xs, vs) ≡ (part_at drift (3 * n) xs, part_at kick (3 * n) vs)
  unfolding fold_up_to
  after zero h = ap₂ {A = List Float} {B = List Float} {C = List Float × List Float} (λ l r. (l, r)) (part_none drift nan xs) (part_none kick nan vs)
  after (suc n) h = ap (moved_atom units dt fs ms n) (after n (omega arith)) ∙ rw (add-one n) at (atom_turn n h)

  pub fused : moved_by_atoms units dt fs ms xs vs ≡ moved_of units dt fs ms xs vs
  unfolding moved_by_atoms moved_of drifted_of kicked_of
  fused =
      after (length ms) (omega arith)
      ∙ ap₂ {A = List Float} {B = List Float} {C = List Float × List Float} (λ l r. (l, r)) (part_done drift nan (3 * length ms) xs (sym places) refl) (part_done kick nan (3 * length ms) vs (sym speeds) refl)
