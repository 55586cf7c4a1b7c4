-- A pair of two atoms that are there gives the first its force and the second that force times -1, and touches nothing else. Assumes nothing.
use Rattle.std.specs.Prelude.{Some}
use mathlib.Core.Path.{◌≡◌, ap, ◌∙◌}
use mathlib.Core.List.{List}
use Prim.Native.Nat.{ℕ, ◌+◌, ◌*◌, ◌/◌, ◌<◌}
use native.Mathlib.Omega.{arith}
use lib.Ieee.{Float, nan, neg}
use Rattle.lists.specs.Atoms.{atoms_of}
use Rattle.float.specs.Literals.{f1}
use Rattle.cell.specs.declared.Vec3.{Vec3}
use Rattle.cell.specs.Vec.{scale_of}
use Rattle.float.specs.Arith.{◌⊕◌, at}
use Rattle.lists.proofs.Rows.{set_three, three_first, three_second, three_third, three_other}
use Rattle.virial.specs.Virial.{added_at, forces_with_pair}
use Rattle.virial.proofs.Forces.{added_there, added_length, pair_length}
use Rattle.potentials_pair.specs.Newton.{Gains, Acts}
use Rattle.potentials_pair.specs.Pull.{Total, after}

-- ---- a vector added at one atom
module _ (l : List Float) (i : ℕ) (v : Vec3) (h : i < atoms_of l) where
  abbrev a : Float
  a = at l (3 * i) ⊕ v.x

  abbrev b : Float
  b = at l (3 * i + 1) ⊕ v.y

  abbrev c : Float
  c = at l (3 * i + 2) ⊕ v.z

  there : (k : ℕ) {w : Float} → at (set_three l i a b c) k ≡ w → at (added_at l i v) k ≡ w
  there k e = ap (λ (m : List Float). at m k) (added_there l i v h) ∙ e

  one_gains : Gains l (added_at l i v) i v
  one_gains =
      record {
        x = there (3 * i) (three_first nan l i a b c (omega arith));
        y = there (3 * i + 1) (three_second nan l i a b c (omega arith));
        z = there (3 * i + 2) (three_third nan l i a b c (omega arith));
      }

  one_others : (k : ℕ) → (k / 3 ≡ i → ⊥) → at (added_at l i v) k ≡ at l k
  one_others k n =
      there k (three_other nan l i a b c k (λ e. n (omega arith)) (λ e. n (omega arith)) (λ e. n (omega arith)))

-- ---- the law
module _ (l : List Float) (i j : ℕ) (f : Vec3) (hi : i < atoms_of l) (hj : j < atoms_of l) (apart : i ≡ j → ⊥) where
  abbrev mid : List Float
  mid = added_at l i f

  abbrev g : Vec3
  g = scale_of f (neg f1)

  in-mid : j < atoms_of mid
  in-mid = omega (arith, added_length l i f)

  -- what the second store leaves of the first atom, and what it found at its own
  stays : (k : ℕ) → k / 3 ≡ i → at (added_at mid j g) k ≡ at mid k
  stays k e = one_others mid j g in-mid k (λ d. apart (omega arith))

  found : (k : ℕ) → k / 3 ≡ j → at mid k ≡ at l k
  found k e = one_others l i f hi k (λ d. apart (omega arith))

  pub force_acts : Acts l (forces_with_pair l i j f) i j f
  unfolding forces_with_pair
  force_acts =
      let p = one_gains l i f hi in
      let q = one_gains mid j g in-mid in
      record {
        same = unfold forces_with_pair in pair_length l i j f;
        first =
            record {
              x = stays (3 * i) (omega arith) ∙ p.x;
              y = stays (3 * i + 1) (omega arith) ∙ p.y;
              z = stays (3 * i + 2) (omega arith) ∙ p.z;
            };
        second =
            record {
              x = q.x ∙ ap (λ (w : Float). w ⊕ g.x) (found (3 * j) (omega arith));
              y = q.y ∙ ap (λ (w : Float). w ⊕ g.y) (found (3 * j + 1) (omega arith));
              z = q.z ∙ ap (λ (w : Float). w ⊕ g.z) (found (3 * j + 2) (omega arith));
            };
        others = λ k m n. one_others mid j g in-mid k n ∙ one_others l i f hi k m;
      }

-- a pair that is not skipped: what it does to the forces
pub pair_acts : (t : Total) (i j : ℕ) (energy : Float) (d f : Vec3) → i < atoms_of t.forces → j < atoms_of t.forces → (i ≡ j → ⊥)
    → Acts t.forces (after t (i, j) (Some (record { energy = energy; d = d; f = f }))).forces i j f
pair_acts t i j energy d f hi hj apart = force_acts t.forces i j f hi hj apart
