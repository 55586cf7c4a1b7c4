-- An angle of three atoms that are there gives the first fi, the last fk and the apex (fi + fk) times -1, and touches nothing else. Assumes nothing.
use mathlib.Core.Path.{◌≡◌, sym, ap, ◌∙◌}
use mathlib.Core.List.{List}
use Prim.Native.Nat.{ℕ, ◌+◌, ◌*◌, ◌/◌, ◌<◌}
use native.Mathlib.Omega.{arith}
use lib.Ieee.{Float, nan, neg}
use Rattle.lists.specs.Atoms.{atoms_of}
use Rattle.float.specs.Literals.{f1}
use Rattle.cell.specs.declared.Vec3.{Vec3}
use Rattle.cell.specs.Vec.{add_of, scale_of}
use Rattle.float.specs.Arith.{◌⊕◌, at}
use Rattle.lists.proofs.Rows.{set_three, three_first, three_second, three_third, three_other}
use Rattle.virial.specs.Virial.{added_at}
use Rattle.virial.proofs.Forces.{added_there, added_length}
use Rattle.potentials_pair.specs.Newton.{Gains}
use Rattle.potentials_pair.specs.Pull.{Total}
use Rattle.potentials_angle.specs.declared.Corner.{Corner}
use Rattle.std.specs.Prelude.{Some}
use Rattle.potentials_angle.specs.Bend.{forces_with_bend, bent}
use Rattle.potentials_angle.specs.Newton.{Bends}

-- ---- a vector added at one atom
module _ (l : List Float) (i : ℕ) (v : Vec3) (h : i < atoms_of l) where
  abbrev a : Float
  a = at l (3 * i) ⊕ v.x

  abbrev b : Float
  b = at l (3 * i + 1) ⊕ v.y

  abbrev c : Float
  c = at l (3 * i + 2) ⊕ v.z

  there : (k : ℕ) {w : Float} → at (set_three l i a b c) k ≡ w → at (added_at l i v) k ≡ w
  there k e = ap (λ (m : List Float). at m k) (added_there l i v h) ∙ e

  one_gains : Gains l (added_at l i v) i v
  one_gains =
      record {
        x = there (3 * i) (three_first nan l i a b c (omega arith));
        y = there (3 * i + 1) (three_second nan l i a b c (omega arith));
        z = there (3 * i + 2) (three_third nan l i a b c (omega arith));
      }

  one_others : (k : ℕ) → (k / 3 ≡ i → ⊥) → at (added_at l i v) k ≡ at l k
  one_others k n =
      there k (three_other nan l i a b c k (λ e. n (omega arith)) (λ e. n (omega arith)) (λ e. n (omega arith)))

-- what atom i gained, where it stood as it was before and stays as it is after
module _ {before after : List Float} {i : ℕ} {v : Vec3} (l : List Float) (g : Gains before after i v) where
  kept_after : ((k : ℕ) → k / 3 ≡ i → at l k ≡ at after k) → Gains before l i v
  kept_after s =
      record {
        x = s (3 * i) (omega arith) ∙ g.x;
        y = s (3 * i + 1) (omega arith) ∙ g.y;
        z = s (3 * i + 2) (omega arith) ∙ g.z;
      }

  kept_before : ((k : ℕ) → k / 3 ≡ i → at before k ≡ at l k) → Gains l after i v
  kept_before s =
      record {
        x = g.x ∙ ap (λ (w : Float). w ⊕ v.x) (s (3 * i) (omega arith));
        y = g.y ∙ ap (λ (w : Float). w ⊕ v.y) (s (3 * i + 1) (omega arith));
        z = g.z ∙ ap (λ (w : Float). w ⊕ v.z) (s (3 * i + 2) (omega arith));
      }

-- ---- the law
module _ (l : List Float) (s : Corner) (fi fk : Vec3) (hi : s.first < atoms_of l) (ha : s.apex < atoms_of l) (hk : s.last < atoms_of l) where
  abbrev one : List Float
  one = added_at l s.first fi

  abbrev two : List Float
  two = added_at one s.last fk

  abbrev fa : Vec3
  fa = scale_of (add_of fi fk) (neg f1)

  abbrev three : List Float
  three = added_at two s.apex fa

  last_one : s.last < atoms_of one
  last_one = omega (arith, added_length l s.first fi)

  apex_two : s.apex < atoms_of two
  apex_two = omega (arith, added_length l s.first fi, added_length one s.last fk)

  -- what each store leaves elsewhere
  first_leaves : (k : ℕ) → (k / 3 ≡ s.first → ⊥) → at one k ≡ at l k
  first_leaves = one_others l s.first fi hi

  last_leaves : (k : ℕ) → (k / 3 ≡ s.last → ⊥) → at two k ≡ at one k
  last_leaves = one_others one s.last fk last_one

  apex_leaves : (k : ℕ) → (k / 3 ≡ s.apex → ⊥) → at three k ≡ at two k
  apex_leaves = one_others two s.apex fa apex_two

  pub force_bends : Bends l (forces_with_bend l s fi fk) s fi fk
  unfolding forces_with_bend
  force_bends =
      record {
        same = added_length two s.apex fa ∙ added_length one s.last fk ∙ added_length l s.first fi;
        first = λ u w. kept_after three (one_gains l s.first fi hi) (λ k e. apex_leaves k (λ d. w (sym e ∙ d)) ∙ last_leaves k (λ d. u (sym e ∙ d)));
        last = λ u w.
            kept_after three (kept_before l (one_gains one s.last fk last_one) (λ k e. first_leaves k (λ d. u (sym e ∙ d))))
            (λ k e. apex_leaves k (λ d. w (sym e ∙ d)));
        apex = λ u w.
            kept_before l (one_gains two s.apex fa apex_two) (λ k e. last_leaves k (λ d. w (sym e ∙ d)) ∙ first_leaves k (λ d. u (sym e ∙ d)));
        others = λ k x y z. apex_leaves k z ∙ last_leaves k y ∙ first_leaves k x;
      }

-- an angle that is not skipped: what it does to the forces
pub angle_bends : (t : Total) (s : Corner) (energy : Float) (rij fi rkj fk : Vec3) → s.first < atoms_of t.forces → s.apex < atoms_of t.forces → s.last < atoms_of t.forces
    → Bends t.forces (bent t s (Some (record { energy = energy; rij = rij; fi = fi; rkj = rkj; fk = fk }))).forces s fi fk
angle_bends t s energy rij fi rkj fk hi ha hk = force_bends t.forces s fi fk hi ha hk
