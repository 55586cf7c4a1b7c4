-- What a pair's place adds, Coulomb's and a bond's: the pair's own step, or nothing where it is skipped. Assumes nothing.
use Rattle.std.specs.Prelude.{Option, None}
use mathlib.Core.Path.{◌≡◌, refl}
use mathlib.Core.Bool.{Bool, true, false, cond, ◌||◌}
use mathlib.Core.List.{List}
use Prim.Native.Nat.{ℕ, ◌+◌, ◌*◌, ◌/◌, ◌<◌}
use lib.Ieee.{Float}
use lib.ListN.{length, get_or}
use Rattle.float.specs.Literals.{f0}
use Rattle.float.specs.Arith.{◌⊗◌, at}
use Rattle.lists.specs.Atoms.{atoms_of}
use Rattle.lists.proofs.Rows.{rows_at}
use Rattle.ranges.specs.Rows.{is_absent}
use Rattle.cell.specs.declared.Vec3.{Vec3}
use Rattle.cell.specs.Vec.{scale_of, norm2_of, position_at}
use Rattle.cell_prepared.specs.declared.Prepared.{Prepared}
use Rattle.cell_prepared.specs.Facts.{image_in}
use Rattle.virial.specs.declared.Sum.{Sum}
use Rattle.virial.specs.Virial.{sum_with_energy, sum_with_pair, forces_with_pair}
use Rattle.potentials_pair.specs.Pull.{Pull, Total, held, after, skips}
use Rattle.potentials_pair.specs.Coulomb.{neutral, coulomb_near, coulomb_pull}
use Rattle.potentials.specs.declared.Bond.{Bond}
use Rattle.potentials.specs.Terms.{step, displaced, coulomb_pair, bond_pair, bond_step}
use Rattle.potentials.specs.Steps.{coulomb_step}
use Rattle.potentials.specs.Blocks.{block_step, scaled_pull, bond_at}

pub skip_one : (n : Bool) (t : Total) (p : ℕ × ℕ) (x : Option Pull) → after t p (cond n None x) ≡ cond n t (after t p x)
skip_one true t p x = refl
skip_one false t p x = refl

skip_two : (n k : Bool) (t : Total) (p : ℕ × ℕ) (x : Option Pull) → after t p (cond n None (cond k None x)) ≡ cond (n || k) t (after t p x)
skip_two true k t p x = refl
skip_two false true t p x = refl
skip_two false false t p x = refl

module _ (ke cutoff : Float) (p : Prepared) (charges xs : List Float) (i j : ℕ) where
  pub coulomb_absent : is_absent (atoms_of xs) (i, j) ≡ true → (t : Total) → t ≡ coulomb_step ke cutoff p charges xs t (i, j)
  coulomb_absent h t = unfold coulomb_step in unfold step in rw h

  pub coulomb_there : is_absent (atoms_of xs) (i, j) ≡ false → {a b : Float} → a ≡ get_or charges i f0 → b ≡ get_or charges j f0 → {d : Vec3} → d ≡ displaced (λ d. image_in p d) xs (i, j)
      → {r2 : Float} → r2 ≡ norm2_of d → {n k : Bool} → n ≡ neutral a b → k ≡ skips cutoff r2
      → (t : Total) → coulomb_step ke cutoff p charges xs t (i, j) ≡ cond (n || k) t (after t (i, j) (coulomb_near (ke ⊗ a ⊗ b) d r2))
  coulomb_there h {a} {b} ea eb {d} ed {r2} er {n} {k} en ek t =
      unfold coulomb_step in unfold step in unfold coulomb_pair in unfold coulomb_pull in
      rw (h, ← ea, ← eb, ← ed, ← er, ← en, ← ek) (skip_two n k t (i, j) (coulomb_near (ke ⊗ a ⊗ b) d r2))

module _ (bond : Bond) (p : Prepared) (table : List ℕ) (lengths ks xs : List Float) (b : ℕ) (l : b < length table / 2) {i j : ℕ} (ei : i ≡ get_or table (2 * b) 0) (ej : j ≡ get_or table (2 * b + 1) 0) where
  pub bond_absent : is_absent (atoms_of xs) (i, j) ≡ true → (t : Total) → t ≡ bond_step (λ d. image_in p d) bond table lengths ks xs t b
  bond_absent h t = unfold bond_step in unfold step in rw (rows_at table b l, ← ei, ← ej, h)

  pub bond_there : is_absent (atoms_of xs) (i, j) ≡ false → {r0 k : Float} → r0 ≡ get_or lengths b bond.r0 → k ≡ get_or ks b bond.k → {d : Vec3} → d ≡ displaced (λ d. image_in p d) xs (i, j)
      → (t : Total) → bond_step (λ d. image_in p d) bond table lengths ks xs t b ≡ after t (i, j) (bond_at k d r0)
  bond_there h e0 ek ed t = unfold bond_step in unfold step in unfold bond_pair in unfold bond_at in rw (rows_at table b l, ← ei, ← ej, h, ← e0, ← ek, ← ed)

-- ---- a place added
pub apart_at : (apart : List Float) (m : ℕ) → record { x = at apart (3 * m); y = at apart (3 * m + 1); z = at apart (3 * m + 2) } ≡ position_at apart m
unfolding position_at
apart_at apart m = refl

pub added : (atoms : List ℕ) (apart pulls : List Float) (sum : Sum) (forces : List Float) (m : ℕ) {d f : Vec3} {s r : Sum} {after : List Float} → d ≡ position_at apart m → f ≡ scale_of d (at pulls (2 * m + 1))
    → s ≡ sum_with_energy sum (at pulls (2 * m)) → r ≡ sum_with_pair s d f → after ≡ forces_with_pair forces (get_or atoms (2 * m) 0) (get_or atoms (2 * m + 1) 0) f
    → held r after ≡ block_step scaled_pull atoms apart pulls (held sum forces) m
added atoms apart pulls sum forces m ed ef es er ea = unfold block_step in unfold scaled_pull in rw (er, ea, es, ef, ed)
