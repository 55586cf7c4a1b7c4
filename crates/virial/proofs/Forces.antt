-- Laws of the lists of forces: zeros by a loop, the merge of two lists element by element, and a vector added at an atom. Assumes nothing.
use mathlib.Core.Path.{◌≡◌, refl, ap, ◌∙◌}
use mathlib.Core.List.{List, [], ◌∷◌}
use mathlib.Core.Logic.{⊎_elim}
use Prim.Native.Nat.{ℕ, zero, suc, ◌+◌, ◌*◌, ◌<◌, ◌≤◌, min}
use native.Mathlib.Nat.{not-suc-le-zero, le_of_suc-le-suc}
use native.Mathlib.Omega.{arith}
use borrow.Author.Tests.{lt-ltb, le-ltb}
use lib.Ieee.{Float}
use lib.ListN.{length, length-replicate, set, take}
use Rattle.lists.specs.Atoms.{atoms_of}
use Rattle.float.specs.Literals.{f0}
use Rattle.cell.specs.declared.Vec3.{Vec3}
use Rattle.float.specs.Arith.{◌⊕◌, at}
use Rattle.lists.specs.Loops.{map_from}
use Rattle.lists.proofs.Cases.{below_or}
use Rattle.lists.proofs.Rows.{set_three, three_length}
use Rattle.virial.specs.Virial.{zero_forces, merged_forces, added_at, forces_with_pair}

-- what a turn of `clear` stores at k
abbrev pub zero_at : ℕ → Float → Float
zero_at k x = f0

pub zeros_all : (n : ℕ) (l : List Float) → map_from zero_at n l ≡ zero_forces (length l)
unfolding map_from zero_forces
zeros_all n [] = refl
zeros_all n (x ∷ l) = ap (λ (r : List Float). f0 ∷ r) (zeros_all (suc n) l)

pub merged_none : (l : List Float) → l ≡ merged_forces l []
unfolding merged_forces
merged_none [] = refl
merged_none (x ∷ l) = refl

pub merged_length : (l added : List Float) → length (merged_forces l added) ≡ length l
unfolding merged_forces
merged_length [] added = refl
merged_length (x ∷ l) [] = refl
merged_length (x ∷ l) (y ∷ added) = ap suc (merged_length l added)

-- one element more of the second list is one store
pub merged_more :
    (l added : List Float) (k : ℕ) → k < length l → k < length added
    → merged_forces l (take (suc k) added) ≡ set (merged_forces l (take k added)) k (at (merged_forces l (take k added)) k ⊕ at added k)
unfolding merged_forces
merged_more [] added k h m = absurd (not-suc-le-zero h)
merged_more (x ∷ l) [] k h m = absurd (not-suc-le-zero m)
merged_more (x ∷ []) (y ∷ added) zero h m = refl
merged_more (x ∷ z ∷ l) (y ∷ added) zero h m = refl
merged_more (x ∷ l) (y ∷ added) (suc k) h m =
    ap (λ (r : List Float). (x ⊕ y) ∷ r) (merged_more l added k (le_of_suc-le-suc h) (le_of_suc-le-suc m))

-- past the end of either list nothing is added
pub merged_past : (l added : List Float) (k : ℕ) → min (length l) (length added) ≤ k → merged_forces l (take k added) ≡ merged_forces l added
unfolding merged_forces
merged_past [] added k h = refl
merged_past (x ∷ l) [] zero h = refl
merged_past (x ∷ l) [] (suc k) h = refl
merged_past (x ∷ l) (y ∷ added) zero h = absurd (omega arith)
merged_past (x ∷ l) (y ∷ added) (suc k) h = ap (λ (r : List Float). (x ⊕ y) ∷ r) (merged_past l added k (omega arith))

pub zeros_length : (n : ℕ) → length (zero_forces n) ≡ n
unfolding zero_forces
zeros_length n = length-replicate n f0

-- an atom that is there gets its three floats, one that is not gets nothing; the length stays
pub added_there : (l : List Float) (i : ℕ) (v : Vec3) → i < atoms_of l → added_at l i v ≡ set_three l i (at l (3 * i) ⊕ v.x) (at l (3 * i + 1) ⊕ v.y) (at l (3 * i + 2) ⊕ v.z)
unfolding added_at
added_there l i v h = rw (lt-ltb i (atoms_of l) h)

pub added_nowhere : (l : List Float) (i : ℕ) (v : Vec3) → atoms_of l ≤ i → added_at l i v ≡ l
unfolding added_at
added_nowhere l i v h = rw (le-ltb i (atoms_of l) h)

pub added_length : (l : List Float) (i : ℕ) (v : Vec3) → length (added_at l i v) ≡ length l
added_length l i v =
    ⊎_elim
    (λ h. ap length (added_there l i v h) ∙ three_length f0 l i (at l (3 * i) ⊕ v.x) (at l (3 * i + 1) ⊕ v.y) (at l (3 * i + 2) ⊕ v.z))
    (λ h. ap length (added_nowhere l i v h))
    (below_or i (atoms_of l))

pub pair_length : (l : List Float) (i j : ℕ) (f : Vec3) → length (forces_with_pair l i j f) ≡ length l
unfolding forces_with_pair
pair_length l i j f = added_length (added_at l i f) j _ ∙ added_length l i f
