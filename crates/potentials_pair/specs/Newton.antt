-- What a pair's force does to the list of forces: it goes to the two atoms, and to nothing else. Statements only; proofs/Newton.antt has the law.
use Rattle.std.specs.Prelude.{◌≡◌, List, ℕ, ◌+◌, ◌*◌, ◌/◌, Float, length}
use Rattle.std.specs.Float.Ieee.{neg}
use Rattle.float.specs.Literals.{f1}
use Rattle.cell.specs.declared.Vec3.{Vec3}
use Rattle.cell.specs.Vec.{scale_of}
use Rattle.float.specs.Arith.{◌⊕◌, at}

-- the three floats of atom i, with v added
pub record Gains (before after : List Float) (i : ℕ) (v : Vec3) : Type 0 where
  pub x : at after (3 * i) ≡ at before (3 * i) ⊕ v.x
  pub y : at after (3 * i + 1) ≡ at before (3 * i + 1) ⊕ v.y
  pub z : at after (3 * i + 2) ≡ at before (3 * i + 2) ⊕ v.z

-- f on the first atom, f times -1 on the second, every other float as it was
pub record Acts (before after : List Float) (i j : ℕ) (f : Vec3) : Type 0 where
  pub same : length after ≡ length before
  pub first : Gains before after i f
  pub second : Gains before after j (scale_of f (neg f1))
  pub others : (k : ℕ) → (k / 3 ≡ i → ⊥) → (k / 3 ≡ j → ⊥) → at after k ≡ at before k
