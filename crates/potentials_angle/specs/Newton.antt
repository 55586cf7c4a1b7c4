-- What an angle's forces do to the list of forces: they go to its three atoms, and to nothing else. Statements only; proofs/Newton.antt has the law.
use Rattle.std.specs.Prelude.{◌≡◌, List, ℕ, ◌/◌, Float, length}
use Rattle.std.specs.Float.Ieee.{neg}
use Rattle.float.specs.Arith.{at}
use Rattle.float.specs.Literals.{f1}
use Rattle.cell.specs.declared.Vec3.{Vec3}
use Rattle.cell.specs.Vec.{add_of, scale_of}
use Rattle.potentials_pair.specs.Newton.{Gains}
use Rattle.potentials_angle.specs.declared.Corner.{Corner}

-- fi on the first atom, fk on the last, (fi + fk) times -1 on the apex, each where no other of the three is the same atom; every other float as it was
pub record Bends (before after : List Float) (c : Corner) (fi fk : Vec3) : Type 0 where
  pub same : length after ≡ length before
  pub first : (c.first ≡ c.last → ⊥) → (c.first ≡ c.apex → ⊥) → Gains before after c.first fi
  pub last : (c.last ≡ c.first → ⊥) → (c.last ≡ c.apex → ⊥) → Gains before after c.last fk
  pub apex : (c.apex ≡ c.first → ⊥) → (c.apex ≡ c.last → ⊥) → Gains before after c.apex (scale_of (add_of fi fk) (neg f1))
  pub others : (k : ℕ) → (k / 3 ≡ c.first → ⊥) → (k / 3 ≡ c.last → ⊥) → (k / 3 ≡ c.apex → ⊥) → at after k ≡ at before k
