-- The box belongs to the list (02, No. 6): what a state remembers after an update, and that an update which asks the second question keeps a list only in the cell
-- that it was built in, bit for bit. proofs/Box.antt proves both of every input. Definitions only.
use Rattle.std.specs.Prelude.{None, Option, Some}
use Rattle.cell.specs.declared.Lattice.{Lattice}
use Rattle.std.specs.Prelude.{◌≡◌, ℕ, Bool, true, false, List, [], ◌∷◌, ◌≢◌, to_bits}
use Rattle.std.specs.Float.{binary64}
use Rattle.answer.specs.Seen.{answered, refused}
use Rattle.cell.specs.declared.Vec3.{Vec3}
use Rattle.neighbor.specs.declared.Question.{Question}
use Rattle.neighbor.specs.declared.Question.TheVariants.{Outdated}
use Rattle.neighbor.specs.Update.{Given, Outcome, update_of}

-- "the nine cell numbers and three flags, or none", by their bits
unfoldable pub vector_bits : Vec3 → List ℕ
vector_bits v = to_bits binary64 v.x ∷ to_bits binary64 v.y ∷ to_bits binary64 v.z ∷ []

unfoldable pub box_bits : Option Lattice → List (List ℕ) × List Bool
box_bits None = ([], [])
box_bits (Some l) = (vector_bits l.a ∷ vector_bits l.b ∷ vector_bits l.c ∷ [], l.px ∷ l.py ∷ l.pz ∷ [])

abbrev pub SameBits : Option Lattice → Option Lattice → Type 0
SameBits a b = box_bits a ≡ box_bits b

-- what the state of an outcome remembers
pub record Remembered (i : Given) (o : Outcome) : Type 0 where
  -- "of its last answered build"
  pub built : o.rebuilt ≡ true → o.state.built_in ≡ i.cell
  -- "An 8 from a build leaves no remembered cell"
  pub full : (count : ℕ) → o.answer ≡ refused 8 count → o.state.built_in ≡ None
  -- every other answer hands it back as it came
  pub other : o.rebuilt ≡ false → ((count : ℕ) → o.answer ≢ refused 8 count) → o.state.built_in ≡ i.state.built_in

-- THEOREM, after the tests, which hand the state back as it came
abbrev pub UpdateRemembers : Question → Given → Type 0
UpdateRemembers question i = Remembered i (update_of question i)

-- a list that was kept stands in the remembered cell
abbrev pub KeptInBox : Given → Outcome → Type 0
KeptInBox i o = o.answer ≡ answered tt → o.rebuilt ≡ false → SameBits i.state.built_in i.cell

-- THEOREM, of the second question
abbrev pub UpdateKeeps : Given → Type 0
UpdateKeeps i = KeptInBox i (update_of Outdated i)
