-- The library's records as words.
use Rattle.std.specs.Prelude.{ℕ, List, [], ◌∷◌, ◌++◌, Some, None, Ok, Err, Option, Result}
use Rattle.answer.specs.declared.Refusal.{Refusal}
use Rattle.answer.specs.Seen.{number_of, place_of}
use Rattle.replay_words.specs.Told.{float_words, bit}
use Rattle.cell.specs.declared.Lattice.{Lattice}
use Rattle.neighbor.specs.declared.State.{State}
use Rattle.virial.specs.declared.Sum.{Sum}

-- nine floats and three flags
abbrev pub lattice_words : Lattice → List ℕ
lattice_words l =
    float_words (l.a.x ∷ l.a.y ∷ l.a.z ∷ l.b.x ∷ l.b.y ∷ l.b.z ∷ l.c.x ∷ l.c.y ∷ l.c.z ∷ [])
    ++ bit l.px ∷ bit l.py ∷ bit l.pz ∷ []

-- 0, or 1 and a lattice
abbrev pub cell_words : Option Lattice → List ℕ
cell_words None = 0 ∷ []
cell_words (Some l) = 1 ∷ lattice_words l

-- the energy, then the virial row by row
abbrev pub sum_words : Sum → List ℕ
sum_words s = float_words (s.energy ∷ s.xx ∷ s.xy ∷ s.xz ∷ s.yx ∷ s.yy ∷ s.yz ∷ s.zx ∷ s.zy ∷ s.zz ∷ [])

-- 0, 0 and a sum, or a refusal's number and place
abbrev pub summed_words : Result Sum Refusal → List ℕ
summed_words (Ok sum) = 0 ∷ 0 ∷ sum_words sum
summed_words (Err why) = number_of why ∷ place_of why ∷ []

-- without the remembered cell
abbrev pub state_words : State → List ℕ
state_words s = float_words (s.cutoff ∷ s.skin ∷ []) ++ s.pairs ∷ s.references ∷ s.checks ∷ bit s.fallback ∷ s.builds ∷ []
