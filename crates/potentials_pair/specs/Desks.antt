-- THEOREMS (02, No. 7): what a row of a desk's own table changes. Each is proved of every input in proofs/Desks.antt; crate `potentials` says it of a pair's pull. Definitions only.
use Rattle.std.specs.Prelude.{◌≡◌, List, [], ◌∷◌, ◌++◌, ℕ, suc, ◌*◌, ◌≤◌, Float, length, take, drop}
use Rattle.potentials_pair.specs.declared.Lj.{Lj}
use Rattle.potentials_pair.specs.Species.{Tables, row_in, row_of, look_of}

-- a list with one more element before place k, and one without the element at place k
abbrev pub put_at : {A : Type 0} → ℕ → A → List A → List A
put_at k a l = take k l ++ (a ∷ drop k l)

abbrev pub taken_at : {A : Type 0} → ℕ → List A → List A
taken_at k l = take k l ++ drop (suc k) l

-- the tables with a row of species s put into the own one as its row k; and with row k taken out of it
abbrev pub with_row : ℕ → (s : ℕ) (epsilon sigma : Float) → Tables → Tables
with_row k s epsilon sigma t =
    record { own_ids = put_at k s t.own_ids; own_params = put_at (2 * k) epsilon (put_at (2 * k) sigma t.own_params); ids = t.ids; params = t.params }

abbrev pub without_row : ℕ → Tables → Tables
without_row k t =
    record { own_ids = taken_at k t.own_ids; own_params = taken_at (2 * k) (taken_at (2 * k) t.own_params); ids = t.ids; params = t.params }

-- row k of the own table is there, or comes next
pub record Places (k : ℕ) (t : Tables) : Type 0 where
  pub ids : k ≤ length t.own_ids
  pub rows : length t.own_params ≡ 2 * length t.own_ids

-- "A row added to a desk's own table changes force and energy only of pairs with an atom of that species": the numbers of every other species stay
abbrev pub OthersStay : ℕ → (s : ℕ) (epsilon sigma : Float) → Tables → Type 0
OthersStay k s epsilon sigma t = Places k t → (lj : Lj) (z : ℕ) → (z ≡ s → ⊥) → look_of (with_row k s epsilon sigma t) lj z ≡ look_of t lj z

-- "taken out again": the tables, and so every answer, are those of before
abbrev pub TakenOut : ℕ → (s : ℕ) (epsilon sigma : Float) → Tables → Type 0
TakenOut k s epsilon sigma t = Places k t → without_row k (with_row k s epsilon sigma t) ≡ t

-- ".. it brings back the house row": where the own table lacks the species, its row is the house's
abbrev pub HouseRow : Tables → ℕ → Type 0
HouseRow t z = row_in t.own_ids t.own_params z ≡ [] → row_of t z ≡ row_in t.ids t.params z
