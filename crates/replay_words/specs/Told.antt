-- What an answer holds after some words are put behind what it had, and a store after some values: as many of them as find room.
use Rattle.std.specs.Prelude.{ℕ, ◌-◌, Bool, cond, List, [], ◌++◌, length, take, map, to_bits}
use Rattle.std.specs.Float.Ieee.{Float, binary64}

abbrev pub told : List ℕ → List ℕ → List ℕ
told before words = before ++ take (8208 - length before) words

abbrev pub kept : {T : Type 0} → List T → List T → List T
kept before items = before ++ take (8192 - length before) items

-- What a store has of a table's words.
abbrev pub stored : {T : Type 0} → (ℕ → T) → List ℕ → List T
stored value words = kept [] (map value words)

-- The words of some floats.
abbrev pub float_words : List Float → List ℕ
float_words xs = map (λ x. to_bits binary64 x) xs

-- The word of a bool.
abbrev pub bit : Bool → ℕ
bit b = cond b 1 0
