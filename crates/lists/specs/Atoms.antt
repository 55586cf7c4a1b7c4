-- Atoms in a lent list, three numbers each, for both frames. Definitions only.
use Rattle.std.specs.Prelude.{ℕ, ◌/◌, List, length}

abbrev pub atoms_of : {A : Type 0} → List A → ℕ
atoms_of xs = length xs / 3

-- 01: "Atoms 0 to 16,384"
abbrev pub most_atoms : ℕ
most_atoms = 16384
