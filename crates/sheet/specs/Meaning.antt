-- The meaning of a sheet: its header, where each atom stands, and the set of its exclusions; and how each line acts on one part of it. Definitions only.
use Rattle.std.specs.Prelude.{ℕ, ◌+◌, ◌*◌, Bool, cond, List, length, get_or, set, leb, eqb}
use Rattle.std.proofs.Math.Option.{Option, none, some}
use Rattle.exclusions.specs.Table.{added}
use Rattle.sheet_lines.specs.declared.Head.{Head}
use Rattle.sheet_lines.specs.declared.Line.{Line}
use Rattle.sheet_lines.specs.declared.Line.TheVariants.{Header, Atom, Exclusion, Malformed, End}

-- atoms by number: three coordinates each, and a mark, 1 where the atom's line was read
pub record Atoms : Type 0 where
  pub coords : List ℕ
  pub marks : List ℕ

-- a sheet's three parts; the exclusions are rows low, high, ascending
pub record Meaning : Type 0 where
  pub header : Option Head
  pub atoms : Atoms
  pub rows : List (ℕ × ℕ)

-- on with a value, where there is one
abbrev pub and_then : {A B : Type 0} → Option A → (A → Option B) → Option B
and_then none f = none
and_then (some a) f = f a

-- What a line does: it changes one part, or is refused there (none); a line that is none acts nowhere.
pub data Act : Type 0 where
  on_header : (Option Head → Option (Option Head)) → Act
  on_atoms : (Atoms → Option Atoms) → Act
  on_rows : (List (ℕ × ℕ) → Option (List (ℕ × ℕ))) → Act
  nowhere : Act

abbrev pub acted : Act → Meaning → Option Meaning
acted (on_header f) m = and_then (f m.header) (λ h. some (record { header = h; atoms = m.atoms; rows = m.rows }))
acted (on_atoms f) m = and_then (f m.atoms) (λ a. some (record { header = m.header; atoms = a; rows = m.rows }))
acted (on_rows f) m = and_then (f m.rows) (λ l. some (record { header = m.header; atoms = m.atoms; rows = l }))
acted nowhere m = none

-- 01: "second header" is refused
unfoldable pub headed : Head → Option Head → Option (Option Head)
headed h none = some (some h)
headed h (some k) = none

-- no atom line of this number was read; past the end there is no room for one
abbrev pub fresh : List ℕ → ℕ → Bool
fresh marks n = eqb (get_or marks n 1) 0

-- three coordinates at an atom's place
unfoldable pub placed : List ℕ → ℕ → ℕ → ℕ → ℕ → List ℕ
placed coords n x y z = set (set (set coords (3 * n) x) (3 * n + 1) y) (3 * n + 2) z

-- 01: "an atom number again" is refused; each line carries its own atom number
unfoldable pub seated : ℕ → ℕ → ℕ → ℕ → Atoms → Option Atoms
seated n x y z a =
    cond (fresh a.marks n) (some (record { coords = placed a.coords n x y z; marks = set a.marks n 1 })) none

-- 01: "At most 1,024 distinct exclusions"; with itself and a known one add nothing
unfoldable pub excluding : ℕ → ℕ → List (ℕ × ℕ) → Option (List (ℕ × ℕ))
excluding a b l = cond (leb (length (added a b l)) 1024) (some (added a b l)) none

abbrev pub act_of : Line → Act
act_of (Header h) = on_header (headed h)
act_of (Atom n x y z) = on_atoms (seated n x y z)
act_of (Exclusion a b) = on_rows (excluding a b)
act_of Malformed = nowhere
act_of End = nowhere
