-- The written form of a sheet (02, No. 8): "header, atoms by number, exclusions by low then high number, each once, none with itself". The text of a line
-- is the grammar's. Definitions only.
use Rattle.std.specs.Prelude.{ℕ, ◌+◌, ◌*◌, Bool, cond, List, ◌∷◌, ◌++◌, map, get_or}
use Rattle.lists.specs.Atoms.{atoms_of}
use Rattle.lists.specs.Lists.{up_to, rows}
use Rattle.frame.specs.declared.Frame.{Frame}
use Rattle.sheet_lines.specs.Grammar.{sheet_text}
use Rattle.sheet_lines.specs.declared.Head.{Head}
use Rattle.sheet_lines.specs.declared.Line.{Line}
use Rattle.sheet_lines.specs.declared.Line.TheVariants.{Header, Atom, Exclusion}

abbrev pub bit_of : Bool → ℕ → ℕ
bit_of on worth = cond on worth 0

-- 01: "periodic mask 00 to 07 (x is bit 0)"
unfoldable pub mask_of : Bool → Bool → Bool → ℕ
mask_of px py pz = bit_of px 1 + bit_of py 2 + bit_of pz 4

-- the header's numbers of a frame with so many atoms
unfoldable pub head_of : Frame → ℕ → Head
head_of f atoms =
    record {
      atoms = atoms;
      ex = f.x.edge;
      ey = f.y.edge;
      ez = f.z.edge;
      mask = mask_of f.x.round f.y.round f.z.round;
      radius = f.radius;
    }

-- atom k with its three coordinates
unfoldable pub atom_line : List ℕ → ℕ → Line
atom_line xs k = Atom k (get_or xs (3 * k) 0) (get_or xs (3 * k + 1) 0) (get_or xs (3 * k + 2) 0)

-- the atoms by number
unfoldable pub atom_lines : List ℕ → List Line
atom_lines xs = map (atom_line xs) (up_to (atoms_of xs))

abbrev pub row_line : ℕ × ℕ → Line
row_line p = Exclusion p.0 p.1

-- The rows of an exclusion table are by low, then high, each once, none with itself; so they are written as they stand.
unfoldable pub written_lines : Head → List ℕ → List (ℕ × ℕ) → List Line
written_lines h xs l = Header h ∷ (atom_lines xs ++ map row_line l)

-- the bytes
unfoldable pub written_text : Frame → List ℕ → List ℕ → List ℕ
written_text f xs table = sheet_text (written_lines (head_of f (atoms_of xs)) xs (rows table))
