-- When a list must be built anew: neighbor.rs, `needs_rebuild` (131-144); 01: "Rebuild when the counts differ, skin <= 0, or some squared displacement exceeds
-- (0.5 × skin)²; equality does not". The second question, `outdated` (02, No. 6). And what both calls answer. Definitions only.
use Rattle.std.specs.Prelude.{Err, None, Ok, Option, Result, Some}
use Rattle.answer.specs.declared.Refusal.{Refusal}
use Rattle.std.specs.Prelude.{◌≡◌, ℕ, ◌*◌, ◌/◌, ◌%◌, Bool, true, false, cond, not, ◌&&◌, ◌||◌, List, length, take, ◌==◌, nat_lt, to_bits, Float}
use Rattle.std.specs.Float.Ieee.{lt, le}
use Rattle.std.specs.Float.{binary64}
use Rattle.lists.specs.Atoms.{atoms_of, most_atoms}
use Rattle.float.specs.Literals.{half}
use Rattle.float.specs.Arith.{◌⊗◌, bits}
use Rattle.lists.specs.Lists.{up_to, some, every}
use Rattle.ranges.specs.Ranged.{within}
use Rattle.answer.specs.Seen.{Seen, answered, refused_by, seen}
use Rattle.cell.specs.declared.Vec3.{Vec3}
use Rattle.cell.specs.declared.Lattice.{Lattice}
use Rattle.cell.specs.Vec.{sub_of, norm2_of, position_at}
use Rattle.cell.specs.Cell.{image_of}
use Rattle.cell.specs.Ranged.{entry_limit, cell_in_range}
use Rattle.neighbor_asked.specs.Asked.{settings_ok, in_order}
use Rattle.neighbor.specs.declared.State.{State}
use Rattle.neighbor.specs.State.{skin_of}

unfoldable pub allowance : State → Float
allowance s = (half ⊗ skin_of s) ⊗ (half ⊗ skin_of s)

-- an atom's squared displacement exceeds it (141-142)
unfoldable pub strayed_of : State → Option Lattice → List Float → List Float → ℕ → Bool
strayed_of s cell xs refs k = lt (allowance s) (norm2_of (image_of (sub_of (position_at xs k) (position_at refs k)) cell).diff)

unfoldable pub needs_of : State → Option Lattice → List Float → List Float → Bool
needs_of s cell xs refs = not (s.references == atoms_of xs) || (le (skin_of s) (bits 0) || some (strayed_of s cell xs refs) (up_to (atoms_of xs)))

-- ---- the second question: "also says yes if any differ in a single bit"
unfoldable pub same_number : Float → Float → Bool
same_number x y = to_bits binary64 x == to_bits binary64 y

unfoldable pub same_vector : Vec3 → Vec3 → Bool
same_vector a b = same_number a.x b.x && same_number a.y b.y && same_number a.z b.z

unfoldable pub same_flag : Bool → Bool → Bool
same_flag a b = cond a b (not b)

-- "the nine cell numbers and three flags"
unfoldable pub same_lattice : Lattice → Lattice → Bool
same_lattice l m =
    same_vector l.a m.a && same_vector l.b m.b && same_vector l.c m.c
    && same_flag l.px m.px && same_flag l.py m.py && same_flag l.pz m.pz

-- ", or none"
unfoldable pub same_box : Option Lattice → Option Lattice → Bool
same_box None None = true
same_box None (Some m) = false
same_box (Some l) None = false
same_box (Some l) (Some m) = same_lattice l m

unfoldable pub outdated_of : State → Option Lattice → List Float → List Float → Bool
outdated_of s cell xs refs = not (same_box s.built_in cell) || needs_of s cell xs refs

-- ---- the tests
-- 6: "list state claims more pairs or references than the lent room"; 02, No. 6: "6 also for a state whose remembered cell is out of range"
unfoldable pub claims_more : Option Lattice → ℕ → ℕ → ℕ → ℕ → Bool
claims_more remembered pairs rows references spots = nat_lt rows pairs || nat_lt spots references || not (cell_in_range remembered)

-- 3: the references that the state claims, "only where the state's references equal n"
unfoldable pub references_ok : State → ℕ → List Float → Bool
references_ok s n refs = not (s.references == n) || every (within entry_limit) (take (3 * n) refs)

-- 3: the state, the cell, the positions
unfoldable pub ranges_ok : State → Option Lattice → List Float → Bool
ranges_ok s cell xs = settings_ok s.cutoff s.skin && cell_in_range cell && every (within entry_limit) xs

-- 1 (positions no multiple of 3, references shorter than positions), 2, 6, 3
unfoldable pub question_of : State → Option Lattice → List Float → List Float → Result (Unit {0}) Refusal
question_of s cell xs refs =
    in_order (not (length xs % 3 == 0) || nat_lt (length refs) (length xs)) (nat_lt most_atoms (atoms_of xs)) (atoms_of xs)
    (claims_more s.built_in 0 0 s.references (length refs / 3))
    (not (ranges_ok s cell xs && references_ok s (atoms_of xs) refs))

unfoldable pub needs_seen : State → Option Lattice → List Float → List Float → Result (Unit {0}) Refusal → Seen Bool
needs_seen s cell xs refs (Err r) = refused_by r
needs_seen s cell xs refs (Ok tt) = answered (needs_of s cell xs refs)

abbrev pub NeedsSays : State → Option Lattice → List Float → List Float → Result Bool Refusal → Type 0
NeedsSays s cell xs refs r = seen r ≡ needs_seen s cell xs refs (question_of s cell xs refs)

unfoldable pub outdated_seen : State → Option Lattice → List Float → List Float → Result (Unit {0}) Refusal → Seen Bool
outdated_seen s cell xs refs (Err r) = refused_by r
outdated_seen s cell xs refs (Ok tt) = answered (outdated_of s cell xs refs)

abbrev pub OutdatedSays : State → Option Lattice → List Float → List Float → Result Bool Refusal → Type 0
OutdatedSays s cell xs refs r = seen r ≡ outdated_seen s cell xs refs (question_of s cell xs refs)
