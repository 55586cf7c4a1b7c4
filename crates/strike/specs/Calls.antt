-- What `strike` and `put` answer, and what they leave in everything lent: one outcome each, from the entry values alone (02, No. 11). Definitions only.
use Rattle.std.specs.Prelude.{Err, Ok, Result}
use Rattle.answer.specs.declared.Refusal.{Refusal}
use Rattle.std.specs.Prelude.{ℕ, ◌+◌, ◌*◌, ◌/◌, ◌%◌, ◌≡◌, Bool, cond, ◌&&◌, List, [], ◌∷◌, Float, length, get_or, set, eqb, ltb, leb}
use Rattle.std.proofs.lemmas.List.Edits.{sets}
use Rattle.answer.specs.Seen.{Seen, seen}
use Rattle.answer.specs.declared.Refusal.TheVariants.{Lengths, TooMany, Range, NotThere, Order}
use Rattle.lists.specs.Atoms.{atoms_of, most_atoms}
use Rattle.lists.specs.Lists.{rows, up_to, how_many, every}
use Rattle.float.specs.Arith.{at}
use Rattle.ranges.specs.Rows.{absent_of}
use Rattle.exclusions.specs.Table.{is_table}
use Rattle.cell.specs.Ranged.{entry_limit, vec_within}
use Rattle.virial.specs.Ranged.{mass}
use Rattle.potentials.specs.Ranged.{charge}
use Rattle.potentials_angle.specs.Rows.{missing_of}
use Rattle.neighbor.specs.declared.State.{State}
use Rattle.strike.specs.declared.Left.{Left}
use Rattle.strike.specs.declared.NewAtom.{NewAtom}
use Rattle.strike.specs.declared.Struck.{Struck}
use Rattle.strike.specs.declared.Entered.{Entered}
use Rattle.strike.specs.Closed.{survives, new_number, row_survives, link_survives, closed_up}

-- the lent atoms
pub record LentAtoms : Type 0 where
  pub positions : List Float
  pub velocities : List Float
  pub masses : List Float
  pub charges : List Float
  pub species : List ℕ

abbrev pub atoms : (positions velocities masses charges : List Float) (species : List ℕ) → LentAtoms
atoms positions velocities masses charges species = record { positions = positions; velocities = velocities; masses = masses; charges = charges; species = species }

-- and what names them: lengths and ks are the Rust's per_bond and per_bond_k
pub record Links : Type 0 where
  pub bonds : List ℕ
  pub lengths : List Float
  pub ks : List Float
  pub angles : List ℕ
  pub per_angle : List Float
  pub exclusions : List ℕ

abbrev pub links : (bonds : List ℕ) (lengths ks : List Float) (angles : List ℕ) (per_angle : List Float) (exclusions : List ℕ) → Links
links bonds lengths ks angles per_angle exclusions = record { bonds = bonds; lengths = lengths; ks = ks; angles = angles; per_angle = per_angle; exclusions = exclusions }

-- "The list state comes back with no pairs and no references"
unfoldable pub unlisted_of : State → State
unlisted_of s =
    record {
      cutoff = s.cutoff;
      skin = s.skin;
      pairs = 0;
      references = 0;
      checks = s.checks;
      fallback = s.fallback;
      builds = s.builds;
      built_in = s.built_in;
    }

-- ---- strike

-- 1. The arguments are lengths
unfoldable pub atoms_fit : (positions velocities masses charges species : ℕ) → Bool
atoms_fit positions velocities masses charges species =
    eqb (positions % 3) 0 && eqb velocities positions && eqb masses (positions / 3) && eqb charges (positions / 3) && eqb species (positions / 3)

unfoldable pub links_fit : (bonds angles per_angle exclusions : ℕ) → Bool
links_fit bonds angles per_angle exclusions = eqb (bonds % 2) 0 && eqb (angles % 3) 0 && eqb (per_angle % 2) 0 && eqb (exclusions % 2) 0

unfoldable pub strike_fits : List ℕ → LentAtoms → Links → Bool
strike_fits marks a l =
    eqb (length marks) (atoms_of a.positions)
    && atoms_fit (length a.positions) (length a.velocities) (length a.masses) (length a.charges) (length a.species)
    && links_fit (length l.bonds) (length l.angles) (length l.per_angle) (length l.exclusions)

-- "3 for a mark other than 0 or 1"
abbrev pub is_mark : ℕ → Bool
is_mark m = ltb m 2

-- 4 of a bond, then of an angle, then 5
unfoldable pub links_asked : ℕ → Links → Result (Unit {0}) Refusal
links_asked n l =
    cond (ltb (absent_of n (rows l.bonds)) (length l.bonds / 2)) (Err (NotThere (absent_of n (rows l.bonds))))
    (cond (ltb (missing_of n l.angles) (length l.angles / 3)) (Err (NotThere (missing_of n l.angles)))
    (cond (is_table (rows l.exclusions)) (Ok tt) (Err Order)))

-- "Refusals: 1, 2 and 5 as for the evaluator, 4 for a bond, then an angle, only, 3 for a mark other than 0 or 1"
unfoldable pub strike_asked : List ℕ → LentAtoms → Links → Result (Unit {0}) Refusal
strike_asked marks a l =
    cond (strike_fits marks a l)
    (cond (ltb most_atoms (atoms_of a.positions)) (Err (TooMany (atoms_of a.positions)))
    (cond (every is_mark marks) (links_asked (atoms_of a.positions) l) (Err Range)))
    (Err Lengths)

-- "close up positions, velocities, masses, charges and species together, survivors in their old order"
unfoldable pub atoms_left : List ℕ → LentAtoms → LentAtoms
atoms_left marks a =
    record {
      positions = closed_up (at a.positions) 3 (survives marks) (length marks) a.positions;
      velocities = closed_up (at a.velocities) 3 (survives marks) (length marks) a.velocities;
      masses = closed_up (at a.masses) 1 (survives marks) (length marks) a.masses;
      charges = closed_up (at a.charges) 1 (survives marks) (length marks) a.charges;
      species = closed_up (λ e. get_or a.species e 0) 1 (survives marks) (length marks) a.species;
    }

-- the rows of a table of names that survive, under their new numbers
unfoldable pub names_left : List ℕ → ℕ → List ℕ → List ℕ
names_left marks w names = closed_up (λ e. new_number marks (get_or names e 0)) w (row_survives marks w names) (length names / w) names

-- the rows of a table beside them, v floats a row, that go with a survivor
unfoldable pub beside_left : (marks : List ℕ) (w : ℕ) (names : List ℕ) (v : ℕ) → List Float → List Float
beside_left marks w names v xs = closed_up (at xs) v (link_survives marks w (length names / w) names) (length xs / v) xs

unfoldable pub links_left : List ℕ → Links → Links
links_left marks l =
    record {
      bonds = names_left marks 2 l.bonds;
      lengths = beside_left marks 2 l.bonds 1 l.lengths;
      ks = beside_left marks 2 l.bonds 1 l.ks;
      angles = names_left marks 3 l.angles;
      per_angle = beside_left marks 3 l.angles 2 l.per_angle;
      exclusions = names_left marks 2 l.exclusions;
    }

-- how many rows of each are left
unfoldable pub names_many : List ℕ → ℕ → List ℕ → ℕ
names_many marks w names = how_many (row_survives marks w names) (up_to (length names / w))

unfoldable pub beside_many : (marks : List ℕ) (w : ℕ) (names : List ℕ) (v : ℕ) → List Float → ℕ
beside_many marks w names v xs = how_many (link_survives marks w (length names / w) names) (up_to (length xs / v))

unfoldable pub left_of : ℕ → List ℕ → Links → Left
left_of n marks l =
    record {
      atoms = n;
      bonds = names_many marks 2 l.bonds;
      lengths = beside_many marks 2 l.bonds 1 l.lengths;
      ks = beside_many marks 2 l.bonds 1 l.ks;
      angles = names_many marks 3 l.angles;
      per_angle = beside_many marks 3 l.angles 2 l.per_angle;
      exclusions = names_many marks 2 l.exclusions;
    }

abbrev pub none_left : Left
none_left = record { atoms = 0; bonds = 0; lengths = 0; ks = 0; angles = 0; per_angle = 0; exclusions = 0 }

-- what is shown, the counts, which are zeros where refused, the state, and the lent tables as they are left
pub record StrikeOutcome : Type 0 where
  pub shown : Seen (Unit {0})
  pub left : Left
  pub state : State
  pub atoms : LentAtoms
  pub links : Links

-- "nothing is moved then"
unfoldable pub strike_after : List ℕ → State → LentAtoms → Links → Result (Unit {0}) Refusal → StrikeOutcome
strike_after marks s a l (Err r) = record { shown = seen (Err r); left = none_left; state = s; atoms = a; links = l }
strike_after marks s a l (Ok tt) = record { shown = seen (Ok tt); left = left_of (new_number marks (length marks)) marks l; state = unlisted_of s; atoms = atoms_left marks a; links = links_left marks l }

unfoldable pub strike_of : List ℕ → State → LentAtoms → Links → StrikeOutcome
strike_of marks s a l = strike_after marks s a l (strike_asked marks a l)

abbrev pub StrikeSays : List ℕ → State → LentAtoms → Links → Struck → LentAtoms → Links → Type 0
StrikeSays marks s a l r a' l' = record { shown = seen r.done; left = r.left; state = r.state; atoms = a'; links = l' } ≡ strike_of marks s a l

-- ---- put

-- "3 for a number out of range"
unfoldable pub atom_in_range : NewAtom → Bool
atom_in_range a = vec_within entry_limit a.position && vec_within entry_limit a.velocity && mass a.mass && charge a.charge

-- "1 when the lent room is full, 2 past 16,384 atoms, 3 for a number out of range"
unfoldable pub put_asked : ℕ → NewAtom → LentAtoms → Result (Unit {0}) Refusal
put_asked count new a =
    cond (atoms_fit (length a.positions) (length a.velocities) (length a.masses) (length a.charges) (length a.species))
    (cond (leb (atoms_of a.positions) count) (Err Lengths)
    (cond (ltb most_atoms (count + 1)) (Err (TooMany (count + 1)))
    (cond (atom_in_range new) (Ok tt) (Err Range))))
    (Err Lengths)

-- "puts one atom, with all its numbers, after the last one"
unfoldable pub atoms_with : ℕ → NewAtom → LentAtoms → LentAtoms
atoms_with count new a =
    record {
      positions = sets a.positions (3 * count) (new.position.x ∷ new.position.y ∷ new.position.z ∷ []);
      velocities = sets a.velocities (3 * count) (new.velocity.x ∷ new.velocity.y ∷ new.velocity.z ∷ []);
      masses = set a.masses count new.mass;
      charges = set a.charges count new.charge;
      species = set a.species count new.species;
    }

pub record PutOutcome : Type 0 where
  pub shown : Seen (Unit {0})
  pub count : ℕ
  pub state : State
  pub atoms : LentAtoms

-- "nothing is stored then"
unfoldable pub put_after : ℕ → NewAtom → State → LentAtoms → Result (Unit {0}) Refusal → PutOutcome
put_after count new s a (Err r) = record { shown = seen (Err r); count = count; state = s; atoms = a }
put_after count new s a (Ok tt) = record { shown = seen (Ok tt); count = count + 1; state = unlisted_of s; atoms = atoms_with count new a }

unfoldable pub put_of : ℕ → NewAtom → State → LentAtoms → PutOutcome
put_of count new s a = put_after count new s a (put_asked count new a)

abbrev pub PutSays : ℕ → NewAtom → State → LentAtoms → Entered → LentAtoms → Type 0
PutSays count new s a r a' = record { shown = seen r.done; count = r.count; state = r.state; atoms = a' } ≡ put_of count new s a
