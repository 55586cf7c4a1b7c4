-- THEOREMS (02, No. 11): "Every survivor keeps all its numbers, every surviving bond its own rest length and strength, and every surviving angle its own k and rest
-- cosine." Of everything that an answered call leaves; proofs/Kept.antt, Pulls.antt and Ordered.antt prove them. Definitions only.
use Rattle.std.specs.Prelude.{Ok}
use Rattle.std.specs.Prelude.{ℕ, ◌+◌, ◌*◌, ◌/◌, ◌≤◌, ◌<◌, ◌≡◌, Bool, true, List, Float, length, get_or, take, eqb}
use Rattle.std.specs.Float.{nan}
use Rattle.lists.specs.Lists.{up_to, how_many, every, rows}
use Rattle.exclusions.specs.Table.{is_table}
use Rattle.cell.specs.declared.Vec3.{Vec3}
use Rattle.cell.specs.declared.Image.{Image}
use Rattle.cell.specs.Vec.{position_at}
use Rattle.potentials_pair.specs.declared.Lj.{Lj}
use Rattle.potentials_pair.specs.declared.Mixed.{Mixed}
use Rattle.potentials.specs.declared.Bond.{Bond}
use Rattle.potentials_angle.specs.declared.Angle.{Angle}
use Rattle.potentials_angle.specs.declared.Corner.{Corner}
use Rattle.potentials_angle.specs.Terms.{angle_bend}
use Rattle.potentials.specs.Terms.{lj_pair, coulomb_pair, bond_pair}
use Rattle.strike.specs.declared.NewAtom.{NewAtom}
use Rattle.strike.specs.Closed.{survives, new_number, row_survives, link_survives}
use Rattle.strike.specs.Calls.{LentAtoms, Links, strike_asked, atoms_left, links_left, names_left, names_many, beside_many, put_asked, atoms_with}

-- of the m rows before, w a row, each that passes the test stands now where as many pass before it, with each element as f has it; past the last of them the
-- table is as it came
pub record Keeps {A : Type 0} (d : A) (f : A → A) (w m : ℕ) (q : ℕ → Bool) (before after : List A) : Type 0 where
  pub long : length after ≡ length before
  pub same : (o c : ℕ) → o < m → q o ≡ true → c < w → get_or after (w * how_many q (up_to o) + c) d ≡ f (get_or before (w * o + c) d)
  pub past : (e : ℕ) → w * how_many q (up_to m) ≤ e → get_or after e d ≡ get_or before e d

-- and nothing else stands there: each of the rows left is that of one that passes, and they keep their order
pub record Stays (q : ℕ → Bool) (m : ℕ) : Type 0 where
  pub from : (k : ℕ) → k < how_many q (up_to m) → (o : ℕ) × (o < m) × (q o ≡ true) × (how_many q (up_to o) ≡ k)
  pub order : (o p : ℕ) → o < p → q o ≡ true → how_many q (up_to o) < how_many q (up_to p)

-- the atoms: "survivors in their old order", every number of each
pub record AtomsKept (marks : List ℕ) (a after : LentAtoms) : Type 0 where
  pub positions : Keeps nan (λ x. x) 3 (length marks) (survives marks) a.positions after.positions
  pub velocities : Keeps nan (λ x. x) 3 (length marks) (survives marks) a.velocities after.velocities
  pub masses : Keeps nan (λ x. x) 1 (length marks) (survives marks) a.masses after.masses
  pub charges : Keeps nan (λ x. x) 1 (length marks) (survives marks) a.charges after.charges
  pub species : Keeps 0 (λ x. x) 1 (length marks) (survives marks) a.species after.species

-- a table of names: the rows whose atoms all survive, under the new numbers, and no other
abbrev pub NamesKept : (marks : List ℕ) (w : ℕ) → List ℕ → List ℕ → Type 0
NamesKept marks w names after = Keeps 0 (new_number marks) w (length names / w) (row_survives marks w names) names after

-- a table beside it: a row goes with its bond or angle
abbrev pub BesideKept : (marks : List ℕ) (w : ℕ) (names : List ℕ) (v : ℕ) → List Float → List Float → Type 0
BesideKept marks w names v xs after = Keeps nan (λ x. x) v (length xs / v) (link_survives marks w (length names / w) names) xs after

pub record LinksKept (marks : List ℕ) (l after : Links) : Type 0 where
  pub bonds : NamesKept marks 2 l.bonds after.bonds
  pub lengths : BesideKept marks 2 l.bonds 1 l.lengths after.lengths
  pub ks : BesideKept marks 2 l.bonds 1 l.ks after.ks
  pub angles : NamesKept marks 3 l.angles after.angles
  pub per_angle : BesideKept marks 3 l.angles 2 l.per_angle after.per_angle
  pub exclusions : NamesKept marks 2 l.exclusions after.exclusions

-- after an answered strike
abbrev pub StrikeKeeps : List ℕ → LentAtoms → Links → Type 0
StrikeKeeps marks a l = strike_asked marks a l ≡ Ok tt → AtomsKept marks a (atoms_left marks a) × LinksKept marks l (links_left marks l)

-- "every surviving bond its own rest length and strength": a bond or angle and its row beside it come to stand in rows of the same number
abbrev pub RowsGoWith : (marks : List ℕ) (w : ℕ) (names : List ℕ) → Type 0
RowsGoWith marks w names =
    (o : ℕ) → o < length names / w → how_many (link_survives marks w (length names / w) names) (up_to o) ≡ how_many (row_survives marks w names) (up_to o)

-- no name of a closed table is that of a struck atom or of none
abbrev pub NamesThere : (marks : List ℕ) (w : ℕ) (names : List ℕ) → Type 0
NamesThere marks w names =
    w * (length names / w) ≤ length names → (k c : ℕ) → k < names_many marks w names → c < w → get_or (names_left marks w names) (w * k + c) 0 < new_number marks (length marks)

-- exclusions between survivors are again strictly ascending, each low before high
abbrev pub StillATable : (marks exclusions : List ℕ) → Type 0
StillATable marks exclusions = is_table (rows exclusions) ≡ true → is_table (take (names_many marks 2 exclusions) (rows (names_left marks 2 exclusions))) ≡ true

-- ---- the physics: between survivors every pull is the same float for float, wherever they stand now. The tables beside bonds and angles are cut to their new counts
pub record PullsStay (marks : List ℕ) (a : LentAtoms) (l : Links) : Type 0 where
  pub lj : (image : Vec3 → Image) (look : ℕ → Mixed) (t : Lj) (i j : ℕ) → survives marks i ≡ true → survives marks j ≡ true → lj_pair image look t (atoms_left marks a).species (atoms_left marks a).positions (new_number marks i, new_number marks j) ≡ lj_pair image look t a.species a.positions (i, j)
  pub coulomb : (image : Vec3 → Image) (ke cutoff : Float) (i j : ℕ) → survives marks i ≡ true → survives marks j ≡ true → coulomb_pair image ke cutoff (atoms_left marks a).charges (atoms_left marks a).positions (new_number marks i, new_number marks j) ≡ coulomb_pair image ke cutoff a.charges a.positions (i, j)
  pub bond : (image : Vec3 → Image) (t : Bond) (b i j : ℕ) → b < length l.bonds / 2 → row_survives marks 2 l.bonds b ≡ true → survives marks i ≡ true → survives marks j ≡ true → bond_pair image t (take (beside_many marks 2 l.bonds 1 l.lengths) (links_left marks l).lengths) (take (beside_many marks 2 l.bonds 1 l.ks) (links_left marks l).ks) (atoms_left marks a).positions (how_many (row_survives marks 2 l.bonds) (up_to b)) (new_number marks i, new_number marks j) ≡ bond_pair image t l.lengths l.ks a.positions b (i, j)
  pub angle : (image : Vec3 → Image) (t : Angle) (r : ℕ) (c : Corner) → r < length l.angles / 3 → row_survives marks 3 l.angles r ≡ true → survives marks c.first ≡ true → survives marks c.apex ≡ true → survives marks c.last ≡ true → angle_bend image t (take (2 * beside_many marks 3 l.angles 2 l.per_angle) (links_left marks l).per_angle) (atoms_left marks a).positions (how_many (row_survives marks 3 l.angles) (up_to r)) (record { first = new_number marks c.first; apex = new_number marks c.apex; last = new_number marks c.last }) ≡ angle_bend image t l.per_angle a.positions r c

abbrev pub StrikePulls : List ℕ → LentAtoms → Links → Type 0
StrikePulls marks a l = strike_asked marks a l ≡ Ok tt → PullsStay marks a l

-- ---- without a mark nothing is struck: every atom keeps its number
abbrev pub NoneStruck : List ℕ → Type 0
NoneStruck marks = every (eqb 0) marks ≡ true → (i : ℕ) → i ≤ length marks → new_number marks i ≡ i

-- and every table holds, element by element, what it held, but for exclusions that name no atom
pub record Unmoved (marks : List ℕ) (a : LentAtoms) (l : Links) : Type 0 where
  pub positions : (e : ℕ) → get_or (atoms_left marks a).positions e nan ≡ get_or a.positions e nan
  pub velocities : (e : ℕ) → get_or (atoms_left marks a).velocities e nan ≡ get_or a.velocities e nan
  pub masses : (e : ℕ) → get_or (atoms_left marks a).masses e nan ≡ get_or a.masses e nan
  pub charges : (e : ℕ) → get_or (atoms_left marks a).charges e nan ≡ get_or a.charges e nan
  pub species : (e : ℕ) → get_or (atoms_left marks a).species e 0 ≡ get_or a.species e 0
  pub bonds : (e : ℕ) → get_or (links_left marks l).bonds e 0 ≡ get_or l.bonds e 0
  pub lengths : (e : ℕ) → get_or (links_left marks l).lengths e nan ≡ get_or l.lengths e nan
  pub ks : (e : ℕ) → get_or (links_left marks l).ks e nan ≡ get_or l.ks e nan
  pub angles : (e : ℕ) → get_or (links_left marks l).angles e 0 ≡ get_or l.angles e 0
  pub per_angle : (e : ℕ) → get_or (links_left marks l).per_angle e nan ≡ get_or l.per_angle e nan

abbrev pub NothingMoves : List ℕ → LentAtoms → Links → Type 0
NothingMoves marks a l = strike_asked marks a l ≡ Ok tt → every (eqb 0) marks ≡ true → Unmoved marks a l

-- ---- an atom that is put: it stands after the last one, and every other number is as it was
pub record PutKeeps (count : ℕ) (new : NewAtom) (a : LentAtoms) : Type 0 where
  pub masses : get_or (atoms_with count new a).masses count nan ≡ new.mass
  pub charges : get_or (atoms_with count new a).charges count nan ≡ new.charge
  pub species : get_or (atoms_with count new a).species count 0 ≡ new.species
  pub spot : position_at (atoms_with count new a).positions count ≡ new.position
  pub speed : position_at (atoms_with count new a).velocities count ≡ new.velocity
  pub others : (i : ℕ) → (i ≡ count → ⊥) → (position_at (atoms_with count new a).positions i ≡ position_at a.positions i) × (position_at (atoms_with count new a).velocities i ≡ position_at a.velocities i) × (get_or (atoms_with count new a).masses i nan ≡ get_or a.masses i nan) × (get_or (atoms_with count new a).charges i nan ≡ get_or a.charges i nan) × (get_or (atoms_with count new a).species i 0 ≡ get_or a.species i 0)

abbrev pub PutPuts : ℕ → NewAtom → LentAtoms → Type 0
PutPuts count new a = put_asked count new a ≡ Ok tt → PutKeeps count new a
