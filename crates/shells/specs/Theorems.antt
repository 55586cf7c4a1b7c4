-- What calls of `add_shells` count, said of the frames themselves: over all pairs of a frame's atoms, by exact distances. 02, No. 12. Definitions only.
use Rattle.std.specs.Prelude.{Result, ℕ, ◌+◌, ◌/◌, ◌<◌, ◌≡◌, Bool, cond, not, ◌&&◌, List, [], ◌∷◌, length, get_or, eqb, ltb, leb}
use Rattle.lists.specs.Atoms.{atoms_of}
use Rattle.lists.specs.Lists.{how_many, all_pairs, rows}
use Rattle.answer.specs.Seen.{Seen, answered, refused}
use Rattle.exclusions.specs.Table.{is_row}
use Rattle.frame.specs.Distance.{spot_of, square_of, squared_of}
use Rattle.frame.specs.declared.Built.{Built}
use Rattle.frame.specs.Build.{Given}
use Rattle.shells.specs.declared.CountError.{CountError}
use Rattle.shells.specs.Shells.{Adding, adding, seen_counted, AddShellsSays}

-- ---- of one frame
abbrev pub squared_for : Given → ℕ × ℕ → ℕ
squared_for i p = squared_of i.frame (spot_of i.coordinates p.0) (spot_of i.coordinates p.1)

-- a pair is not excluded, and within the radius
unfoldable pub is_within : Given → ℕ × ℕ → Bool
is_within i p = not (is_row p (rows i.exclusions)) && leb (squared_for i p) (square_of i.frame.radius)

-- how many such pairs a frame has
unfoldable pub pairs_within : Given → ℕ
pairs_within i = how_many (is_within i) (all_pairs (atoms_of i.coordinates))

-- the squared distance divided by the width is k; for the last shell, k or more
unfoldable pub in_shell : ℕ → ℕ → ℕ → ℕ → Bool
in_shell width shells k square = cond (ltb (k + 1) shells) (eqb (square / width) k) (leb k (square / width))

-- how many of those pairs are in a shell
unfoldable pub pairs_in_shell : Given → ℕ → ℕ → ℕ → ℕ
pairs_in_shell i width shells k = how_many (λ p. is_within i p && in_shell width shells k (squared_for i p)) (all_pairs (atoms_of i.coordinates))

-- ---- of one call
-- each total has grown by the pairs in its shell
pub record ShellsGrown (j : Adding) (totals : List ℕ) : Type 0 where
  pub long : length totals ≡ length j.totals
  pub each : (k : ℕ) → k < length j.totals → get_or totals k 0 ≡ get_or j.totals k 0 + pairs_in_shell j.build j.width (length j.totals) k

-- an answered call counts its frame; a refused one adds nothing
pub record AddShellsCounts (j : Adding) (r : Result Built CountError) (totals : List ℕ) : Type 0 where
  pub counts : (c : Built) → seen_counted r ≡ answered c → ShellsGrown j totals
  pub nothing : (number place : ℕ) → seen_counted r ≡ refused number place → totals ≡ j.totals

-- ---- of a run: calls one after the other, each with a frame and a width of its own, on the totals that the one before left
pub record Call : Type 0 where
  pub build : Given
  pub width : ℕ
  pub answer : Result Built CountError
  pub pairs : List ℕ
  pub starts : List ℕ
  pub items : List ℕ

abbrev pub Follow : List ℕ → List Call → List ℕ → Type 0
Follow before [] after = after ≡ before
Follow before (c ∷ cs) after =
    (between : List ℕ)
    × AddShellsSays (adding c.build c.width before) c.answer between c.pairs c.starts c.items
    × Follow between cs after

-- n, where the call was answered
unfoldable pub if_answered : Seen Built → ℕ → ℕ
if_answered (answered c) n = n
if_answered (refused number place) n = 0

unfoldable pub sum_over : {A : Type 0} → (A → ℕ) → List A → ℕ
sum_over f [] = 0
sum_over f (a ∷ l) = f a + sum_over f l

-- "From totals of zero, their sum equals the number of unexcluded pairs within the radius over all answered frames since, counted from the frames
-- themselves; a refused frame adds nothing." And so shell by shell.
pub record RunCounts (shells : ℕ) (cs : List Call) (after : List ℕ) : Type 0 where
  pub long : length after ≡ shells
  pub sum : sum_over (λ total. total) after ≡ sum_over (λ c. if_answered (seen_counted c.answer) (pairs_within c.build)) cs
  pub each : (k : ℕ) → k < shells → get_or after k 0 ≡ sum_over (λ c. if_answered (seen_counted c.answer) (pairs_in_shell c.build c.width shells k)) cs
