-- What a build of a whole-number frame answers, and what it leaves in everything lent: one outcome, made from the entry values alone, the tests in
-- 01's order. The outcome's pairs are a list in 01's order, which is how the order of the stored pairs is said. Definitions only.
use Rattle.std.specs.Prelude.{Err, Ok, Result}
use Rattle.answer.specs.declared.Refusal.{Refusal}
use Rattle.frame.specs.declared.Built.{Built}
use Rattle.std.specs.Prelude.{ℕ, ◌+◌, ◌/◌, ◌%◌, ◌≡◌, Bool, true, false, cond, not, ◌&&◌, ◌||◌, List, ◌++◌, length, drop, eqb, ltb, leb}
use Rattle.lists.specs.Atoms.{atoms_of, most_atoms}
use Rattle.answer.specs.declared.Refusal.TheVariants.{Lengths, TooMany, Range, Order, Cells, Room}
use Rattle.answer.specs.Seen.{Seen, answered, refused_by, seen}
use Rattle.lists.specs.Lists.{up_to, every, how_many, all_pairs, rows}
use Rattle.bins.specs.Stencil.{cells, touching}
use Rattle.bins.specs.Traversal.{bin, pairs_of}
use Rattle.bins.specs.Sort.{starts_of, items_of}
use Rattle.bins.specs.Listing.{Scene, free, found_of, laid_of}
use Rattle.exclusions.specs.Table.{is_table, is_row}
use Rattle.frame.specs.declared.Frame.{Frame}
use Rattle.frame.specs.Distance.{spot_of, near_of, frame_ok, spot_ok}
use Rattle.frame.specs.Laying.{grid_of, cell_at, plain_of, crowded, home_at}

-- everything that a build is given; the last three are lent to be written
pub record Given : Type 0 where
  pub frame : Frame
  pub coordinates : List ℕ
  pub exclusions : List ℕ
  pub pairs : List ℕ
  pub starts : List ℕ
  pub items : List ℕ

abbrev pub given : Frame → List ℕ → List ℕ → List ℕ → List ℕ → List ℕ → Given
given f coordinates exclusions pairs starts items =
    record { frame = f; coordinates = coordinates; exclusions = exclusions; pairs = pairs; starts = starts; items = items }

-- ---- which pairs there are
-- two atoms are excluded where the table has the row low, high; they are near where their distance is within the radius
unfoldable pub scene_of : Frame → List ℕ → List ℕ → Scene
scene_of f xs table =
    record { excluded = λ low high. is_row (low, high) (rows table); near = λ low high. near_of f (spot_of xs low) (spot_of xs high) }

-- "Order: home cells by x, y, z; then the 14 rows of HALF_STENCIL as written; atoms of a bin rising"; "all pairs (i, then j, rising)" without a grid
unfoldable pub candidates : Frame → List ℕ → List (ℕ × ℕ)
candidates f xs = cond (plain_of f) (all_pairs (atoms_of xs)) (pairs_of (grid_of f) (bin (atoms_of xs) (cell_at f xs)))

-- the candidates that are not excluded, and near, in their order
unfoldable pub near_pairs : Frame → List ℕ → List ℕ → List (ℕ × ℕ)
near_pairs f xs table = found_of (scene_of f xs table) (candidates f xs)

-- the two atoms' bins are the same or touch; where no grid is laid, all pairs count as touching
unfoldable pub beside : Frame → List ℕ → ℕ × ℕ → Bool
beside f xs p = cond (plain_of f) true (touching (grid_of f) (cell_at f xs p.0) (cell_at f xs p.1))

-- "The reported checks are the number of unexcluded touching pairs", counted over all pairs
unfoldable pub checks_of : Frame → List ℕ → List ℕ → ℕ
checks_of f xs table = how_many (λ p. beside f xs p && free (scene_of f xs table) p) (all_pairs (atoms_of xs))

-- ---- the tests before a build
-- 1: "coordinates no multiple of 3, exclusions half a row, items shorter than n"
unfoldable pub lengths_bad : ℕ → ℕ → ℕ → Bool
lengths_bad coordinates exclusions items = not (eqb (coordinates % 3) 0) || not (eqb (exclusions % 2) 0) || ltb items (coordinates / 3)

-- 3: edges, radius, coordinates
unfoldable pub ranges_ok : Frame → List ℕ → Bool
ranges_ok f xs = frame_ok f && every (λ k. spot_ok f (spot_of xs k)) (up_to (atoms_of xs))

-- 1, 2, 3, 5
unfoldable pub frame_asked : Frame → List ℕ → List ℕ → ℕ → Result (Unit {0}) Refusal
frame_asked f xs table items =
    cond (lengths_bad (length xs) (length table) items) (Err Lengths)
    (cond (ltb most_atoms (atoms_of xs)) (Err (TooMany (atoms_of xs)))
    (cond (not (ranges_ok f xs)) (Err Range) (cond (not (is_table (rows table))) (Err Order) (Ok tt))))

-- ---- the outcome
pub record Outcome : Type 0 where
  pub answer : Seen Built
  pub pairs : List ℕ
  pub starts : List ℕ
  pub items : List ℕ

-- everything lent as it came
abbrev pub stays : Given → Seen Built → Outcome
stays i a = record { answer = a; pairs = i.pairs; starts = i.starts; items = i.items }

-- the answer of a run that found so many: 8, at the full count, where they don't fit
unfoldable pub shown_of : ℕ → ℕ → ℕ → Bool → Seen Built
shown_of count checks room fallback =
    cond (leb count room) (answered (record { pairs = count; checks = checks; fallback = fallback })) (refused_by (Room count))

-- a run: its answer, the first pairs that fit, and the grid tables
unfoldable pub run_of : Given → List ℕ → List ℕ → Bool → Outcome
run_of i starts items fallback =
    record {
      answer =
          shown_of (length (near_pairs i.frame i.coordinates i.exclusions)) (checks_of i.frame i.coordinates i.exclusions)
          (length i.pairs / 2) fallback;
      pairs = laid_of i.pairs (near_pairs i.frame i.coordinates i.exclusions);
      starts = starts;
      items = items;
    }

-- the grid tables: where each cell's atoms start, and the atoms cell by cell; what lies past them stays
abbrev pub starts_laid : Frame → List ℕ → List ℕ → List ℕ
starts_laid f xs starts = starts_of (home_at f xs) (atoms_of xs) (cells (grid_of f)) ++ drop (cells (grid_of f) + 1) starts

abbrev pub items_laid : Frame → List ℕ → List ℕ → List ℕ
items_laid f xs items = items_of (home_at f xs) (atoms_of xs) (cells (grid_of f)) ++ drop (atoms_of xs) items

-- Below two atoms nothing is listed, checked or laid, and it is no fallback. The fallback rules come before refusal 7.
unfoldable pub after_of : Given → Result (Unit {0}) Refusal → Outcome
after_of i (Err r) = stays i (refused_by r)
after_of i (Ok tt) =
    cond (ltb (atoms_of i.coordinates) 2) (stays i (answered (record { pairs = 0; checks = 0; fallback = false })))
    (cond (plain_of i.frame) (run_of i i.starts i.items true)
    (cond (crowded i.frame (length i.starts)) (stays i (refused_by Cells))
    (run_of i (starts_laid i.frame i.coordinates i.starts) (items_laid i.frame i.coordinates i.items) false)))

unfoldable pub build_of : Given → Outcome
build_of i = after_of i (frame_asked i.frame i.coordinates i.exclusions (length i.items))

-- The contract of `build`: what the answer shows, and what everything lent holds at exit.
abbrev pub BuildSays : Given → Result Built Refusal → List ℕ → List ℕ → List ℕ → Type 0
BuildSays i r pairs starts items = record { answer = seen r; pairs = pairs; starts = starts; items = items } ≡ build_of i
