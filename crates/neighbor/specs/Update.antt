-- What a build, or a question and then a build, answers and leaves in everything lent: one outcome, made from the entry values alone, the tests in 01's order.
-- The outcome's pairs are a list in 01's order, which is how the order of the stored pairs is said. Definitions only.
use Rattle.std.specs.Prelude.{Err, None, Ok, Option, Result, Some}
use Rattle.cell.specs.declared.Lattice.{Lattice}
use Rattle.std.specs.Prelude.{◌≡◌, ℕ, ◌*◌, ◌/◌, ◌%◌, Bool, true, false, cond, not, ◌&&◌, ◌||◌, List, [], length, take, ◌==◌, nat_lt, Float}
use Rattle.lists.specs.Atoms.{atoms_of, most_atoms}
use Rattle.answer.specs.declared.Refusal.{Refusal}
use Rattle.answer.specs.declared.Refusal.TheVariants.{Lengths, Range, NotThere, Order, Claims, Cells, Room}
use Rattle.answer.specs.Seen.{Seen, answered, refused_by, seen}
use Rattle.float.specs.Arith.{at}
use Rattle.lists.specs.Lists.{rows}
use Rattle.lists.specs.Loops.{part_at}
use Rattle.ranges.specs.Rows.{absent_of}
use Rattle.exclusions.specs.Table.{is_table}
use Rattle.neighbor_listing.specs.declared.Listed.{Listed}
use Rattle.neighbor_listing.specs.declared.Listed.TheVariants as ListedCases
use Rattle.neighbor_listing.specs.Listed as ListSpecs
use Rattle.neighbor_asked.specs.Asked.{in_order, first_refusal}
use Rattle.neighbor.specs.declared.Question.{Question}
use Rattle.neighbor.specs.declared.Question.TheVariants as QuestionCases
use Rattle.neighbor.specs.declared.State.{State}
use Rattle.neighbor.specs.declared.Updated.{Updated}
use Rattle.neighbor.specs.State.{radius_of, kept_of, built_of, emptied_of}
use Rattle.neighbor.specs.Rebuild.{needs_of, outdated_of, claims_more, references_ok, ranges_ok}

-- everything that a build is given; the last four are lent to be written
pub record Given : Type 0 where
  pub state : State
  pub cell : Option Lattice
  pub positions : List Float
  pub exclusions : List ℕ
  pub pairs : List ℕ
  pub references : List Float
  pub starts : List ℕ
  pub items : List ℕ

abbrev pub given : State → Option Lattice → List Float → List ℕ → List ℕ → List Float → List ℕ → List ℕ → Given
given s cell positions exclusions pairs references starts items =
    record {
      state = s;
      cell = cell;
      positions = positions;
      exclusions = exclusions;
      pairs = pairs;
      references = references;
      starts = starts;
      items = items;
    }

pub record Outcome : Type 0 where
  pub answer : Seen (Unit {0})
  pub rebuilt : Bool
  pub state : State
  pub pairs : List ℕ
  pub references : List Float
  pub starts : List ℕ
  pub items : List ℕ

-- a refusal with the state and the references as they came
abbrev pub refused_with : Given → Refusal → List ℕ → List ℕ → List ℕ → Outcome
refused_with i r pairs starts items =
    record {
      answer = refused_by r;
      rebuilt = false;
      state = i.state;
      pairs = pairs;
      references = i.references;
      starts = starts;
      items = items;
    }

-- and everything else too
abbrev pub stays : Given → Refusal → Outcome
stays i r = refused_with i r i.pairs i.starts i.items

-- the list is kept: nothing is written
unfoldable pub kept_all : Given → Outcome
kept_all i =
    record {
      answer = answered tt;
      rebuilt = false;
      state = kept_of i.state;
      pairs = i.pairs;
      references = i.references;
      starts = i.starts;
      items = i.items;
    }

-- an answered build: the references are the positions, and what lies past them stays
unfoldable pub built_all : Given → ℕ → ℕ → Bool → List ℕ → List ℕ → List ℕ → Outcome
built_all i count checks fallback pairs starts items =
    record {
      answer = answered tt;
      rebuilt = true;
      state = built_of i.state i.cell (atoms_of i.positions) count checks fallback;
      pairs = pairs;
      references = part_at (λ k _. at i.positions k) (length i.positions) i.references;
      starts = starts;
      items = items;
    }

-- an 8: "leaves the first pairs that fit and the finished grid tables"; the references as they came
unfoldable pub full_all : Given → ℕ → List ℕ → List ℕ → List ℕ → Outcome
full_all i count pairs starts items =
    record {
      answer = refused_by (Room count);
      rebuilt = false;
      state = emptied_of i.state;
      pairs = pairs;
      references = i.references;
      starts = starts;
      items = items;
    }

-- by what the listing answers and leaves (`Crowded` and `Unfit` leave everything as it came); `Unfit` is what the tests below leave no case of (Source.antt)
unfoldable pub listed_all : Given → Listed → List ℕ → List ℕ → List ℕ → Outcome
listed_all i (ListedCases.Found count checks fallback) pairs starts items = built_all i count checks fallback pairs starts items
listed_all i (ListedCases.Full count) pairs starts items = full_all i count pairs starts items
listed_all i ListedCases.Crowded pairs starts items = refused_with i Cells pairs starts items
listed_all i ListedCases.Unfit pairs starts items = refused_with i Lengths pairs starts items

abbrev pub listed_by : Given → ListSpecs.Outcome → Outcome
listed_by i o = listed_all i o.answer o.pairs o.starts o.items

-- "Fewer than two atoms: no pairs, no fallback, no grid"
unfoldable pub rebuilt_all : Given → Outcome
rebuilt_all i =
    cond (nat_lt (atoms_of i.positions) 2) (built_all i 0 0 false i.pairs i.starts i.items)
    (listed_by i
    (ListSpecs.listing_of i.cell (radius_of i.state) i.positions i.exclusions i.pairs i.starts i.items))

-- what the tests leave no case of (Source.antt)
unfoldable pub unfit : ℕ → ℕ → Bool
unfit positions references = nat_lt references positions || nat_lt most_atoms (positions / 3)

-- whether the list is kept: a question was asked, and its answer was no
unfoldable pub keeps_of : Question → State → Option Lattice → List Float → List Float → Bool
keeps_of QuestionCases.Unasked s cell xs refs = false
keeps_of QuestionCases.NeedsRebuild s cell xs refs = not (needs_of s cell xs refs)
keeps_of QuestionCases.Outdated s cell xs refs = not (outdated_of s cell xs refs)

-- The list brought up to date, after the tests: without a question (neighbor.rs, `build`), with the Rust's (`maybe_build`), or with the second one (the evaluator)
unfoldable pub update_of : Question → Given → Outcome
update_of question i =
    cond (unfit (length i.positions) (length i.references)) (stays i Lengths)
    (cond (keeps_of question i.state i.cell i.positions i.references) (kept_all i) (rebuilt_all i))

-- ---- the tests
-- 1: "positions no multiple of 3; exclusions half a row; references shorter than 3n; items shorter than n"
unfoldable pub lengths_bad : ℕ → ℕ → ℕ → ℕ → Bool
lengths_bad positions exclusions references items =
    not (positions % 3 == 0) || not (exclusions % 2 == 0) || nat_lt references positions || nat_lt items (positions / 3)

-- `listed`: the pairs that the state claims, none where it is refused (6)
unfoldable pub listed_of : State → List ℕ → List ℕ
listed_of s pairs = cond (claims_more s.built_in s.pairs (length pairs / 2) 0 0) [] (take (2 * s.pairs) pairs)

-- 1, 2, 6, 3 of every build; `table`, `pairs`, `refs` and `items` are lengths
unfoldable pub first_of : State → Option Lattice → List Float → ℕ → ℕ → ℕ → ℕ → Result (Unit {0}) Refusal
first_of s cell xs table pairs refs items =
    in_order (lengths_bad (length xs) table refs items) (nat_lt most_atoms (atoms_of xs)) (atoms_of xs)
    (claims_more s.built_in s.pairs (pairs / 2) s.references (refs / 3))
    (not (ranges_ok s cell xs))

-- 4: an old listed pair names an atom not there, "only where the state's references equal n"
unfoldable pub misnamed : State → ℕ → List ℕ → Bool
misnamed s n pairs = s.references == n && nat_lt (absent_of n (rows (listed_of s pairs))) (length (listed_of s pairs) / 2)

-- 3 and 4 of what the state claims, "only in a call that may keep the list"
unfoldable pub kept_asked : State → ℕ → List ℕ → List Float → Result (Unit {0}) Refusal
kept_asked s n pairs refs =
    cond (not (references_ok s n refs)) (Err Range)
    (cond (misnamed s n pairs) (Err (NotThere (absent_of n (rows (listed_of s pairs))))) (Ok tt))

-- 5
unfoldable pub table_asked : List ℕ → Result (Unit {0}) Refusal
table_asked table = cond (is_table (rows table)) (Ok tt) (Err Order)

-- 1, 2, 6, 3, 4, 5
unfoldable pub list_asked : Bool → State → Option Lattice → List Float → List ℕ → List ℕ → List Float → ℕ → Result (Unit {0}) Refusal
list_asked may s cell xs table pairs refs items =
    first_refusal (first_of s cell xs (length table) (length pairs) (length refs) items)
    (first_refusal (cond may (kept_asked s (atoms_of xs) pairs refs) (Ok tt)) (table_asked table))

abbrev pub update_asked : Bool → Given → Result (Unit {0}) Refusal
update_asked may i = list_asked may i.state i.cell i.positions i.exclusions i.pairs i.references (length i.items)

-- ---- the calls
unfoldable pub after_of : Question → Given → Result (Unit {0}) Refusal → Outcome
after_of question i (Err r) = stays i r
after_of question i (Ok tt) = update_of question i

-- the list may be kept where a question is asked
abbrev pub may_keep : Question → Bool
may_keep QuestionCases.Unasked = false
may_keep QuestionCases.NeedsRebuild = true
may_keep QuestionCases.Outdated = true

unfoldable pub updated_of : Question → Given → Outcome
updated_of question i = after_of question i (update_asked (may_keep question) i)

abbrev pub shown : Updated → List ℕ → List Float → List ℕ → List ℕ → Outcome
shown r pairs references starts items =
    record {
      answer = seen r.done;
      rebuilt = r.rebuilt;
      state = r.state;
      pairs = pairs;
      references = references;
      starts = starts;
      items = items;
    }

-- The contract of `build` (no question) and of `maybe_build` (the Rust's): what the answer shows, and what everything lent holds at exit.
abbrev pub UpdateSays : Question → Given → Updated → List ℕ → List Float → List ℕ → List ℕ → Type 0
UpdateSays question i r pairs references starts items = shown r pairs references starts items ≡ updated_of question i

-- `listed_asked`
unfoldable pub listed_seen : State → List ℕ → Seen (Unit {0})
listed_seen s pairs = cond (claims_more s.built_in s.pairs (length pairs / 2) 0 0) (refused_by Claims) (answered tt)

abbrev pub ListedSays : State → List ℕ → Result (Unit {0}) Refusal → Type 0
ListedSays s pairs r = seen r ≡ listed_seen s pairs
