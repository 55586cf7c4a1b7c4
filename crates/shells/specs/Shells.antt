-- What `add_shells` answers, and what it leaves in everything lent: 02, No. 12. One outcome, made from the entry values alone, the tests in 01's order.
-- Definitions only.
use Rattle.std.specs.Prelude.{Err, Ok, Result}
use Rattle.answer.specs.declared.Refusal.{Refusal}
use Rattle.std.specs.Prelude.{ℕ, ◌+◌, ◌-◌, ◌*◌, ◌/◌, min, ◌≡◌, Bool, cond, not, ◌||◌, List, length, take, eqb, ltb}
use Rattle.lists.specs.Atoms.{atoms_of, most_atoms}
use Rattle.lists.specs.Lists.{some, how_many, rows}
use Rattle.lists.specs.Loops.{map_at}
use Rattle.answer.specs.declared.Refusal.TheVariants.{Lengths, TooMany, Range, Order}
use Rattle.answer.specs.Seen.{Seen, answered, refused, refused_by}
use Rattle.exclusions.specs.Table.{is_table}
use Rattle.frame.specs.declared.Frame.{Frame}
use Rattle.frame.specs.Distance.{spot_of, squared_of}
use Rattle.frame.specs.declared.Built.{Built}
use Rattle.frame.specs.Build.{Given, Outcome, lengths_bad, ranges_ok, build_of}
use Rattle.shells.specs.declared.CountError.{CountError}
use Rattle.shells.specs.declared.CountError.TheVariants.{Refused, Full}

-- everything that the call is given: a build's, the width of a shell, and the totals, which are lent to grow
pub record Adding : Type 0 where
  pub build : Given
  pub width : ℕ
  pub totals : List ℕ

abbrev pub adding : Given → ℕ → List ℕ → Adding
adding i width totals = record { build = i; width = width; totals = totals }

-- what is seen of an answer
abbrev pub seen_counted : Result Built CountError → Seen Built
seen_counted (Ok b) = answered b
seen_counted (Err (Refused r)) = refused_by r
seen_counted (Err Full) = refused 13 0

-- ---- shells
-- "the shell given by the whole part of its squared distance over a width, last shell open upward"
unfoldable pub shell_of : ℕ → ℕ → ℕ → ℕ
shell_of width shells square = min (square / width) (shells - 1)

-- the shell of a pair of atoms
unfoldable pub shell_at : Frame → List ℕ → ℕ → ℕ → ℕ × ℕ → ℕ
shell_at f xs width shells p = shell_of width shells (squared_of f (spot_of xs p.0) (spot_of xs p.1))

-- "add each listed pair to the shell": each total grows by the pairs of its shell
unfoldable pub totals_with : (ℕ × ℕ → ℕ) → List (ℕ × ℕ) → List ℕ → List ℕ
totals_with shell ps totals = map_at (λ k total. total + how_many (λ p. eqb (shell p) k) ps) totals

-- 13: "when a shell would pass 2^64 - 1"
unfoldable pub is_past : List ℕ → Bool
is_past totals = some (λ total. ltb 18446744073709551615 total) totals

-- the pairs that an answered build has listed
abbrev pub listed_rows : Built → List ℕ → List (ℕ × ℕ)
listed_rows c pairs = rows (take (2 * c.pairs) pairs)

-- the totals after that list
abbrev pub totals_after : Adding → Built → List ℕ → List ℕ
totals_after j c pairs =
    totals_with (shell_at j.build.frame j.build.coordinates j.width (length j.totals)) (listed_rows c pairs) j.totals

-- ---- the tests before a build: 1, 2, 3, 5, and with the other ranges "3 for width 0 or no shells"
unfoldable pub shells_asked : Adding → Result (Unit {0}) Refusal
shells_asked j =
    cond (lengths_bad (length j.build.coordinates) (length j.build.exclusions) (length j.build.items)) (Err Lengths)
    (cond (ltb most_atoms (atoms_of j.build.coordinates)) (Err (TooMany (atoms_of j.build.coordinates)))
    (cond (not (ranges_ok j.build.frame j.build.coordinates) || (eqb j.width 0 || eqb (length j.totals) 0)) (Err Range)
    (cond (not (is_table (rows j.build.exclusions))) (Err Order) (Ok tt))))

-- ---- the outcome
pub record Tallied : Type 0 where
  pub answer : Seen Built
  pub totals : List ℕ
  pub pairs : List ℕ
  pub starts : List ℕ
  pub items : List ℕ

-- what a build leaves, beside an answer and totals
abbrev pub built_with : Outcome → Seen Built → List ℕ → Tallied
built_with o a totals = record { answer = a; totals = totals; pairs = o.pairs; starts = o.starts; items = o.items }

-- after a build: a refused one leaves the totals; so does 13, "tested last, totals untouched and the list left as built"
unfoldable pub after_build : Adding → Outcome → Seen Built → Tallied
after_build j o (refused n p) = built_with o (refused n p) j.totals
after_build j o (answered c) =
    cond (is_past (totals_after j c o.pairs)) (built_with o (refused 13 0) j.totals) (built_with o (answered c) (totals_after j c o.pairs))

unfoldable pub after_tests : Adding → Result (Unit {0}) Refusal → Tallied
after_tests j (Err r) =
    record { answer = refused_by r; totals = j.totals; pairs = j.build.pairs; starts = j.build.starts; items = j.build.items }
after_tests j (Ok tt) = after_build j (build_of j.build) (build_of j.build).answer

unfoldable pub add_shells_of : Adding → Tallied
add_shells_of j = after_tests j (shells_asked j)

-- The contract of `add_shells`: what the answer shows, and what everything lent holds at exit.
abbrev pub AddShellsSays : Adding → Result Built CountError → List ℕ → List ℕ → List ℕ → List ℕ → Type 0
AddShellsSays j r totals pairs starts items =
    record { answer = seen_counted r; totals = totals; pairs = pairs; starts = starts; items = items } ≡ add_shells_of j
