-- What `label` answers, and what it leaves in the labels: one outcome from the entry values alone. Definitions only.
use Rattle.std.specs.Prelude.{Err, Ok, Result}
use Rattle.answer.specs.declared.Refusal.{Refusal}
use Rattle.std.specs.Prelude.{ℕ, ◌%◌, min, max, ◌≡◌, Bool, cond, not, ◌||◌, length, eqb, ltb}
use mathlib.Core.List.{List, map, foldl}
use Rattle.answer.specs.Seen.{Seen, answered, refused_by, seen}
use Rattle.answer.specs.declared.Refusal.TheVariants.{Lengths, TooMany, NotThere}
use Rattle.lists.specs.Atoms.{most_atoms}
use Rattle.lists.specs.Lists.{rows, up_to, how_many}
use Rattle.ranges.specs.Rows.{absent_of}

-- Labels before and after a row joins its two atoms: the higher of their two labels gives way to the lower, wherever it stands.
unfoldable pub linked : (ℕ → ℕ) → ℕ × ℕ → ℕ → ℕ
linked f p i = cond (eqb (f i) (max (f p.0) (f p.1))) (min (f p.0) (f p.1)) (f i)

-- An atom's label by the rows of a list, one after the other: before the first its own number. specs/Theorems says what that is: "the lowest atom
-- number it can reach through listed pairs".
unfoldable pub lowest_of : List (ℕ × ℕ) → ℕ → ℕ
unfolding linked
lowest_of l = foldl linked (λ i. i) l

-- the labels of n atoms, and how many clumps they are: an atom that is its own label is the lowest of one
unfoldable pub labels_of : ℕ → List (ℕ × ℕ) → List ℕ
unfolding lowest_of
labels_of n l = map (lowest_of l) (up_to n)

unfoldable pub clumps_of : ℕ → List (ℕ × ℕ) → ℕ
unfolding lowest_of
clumps_of n l = how_many (λ i. eqb (lowest_of l i) i) (up_to n)

-- what is shown, and the lent labels as they are left
pub record Outcome : Type 0 where
  pub shown : Seen ℕ
  pub labels : List ℕ

-- 1: half a row of pairs, or labels not as many as the atoms
unfoldable pub lengths_off : ℕ → List ℕ → List ℕ → Bool
lengths_off count pairs labels = not (eqb (length pairs % 2) 0) || not (eqb (length labels) count)

-- "Refusals: 1 for lent lengths, 2 past 16,384 atoms, 4 for a pair's atom, place its row"
unfoldable pub label_asked : ℕ → List ℕ → List ℕ → Result (Unit {0}) Refusal
label_asked count pairs labels =
    cond (lengths_off count pairs labels) (Err Lengths)
    (cond (ltb most_atoms count) (Err (TooMany count))
    (cond (ltb (absent_of count (rows pairs)) (length (rows pairs))) (Err (NotThere (absent_of count (rows pairs)))) (Ok tt)))

-- "labels untouched"
unfoldable pub label_after : ℕ → List (ℕ × ℕ) → List ℕ → Result (Unit {0}) Refusal → Outcome
label_after n l labels (Err r) = record { shown = refused_by r; labels = labels }
label_after n l labels (Ok tt) = record { shown = answered (clumps_of n l); labels = labels_of n l }

unfoldable pub label_of : ℕ → List ℕ → List ℕ → Outcome
label_of count pairs labels = label_after count (rows pairs) labels (label_asked count pairs labels)

abbrev pub LabelSays : ℕ → List ℕ → List ℕ → Result ℕ Refusal → List ℕ → Type 0
LabelSays count pairs labels r labels' = record { shown = seen r; labels = labels' } ≡ label_of count pairs labels
