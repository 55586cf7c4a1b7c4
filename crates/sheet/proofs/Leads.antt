-- Laws of the marks at the front of a list. Assumes nothing.
use Prim.Native.Nat.{ℕ, suc, ◌+◌, ◌≤◌, ◌<◌}
use mathlib.Core.Path.{◌≡◌, sym, ap, ◌∙◌}
use mathlib.Core.List.{List}
use native.Mathlib.Numerals.{add-one}
use lib.ListN.{length, get_or, drop, drop_of_length-le}
use lib.Seq.{drop-cons}
use borrow.Author.Tests.{eq-eqb, ne_eqb}
use native.Mathlib.Nat.{zero-add}
use Rattle.sheet.specs.Reading.{lead_of, stray_of, unmarked_of}

module _ (l : List ℕ) (i v : ℕ) where
  pub lead_more : i < length l → get_or l i 0 ≡ v → lead_of v (drop i l) ≡ suc (lead_of v (drop (i + 1) l))
  lead_more h e = rw add-one (ap (lead_of v) (drop-cons l i 0 h) ∙ simp (eq-eqb (get_or l i 0) v e))

  pub lead_stop : i < length l → (get_or l i 0 ≡ v → ⊥) → lead_of v (drop i l) ≡ 0
  lead_stop h e = ap (lead_of v) (drop-cons l i 0 h) ∙ simp (ne_eqb (get_or l i 0) v e)

  pub lead_end : length l ≤ i → lead_of v (drop i l) ≡ 0
  lead_end h = ap (lead_of v) (drop_of_length-le l h)

pub stray_is : (atoms : ℕ) (se : List ℕ) (r : ℕ) → r ≡ atoms + lead_of 0 (drop atoms se) → stray_of atoms se ≡ r
unfolding stray_of
stray_is atoms se r e = sym e

pub absent_is : (se : List ℕ) (r : ℕ) → r ≡ 0 + lead_of 1 se → unmarked_of se ≡ r
unfolding unmarked_of
absent_is se r e = sym (e ∙ zero-add (lead_of 1 se))
