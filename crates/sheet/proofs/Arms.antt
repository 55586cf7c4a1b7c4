-- What each arm of `keep` shows is what the line does to the meaning. Assumes nothing.
use Rattle.std.specs.Prelude.{None, Some}
use Prim.Native.Nat.{ℕ}
use mathlib.Core.Path.{◌≡◌}
use mathlib.Core.Bool.{true, false, cond}
use mathlib.Core.Option.{none, some}
use mathlib.Core.List.{List}
use lib.ListN.{set, take}
use Rattle.answer.specs.Seen.{Seen, answered, refused_by}
use Rattle.lists.specs.Lists.{rows}
use Rattle.sheet_lines.specs.declared.Head.{Head}
use Rattle.sheet_lines.specs.declared.Line.{Line}
use Rattle.sheet_lines.specs.declared.Line.TheVariants.{Header, Atom, Exclusion, Malformed, End}
use Rattle.sheet.specs.Meaning.{Meaning, acted, act_of, headed, seated, excluding, fresh, placed}
use Rattle.sheet.specs.Reading.{refusal_for, onward}
use Rattle.sheet.specs.Desk.{header_in, meaning_for}
use Rattle.sheet.specs.declared.desk.Desk.{Desk}

-- what the line, the n-th, comes to on the desk
abbrev pub stepped : Line → ℕ → Desk → List ℕ → List ℕ → List ℕ → Seen Meaning
stepped l n d co se ta = onward (acted (act_of l) (meaning_for d co se ta)) (refusal_for l n) (λ m. answered m)

module _ (l : Line) (n : ℕ) (d : Desk) (co se ta : List ℕ) where
  pub header_again : (h k : Head) → l ≡ Header h → d.head ≡ Some k → refused_by (refusal_for (Header h) n) ≡ stepped l n d co se ta
  unfolding headed
  header_again h k e t = rw e (simp t)

  pub header_kept : (h : Head) → l ≡ Header h → d.head ≡ None → answered (record { header = some h; atoms = record { coords = co; marks = se }; rows = take d.count (rows ta) }) ≡ stepped l n d co se ta
  unfolding headed
  header_kept h e t = rw e (simp t)

  module _ (k x y z : ℕ) (e : l ≡ Atom k x y z) where
    pub atom_again : fresh se k ≡ false → refused_by (refusal_for (Atom k x y z) n) ≡ stepped l n d co se ta
    unfolding seated
    atom_again t = rw e (simp t)

    pub atom_kept : (co' se' : List ℕ) → fresh se k ≡ true → co' ≡ cond (fresh se k) (placed co k x y z) co → se' ≡ cond (fresh se k) (set se k 1) se → answered (meaning_for d co' se' ta) ≡ stepped l n d co se ta
    unfolding seated
    atom_kept co' se' t p q = rw (e, p, q) (simp t)

  module _ (a b : ℕ) (e : l ≡ Exclusion a b) where
    pub exclusion_over : none ≡ excluding a b (take d.count (rows ta)) → refused_by (refusal_for (Exclusion a b) n) ≡ stepped l n d co se ta
    exclusion_over t = rw (e, ← t)

    pub exclusion_kept : (m : List (ℕ × ℕ)) → some m ≡ excluding a b (take d.count (rows ta)) → answered (record { header = header_in d.head; atoms = record { coords = co; marks = se }; rows = m }) ≡ stepped l n d co se ta
    exclusion_kept m t = rw (e, ← t)

  pub malformed_line : l ≡ Malformed → refused_by (refusal_for Malformed n) ≡ stepped l n d co se ta
  malformed_line e = rw e

  pub end_line : l ≡ End → refused_by (refusal_for End n) ≡ stepped l n d co se ta
  end_line e = rw e
