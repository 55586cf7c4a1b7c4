-- Laws of the lines of any form in turn: one turn of a reader's loop, its ends, and how far a line goes. A form is its lines from a place on, each told in the
-- first form. Assumes nothing.
use Rattle.std.specs.Prelude.{Err, None, Ok, Result}
use Prim.Native.Nat.{ℕ, suc, ◌+◌, ◌-◌, ◌≤◌, ◌<◌}
use mathlib.Core.Path.{◌≡◌, sym, ap, ◌∙◌}
use mathlib.Core.Option.{Option, none, some}
use mathlib.Core.List.{List, []}
use native.Mathlib.Nat.{sub-zero}
use native.Mathlib.Omega.{arith}
use lib.ListN.{length}
use Rattle.lists.proofs.Cases.{impossible}
use Rattle.answer.specs.Seen.{Seen, answered, refused, refused_by, number_of, place_of}
use Rattle.answer.specs.declared.Refusal.{Refusal}
use Rattle.exclusions.specs.Table.{is_table}
use Rattle.sheet_lines.specs.Grammar.{WellFormed}
use Rattle.sheet_lines.specs.declared.Line.{Line}
use Rattle.sheet_lines.specs.declared.Line.TheVariants.{Header, Atom, Exclusion, Malformed, End}
use Rattle.sheet.specs.Meaning.{Meaning, acted, act_of}
use Rattle.sheet.specs.Reading.{refusal_for, onward, run}
use Rattle.sheet.specs.Desk.{meaning_for, shown_kept, Fit, FitKept, LineTold, LinesBy}
use Rattle.sheet.specs.declared.desk.Desk.{Desk}

-- ---- what one line came to, and the rest
module _ (r : Refusal) (f : Meaning → Seen Meaning) where
  next_on : (o : Option Meaning) (m : Meaning) → answered m ≡ onward o r answered → onward o r f ≡ f m
  next_on none m e = impossible (cc)
  next_on (some k) m e = let h : k ≡ m = cc in ap f h

  stop_here : (o : Option Meaning) (n p : ℕ) → refused n p ≡ onward o r answered → onward o r f ≡ refused n p
  stop_here none n p e = sym e
  stop_here (some k) n p e = impossible (cc)

-- a line that is kept is one of the three
next_well : (l : Line) (m m' : Meaning) (n : ℕ) → answered m' ≡ onward (acted (act_of l) m) (refusal_for l n) answered → WellFormed l
next_well (Header h) m m' n e = tt
next_well (Atom k x y z) m m' n e = tt
next_well (Exclusion a b) m m' n e = tt
next_well Malformed m m' n e = impossible (cc)
next_well End m m' n e = impossible (cc)

-- the start
abbrev pub start : List ℕ → List ℕ → Meaning
start co se = record { header = none; atoms = record { coords = co; marks = se }; rows = [] }

fit_start : (ta : List ℕ) (count : ℕ) → length ta ≡ 2048 → count ≡ 0 → Fit count ta
unfolding is_table
fit_start ta count h k = record { size = h; few = omega arith; table = rw k }

-- ---- the loop: what is left from here on comes to what all came to from the start
pub record Half (told : ℕ → Line × ℕ → Type 0) (bytes : ℕ) (co₀ se₀ co se ta : List ℕ) (d : Desk) (at n : ℕ) : Type 0 where
  pub within : n ≤ at
  pub fit : Fit d.count ta
  pub same : (lines : ℕ → ℕ → List Line) → LinesBy told bytes lines → run (lines (bytes - n) at) n (meaning_for d co se ta) ≡ run (lines bytes 0) 0 (start co₀ se₀)

module _ (told : ℕ → Line × ℕ → Type 0) (bytes : ℕ) where
  pub half_start : (co se ta : List ℕ) (d : Desk) → length ta ≡ 2048 → (d.head ≡ None) × (d.count ≡ 0) → Half told bytes co se co se ta d 0 0
  half_start co se ta d c h = record { within = omega arith; fit = fit_start ta d.count c h.1; same = λ lines by. rw (sub-zero bytes) (simp (h.0, h.1)) }

  module _ {co₀ se₀ co se ta : List ℕ} {d : Desk} {at n : ℕ} (v : Half told bytes co₀ se₀ co se ta d at n) where
    pub half_end : bytes ≤ at → (lines : ℕ → ℕ → List Line) → LinesBy told bytes lines → answered (meaning_for d co se ta) ≡ run (lines bytes 0) 0 (start co₀ se₀)
    half_end h lines by = sym (ap (λ (ls : List Line). run ls n (meaning_for d co se ta)) (by.past (bytes - n) at h)) ∙ v.same lines by

    -- one line more: it stands at the front of what is left, and takes w bytes
    module _ (l : Line) (w : ℕ) (here : at < bytes) (t : told at (l, w)) (k : Result Desk Refusal) (co' se' ta' : List ℕ)
        (says : shown_kept k co' se' ta' ≡ onward (acted (act_of l) (meaning_for d co se ta)) (refusal_for l (n + 1)) answered) where
      -- a turn: the lines from here on come to what the lines after this one come to
      turn : (lines : ℕ → ℕ → List Line) → LinesBy told bytes lines
          → run (lines (bytes - n) at) n (meaning_for d co se ta) ≡ onward (acted (act_of l) (meaning_for d co se ta)) (refusal_for l (n + 1)) (λ m'. run (lines (bytes - (n + 1)) (at + w)) (n + 1) m')
      turn lines by =
          let e : bytes - n ≡ suc (bytes - (n + 1)) = omega (arith, here, v.within) in
          ap (λ (f : ℕ). run (lines f at) n (meaning_for d co se ta)) e
          ∙ ap (λ (ls : List Line). run ls n (meaning_for d co se ta)) (by.first (bytes - (n + 1)) at l w here t)

      pub half_wide : (d' : Desk) → k ≡ Ok d' → LineTold l w → (11 ≤ w) × (w ≤ 43)
      half_wide d' p x =
          let q : answered (meaning_for d' co' se' ta') ≡ onward (acted (act_of l) (meaning_for d co se ta)) (refusal_for l (n + 1)) answered = rw p at says in
          (x.least (next_well l (meaning_for d co se ta) (meaning_for d' co' se' ta') (n + 1) q), x.most)

      pub half_next : (d' : Desk) → k ≡ Ok d' → LineTold l w → FitKept k ta' → Half told bytes co₀ se₀ co' se' ta' d' (at + w) (n + 1)
      half_next d' p x g =
          let q : answered (meaning_for d' co' se' ta') ≡ onward (acted (act_of l) (meaning_for d co se ta)) (refusal_for l (n + 1)) answered = rw p at says in
          record {
            within = omega (arith, v.within, (half_wide d' p x).0);
            fit = rw p at g;
            same =
                λ lines by.
                let on : onward (acted (act_of l) (meaning_for d co se ta)) (refusal_for l (n + 1)) (λ m'. run (lines (bytes - (n + 1)) (at + w)) (n + 1) m') ≡ run (lines (bytes - (n + 1)) (at + w)) (n + 1) (meaning_for d' co' se' ta') =
                next_on (refusal_for l (n + 1)) (λ m'. run (lines (bytes - (n + 1)) (at + w)) (n + 1) m') (acted (act_of l) (meaning_for d co se ta)) (meaning_for d' co' se' ta') q in
                sym on ∙ (sym (turn lines by) ∙ v.same lines by);
          }

      pub half_stop : (r : Refusal) → k ≡ Err r → (lines : ℕ → ℕ → List Line) → LinesBy told bytes lines → refused_by r ≡ run (lines bytes 0) 0 (start co₀ se₀)
      half_stop r p lines by =
          let q : refused_by r ≡ onward (acted (act_of l) (meaning_for d co se ta)) (refusal_for l (n + 1)) answered = rw p at says in
          sym (stop_here (refusal_for l (n + 1)) (λ m'. run (lines (bytes - (n + 1)) (at + w)) (n + 1) m') (acted (act_of l) (meaning_for d co se ta)) (number_of r) (place_of r) q)
          ∙ (sym (turn lines by) ∙ v.same lines by)
