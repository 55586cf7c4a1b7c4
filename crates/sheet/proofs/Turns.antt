-- What `read_lines` tells of each line of the first form. Assumes nothing.
use Prim.Native.Nat.{ℕ, zero, suc, ◌≤◌}
use mathlib.Core.Path.{◌≡◌, refl, ap}
use mathlib.Core.List.{List, []}
use native.Mathlib.Omega.{arith}
use lib.ListN.{length}
use borrow.Author.Tests.{lt-ltb, le-ltb}
use Rattle.sheet_lines.specs.Grammar.{WellFormed}
use Rattle.sheet_lines.specs.Reading.{line_at, line_width, lines_from}
use Rattle.sheet_lines.specs.declared.Line.{Line}
use Rattle.sheet_lines.specs.declared.Line.TheVariants.{Header, Atom, Exclusion, Malformed, End}
use Rattle.sheet.specs.Desk.{LineTold, LinesBy}
use Rattle.sheet.proofs.Keeping.{below_line}

wide_least : (l : Line) → WellFormed l → 11 ≤ line_width l
wide_least (Header h) g = omega arith
wide_least (Atom n x y z) g = omega arith
wide_least (Exclusion a b) g = omega arith
wide_least Malformed g = absurd g
wide_least End g = absurd g

wide_most : (l : Line) → line_width l ≤ 43
wide_most (Header h) = omega arith
wide_most (Atom n x y z) = omega arith
wide_most (Exclusion a b) = omega arith
wide_most Malformed = omega arith
wide_most End = omega arith

lines_end : (f : ℕ) (s : List ℕ) (at : ℕ) → length s ≤ at → lines_from f s at ≡ []
lines_end zero s at h = refl
lines_end (suc f) s at h = simp (le-ltb at (length s) h)

pub line_told : (s : List ℕ) (at : ℕ) (l : Line) (w : ℕ) → ◌≡◌ {A = Line × ℕ} (l, w) (line_at s at, line_width (line_at s at)) → LineTold l w
line_told s at l w e =
    let here : l ≡ line_at s at = ap (λ (x : Line × ℕ). x.0) e in
    let wide : w ≡ line_width (line_at s at) = ap (λ (x : Line × ℕ). x.1) e in
    record { below = rw here (below_line s at); least = λ g. rw wide (wide_least (line_at s at) (rw here at g)); most = rw wide (wide_most (line_at s at)) }

pub lines_by : (s : List ℕ) (told : ℕ → Line × ℕ → Type 0) → ((at : ℕ) (l : Line) (w : ℕ) → told at (l, w) → ◌≡◌ {A = Line × ℕ} (l, w) (line_at s at, line_width (line_at s at))) → LinesBy told (length s) (λ f at. lines_from f s at)
lines_by s told by =
    record {
      past = λ f at h. lines_end f s at h;
      first = λ f at l w h t. rw (ap (λ (x : Line × ℕ). x.1) (by at l w t), ap (λ (x : Line × ℕ). x.0) (by at l w t)) (simp (lt-ltb at (length s) h));
    }
