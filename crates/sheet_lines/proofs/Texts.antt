-- The first form: a text of lines reads as these lines, and a sheet with no malformed line is its lines' bytes one after the other. Assumes nothing.
use Prim.Native.Nat.{ℕ, zero, suc, ◌+◌, ◌≤◌, ◌/◌, ◌%◌}
use mathlib.Core.Path.{◌≡◌, refl, sym, ap, subst, ◌∙◌}
use mathlib.Core.Bool.{cond}
use mathlib.Core.List.{List, [], ◌∷◌, ◌++◌}
use native.Mathlib.Omega.{arith}
use lib.ListN.{length}
use lib.Dec.{ltb}
use Rattle.hexadecimal.specs.Glyphs.{glyph_of, text2, text4, text8, Stands}
use Rattle.hexadecimal.proofs.Choice.{cases}
use Rattle.sheet_lines.specs.Reading.{line_at, line_width, lines_from, lines_of}
use Rattle.sheet_lines.specs.Grammar.{text888, line_text, Valid, sheet_text, AllValid, WellFormed, AllWellFormed, Unbroken, WholeLine, join_all}
use Rattle.sheet_lines.specs.declared.Line.{Line}
use Rattle.sheet_lines.specs.declared.Line.TheVariants.{Header, Atom, Exclusion, Malformed, End}
use Rattle.sheet_lines.proofs.GrammarLaws.{line_text_lem, text_line, length_text, Sound}
use Rattle.sheet_lines.proofs.AnyForm.{whole_ends, Each, texts_by, lines_by, Form, lines_of_bytes, bytes_of_lines}

-- ---- a line's bytes are a whole line

pub unbroken_append : (xs ys : List ℕ) → Unbroken xs → Unbroken ys → Unbroken (xs ++ ys)
unbroken_append [] ys a b = b
unbroken_append (x ∷ xs) ys a b = (a.0, unbroken_append xs ys a.1 b)

glyph_no : (d : ℕ) → glyph_of d ≡ 10 → ⊥
glyph_no d = cases (ltb d 10) (λ p. simp p (λ e. omega arith)) (λ p. simp p (λ e. omega arith))

pub unbroken2 : (n : ℕ) → Unbroken (text2 n)
unfolding text2
unbroken2 n = (glyph_no (n / 16 % 16), (glyph_no (n % 16), tt))

pub unbroken4 : (n : ℕ) → Unbroken (text4 n)
unfolding text4
unbroken4 n = unbroken_append (text2 (n / 256)) (text2 (n % 256)) (unbroken2 (n / 256)) (unbroken2 (n % 256))

pub unbroken8 : (n : ℕ) → Unbroken (text8 n)
unfolding text8
unbroken8 n = unbroken_append (text4 (n / 65536)) (text4 (n % 65536)) (unbroken4 (n / 65536)) (unbroken4 (n % 65536))

pub unbroken888 : (x y z : ℕ) → Unbroken (text888 x y z)
unfolding text888
unbroken888 x y z = unbroken_append (text8 x ++ text8 y) (text8 z) (unbroken_append (text8 x) (text8 y) (unbroken8 x) (unbroken8 y)) (unbroken8 z)

pub whole_text : (l : Line) → Valid l → WholeLine (line_text l)
unfolding line_text
whole_text (Header h) v =
    record {
      body = text2 1 ++ text4 h.atoms ++ text888 h.ex h.ey h.ez ++ text2 h.mask ++ text8 h.radius;
      unbroken =
          unbroken_append (text2 1 ++ text4 h.atoms ++ text888 h.ex h.ey h.ez ++ text2 h.mask) (text8 h.radius)
          (unbroken_append (text2 1 ++ text4 h.atoms ++ text888 h.ex h.ey h.ez) (text2 h.mask)
          (unbroken_append (text2 1 ++ text4 h.atoms) (text888 h.ex h.ey h.ez)
          (unbroken_append (text2 1) (text4 h.atoms) (unbroken2 1) (unbroken4 h.atoms))
          (unbroken888 h.ex h.ey h.ez))
          (unbroken2 h.mask))
          (unbroken8 h.radius);
      is = refl;
    }
whole_text (Atom n x y z) v =
    record {
      body = text2 2 ++ text4 n ++ text888 x y z;
      unbroken =
          unbroken_append (text2 2 ++ text4 n) (text888 x y z) (unbroken_append (text2 2) (text4 n) (unbroken2 2) (unbroken4 n)) (unbroken888 x y z);
      is = refl;
    }
whole_text (Exclusion a b) v =
    record {
      body = text2 3 ++ text4 a ++ text4 b;
      unbroken = unbroken_append (text2 3 ++ text4 a) (text4 b) (unbroken_append (text2 3) (text4 a) (unbroken2 3) (unbroken4 a)) (unbroken4 b);
      is = refl;
    }
whole_text Malformed v = absurd v
whole_text End v = absurd v

pub line_ends : (s : List ℕ) (at : ℕ) (l : Line) → Valid l → Stands s at (line_text l) → at + length (line_text l) ≤ length s
line_ends s at l v k = whole_ends s at (line_text l) (whole_text l v) k

-- ---- a line that was read

pub sound_good : (s : List ℕ) (at : ℕ) (l : Line) → WellFormed l → Sound s at l → Valid l × Stands s at (line_text l)
sound_good s at (Header h) g k = k
sound_good s at (Atom n x y z) g k = k
sound_good s at (Exclusion a b) g k = k
sound_good s at Malformed g k = absurd g
sound_good s at End g k = absurd g

-- ---- the first form is a form

pub first_form : Form Line line_text line_at line_width Valid WellFormed
first_form = record { reads = line_text_lem; stood = λ s at g. sound_good s at (line_at s at) g (text_line s at); wide = length_text; whole = whole_text }

each_valid : (ls : List Line) → AllValid ls → Each Valid ls
each_valid [] v = tt
each_valid (l ∷ ls) v = (v.0, each_valid ls v.1)

all_valid : (ls : List Line) → Each Valid ls → AllValid ls
all_valid [] v = tt
all_valid (l ∷ ls) v = (v.0, all_valid ls v.1)

pub each_well : (ls : List Line) → AllWellFormed ls → Each WellFormed ls
each_well [] g = tt
each_well (l ∷ ls) g = (g.0, each_well ls g.1)

lines_same : (f : ℕ) (s : List ℕ) (at : ℕ) → lines_from f s at ≡ lines_by line_at line_width f s at
lines_same zero s at = refl
lines_same (suc f) s at = ap (λ (r : List Line). cond (ltb at (length s)) (line_at s at ∷ r) []) (lines_same f s (at + line_width (line_at s at)))

pub lines_by_lem : (s : List ℕ) → lines_of s ≡ lines_by line_at line_width (length s) s 0
unfolding lines_of
lines_by_lem s = lines_same (length s) s 0

pub join_texts : (ls : List Line) → join_all (texts_by line_text ls) ≡ sheet_text ls
join_texts [] = refl
join_texts (l ∷ ls) = ap (λ (r : List ℕ). line_text l ++ r) (join_texts ls)

pub lines_of_text : (ls : List Line) → AllValid ls → lines_of (sheet_text ls) ≡ ls
lines_of_text ls v =
    ap lines_of (sym (join_texts ls))
    ∙ (lines_by_lem (join_all (texts_by line_text ls)) ∙ lines_of_bytes Line line_text line_at line_width Valid WellFormed first_form ls (each_valid ls v))

-- a sheet with no malformed line is its lines' bytes, one after the other
pub text_of_lines : (s : List ℕ) → AllWellFormed (lines_of s) → AllValid (lines_of s) × (s ≡ sheet_text (lines_of s))
text_of_lines s g =
    let e = lines_by_lem s in
    let t = bytes_of_lines Line line_text line_at line_width Valid WellFormed first_form s (subst (λ (ls : List Line). Each WellFormed ls) e (each_well (lines_of s) g)) in (
      all_valid (lines_of s) (subst (λ (ls : List Line). Each Valid ls) (sym e) t.0),
      t.1 ∙ (ap (λ (ls : List Line). join_all (texts_by line_text ls)) (sym e) ∙ join_texts (lines_of s)),
    )
