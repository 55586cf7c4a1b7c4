-- The second form is a form: a text of its lines reads as these lines, a sheet with no malformed line is its lines' bytes, and another order of its whole lines is
-- another order of its lines. Assumes nothing.
use Prim.Native.Nat.{ℕ, zero, suc, ◌+◌}
use mathlib.Core.Path.{◌≡◌, refl, sym, ap, subst, ◌∙◌}
use mathlib.Core.Bool.{cond}
use mathlib.Core.List.{List, [], ◌∷◌, ◌++◌, append_assoc, Permᴰ}
use native.Mathlib.Omega.{arith}
use lib.ListN.{length}
use lib.Dec.{ltb}
use Rattle.hexadecimal.specs.Glyphs.{text2, text4, text8, Stands}
use Rattle.sheet_lines.specs.Grammar.{text888, WellFormed, Unbroken, WholeLine, AllWhole, join_all}
use Rattle.sheet_lines.specs.declared.Head.{Head}
use Rattle.sheet_lines.specs.declared.Line.{Line}
use Rattle.sheet_lines.specs.declared.Line.TheVariants.{Header, Atom, Exclusion, Malformed, End}
use Rattle.sheet_lines.proofs.AnyForm.{Each, texts_by, lines_by, Form, lines_of_bytes, bytes_of_lines, whole_texts, lines_reordered}
use Rattle.sheet_lines.proofs.Texts.{unbroken_append, unbroken2, unbroken4, unbroken8, unbroken888, whole_text}
use Rattle.sheet_lines_two.specs.declared.TwoLine.{TwoLine}
use Rattle.sheet_lines_two.specs.Twos.{two_at, width_two, twos_from, twos_of}
use Rattle.sheet_lines_two.specs.Grammar.{head_text, rule_text, text_with, two_text, ValidWith, ValidTwo, WellTwo, text_two}
use Rattle.sheet_lines_two.proofs.GrammarTwo.{rule_bytes, line_text_two, text_line_two, length_two, StoodWith}

-- ---- a line's bytes are a whole line

rule_whole : (h : Head) (t : ℕ) → Unbroken (head_text h) → WholeLine (head_text h ++ rule_text t)
unfolding rule_text
rule_whole h zero u = record { body = head_text h; unbroken = u; is = refl }
rule_whole h (suc t) u =
    record {
      body = head_text h ++ text2 (suc t);
      unbroken = unbroken_append (head_text h) (text2 (suc t)) u (unbroken2 (suc t));
      is = ap (λ (e : List ℕ). head_text h ++ e) (rule_bytes (suc t) (omega arith)) ∙ sym (append_assoc (head_text h) (text2 (suc t)) (10 ∷ []));
    }

whole_with : (c : Line) (t : ℕ) → ValidWith c t → WholeLine (text_with c t)
unfolding text_with head_text
whole_with (Header h) t v =
    rule_whole h t
    (unbroken_append (text2 17 ++ text4 h.atoms ++ text888 h.ex h.ey h.ez ++ text2 h.mask) (text8 h.radius)
    (unbroken_append (text2 17 ++ text4 h.atoms ++ text888 h.ex h.ey h.ez) (text2 h.mask)
    (unbroken_append (text2 17 ++ text4 h.atoms) (text888 h.ex h.ey h.ez)
    (unbroken_append (text2 17) (text4 h.atoms) (unbroken2 17) (unbroken4 h.atoms))
    (unbroken888 h.ex h.ey h.ez))
    (unbroken2 h.mask))
    (unbroken8 h.radius))
whole_with (Atom n x y z) t v =
    record {
      body = text2 18 ++ text4 n ++ text888 x y z ++ text8 t;
      unbroken =
          unbroken_append (text2 18 ++ text4 n ++ text888 x y z) (text8 t)
          (unbroken_append (text2 18 ++ text4 n) (text888 x y z) (unbroken_append (text2 18) (text4 n) (unbroken2 18) (unbroken4 n)) (unbroken888 x y z))
          (unbroken8 t);
      is = refl;
    }
whole_with (Exclusion a b) t v = whole_text (Exclusion a b) v.0
whole_with Malformed t v = absurd v
whole_with End t v = absurd v

stood_good : (s : List ℕ) (at : ℕ) (c : Line) (t : ℕ) → WellFormed c → StoodWith s at c t → ValidWith c t × Stands s at (text_with c t)
stood_good s at (Header h) t g k = k
stood_good s at (Atom n x y z) t g k = k
stood_good s at (Exclusion a b) t g k = k
stood_good s at Malformed t g k = absurd g
stood_good s at End t g k = absurd g

pub second_form : Form TwoLine two_text two_at width_two ValidTwo WellTwo
second_form =
    record {
      reads = line_text_two;
      stood = λ s at g. stood_good s at (two_at s at).core (two_at s at).extra g (text_line_two s at);
      wide = λ l. length_two l.core l.extra;
      whole = λ l v. whole_with l.core l.extra v;
    }

-- ---- its lines

twos_same : (f : ℕ) (s : List ℕ) (at : ℕ) → twos_from f s at ≡ lines_by two_at width_two f s at
twos_same zero s at = refl
twos_same (suc f) s at = ap (λ (r : List TwoLine). cond (ltb at (length s)) (two_at s at ∷ r) []) (twos_same f s (at + width_two (two_at s at)))

twos_by : (s : List ℕ) → twos_of s ≡ lines_by two_at width_two (length s) s 0
unfolding twos_of
twos_by s = twos_same (length s) s 0

join_twos : (ls : List TwoLine) → join_all (texts_by two_text ls) ≡ text_two ls
join_twos [] = refl
join_twos (l ∷ ls) = ap (λ (r : List ℕ). two_text l ++ r) (join_twos ls)

pub twos_of_text : (ls : List TwoLine) → Each ValidTwo ls → twos_of (text_two ls) ≡ ls
twos_of_text ls v =
    ap twos_of (sym (join_twos ls)) ∙ (twos_by (join_all (texts_by two_text ls)) ∙ lines_of_bytes TwoLine two_text two_at width_two ValidTwo WellTwo second_form ls v)

well_by : (s : List ℕ) → Each WellTwo (twos_of s) → Each WellTwo (lines_by two_at width_two (length s) s 0)
well_by s g = subst (λ (ls : List TwoLine). Each WellTwo ls) (twos_by s) g

-- A sheet with no malformed line is whole lines one after the other; its lines' numbers are those that a sheet can hold.
pub in_twos : (s : List ℕ) → Each WellTwo (twos_of s) → AllWhole (texts_by two_text (twos_of s)) × (s ≡ join_all (texts_by two_text (twos_of s)))
in_twos s g =
    let t = bytes_of_lines TwoLine two_text two_at width_two ValidTwo WellTwo second_form s (well_by s g) in
    rw (twos_by s) (whole_texts TwoLine two_text two_at width_two ValidTwo WellTwo second_form (lines_by two_at width_two (length s) s 0) t.0, t.1)

pub twos_valid : (s : List ℕ) → Each WellTwo (twos_of s) → Each ValidTwo (twos_of s)
twos_valid s g = rw (twos_by s) (bytes_of_lines TwoLine two_text two_at width_two ValidTwo WellTwo second_form s (well_by s g)).0

-- A sheet with no malformed line, and the same whole lines in another order: the same lines in that order, and as many bytes.
pub twos_reordered : (cs ds : List (List ℕ)) → AllWhole cs → Permᴰ cs ds → Each WellTwo (twos_of (join_all cs)) → Permᴰ (twos_of (join_all cs)) (twos_of (join_all ds)) × (length (join_all cs) ≡ length (join_all ds))
twos_reordered cs ds w p g =
    let t = lines_reordered TwoLine two_text two_at width_two ValidTwo WellTwo second_form cs ds w p (well_by (join_all cs) g) in
    (rw (twos_by (join_all cs), twos_by (join_all ds)) t.0, t.1)
