-- The first form: another order of a sheet's whole lines is another order of its lines. Assumes nothing.
use Prim.Native.Nat.{ℕ}
use mathlib.Core.Path.{◌≡◌, subst}
use mathlib.Core.List.{List, Permᴰ}
use lib.ListN.{length}
use Rattle.sheet_lines.specs.Reading.{line_at, line_width, lines_of}
use Rattle.sheet_lines.specs.Grammar.{line_text, Valid, WellFormed, AllWellFormed, AllWhole, join_all}
use Rattle.sheet_lines.specs.declared.Line.{Line}
use Rattle.sheet_lines.proofs.AnyForm.{Each, texts_by, lines_by, bytes_of_lines, whole_texts, lines_reordered}
use Rattle.sheet_lines.proofs.Texts.{first_form, each_well, lines_by_lem}

abbrev pub texts : List Line → List (List ℕ)
texts ls = texts_by line_text ls

well_by : (s : List ℕ) → AllWellFormed (lines_of s) → Each WellFormed (lines_by line_at line_width (length s) s 0)
well_by s g = subst (λ (ls : List Line). Each WellFormed ls) (lines_by_lem s) (each_well (lines_of s) g)

-- A sheet with no malformed line is whole lines one after the other.
pub in_lines : (s : List ℕ) → AllWellFormed (lines_of s) → AllWhole (texts (lines_of s)) × (s ≡ join_all (texts (lines_of s)))
in_lines s g =
    let t = bytes_of_lines Line line_text line_at line_width Valid WellFormed first_form s (well_by s g) in
    rw (lines_by_lem s) (whole_texts Line line_text line_at line_width Valid WellFormed first_form (lines_by line_at line_width (length s) s 0) t.0, t.1)

-- A sheet with no malformed line, and the same whole lines in another order: the same lines in that order, and as many bytes.
pub reordered : (cs ds : List (List ℕ)) → AllWhole cs → Permᴰ cs ds → AllWellFormed (lines_of (join_all cs)) → Permᴰ (lines_of (join_all cs)) (lines_of (join_all ds)) × (length (join_all cs) ≡ length (join_all ds))
reordered cs ds w p g =
    let t = lines_reordered Line line_text line_at line_width Valid WellFormed first_form cs ds w p (well_by (join_all cs) g) in
    (rw (lines_by_lem (join_all cs), lines_by_lem (join_all ds)) t.0, t.1)
