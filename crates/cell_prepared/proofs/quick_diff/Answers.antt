use Rattle.cell_prepared.proofs.Law.{free_way}
use Rattle.cell_prepared.specs.Facts.{diff_in, image_in}
use mathlib.Core.Path.{sym, ◌∙◌}
use Rattle.cell_prepared.proofs.quick_diff.Goals as goal

pub short_image-requires : goal.short_image-requires
short_image-requires c = sym c.is_short.ensures ∙ c.if-is_short.true

pub returns-then-is_short : goal.returns-then-is_short
unfolding image_in diff_in
returns-then-is_short c = simp (c.short_image.ensures, ← c.is_short.ensures, c.if-is_short.true)

pub returns-then-p : goal.returns-then-p
unfolding image_in
returns-then-p c = free_way _ _ (sym c.is_short.ensures ∙ c.if-is_short.false) c.if-p.true

pub returns : goal.returns
unfolding image_in
returns c = simp c.diff_in.ensures
