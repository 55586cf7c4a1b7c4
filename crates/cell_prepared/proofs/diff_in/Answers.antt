use Rattle.cell_prepared.specs.Facts.{diff_in}
use mathlib.Core.Path.{sym, ◌∙◌}
use Rattle.cell_prepared.proofs.diff_in.Goals as goal

pub short_image-requires : goal.short_image-requires
short_image-requires c = sym c.is_short.ensures ∙ c.if-is_short.true

pub returns-then-is_short : goal.returns-then-is_short
returns-then-is_short c = unfold diff_in in simp (c.short_image.ensures, ← c.is_short.ensures, c.if-is_short.true)

pub returns : goal.returns
returns c = unfold diff_in in simp (c.image_by.ensures, ← c.is_short.ensures, c.if-is_short.false)
