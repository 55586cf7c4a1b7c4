use mathlib.Core.Path.{◌∙◌}
use Rattle.frame.proofs.laying.sort_in.Goals as goal

pub returns : goal.returns
returns c = record { value = c.rows_touching.ensures; starts_after = c.sort.ensures.starts_after ∙ rw c.cell_count-count.ensures; after = c.sort.ensures.after ∙ rw c.cell_count-count.ensures }
