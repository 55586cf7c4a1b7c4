use mathlib.Core.Bool.{false≢true}
use mathlib.Core.Path.{sym, ◌∙◌}
use Rattle.ranges.proofs.rows.all_there.Goals as goal

pub returns-then-n-lt4294967296 : goal.returns-then-n-lt4294967296
returns-then-n-lt4294967296 c = record { all = λ e. sym c.all_below.ensures ∙ e }

pub returns : goal.returns
returns c = record { all = λ e. absurd (false≢true e) }
