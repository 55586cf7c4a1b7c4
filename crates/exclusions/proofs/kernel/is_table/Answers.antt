use Rattle.exclusions.proofs.Search.{all_taken}
use Rattle.exclusions.specs.Table.{is_table}
use mathlib.Core.Path.{◌∙◌, ap}
use Rattle.exclusions.proofs.kernel.is_table.Goals as goal

pub returns : goal.returns
returns c = c.is_table.ensures ∙ ap is_table (all_taken c.args.table.now)
