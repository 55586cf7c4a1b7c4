use Rattle.field.proofs.Told.{says_part, excluded_told}
use mathlib.Core.Path.{refl}
use Rattle.field.proofs.parts.tyn_excluded_rows.Goals as goal

pub returns : goal.returns
returns c = says_part c.excluded_rows_asked.result c.excluded_rows_asked.ensures refl c.excluded_rows-part.ensures (excluded_told c.args.count c.args.table.now) c.from-done.ensures
