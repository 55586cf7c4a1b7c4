use Rattle.field.proofs.Told.{says_part, listed_told}
use mathlib.Core.Path.{refl}
use Rattle.field.proofs.parts.tyn_listed.Goals as goal

pub returns : goal.returns
returns c = rw (← c.from-state.ensures) (says_part c.listed_asked.result c.listed_asked.ensures refl c.listed-part.ensures (listed_told c.from-state.result c.args.pairs.now) c.from-done.ensures)
