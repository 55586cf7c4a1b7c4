use Rattle.evaluate.specs.Asked.{terms_fit}
use Rattle.evaluate.proofs.asked.terms_fit.Goals as goal

pub returns : goal.returns
returns c = unfold terms_fit in rw (← c.tables_fit.ensures)
