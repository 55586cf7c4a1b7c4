use Rattle.strike.specs.Calls.{links_fit}
use borrow.Author.Rules.{rules}
use Rattle.strike.proofs.asked.links_fit.Goals as goal

pub returns : goal.returns
returns c = unfold links_fit in search rules
