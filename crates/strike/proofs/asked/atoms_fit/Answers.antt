use Rattle.strike.specs.Calls.{atoms_fit}
use borrow.Author.Rules.{rules}
use Rattle.strike.proofs.asked.atoms_fit.Goals as goal

pub returns : goal.returns
returns c = unfold atoms_fit in search rules
