use Rattle.strike.specs.Calls.{unlisted_of}
use borrow.Author.Rules.{rules}
use Rattle.strike.proofs.unlisted.Goals as goal

pub returns : goal.returns
returns c = unfold unlisted_of in search rules
