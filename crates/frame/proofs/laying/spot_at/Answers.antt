use Rattle.frame.specs.Distance.{spot_of}
use borrow.Author.Rules.{rules}
use Rattle.frame.proofs.laying.spot_at.Goals as goal

pub returns : goal.returns
unfolding spot_of
returns c = search rules
