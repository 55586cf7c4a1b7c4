use Rattle.frame.specs.Distance.{spot_ok}
use borrow.Author.Rules.{rules}
use Rattle.frame.proofs.asked.spot_ok.Goals as goal

pub returns : goal.returns
unfolding spot_ok
returns c = search rules
