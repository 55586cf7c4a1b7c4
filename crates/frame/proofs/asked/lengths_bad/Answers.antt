use Rattle.frame.specs.Build.{lengths_bad}
use borrow.Author.Rules.{rules}
use Rattle.frame.proofs.asked.lengths_bad.Goals as goal

pub returns : goal.returns
unfolding lengths_bad
returns c = search rules
