use Rattle.clumps_label.specs.Label.{lengths_off}
use borrow.Author.Rules.{rules}
use Rattle.clumps_label.proofs.lengths_off.Goals as goal

pub returns : goal.returns
unfolding lengths_off
returns c = search rules
