use Rattle.skin.specs.Skin.{counts_differ}
use borrow.Author.Rules.{rules}
use Rattle.skin.proofs.counts_differ.Goals as goal

pub returns : goal.returns
unfolding counts_differ
returns c = search rules
