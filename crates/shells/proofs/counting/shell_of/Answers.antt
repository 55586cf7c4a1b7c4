use Rattle.shells.specs.Shells.{shell_of}
use borrow.Author.Rules.{rules}
use Rattle.shells.proofs.counting.shell_of.Goals as goal

pub returns-then-whole-last : goal.returns-then-whole-last
unfolding shell_of
returns-then-whole-last c = search rules

pub returns : goal.returns
unfolding shell_of
returns c = search rules
