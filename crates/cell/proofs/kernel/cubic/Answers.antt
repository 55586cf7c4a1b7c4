use Rattle.cell.specs.Cell.{cubic_of}
use borrow.Author.Rules.{rules}
use Rattle.cell.proofs.kernel.cubic.Goals as goal

pub returns : goal.returns
unfolding cubic_of
returns c = search rules
