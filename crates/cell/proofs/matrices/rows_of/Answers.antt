use Rattle.cell.specs.Seen.{rows_of}
use borrow.Author.Rules.{rules}
use Rattle.cell.proofs.matrices.rows_of.Goals as goal

pub returns : goal.returns
unfolding rows_of
returns c = search rules
