use Rattle.sheet_written.specs.Write.{uneven_rows}
use borrow.Author.Rules.{rules}
use Rattle.sheet_written.proofs.asked.uneven.Goals as goal

pub returns : goal.returns
unfolding uneven_rows
returns c = search rules
