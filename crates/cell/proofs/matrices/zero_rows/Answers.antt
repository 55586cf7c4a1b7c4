use Rattle.cell.specs.Seen.{zero_rows}
use borrow.Author.Rules.{rules}
use lib.Ieee.{of_bits}
use Rattle.cell.proofs.matrices.zero_rows.Goals as goal

pub returns : goal.returns
unfolding of_bits zero_rows
returns c = search rules
