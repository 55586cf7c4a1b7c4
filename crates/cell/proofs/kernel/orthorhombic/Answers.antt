use Rattle.cell.specs.Cell.{orthorhombic_of}
use borrow.Author.Rules.{rules}
use lib.Ieee.{of_bits}
use Rattle.cell.proofs.kernel.orthorhombic.Goals as goal

pub returns : goal.returns
unfolding of_bits orthorhombic_of
returns c = search rules
