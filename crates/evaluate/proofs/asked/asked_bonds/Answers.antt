use Rattle.evaluate.specs.Asked.{bond_rows_asked}
use borrow.Author.Tests.{lt-ltb, le-ltb}
use Rattle.evaluate.proofs.asked.asked_bonds.Goals as goal

pub returns-then-row-bonds : goal.returns-then-row-bonds
returns-then-row-bonds c = unfold bond_rows_asked in rw (← c.first_absent-row.ensures, lt-ltb _ _ c.if-row-bonds.true)

pub returns : goal.returns
returns c = unfold bond_rows_asked in rw (← c.first_absent-row.ensures, le-ltb _ _ c.if-row-bonds.false)
