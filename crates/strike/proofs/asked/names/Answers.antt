use Rattle.neighbor.specs.Update.{table_asked}
use Rattle.strike.specs.Calls.{links_asked}
use borrow.Author.Tests.{lt-ltb, le-ltb}
use Rattle.strike.proofs.asked.names.Goals as goal

pub returns-then-bond-bonds : goal.returns-then-bond-bonds
returns-then-bond-bonds c = unfold links_asked in simp (← c.first_absent-bond.ensures, lt-ltb _ _ c.if-bond-bonds.true)

pub returns-then-angle-angles : goal.returns-then-angle-angles
returns-then-angle-angles c = unfold links_asked in simp (← c.first_absent-bond.ensures, le-ltb _ _ c.if-bond-bonds.false, ← c.first_missing-angle.ensures, lt-ltb _ _ c.if-angle-angles.true)

pub returns : goal.returns
returns c = unfold links_asked table_asked in simp (c.asked_table.ensures, ← c.first_absent-bond.ensures, le-ltb _ _ c.if-bond-bonds.false, ← c.first_missing-angle.ensures, le-ltb _ _ c.if-angle-angles.false)
