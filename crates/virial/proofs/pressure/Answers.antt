use Rattle.virial.proofs.pressure.Goals as goal

pub returns-then-plain : goal.returns-then-plain
returns-then-plain c = rw (← c.plain.ensures, ← c.plain-2.ensures, ← c.plain-3.ensures, c.if-plain.true, c.pressure.ensures)

pub returns : goal.returns
returns c = rw (← c.plain.ensures, ← c.plain-2.ensures, ← c.plain-3.ensures, c.if-plain.false)
