use Rattle.cell.proofs.cubic.Goals as goal

pub returns-then-is_within : goal.returns-then-is_within
returns-then-is_within c = simp (c.cubic.ensures, ← c.is_within.ensures, c.if-is_within.true)

pub returns : goal.returns
returns c = simp (← c.is_within.ensures, c.if-is_within.false)
