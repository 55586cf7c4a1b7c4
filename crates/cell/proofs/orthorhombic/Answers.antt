use Rattle.cell.proofs.orthorhombic.Goals as goal

pub returns-then-is_within : goal.returns-then-is_within
returns-then-is_within c = simp (c.orthorhombic.ensures, ← c.is_within.ensures, ← c.is_within-2.ensures, ← c.is_within-3.ensures, c.if-is_within.true)

pub returns : goal.returns
returns c = simp (← c.is_within.ensures, ← c.is_within-2.ensures, ← c.is_within-3.ensures, c.if-is_within.false)
