use Rattle.neighbor_asked.proofs.asked.in_order.Goals as goal

pub returns-then-lengths : goal.returns-then-lengths
returns-then-lengths c = rw c.if-lengths.true

pub returns-then-many : goal.returns-then-many
returns-then-many c = rw (c.if-lengths.false, c.if-many.true)

pub returns-then-claims : goal.returns-then-claims
returns-then-claims c = rw (c.if-lengths.false, c.if-many.false, c.if-claims.true)

pub returns-then-range : goal.returns-then-range
returns-then-range c = rw (c.if-lengths.false, c.if-many.false, c.if-claims.false, c.if-range.true)

pub returns : goal.returns
returns c = rw (c.if-lengths.false, c.if-many.false, c.if-claims.false, c.if-range.false)
