use Rattle.potentials_calls.proofs.monatomic.Goals as goal

pub returns-then-lj_in_range : goal.returns-then-lj_in_range
returns-then-lj_in_range c = rw (← c.monatomic-lj.ensures, ← c.lj_in_range.ensures, c.if-lj_in_range.true)

pub returns : goal.returns
returns c = rw (← c.monatomic-lj.ensures, ← c.lj_in_range.ensures, c.if-lj_in_range.false)
