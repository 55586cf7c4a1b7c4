use Rattle.potentials.proofs.rows.lay_rows.Goals as goal

pub returns-then-lay_short : goal.returns-then-lay_short
returns-then-lay_short c = c.lay_short.ensures.rowed c.if-lay_short.true
