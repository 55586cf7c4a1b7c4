use Rattle.potentials_calls.proofs.uniform.Goals as goal

pub returns-then-bond_in_range : goal.returns-then-bond_in_range
returns-then-bond_in_range c = rw (← c.bond_in_range.ensures, c.if-bond_in_range.true)

pub returns : goal.returns
returns c = rw (← c.bond_in_range.ensures, c.if-bond_in_range.false)
