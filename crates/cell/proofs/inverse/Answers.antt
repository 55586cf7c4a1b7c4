use Rattle.cell.proofs.inverse.Goals as goal

pub returns-then-singular : goal.returns-then-singular
returns-then-singular c = simp (← c.lattice_in_range.ensures, c.if-lattice_in_range.true, ← c.singular.ensures, c.if-singular.true)

pub returns-then-lattice_in_range : goal.returns-then-lattice_in_range
returns-then-lattice_in_range c = simp (c.rows_of.ensures, c.inverse.ensures, ← c.lattice_in_range.ensures, c.if-lattice_in_range.true, ← c.singular.ensures, c.if-singular.false)

pub returns : goal.returns
returns c = simp (← c.lattice_in_range.ensures, c.if-lattice_in_range.false)
