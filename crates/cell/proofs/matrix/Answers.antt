use Rattle.cell.proofs.matrix.Goals as goal

pub returns-then-lattice_in_range : goal.returns-then-lattice_in_range
returns-then-lattice_in_range c = simp (c.rows_of.ensures, c.matrix.ensures, ← c.lattice_in_range.ensures, c.if-lattice_in_range.true)

pub returns : goal.returns
returns c = simp (← c.lattice_in_range.ensures, c.if-lattice_in_range.false)
