use Rattle.cell.proofs.is_orthorhombic.Goals as goal

pub returns-then-lattice_in_range : goal.returns-then-lattice_in_range
returns-then-lattice_in_range c = simp (c.is_orthorhombic.ensures, ← c.lattice_in_range.ensures, c.if-lattice_in_range.true)

pub returns : goal.returns
returns c = simp (← c.lattice_in_range.ensures, c.if-lattice_in_range.false)
