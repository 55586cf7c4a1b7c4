use Rattle.cell.proofs.perp_widths.Goals as goal

pub returns-then-lattice_in_range : goal.returns-then-lattice_in_range
returns-then-lattice_in_range c = simp (c.perp_widths.ensures, ← c.lattice_in_range.ensures, c.if-lattice_in_range.true)

pub returns : goal.returns
returns c = simp (← c.lattice_in_range.ensures, c.if-lattice_in_range.false)
