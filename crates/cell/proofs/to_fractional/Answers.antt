use Rattle.cell.proofs.to_fractional.Goals as goal

pub returns-then-lattice_in_range-vec_within : goal.returns-then-lattice_in_range-vec_within
returns-then-lattice_in_range-vec_within c = simp (c.to_fractional.ensures, ← c.lattice_in_range.ensures, ← c.vec_within.ensures, c.if-lattice_in_range-vec_within.true)

pub returns : goal.returns
returns c = simp (← c.lattice_in_range.ensures, ← c.vec_within.ensures, c.if-lattice_in_range-vec_within.false)
