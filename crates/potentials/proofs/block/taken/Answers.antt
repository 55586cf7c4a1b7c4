use Rattle.potentials.proofs.block.taken.Goals as goal

pub returns-else-skipped : goal.returns-else-skipped
returns-else-skipped c = simp c.if-skipped.false
