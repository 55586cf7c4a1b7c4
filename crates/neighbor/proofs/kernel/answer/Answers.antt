use Rattle.neighbor.proofs.kernel.answer.Goals as goal

pub returns : goal.returns
returns c = record { value = simp c.built.ensures; refs_after = c.refer.ensures }
