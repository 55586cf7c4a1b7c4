use Rattle.potentials_pair.proofs.species.mixed.Goals as goal

pub returns : goal.returns
returns c = rw (← c.look-a.ensures, ← c.look-b.ensures) c.mix.ensures
