use Rattle.neighbor.specs.State.{built_of}
use Rattle.neighbor.proofs.states.built.Goals as goal

pub returns : goal.returns
unfolding built_of
returns c = simp (c.skin.ensures, c.wrapping_add_u32.ensures.value)
