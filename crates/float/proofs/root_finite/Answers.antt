use Rattle.std.proofs.Common.{◌∙◌}
use Rattle.float.proofs.root_finite.Goals as goal

pub root_even-requires : goal.root_even-requires
root_even-requires c = (c.even_of-e.ensures.low, c.even_of-e.ensures.high, c.even_of-e.ensures.few)

pub returns : goal.returns
returns c = c.root_even.ensures ∙ c.even_of-e.ensures.same
