use Rattle.float.proofs.Patterns.{not_nan}
use Rattle.float.proofs.root_from.Goals as goal

pub float_from_bits-result : goal.float_from_bits-result
float_from_bits-result c = not_nan _ c.quick_bits-bits.ensures.few

pub returns-then-bits-gt0 : goal.returns-then-bits-gt0
returns-then-bits-gt0 c = c.quick_bits-bits.ensures.right c.if-bits-gt0.true
