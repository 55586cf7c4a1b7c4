-- `float::clamp` meets its contract: each branch returns what the definition's two `cond`s pick. Assumes nothing.
use Rattle.std.proofs.Common.{◌∙◌}
use Rattle.float.proofs.Branches.{clamp_low, clamp_high, picks, leaves}
use Rattle.float.proofs.clamp.Goals as goal

pub returns-then-lo-hi : goal.returns-then-lo-hi
returns-then-lo-hi c = picks _ _ _ c.if-lo-hi.true ∙ clamp_low _ _ _ c.if-x-lo.true

pub returns-else-lo-hi : goal.returns-else-lo-hi
returns-else-lo-hi c = leaves _ _ _ c.if-lo-hi.false ∙ clamp_low _ _ _ c.if-x-lo.true

pub returns-then-x-hi : goal.returns-then-x-hi
returns-then-x-hi c = picks _ _ _ c.if-x-hi.true ∙ clamp_high _ _ _ c.if-x-lo.false

pub returns-else-x-hi : goal.returns-else-x-hi
returns-else-x-hi c = leaves _ _ _ c.if-x-hi.false ∙ clamp_high _ _ _ c.if-x-lo.false
