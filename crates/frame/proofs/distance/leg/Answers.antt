use Prim.Native.Nat.{ℕ, ◌*◌}
use mathlib.Core.Path.{◌∙◌, ap}
use Rattle.frame.proofs.distance.leg.Goals as goal

pub returns : goal.returns
returns c = (c.square.ensures.0 ∙ ap (λ (d : ℕ). d * d) c.axis_distance.ensures.0, c.square.ensures.1)
