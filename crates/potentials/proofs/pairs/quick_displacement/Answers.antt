use Rattle.potentials.proofs.Kernels.{displaced_by}
use mathlib.Core.Path.{refl, ◌∙◌}
use Rattle.potentials.proofs.pairs.quick_displacement.Goals as goal

pub returns : goal.returns
returns c = c.quick_diff.ensures ∙ displaced_by c.args.p c.args.xs.now c.args.i c.args.j c.spot_at.ensures c.spot_at-2.ensures c.sub-d.ensures refl
