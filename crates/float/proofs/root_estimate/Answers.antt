use Rattle.float.proofs.Branches.{numbered}
use Rattle.float.specs.Estimate.{estimate_of, newton_of}
use Rattle.std.proofs.Common.{ap, ◌∙◌}
use Rattle.float.proofs.root_estimate.Goals as goal

pub estimate-requires : goal.estimate-requires
estimate-requires c = numbered _ c.pick.ensures

pub returns : goal.returns
returns c = unfold estimate_of in (c.estimate.ensures ∙ ap newton_of c.pick.ensures)
