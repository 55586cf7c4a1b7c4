use Rattle.neighbor.specs.Update.{keeps_of}
use Rattle.neighbor.proofs.kernel.is_kept.Goals as goal

pub returns-in-Unasked : goal.returns-in-Unasked
unfolding keeps_of
returns-in-Unasked c = simp c.in-Unasked.is

pub returns-in-NeedsRebuild : goal.returns-in-NeedsRebuild
unfolding keeps_of
returns-in-NeedsRebuild c = simp (c.in-NeedsRebuild.is, c.needs.ensures)

pub returns-in-Outdated : goal.returns-in-Outdated
unfolding keeps_of
returns-in-Outdated c = simp (c.in-Outdated.is, c.outdated.ensures)
