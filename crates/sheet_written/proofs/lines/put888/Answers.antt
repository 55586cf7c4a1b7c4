use Rattle.sheet_written.proofs.OneAfterAnother.{three_put}
use Rattle.sheet_written.proofs.lines.put888.Goals as goal

pub returns : goal.returns
returns c = three_put _ _ _ _ _ _ _ _ c.put8.ensures c.put8-2.ensures c.put8-3.ensures
