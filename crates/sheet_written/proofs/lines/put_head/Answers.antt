use Rattle.sheet_written.proofs.OneAfterAnother.{head_put}
use Rattle.sheet_written.proofs.lines.put_head.Goals as goal

pub returns : goal.returns
returns c = head_put c.args.kind c.args.h _ _ _ _ _ _ c.put2.ensures c.put4.ensures c.put888.ensures c.put2-2.ensures c.put8.ensures
