use Rattle.sheet_written.proofs.OneAfterAnother.{header_put}
use Rattle.sheet_written.proofs.lines.put_header.Goals as goal

pub returns : goal.returns
returns c = header_put c.args.h _ _ _ c.put_head.ensures c.put_byte.ensures
