use Rattle.sheet_written.proofs.TwoAfterAnother.{header_put_two}
use Rattle.sheet_written.proofs.two.put_header_two.Goals as goal

pub returns : goal.returns
returns c = header_put_two c.args.h _ _ _ _ c.put_head.ensures c.put2.ensures c.put_byte.ensures
