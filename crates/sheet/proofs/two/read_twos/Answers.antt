use Rattle.sheet.proofs.TurnsTwo.{told_from, two_told, twos_by}
use Rattle.sheet_lines_two.specs.Twos.{twos_of}
use Rattle.sheet.proofs.two.read_twos.Goals as goal

pub read_by-requires-clause-told : goal.read_by-requires-clause-told
read_by-requires-clause-told c = λ at l w h e. two_told c.args.kinds c.args.s.now at l w e

pub returns-clause-table_after : goal.returns-clause-table_after
unfolding twos_of
returns-clause-table_after c = c.read_by.ensures.table_after (λ f at. told_from c.args.kinds f c.args.s.now at) (twos_by c.args.kinds c.args.s.now _ (λ at l w e. e))
