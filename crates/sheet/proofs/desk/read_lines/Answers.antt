use Rattle.sheet.proofs.Turns.{line_told, lines_by}
use Rattle.sheet_lines.specs.Reading.{lines_from, lines_of}
use Rattle.sheet.proofs.desk.read_lines.Goals as goal

pub read_by-requires-clause-told : goal.read_by-requires-clause-told
read_by-requires-clause-told c = λ at l w h e. line_told c.args.s.now at l w e

pub returns-clause-table_after : goal.returns-clause-table_after
unfolding lines_of
returns-clause-table_after c = c.read_by.ensures.table_after (λ f at. lines_from f c.args.s.now at) (lines_by c.args.s.now _ (λ at l w e. e))
