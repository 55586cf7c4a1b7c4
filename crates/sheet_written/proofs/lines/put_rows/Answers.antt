use Rattle.sheet_lines.specs.Grammar.{line_text}
use Rattle.sheet_written.proofs.OneAfterAnother.{rows_turn, rows_end}
use Rattle.sheet_written.proofs.lines.put_rows.Goals as goal

pub loop-i-preserved : goal.loop-i-preserved
unfolding line_text
loop-i-preserved c = rows_turn _ _ _ c.loop-i.invariant c.loop-i-test.true c.put_two.ensures

pub returns : goal.returns
returns c = rows_end _ _ _ c.loop-i.invariant c.loop-i-test.false
