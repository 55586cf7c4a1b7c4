use Rattle.sheet_written.proofs.OneAfterAnother.{RowsPut}
use Rattle.sheet_written.proofs.lines.put_rows.Given as goal

abbrev pub invariant-loop-i : goal.invariant-loop-i
invariant-loop-i l = RowsPut l.table l.initial.out l.at l.out l.i
