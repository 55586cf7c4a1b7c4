use Rattle.sheet_lines.specs.Reading.{three_at}
use Rattle.sheet_lines_two.specs.Twos.{end_two, header_two}
use borrow.Author.Tests.{eq-eqb, ne_eqb}
use mathlib.Core.Path.{sym}
use Rattle.sheet_lines_two.proofs.header_at.Goals as goal

pub returns-then-end-eq10 : goal.returns-then-end-eq10
unfolding header_two end_two three_at
returns-then-end-eq10 c = simp (sym c.byte_at-end.ensures, eq-eqb _ _ c.if-end-eq10.true) (cc)

pub returns : goal.returns
unfolding header_two end_two three_at
returns c = simp (sym c.byte_at-end.ensures, ne_eqb _ _ c.if-end-eq10.false) (cc)
