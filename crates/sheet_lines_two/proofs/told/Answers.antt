use Rattle.sheet_lines_two.proofs.told.Goals as goal

pub returns-then-kinds : goal.returns-then-kinds
returns-then-kinds c = rw c.if-kinds.true c.kind.ensures
