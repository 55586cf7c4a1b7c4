use Rattle.sheet_lines_two.proofs.wide.Goals as goal

pub returns-in-Header : goal.returns-in-Header
returns-in-Header c = rw c.in-Header.is c.head_wide.ensures
