use Rattle.sheet_lines_two.proofs.kind.Goals as goal

pub returns-in-Header : goal.returns-in-Header
returns-in-Header c = rw (c.in-Header.is, c.ruled_head.ensures, c.rule_of.ensures)

pub returns-in-Atom : goal.returns-in-Atom
returns-in-Atom c = rw c.in-Atom.is

pub returns-in-Exclusion : goal.returns-in-Exclusion
returns-in-Exclusion c = rw c.in-Exclusion.is
