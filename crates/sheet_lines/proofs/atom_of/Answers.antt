use Rattle.sheet_lines.specs.Reading.{atom_of}
use borrow.Author.Tests.{lt-ltb, le-ltb, eq-eqb, ne_eqb}
use Rattle.sheet_lines.proofs.atom_of.Goals as goal

pub returns-in_default : goal.returns-in_default
unfolding atom_of
returns-in_default c = simp c.in_default.is

pub returns-in_default-number : goal.returns-in_default-number
unfolding atom_of
returns-in_default-number c = simp (c.in-Some.is, c.in_default-number.is)

pub returns-then-end-eq10 : goal.returns-then-end-eq10
unfolding atom_of
returns-then-end-eq10 c = simp (c.in-Some.is, c.in-Some-number.is, lt-ltb _ _ c.if-number-lt1024.true, eq-eqb _ _ c.if-end-eq10.true)

pub returns-else-end-eq10 : goal.returns-else-end-eq10
unfolding atom_of
returns-else-end-eq10 c = simp (c.in-Some.is, c.in-Some-number.is, lt-ltb _ _ c.if-number-lt1024.true, ne_eqb _ _ c.if-end-eq10.false)

pub returns-else-number-lt1024 : goal.returns-else-number-lt1024
unfolding atom_of
returns-else-number-lt1024 c = simp (c.in-Some.is, c.in-Some-number.is, le-ltb _ _ c.if-number-lt1024.false)
