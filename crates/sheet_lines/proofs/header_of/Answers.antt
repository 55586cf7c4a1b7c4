use Rattle.sheet_lines.specs.Reading.{header_of}
use Prim.Native.Nat.{◌^◌}
use borrow.Author.Tests.{lt-ltb, le-ltb, eq-eqb, ne_eqb}
use native.Mathlib.Omega.{arith}
use Rattle.sheet_lines.proofs.header_of.Goals as goal

pub returns-in_default : goal.returns-in_default
unfolding header_of
returns-in_default c = simp c.in_default.is

pub returns-in_default-atoms : goal.returns-in_default-atoms
unfolding header_of
returns-in_default-atoms c = simp (c.in-Some.is, c.in_default-atoms.is)

pub returns-in_default-mask : goal.returns-in_default-mask
unfolding header_of
returns-in_default-mask c = simp (c.in-Some.is, c.in-Some-atoms.is, lt-ltb c.in-Some-atoms.atoms (2 ^ 16) (omega arith), c.in_default-mask.is)

pub returns-then-mask-ge8 : goal.returns-then-mask-ge8
unfolding header_of
returns-then-mask-ge8 c = simp (c.in-Some.is, c.in-Some-atoms.is, lt-ltb c.in-Some-atoms.atoms (2 ^ 16) (omega arith), c.in-Some-mask.is, le-ltb _ _ c.if-mask-ge8.true)

pub returns-in_default-radius : goal.returns-in_default-radius
unfolding header_of
returns-in_default-radius c = simp (c.in-Some.is, c.in-Some-atoms.is, lt-ltb c.in-Some-atoms.atoms (2 ^ 16) (omega arith), c.in-Some-mask.is, lt-ltb _ _ c.if-mask-ge8.false, c.in_default-radius.is)

pub returns-then-end-ne10 : goal.returns-then-end-ne10
unfolding header_of
returns-then-end-ne10 c = simp (c.in-Some.is, c.in-Some-atoms.is, lt-ltb c.in-Some-atoms.atoms (2 ^ 16) (omega arith), c.in-Some-mask.is, lt-ltb _ _ c.if-mask-ge8.false, c.in-Some-radius.is, lt-ltb c.in-Some-radius.radius (2 ^ 32) (omega arith), ne_eqb _ _ c.if-end-ne10.true)

pub returns : goal.returns
unfolding header_of
returns c = simp (c.in-Some.is, c.in-Some-atoms.is, lt-ltb c.in-Some-atoms.atoms (2 ^ 16) (omega arith), c.in-Some-mask.is, lt-ltb _ _ c.if-mask-ge8.false, c.in-Some-radius.is, lt-ltb c.in-Some-radius.radius (2 ^ 32) (omega arith), eq-eqb _ _ c.if-end-ne10.false)
