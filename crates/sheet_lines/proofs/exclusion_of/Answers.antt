use Rattle.sheet_lines.specs.Reading.{exclusion_of}
use Prim.Native.Nat.{◌^◌}
use borrow.Author.Tests.{lt-ltb, eq-eqb, ne_eqb}
use native.Mathlib.Omega.{arith}
use Rattle.sheet_lines.proofs.exclusion_of.Goals as goal

pub returns-in_default : goal.returns-in_default
unfolding exclusion_of
returns-in_default c = simp c.in_default.is

pub returns-in_default-b : goal.returns-in_default-b
unfolding exclusion_of
returns-in_default-b c = simp (c.in-Some.is, c.in_default-b.is, lt-ltb c.in-Some.first (2 ^ 16) (omega arith))

pub returns-then-end-ne10 : goal.returns-then-end-ne10
unfolding exclusion_of
returns-then-end-ne10 c = simp (c.in-Some.is, c.in-Some-b.is, lt-ltb c.in-Some.first (2 ^ 16) (omega arith), lt-ltb c.in-Some-b.second (2 ^ 16) (omega arith), ne_eqb _ _ c.if-end-ne10.true)

pub returns : goal.returns
unfolding exclusion_of
returns c = simp (c.in-Some.is, c.in-Some-b.is, lt-ltb c.in-Some.first (2 ^ 16) (omega arith), lt-ltb c.in-Some-b.second (2 ^ 16) (omega arith), eq-eqb _ _ c.if-end-ne10.false)
