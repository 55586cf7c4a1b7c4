use Rattle.sheet_lines.specs.Reading.{three_of}
use Prim.Native.Nat.{◌^◌}
use borrow.Author.Tests.{lt-ltb}
use native.Mathlib.Omega.{arith}
use Rattle.sheet_lines.proofs.three_of.Goals as goal

pub returns-in_err-x : goal.returns-in_err-x
unfolding three_of
returns-in_err-x c = rw c.from_residual.ensures (simp c.in_err-x.was)

pub returns-in_err-y : goal.returns-in_err-y
unfolding three_of
returns-in_err-y c = rw c.from_residual-in_err-y.ensures (simp (c.in_ok-x.was, c.in_err-y.was, lt-ltb c.in_ok-x.field-0 (2 ^ 32) (omega arith)))

pub returns-in_err-z : goal.returns-in_err-z
unfolding three_of
returns-in_err-z c = rw c.from_residual-in_err-z.ensures (simp (c.in_ok-x.was, c.in_ok-y.was, c.in_err-z.was, lt-ltb c.in_ok-x.field-0 (2 ^ 32) (omega arith), lt-ltb c.in_ok-y.field-0 (2 ^ 32) (omega arith)))

pub returns : goal.returns
unfolding three_of
returns c = simp (c.in_ok-x.was, c.in_ok-y.was, c.in_ok-z.was, lt-ltb c.in_ok-x.field-0 (2 ^ 32) (omega arith), lt-ltb c.in_ok-y.field-0 (2 ^ 32) (omega arith), lt-ltb c.in_ok-z.field-0 (2 ^ 32) (omega arith))
