use Prim.Native.Nat.{◌^◌}
use Rattle.sheet_lines_two.specs.Twos.{typed_two}
use borrow.Author.Tests.{lt-ltb}
use native.Mathlib.Omega.{arith}
use Rattle.sheet_lines_two.proofs.typed.Goals as goal

pub returns-in_default : goal.returns-in_default
unfolding typed_two
returns-in_default c = simp c.in_default.is c.plain.ensures

pub returns : goal.returns
unfolding typed_two
returns c = simp (c.in-Some.is, lt-ltb c.in-Some.extra (2 ^ 32) (omega arith))
