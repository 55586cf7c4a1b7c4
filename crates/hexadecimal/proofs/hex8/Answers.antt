use Prim.Native.Nat.{◌+◌}
use Rattle.hexadecimal.proofs.Reading.{past8, both_halves, no_high, no_low, none_at, some_at, handed_on}
use Rattle.hexadecimal.specs.Digits.{hex4, hex8}
use native.Mathlib.Omega.{arith}
use Rattle.hexadecimal.proofs.hex8.Goals as goal

pub returns-then-s-at-clause-value : goal.returns-then-s-at-clause-value
returns-then-s-at-clause-value c = past8 c.args.s.now c.args.at c.if-s-at.true

pub returns-in_err-hi-clause-value : goal.returns-in_err-hi-clause-value
unfolding hex8
returns-in_err-hi-clause-value c = rw c.from_residual.ensures (no_high 65536 (hex4 c.args.s.now c.args.at) (hex4 c.args.s.now (c.args.at + 4)) c.in_err-hi.ensures.value)

pub returns-in_err-lo-clause-value : goal.returns-in_err-lo-clause-value
unfolding hex8
returns-in_err-lo-clause-value c = rw c.from_residual-in_err-lo.ensures (no_low 65536 _ (hex4 c.args.s.now c.args.at) (hex4 c.args.s.now (c.args.at + 4)) (omega arith) c.in_ok-hi.ensures.value c.in_err-lo.ensures.value)

pub returns-clause-value : goal.returns-clause-value
unfolding hex8
returns-clause-value c = both_halves 65536 _ _ (hex4 c.args.s.now c.args.at) (hex4 c.args.s.now (c.args.at + 4)) (omega arith) (omega arith) c.in_ok-hi.ensures.value c.in_ok-lo.ensures.value

pub returns-then-s-at-clause-is : goal.returns-then-s-at-clause-is
returns-then-s-at-clause-is c = none_at 4294967296 _ (returns-then-s-at-clause-value c)

pub returns-in_err-hi-clause-is : goal.returns-in_err-hi-clause-is
returns-in_err-hi-clause-is c = handed_on 4294967296 _ _ c.from_residual.ensures (returns-in_err-hi-clause-value c)

pub returns-in_err-lo-clause-is : goal.returns-in_err-lo-clause-is
returns-in_err-lo-clause-is c = handed_on 4294967296 _ _ c.from_residual-in_err-lo.ensures (returns-in_err-lo-clause-value c)

pub returns-clause-is : goal.returns-clause-is
returns-clause-is c = some_at 4294967296 _ _ (omega arith) (returns-clause-value c)
