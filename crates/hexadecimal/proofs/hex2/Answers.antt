use Prim.Native.Nat.{◌+◌}
use Rattle.hexadecimal.proofs.Reading.{past2, both_halves, no_high, no_low, none_at, some_at, handed_on}
use Rattle.hexadecimal.specs.Digits.{byte_at, digit_of, hex2}
use mathlib.Core.Path.{ap, ◌∙◌}
use native.Mathlib.Omega.{arith}
use Rattle.hexadecimal.proofs.hex2.Goals as goal

pub returns-then-s-at-clause-value : goal.returns-then-s-at-clause-value
returns-then-s-at-clause-value c = past2 c.args.s.now c.args.at c.if-s-at.true

pub returns-in_err-hi-clause-value : goal.returns-in_err-hi-clause-value
unfolding hex2
returns-in_err-hi-clause-value c = rw c.from_residual.ensures (no_high 16 (digit_of (byte_at c.args.s.now c.args.at)) (digit_of (byte_at c.args.s.now (c.args.at + 1))) (c.in_err-hi.ensures.value ∙ ap digit_of c.byte_at.ensures))

pub returns-in_err-lo-clause-value : goal.returns-in_err-lo-clause-value
unfolding hex2
returns-in_err-lo-clause-value c = rw c.from_residual-in_err-lo.ensures (no_low 16 _ (digit_of (byte_at c.args.s.now c.args.at)) (digit_of (byte_at c.args.s.now (c.args.at + 1))) (c.digit.ensures.below _ c.in_ok-hi.was) (c.in_ok-hi.ensures.value ∙ ap digit_of c.byte_at.ensures) (c.in_err-lo.ensures.value ∙ ap digit_of c.byte_at-2.ensures))

pub returns-clause-value : goal.returns-clause-value
unfolding hex2
returns-clause-value c = both_halves 16 _ _ (digit_of (byte_at c.args.s.now c.args.at)) (digit_of (byte_at c.args.s.now (c.args.at + 1))) (c.digit.ensures.below _ c.in_ok-hi.was) (c.digit-2.ensures.below _ c.in_ok-lo.was) (c.in_ok-hi.ensures.value ∙ ap digit_of c.byte_at.ensures) (c.in_ok-lo.ensures.value ∙ ap digit_of c.byte_at-2.ensures)

pub returns-then-s-at-clause-is : goal.returns-then-s-at-clause-is
returns-then-s-at-clause-is c = none_at 256 _ (returns-then-s-at-clause-value c)

pub returns-in_err-hi-clause-is : goal.returns-in_err-hi-clause-is
returns-in_err-hi-clause-is c = handed_on 256 _ _ c.from_residual.ensures (returns-in_err-hi-clause-value c)

pub returns-in_err-lo-clause-is : goal.returns-in_err-lo-clause-is
returns-in_err-lo-clause-is c = handed_on 256 _ _ c.from_residual-in_err-lo.ensures (returns-in_err-lo-clause-value c)

pub returns-clause-is : goal.returns-clause-is
returns-clause-is c = some_at 256 _ _ (omega (arith, c.digit.ensures.below _ c.in_ok-hi.was, c.digit-2.ensures.below _ c.in_ok-lo.was)) (returns-clause-value c)
