use Rattle.hexadecimal.specs.Digits.{digit_of}
use borrow.Author.Tests.{lt-ltb, le-ltb}
use native.Mathlib.Omega.{arith}
use Rattle.hexadecimal.proofs.Reading.{none_at, some_at}
use Rattle.hexadecimal.proofs.digit.Goals as goal

pub returns-then-b-lt48-clause-value : goal.returns-then-b-lt48-clause-value
unfolding digit_of
returns-then-b-lt48-clause-value c = simp (lt-ltb _ _ c.if-b-lt48.true)

pub returns-then-b-lt58-clause-value : goal.returns-then-b-lt58-clause-value
unfolding digit_of
returns-then-b-lt58-clause-value c = simp (le-ltb _ _ c.if-b-lt48.false, lt-ltb _ _ c.if-b-lt58.true)

pub returns-then-b-lt97-clause-value : goal.returns-then-b-lt97-clause-value
unfolding digit_of
returns-then-b-lt97-clause-value c = simp (le-ltb _ _ c.if-b-lt48.false, le-ltb _ _ c.if-b-lt58.false, lt-ltb _ _ c.if-b-lt97.true)

pub returns-then-b-lt103-clause-value : goal.returns-then-b-lt103-clause-value
unfolding digit_of
returns-then-b-lt103-clause-value c = simp (le-ltb _ _ c.if-b-lt48.false, le-ltb _ _ c.if-b-lt58.false, le-ltb _ _ c.if-b-lt97.false, lt-ltb _ _ c.if-b-lt103.true)

pub returns-else-b-lt103-clause-value : goal.returns-else-b-lt103-clause-value
unfolding digit_of
returns-else-b-lt103-clause-value c = simp (le-ltb _ _ c.if-b-lt48.false, le-ltb _ _ c.if-b-lt58.false, le-ltb _ _ c.if-b-lt97.false, le-ltb _ _ c.if-b-lt103.false)

pub returns-then-b-lt48-clause-is : goal.returns-then-b-lt48-clause-is
returns-then-b-lt48-clause-is c = none_at 16 _ (returns-then-b-lt48-clause-value c)

pub returns-then-b-lt58-clause-is : goal.returns-then-b-lt58-clause-is
returns-then-b-lt58-clause-is c = some_at 16 _ _ (omega (arith, c.if-b-lt48.false, c.if-b-lt58.true)) (returns-then-b-lt58-clause-value c)

pub returns-then-b-lt97-clause-is : goal.returns-then-b-lt97-clause-is
returns-then-b-lt97-clause-is c = none_at 16 _ (returns-then-b-lt97-clause-value c)

pub returns-then-b-lt103-clause-is : goal.returns-then-b-lt103-clause-is
returns-then-b-lt103-clause-is c = some_at 16 _ _ (omega (arith, c.if-b-lt97.false, c.if-b-lt103.true)) (returns-then-b-lt103-clause-value c)

pub returns-else-b-lt103-clause-is : goal.returns-else-b-lt103-clause-is
returns-else-b-lt103-clause-is c = none_at 16 _ (returns-else-b-lt103-clause-value c)
