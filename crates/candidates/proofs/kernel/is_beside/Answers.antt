use Rattle.candidates.proofs.Turns.{both_there, beside_not, beside_is}
use Rattle.candidates.specs.Checks.{cell_from}
use borrow.Author.Tests.{not-true, not-false}
use lib.ListN.{length}
use mathlib.Core.Path.{◌∙◌}
use native.Mathlib.Omega.{arith}
use Rattle.std.proofs.Common.{ap, not}
use Rattle.candidates.proofs.kernel.is_beside.Goals as goal

pub returns-then-not-is_there : goal.returns-then-not-is_there
returns-then-not-is_there c = beside_not (length c.args.places.now) c.args.low c.args.high c.is_there.ensures c.args.g (cell_from c.args.g c.args.places.now) (not-true _ (ap not c.if-not-is_there.true))

pub bounds-places-number : goal.bounds-places-number
bounds-places-number c = omega (arith, c.number.ensures, both_there (length c.args.places.now) c.args.low c.args.high c.is_there.ensures (not-false _ (ap not c.if-not-is_there.false)))

pub bounds-places-number-2 : goal.bounds-places-number-2
bounds-places-number-2 c = omega (arith, c.number-3.ensures, both_there (length c.args.places.now) c.args.low c.args.high c.is_there.ensures (not-false _ (ap not c.if-not-is_there.false)))

pub returns : goal.returns
returns c = beside_is (length c.args.places.now) c.args.low c.args.high c.is_there.ensures c.args.g (cell_from c.args.g c.args.places.now) (not-false _ (ap not c.if-not-is_there.false)) (c.touching.ensures ∙ rw (c.home_of-a.ensures, c.home_of-b.ensures, c.number-2.ensures, c.number-4.ensures, c.number.ensures, c.number-3.ensures))
