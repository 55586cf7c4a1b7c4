use Rattle.strike.proofs.Turns.{carried_not, carried_one}
use lib.ListN.{get_or}
use mathlib.Core.Path.{refl}
use Rattle.std.proofs.Common.{ap, not}
use Rattle.strike.proofs.closing.carry_one.Goals as goal

pub returns-then-not-stays : goal.returns-then-not-stays
returns-then-not-stays c = carried_not (λ e. get_or c.args.xs.now e 0) 1 c.args.to c.args.from c.args.xs.now c.args.stays c.args.stays refl (ap not c.if-not-stays.true)

pub returns : goal.returns
returns c = carried_one (λ e. get_or c.args.xs.now e 0) c.args.to c.args.from c.args.xs.now _ c.args.stays (ap not c.if-not-stays.false) refl
