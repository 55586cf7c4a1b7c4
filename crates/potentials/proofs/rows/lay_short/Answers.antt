use Rattle.potentials.proofs.Laid.{rowed_short, rowed_not}
use borrow.Author.Tests.{not-false}
use mathlib.Core.Path.{refl}
use Rattle.std.proofs.Common.{ap, not}
use Rattle.potentials.proofs.rows.lay_short.Goals as goal

pub returns-then-not-tried-s : goal.returns-then-not-tried-s
returns-then-not-tried-s c = rowed_not _ refl

pub returns-then-not-lay : goal.returns-then-not-lay
returns-then-not-lay c = rowed_not _ refl

pub returns : goal.returns
returns c = rowed_short c.args.p (c.lay.ensures.differ (not-false _ (ap not c.if-not-lay.false))) c.turn_all.ensures
