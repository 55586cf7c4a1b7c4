use Rattle.neighbor_listing.proofs.Shortcuts.{reach_says}
use mathlib.Core.Bool.{false≢true}
use mathlib.Core.Path.{refl}
use Rattle.neighbor_listing.proofs.side.reach_of.Goals as goal

pub returns-then-is_still : goal.returns-then-is_still
returns-then-is_still c = reach_says c.args.s c.args.a c.args.w (c.is_still.ensures.single c.if-is_still.true) (c.is_still.ensures.step c.if-is_still.true) c.is_beyond.ensures (λ e. refl)

pub returns : goal.returns
returns c = reach_says c.args.s c.args.a c.args.w c.is_single-single.ensures c.step_of-step.ensures c.is_beyond-2.ensures (λ e. absurd (false≢true e))
