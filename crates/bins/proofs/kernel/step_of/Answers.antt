use Rattle.bins.proofs.Signs.{same_i32, offset_small, offset_past}
use Rattle.bins.specs.Stencil.{offset, half_stencil}
use mathlib.Core.Logic.{inl, inr}
use mathlib.Core.Path.{sym}
use Rattle.bins.proofs.kernel.step_of.Goals as goal

pub returns-then-s-ge14 : goal.returns-then-s-ge14
returns-then-s-ge14 c = sym (offset_past c.args.s c.args.k (inl c.if-s-ge14.true))

pub returns-then-k-ge3 : goal.returns-then-k-ge3
returns-then-k-ge3 c = sym (offset_past c.args.s c.args.k (inr c.if-k-ge3.true))

pub returns : goal.returns
unfolding offset half_stencil
returns c = same_i32 (offset c.args.s c.args.k) (offset_small c.args.s c.args.k)
