use Rattle.potentials_pair.proofs.Lookup.{rising_passes, rising_fails, rising_past}
use Rattle.potentials_pair.specs.Species.{rising}
use borrow.Author.Tests.{not-true, not-false}
use mathlib.Core.Path.{refl, sym, ◌∙◌}
use native.Mathlib.Omega.{arith}
use Rattle.std.proofs.Common.{ap, not}
use Rattle.potentials_pair.proofs.species.is_rising.Goals as goal

pub loop-k-init : goal.loop-k-init
loop-k-init c = unfold rising in refl

pub returns-then-not-is_below : goal.returns-then-not-is_below
returns-then-not-is_below c = sym (c.loop-k.invariant ∙ rising_fails c.args.ids.now c.loop-k.k (omega arith) (sym c.is_below.ensures ∙ not-true _ (ap not c.if-not-is_below.true)))

pub loop-k-preserved : goal.loop-k-preserved
loop-k-preserved c = c.loop-k.invariant ∙ rising_passes c.args.ids.now c.loop-k.k (omega arith) (sym c.is_below.ensures ∙ not-false _ (ap not c.if-not-is_below.false))

pub returns : goal.returns
returns c = sym (c.loop-k.invariant ∙ rising_past c.args.ids.now c.loop-k.k (omega arith))
