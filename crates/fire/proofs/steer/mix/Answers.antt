use Rattle.fire.specs.Steer.{blended_by}
use borrow.Author.Tests.{eq-eqb, ne_eqb}
use Rattle.fire.proofs.steer.mix.Goals as goal

pub mix_all-requires : goal.mix_all-requires
mix_all-requires c = c.if-fs-vs.true

pub returns-then-fs-vs : goal.returns-then-fs-vs
unfolding blended_by
returns-then-fs-vs c = rw (eq-eqb _ _ c.if-fs-vs.true, ← c.pull_norm-one.ensures, ← c.root.ensures) c.mix_all.ensures

pub returns-else-fs-vs : goal.returns-else-fs-vs
unfolding blended_by
returns-else-fs-vs c = rw (ne_eqb _ _ c.if-fs-vs.false)
