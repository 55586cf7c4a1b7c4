use Rattle.fire.specs.Steer.{steered_of, steered_by}
use Rattle.fire.proofs.steer.steer.Goals as goal

pub returns-then-p : goal.returns-then-p
unfolding steered_of steered_by
returns-then-p c = rw (← c.sum_powers-p.ensures, c.if-p.true, c.quicken.ensures, c.mix.ensures)

pub returns : goal.returns
unfolding steered_of steered_by
returns c = rw (← c.sum_powers-p.ensures, c.if-p.false, c.slow.ensures, c.clear.ensures)
