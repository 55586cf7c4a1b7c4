use Rattle.fire.specs.Asked.{options_ok}
use Rattle.fire.proofs.asked.options_ok.Goals as goal

pub returns : goal.returns
returns c = unfold options_ok in rw (← c.plain.ensures, ← c.time_step.ensures, ← c.time_step-2.ensures)
