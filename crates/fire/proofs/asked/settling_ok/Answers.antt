use Rattle.fire.specs.Asked.{settling_ok}
use Rattle.fire.proofs.asked.settling_ok.Goals as goal

pub returns : goal.returns
returns c = unfold settling_ok in rw (← c.options_ok.ensures, ← c.all_between.ensures, ← c.all_within.ensures)
