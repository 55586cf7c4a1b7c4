use Rattle.shells.proofs.Refusals.{refusal_fine, refusal_first}
use mathlib.Core.Path.{◌∙◌, sym}
use Rattle.shells.proofs.asked.refusal.Goals as goal

pub returns-in-Ok : goal.returns-in-Ok
returns-in-Ok c = refusal_fine (sym c.asked-a.ensures ∙ c.in-Ok.is)

pub returns-in-Err : goal.returns-in-Err
returns-in-Err c = refusal_first (sym c.asked-a.ensures ∙ c.in-Err.is) c.before_order.ensures
