use Rattle.evaluate.specs.Asked.{job_asked}
use Rattle.evaluate.proofs.asked.asked.Goals as goal

pub returns : goal.returns
returns c = unfold job_asked in rw (← c.terms_fit-fit.ensures, ← c.asked_first-first.ensures, ← c.numbers_ok-ok.ensures, ← c.asked_kept-kept.ensures, ← c.asked_names-names.ensures) c.in_turn.ensures
