use Rattle.neighbor.specs.Update.{listed_seen}
use Rattle.neighbor.proofs.listed_asked.Goals as goal

pub returns-then-claims_more : goal.returns-then-claims_more
unfolding listed_seen
returns-then-claims_more c = simp (← c.claims_more.ensures, c.if-claims_more.true)

pub returns : goal.returns
unfolding listed_seen
returns c = simp (← c.claims_more.ensures, c.if-claims_more.false)
