use Rattle.neighbor.specs.Rebuild.{question_of}
use Rattle.neighbor.proofs.asked.question.Goals as goal

pub returns : goal.returns
returns c = unfold question_of in rw (c.in_order.ensures, c.references_ok.ensures, c.ranges_ok.ensures, c.claims_more-claims.ensures)
