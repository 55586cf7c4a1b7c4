use Rattle.neighbor.proofs.Asking.{kept_range, kept_bad, kept_fine}
use Rattle.std.proofs.Common.{ap, not}
use Rattle.neighbor.proofs.asked.asked_kept.Goals as goal

pub returns-then-not-references_ok : goal.returns-then-not-references_ok
returns-then-not-references_ok c = kept_range _ _ _ _ c.references_ok.ensures (ap not c.if-not-references_ok.true)

pub returns-then-is_same-row : goal.returns-then-is_same-row
returns-then-is_same-row c = kept_bad _ _ _ _ c.references_ok.ensures (ap not c.if-not-references_ok.false) c.listed-part.ensures c.first_absent-row.ensures c.is_same.ensures c.if-is_same-row.true

pub returns : goal.returns
returns c = kept_fine _ _ _ _ c.references_ok.ensures (ap not c.if-not-references_ok.false) c.listed-part.ensures c.first_absent-row.ensures c.is_same.ensures c.if-is_same-row.false
