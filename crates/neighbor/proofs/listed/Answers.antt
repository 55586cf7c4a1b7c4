use Rattle.neighbor.proofs.Asking.{listed_none, listed_part, listed_room, part_long}
use Rattle.std.proofs.Common.{arith}
use Rattle.neighbor.proofs.listed.Goals as goal

pub returns-then-claims_more : goal.returns-then-claims_more
returns-then-claims_more c = listed_none c.args.s _ c.claims_more.ensures c.if-claims_more.true

pub slice_bounds-result-end-2 : goal.slice_bounds-result-end-2
slice_bounds-result-end-2 c = part_long _ _ (omega (arith, listed_room c.args.s c.args.pairs.now c.claims_more.ensures c.if-claims_more.false))

pub returns : goal.returns
returns c = listed_part c.args.s _ c.claims_more.ensures c.if-claims_more.false
