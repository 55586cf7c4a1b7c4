use Rattle.std.proofs.Common.{◌/◌, length, sym, ◌∙◌, arith, length-take}
use Rattle.neighbor.proofs.Asking.{part_long}
use Rattle.neighbor.proofs.Unmoved.{not_at_rest, at_rest_says, plain_room}
use borrow.Author.Tests.{not-false}
use Rattle.std.proofs.Common.{ap, not}
use Rattle.neighbor.proofs.rebuild.is_at_rest.Goals as goal

pub returns-then-not-is_plain : goal.returns-then-not-is_plain
returns-then-not-is_plain c = not_at_rest _ _ _ _

pub returns-then-skin : goal.returns-then-skin
returns-then-skin c = not_at_rest _ _ _ _

pub returns-then-not-is_enough : goal.returns-then-not-is_enough
returns-then-not-is_enough c = not_at_rest _ _ _ _

pub returns-then-not-t : goal.returns-then-not-t
returns-then-not-t c = not_at_rest _ _ _ _

pub slice_bounds-all_quiet-end : goal.slice_bounds-all_quiet-end
slice_bounds-all_quiet-end c = part_long (length c.args.xs.now / 32) c.args.xs.now (omega arith)

pub all_quiet-requires : goal.all_quiet-requires
all_quiet-requires c = let room = plain_room _ _ _ _ (sym c.is_plain.ensures ∙ not-false _ (ap not c.if-not-is_plain.false)) in
    omega (arith, room, length-take (length c.args.xs.now / 32) c.args.xs.now)

pub returns-then-not-all_quiet : goal.returns-then-not-all_quiet
returns-then-not-all_quiet c = not_at_rest _ _ _ _

pub all_quiet-requires-2 : goal.all_quiet-requires-2
all_quiet-requires-2 c = plain_room _ _ _ _ (sym c.is_plain.ensures ∙ not-false _ (ap not c.if-not-is_plain.false))

pub returns : goal.returns
returns c = at_rest_says _ _ _ _ (sym c.is_plain.ensures ∙ not-false _ (ap not c.if-not-is_plain.false)) c.skin-skin.ensures c.if-skin.false c.prepare.ensures (c.is_enough.ensures.so (not-false _ (ap not c.if-not-is_enough.false))) (not-false _ (ap not c.if-not-t.false)) c.all_quiet-2.ensures
