use Rattle.neighbor.proofs.Updates.{update_unfit, update_room, update_few, update_kept, update_built}
use Rattle.neighbor.specs.Update.{Given, given}
use Rattle.neighbor.proofs.kernel.update.Goals as goal

pub returns-then-is_unfit : goal.returns-then-is_unfit
returns-then-is_unfit c = let i : Given = given c.args.s c.args.cell c.args.positions.now c.args.exclusions.now c.args.pairs.now c.args.references.now c.args.starts.now c.args.items.now in update_unfit c.args.question i c.is_unfit.ensures c.if-is_unfit.true c.refused.ensures

pub is_kept-requires : goal.is_kept-requires
is_kept-requires c = let i : Given = given c.args.s c.args.cell c.args.positions.now c.args.exclusions.now c.args.pairs.now c.args.references.now c.args.starts.now c.args.items.now in update_room c.args.question i c.is_unfit.ensures c.if-is_unfit.false

pub returns-then-is_kept : goal.returns-then-is_kept
returns-then-is_kept c = let i : Given = given c.args.s c.args.cell c.args.positions.now c.args.exclusions.now c.args.pairs.now c.args.references.now c.args.starts.now c.args.items.now in update_kept c.args.question i c.is_unfit.ensures c.if-is_unfit.false c.is_kept.ensures c.if-is_kept.true c.kept.ensures

pub build-requires : goal.build-requires
build-requires c = let i : Given = given c.args.s c.args.cell c.args.positions.now c.args.exclusions.now c.args.pairs.now c.args.references.now c.args.starts.now c.args.items.now in (update_room c.args.question i c.is_unfit.ensures c.if-is_unfit.false, update_few c.args.question i c.is_unfit.ensures c.if-is_unfit.false)

pub returns : goal.returns
returns c = let i : Given = given c.args.s c.args.cell c.args.positions.now c.args.exclusions.now c.args.pairs.now c.args.references.now c.args.starts.now c.args.items.now in update_built c.args.question i c.is_unfit.ensures c.if-is_unfit.false c.is_kept.ensures c.if-is_kept.false c.build.ensures
