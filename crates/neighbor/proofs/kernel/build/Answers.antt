use Rattle.neighbor.proofs.Updates.{rebuilt_few, rebuilt_found, rebuilt_full, rebuilt_crowded, rebuilt_unfit}
use Rattle.neighbor.specs.Update.{Given, given}
use Rattle.neighbor.proofs.kernel.build.Goals as goal

pub returns-then-xs-lt2 : goal.returns-then-xs-lt2
returns-then-xs-lt2 c = let i : Given = given c.args.s c.args.cell c.args.xs.now c.args.table.now c.args.pairs.now c.args.refs.now c.args.starts.now c.args.items.now in rebuilt_few i c.if-xs-lt2.true c.answer.ensures.value c.answer.ensures.refs_after

pub returns-in-Found : goal.returns-in-Found
returns-in-Found c = let i : Given = given c.args.s c.args.cell c.args.xs.now c.args.table.now c.args.pairs.now c.args.refs.now c.args.starts.now c.args.items.now in rebuilt_found i c.if-xs-lt2.false c.radius.ensures c.list-found.ensures c.in-Found.is c.answer-in-Found.ensures.value c.answer-in-Found.ensures.refs_after

pub returns-in-Full : goal.returns-in-Full
returns-in-Full c = let i : Given = given c.args.s c.args.cell c.args.xs.now c.args.table.now c.args.pairs.now c.args.refs.now c.args.starts.now c.args.items.now in rebuilt_full i c.if-xs-lt2.false c.radius.ensures c.list-found.ensures c.in-Full.is c.full.ensures

pub returns-in-Crowded : goal.returns-in-Crowded
returns-in-Crowded c = let i : Given = given c.args.s c.args.cell c.args.xs.now c.args.table.now c.args.pairs.now c.args.refs.now c.args.starts.now c.args.items.now in rebuilt_crowded i c.if-xs-lt2.false c.radius.ensures c.list-found.ensures c.in-Crowded.is c.refused.ensures

pub returns-in-Unfit : goal.returns-in-Unfit
returns-in-Unfit c = let i : Given = given c.args.s c.args.cell c.args.xs.now c.args.table.now c.args.pairs.now c.args.refs.now c.args.starts.now c.args.items.now in rebuilt_unfit i c.if-xs-lt2.false c.radius.ensures c.list-found.ensures c.in-Unfit.is c.refused-in-Unfit.ensures
