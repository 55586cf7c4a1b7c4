use Rattle.neighbor.proofs.Demands.{says_lists}
use Rattle.neighbor.proofs.Updates.{updated_refused, updated_on}
use Rattle.neighbor.specs.Update.{Given, given}
use Rattle.neighbor.specs.declared.Question.TheVariants.{Unasked}
use Rattle.neighbor.proofs.build.Goals as goal

pub returns-in-Err : goal.returns-in-Err
returns-in-Err c = let i : Given = given c.args.s c.args.cell c.args.positions.now c.args.exclusions.now c.args.pairs.now c.args.references.now c.args.starts.now c.args.items.now in let h = updated_refused Unasked i c.asked-a.ensures c.in-Err.is c.refused.ensures in record { says = h; lists = says_lists Unasked i c.refused.result _ _ _ _ h }

pub returns : goal.returns
returns c = let i : Given = given c.args.s c.args.cell c.args.positions.now c.args.exclusions.now c.args.pairs.now c.args.references.now c.args.starts.now c.args.items.now in let h = updated_on Unasked i c.asked-a.ensures c.in_default.is c.update.ensures in record { says = h; lists = says_lists Unasked i c.update.result _ _ _ _ h }
