use Rattle.bins.proofs.Parts.{asked_yes, asked_no}
use mathlib.Core.Path.{◌∙◌, sym}
use Rattle.bins.proofs.atoms_in_asked.Goals as goal

pub returns-then-is_held : goal.returns-then-is_held
returns-then-is_held c = asked_yes c.args.cell c.args.starts.now c.args.items.now (sym c.is_held.ensures ∙ c.if-is_held.true)

pub returns : goal.returns
returns c = asked_no c.args.cell c.args.starts.now c.args.items.now (sym c.is_held.ensures ∙ c.if-is_held.false)
