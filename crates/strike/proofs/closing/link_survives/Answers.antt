use Rattle.strike.proofs.Rows.{row_there}
use Rattle.strike.proofs.Turns.{link_there, link_past}
use lib.ListN.{length}
use mathlib.Core.Path.{sym, ◌∙◌}
use Rattle.strike.proofs.closing.link_survives.Goals as goal

pub row_survives-requires : goal.row_survives-requires
row_survives-requires c = row_there c.args.width c.args.k c.args.links (length c.args.names.now) c.if-k-links.true c.requires

pub returns-then-k-links : goal.returns-then-k-links
returns-then-k-links c = c.row_survives.ensures ∙ sym (link_there c.args.marks.now c.args.width c.args.links c.args.names.now c.args.k c.if-k-links.true)

pub returns : goal.returns
returns c = sym (link_past c.args.marks.now c.args.width c.args.links c.args.names.now c.args.k c.if-k-links.false)
