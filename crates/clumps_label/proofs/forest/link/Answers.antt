use Rattle.clumps_label.proofs.Trees.{moved_same}
use lib.ListN.{get_or}
use mathlib.Core.Path.{sym, ap, ◌∙◌}
use Rattle.clumps_label.proofs.forest.link.Goals as goal

pub returns-then-p-wide : goal.returns-then-p-wide
returns-then-p-wide c = moved_same c.args.p.now c.args.a c.args.b c.requires.falls c.requires.left c.requires.right (sym (ap (λ k. get_or c.args.p.now k 0) c.wide.ensures) ∙ c.if-p-wide.true ∙ ap (λ k. get_or c.args.p.now k 0) c.wide-2.ensures)
