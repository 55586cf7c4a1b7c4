use Rattle.cell.proofs.Way.{boxes_by_lem}
use Rattle.cell.specs.General.{boxes_by}
use Rattle.cell.specs.declared.General.{General}
use mathlib.Core.Path.{ap, ◌∙◌}
use Rattle.cell.proofs.counting.lattice_boxes.Goals as goal

pub returns : goal.returns
returns c = c.boxes_by.ensures ∙ ap (λ (g : General). boxes_by c.args.l g c.args.d) c.general_of.ensures ∙ boxes_by_lem c.args.l c.args.d
