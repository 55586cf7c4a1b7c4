use Rattle.sheet_moved.proofs.Whole.{one_whole}
use Rattle.sheet_written.specs.Write.{Outcome}
use lib.ListN.{take}
use mathlib.Core.Path.{ap, ◌∙◌}
use native.Mathlib.Omega.{arith}
use Rattle.sheet_console.proofs.forms.run_one.Goals as goal

pub returns : goal.returns
returns c = c.print_one.ensures ∙ ap (λ (o : Outcome). o.out) (one_whole (take c.read_sheet-got.result c.read_sheet-got.new.input) c.args.out.now (omega (arith, c.told-out)))
