use Rattle.sheet_answer.proofs.Telling.{solved}
use Rattle.sheet_answer.specs.Solve.{Outcome, printed}
use lib.ListN.{length, take}
use lib.Seq.{sets}
use mathlib.Core.Path.{ap, refl, sym, ◌∙◌}
use native.Mathlib.Omega.{arith}
use Rattle.sheet_console.proofs.run.Goals as goal

pub returns : goal.returns
returns c = let s = take c.read_sheet-got.result c.read_sheet-got.new.input in let out = c.args.out.now in c.print.ensures ∙ sym (ap (λ (o : Outcome). o.out) (solved s out (sets out 0 (printed s)) (printed s) (length (printed s)) (omega (arith, c.told-out)) refl refl refl))
