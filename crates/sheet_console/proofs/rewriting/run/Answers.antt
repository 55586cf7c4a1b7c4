use Rattle.sheet_rewritten.proofs.Forms.{rewrote}
use Rattle.sheet_rewritten.specs.Rewrite.{Outcome, rewritten}
use lib.ListN.{length, take}
use lib.Seq.{sets}
use mathlib.Core.Path.{ap, refl, sym, ◌∙◌}
use native.Mathlib.Omega.{arith}
use Rattle.sheet_console.proofs.rewriting.run.Goals as goal

pub returns : goal.returns
returns c = let s = take c.read_sheet-got.result c.read_sheet-got.new.input in let out = c.args.out.now in c.print_form.ensures ∙ sym (ap (λ (o : Outcome). o.out) (rewrote s out (sets out 0 (rewritten s)) (rewritten s) (length (rewritten s)) (omega (arith, c.told-out)) refl refl refl))
