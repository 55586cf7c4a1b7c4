use Rattle.sheet_printed.proofs.Parts.{length_refusal}
use native.Mathlib.Omega.{arith}
use Rattle.sheet_console.proofs.forms.print_line.Goals as goal

pub put_front-requires : goal.put_front-requires
put_front-requires c = omega (arith, c.put_refusal-bytes.ensures.value, length_refusal c.args.number c.args.place, c.put_refusal-bytes.auto.out)
