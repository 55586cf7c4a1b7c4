use Rattle.answer.specs.Seen.{seen}
use Rattle.sheet_rewritten.proofs.Fitting.{rewrite_fits}
use mathlib.Core.Path.{ap}
use Rattle.sheet_console.proofs.rewriting.print_form.Goals as goal

pub put_front-requires : goal.put_front-requires
put_front-requires c = (rewrite_fits c.args.sheet.now c.args.out.now c.rewrite.result _ c.rewrite.ensures c.in-Ok.bytes (ap seen c.in-Ok.is)).room
