use Rattle.answer.specs.Seen.{seen}
use Rattle.sheet_moved.proofs.ThereAndBack.{to_two_fits}
use mathlib.Core.Path.{ap}
use Rattle.sheet_console.proofs.forms.print_two.Goals as goal

pub put_front-requires : goal.put_front-requires
put_front-requires c = to_two_fits c.args.sheet.now c.args.out.now c.to_two.result c.to_two.new.out c.in-Ok.bytes c.to_two.ensures (ap seen c.in-Ok.is)
