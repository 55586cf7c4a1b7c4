use Rattle.sheet_moved.proofs.ThereAndBack.{to_one_fits}
use Rattle.sheet_moved.specs.Moved.{seen_moved}
use mathlib.Core.Path.{ap}
use Rattle.sheet_console.proofs.forms.print_one.Goals as goal

pub put_front-requires : goal.put_front-requires
put_front-requires c = to_one_fits c.args.sheet.now c.args.out.now c.to_one.result c.to_one.new.out c.in-Ok.bytes c.to_one.ensures (ap seen_moved c.in-Ok.is)
