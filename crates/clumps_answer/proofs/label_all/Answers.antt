use Prim.Native.Nat.{◌*◌}
use Rattle.clumps_answer.proofs.Lines.{label_is}
use lib.Seq.{length-take-le}
use mathlib.Core.Path.{sym}
use native.Mathlib.Omega.{arith}
use Rattle.clumps_answer.proofs.label_all.Goals as goal

pub slice_bounds-label-end : goal.slice_bounds-label-end
slice_bounds-label-end c = sym (length-take-le (2 * c.wide-m.result) c.args.pairs.now (omega (arith, c.wide-m.ensures, c.requires.1.room)))

pub returns : goal.returns
returns c = label_is c.args.atoms c.args.count c.args.pairs.now c.args.labels.now c.requires.1 c.requires.0 c.label.result c.label.new.labels (rw c.wide-m.ensures at c.label.ensures)
