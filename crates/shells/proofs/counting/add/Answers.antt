use Rattle.lists.proofs.Rows.{length_rows}
use Rattle.lists.specs.Lists.{rows}
use Rattle.shells.proofs.Totals.{taken_back, all_added}
use Rattle.shells.specs.Shells.{shell_at}
use mathlib.Core.Bool.{not}
use mathlib.Core.Path.{sym, ap}
use Rattle.shells.proofs.counting.add.Goals as goal

pub returns-then-k-pairs : goal.returns-then-k-pairs
returns-then-k-pairs c = record { value = sym (ap not (c.add_some-k.ensures.full (rw (length_rows c.args.pairs.now) c.if-k-pairs.true))); totals_after = taken_back (shell_at c.args.f c.args.xs.now c.args.width) (rows c.args.pairs.now) c.args.totals.now c.add_some-k.ensures c.take_back.ensures }

pub returns : goal.returns
returns c = record { value = sym (ap not (c.add_some-k.ensures.fits (rw (length_rows c.args.pairs.now) c.if-k-pairs.false))); totals_after = all_added (shell_at c.args.f c.args.xs.now c.args.width) (rows c.args.pairs.now) c.args.totals.now c.add_some-k.ensures (rw (length_rows c.args.pairs.now) c.if-k-pairs.false) }
