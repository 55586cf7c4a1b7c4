use Prim.Native.Nat.{◌/◌}
use Rattle.sheet_printed.proofs.Parts.{built, all_rows}
use lib.ListN.{length}
use mathlib.Core.Path.{refl}
use native.Mathlib.Omega.{arith}
use Rattle.sheet_printed.proofs.put_built.Goals as goal

pub returns-then-there-count : goal.returns-then-there-count
returns-then-there-count c = let all = built c.args.pairs.now c.args.out.now c.put_count.new.out c.put_pairs.new.out (length c.args.pairs.now / 2) c.args.count c.args.checks c.args.fallback (omega arith) (all_rows c.args.pairs.now c.args.count c.if-there-count.true) c.put_count.ensures c.put_pairs.ensures in record { value = all.0; out_after = all.1 }

pub returns : goal.returns
returns c = let all = built c.args.pairs.now c.args.out.now c.put_count.new.out c.put_pairs-2.new.out c.args.count c.args.count c.args.checks c.args.fallback c.if-there-count.false refl c.put_count.ensures c.put_pairs-2.ensures in record { value = all.0; out_after = all.1 }
