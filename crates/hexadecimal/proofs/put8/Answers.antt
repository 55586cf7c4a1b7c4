use Prim.Native.Nat.{◌/◌, ◌%◌}
use Rattle.hexadecimal.proofs.Writing.{sets_past, put_put, length4}
use Rattle.hexadecimal.specs.Glyphs.{text8, text4}
use Rattle.hexadecimal.proofs.put8.Goals as goal

pub returns-then-out-at : goal.returns-then-out-at
returns-then-out-at c = sets_past (text8 c.args.n) c.args.out.now c.args.at c.if-out-at.true

pub returns : goal.returns
unfolding text8
returns c = put_put 4 (text4 (c.args.n / 65536)) (text4 (c.args.n % 65536)) c.args.out.now c.put4.new.out c.put4-2.new.out c.args.at (length4 (c.args.n / 65536)) c.put4.ensures c.put4-2.ensures
