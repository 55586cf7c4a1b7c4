use Prim.Native.Nat.{◌/◌, ◌%◌}
use Rattle.hexadecimal.proofs.Writing.{sets_past, put_put, length2}
use Rattle.hexadecimal.specs.Glyphs.{text4, text2}
use Rattle.hexadecimal.proofs.put4.Goals as goal

pub returns-then-out-at : goal.returns-then-out-at
returns-then-out-at c = sets_past (text4 c.args.n) c.args.out.now c.args.at c.if-out-at.true

pub returns : goal.returns
unfolding text4
returns c = put_put 2 (text2 (c.args.n / 256)) (text2 (c.args.n % 256)) c.args.out.now c.put2.new.out c.put2-2.new.out c.args.at (length2 (c.args.n / 256)) c.put2.ensures c.put2-2.ensures
