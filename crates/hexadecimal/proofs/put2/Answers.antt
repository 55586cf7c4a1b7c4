use Rattle.hexadecimal.proofs.Writing.{sets_past}
use Rattle.hexadecimal.specs.Glyphs.{text2}
use native.Mathlib.Numerals.{add-one}
use Rattle.hexadecimal.proofs.put2.Goals as goal

pub returns-then-out-at : goal.returns-then-out-at
returns-then-out-at c = sets_past (text2 c.args.n) c.args.out.now c.args.at c.if-out-at.true

pub returns : goal.returns
unfolding text2
returns c = rw (c.put_byte-2.ensures, c.put_byte.ensures, c.glyph.ensures, c.glyph-2.ensures, add-one)
