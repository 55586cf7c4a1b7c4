use mathlib.Core.List.{[], ◌∷◌, ◌++◌}
use Rattle.hexadecimal.proofs.Writing.{length2, length4, sets_past}
use Rattle.hexadecimal.specs.Glyphs.{text2, text4}
use Rattle.sheet_printed.proofs.Parts.{three_parts}
use Rattle.sheet_printed.proofs.put_two.Goals as goal

pub returns-then-out-at : goal.returns-then-out-at
returns-then-out-at c = sets_past (text2 c.args.kind ++ text4 c.args.first ++ text4 c.args.second ++ (10 ∷ [])) c.args.out.now c.args.at c.if-out-at.true

pub returns : goal.returns
returns c = three_parts c.args.at 2 4 4 10 (text2 c.args.kind) (text4 c.args.first) (text4 c.args.second) c.args.out.now c.put2.new.out c.put4.new.out c.put4-2.new.out c.put_byte.new.out (length2 c.args.kind) (length4 c.args.first) (length4 c.args.second) c.put2.ensures c.put4.ensures c.put4-2.ensures c.put_byte.ensures
