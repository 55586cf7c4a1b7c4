use Rattle.hexadecimal.proofs.Writing.{length2, length8}
use Rattle.hexadecimal.specs.Glyphs.{text2, text8}
use Rattle.sheet_printed.proofs.Parts.{four_parts}
use Rattle.sheet_printed.specs.Printed.{count_line, flag_of}
use Rattle.sheet_printed.proofs.put_count.Goals as goal

pub returns : goal.returns
unfolding count_line
returns c = four_parts 0 2 8 8 2 10 (text2 129) (text8 c.args.pairs) (text8 c.args.checks) (text2 (flag_of c.args.fallback)) c.args.out.now c.put2.new.out c.put8.new.out c.put8-2.new.out c.put2-2.new.out c.put_byte.new.out (length2 129) (length8 c.args.pairs) (length8 c.args.checks) (length2 (flag_of c.args.fallback)) c.put2.ensures c.put8.ensures c.put8-2.ensures (rw c.flag.ensures at c.put2-2.ensures) c.put_byte.ensures
