use Rattle.hexadecimal.proofs.Writing.{length2, length8}
use Rattle.hexadecimal.specs.Glyphs.{text2, text8}
use Rattle.sheet_printed.proofs.Parts.{three_parts, length_refusal}
use Rattle.sheet_printed.specs.Printed.{refusal_line}
use mathlib.Core.Path.{sym}
use Rattle.sheet_printed.proofs.put_refusal.Goals as goal

pub returns : goal.returns
unfolding refusal_line
returns c = record { value = sym (length_refusal c.args.number c.args.place); out_after = three_parts 0 2 2 8 10 (text2 143) (text2 c.args.number) (text8 c.args.place) c.args.out.now c.put2.new.out c.put2-2.new.out c.put8.new.out c.put_byte.new.out (length2 143) (length2 c.args.number) (length8 c.args.place) c.put2.ensures c.put2-2.ensures c.put8.ensures c.put_byte.ensures }
