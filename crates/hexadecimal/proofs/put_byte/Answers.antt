use Rattle.hexadecimal.proofs.Writing.{set_past}
use Rattle.hexadecimal.proofs.put_byte.Goals as goal

pub returns-else-at-out : goal.returns-else-at-out
returns-else-at-out c = set_past _ _ _ c.if-at-out.false
