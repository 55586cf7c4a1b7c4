use Rattle.sheet_rewritten.proofs.Forms.{write_answered, write_refused, line_put}
use Rattle.sheet_rewritten.proofs.put_frame.Goals as goal

pub returns-in-Ok : goal.returns-in-Ok
returns-in-Ok c = let all = write_answered c.args.f c.args.coordinates.now c.args.exclusions.now c.args.out.now _ c.requires c.write-wrote.result _ c.in-Ok.is c.write-wrote.ensures in record { value = all.0; out_after = all.1 }

pub returns-in-Err : goal.returns-in-Err
returns-in-Err c = let all = line_put c.args.f c.args.coordinates.now c.args.exclusions.now c.args.out.now _ _ _ _ (write_refused c.args.f c.args.coordinates.now c.args.exclusions.now c.args.out.now _ c.requires c.write-wrote.result _ c.in-Err.is c.write-wrote.ensures) c.refuse.ensures.value c.refuse.ensures.out_after in record { value = all.0; out_after = all.1 }
