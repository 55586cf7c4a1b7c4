use Rattle.answer.proofs.Passed.{passed_up}
use Rattle.sheet.proofs.Settling.{too_long, no_room, no_rows, read_whole, read_refused}
use Rattle.sheet.proofs.read.Goals as goal

pub returns-then-input-gt65536 : goal.returns-then-input-gt65536
returns-then-input-gt65536 c = too_long c.args.input.now c.args.coordinates.now c.args.exclusions.now c.if-input-gt65536.true

pub returns-then-coordinates-lt3072 : goal.returns-then-coordinates-lt3072
returns-then-coordinates-lt3072 c = no_room c.args.input.now c.args.coordinates.now c.args.exclusions.now c.if-input-gt65536.false c.if-coordinates-lt3072.true

pub returns-then-exclusions-lt2048 : goal.returns-then-exclusions-lt2048
returns-then-exclusions-lt2048 c = no_rows c.args.input.now c.args.coordinates.now c.args.exclusions.now c.if-input-gt65536.false c.if-coordinates-lt3072.false c.if-exclusions-lt2048.true

pub settle-requires : goal.settle-requires
settle-requires c = (rw c.in_ok-desk.was at c.read_lines.ensures.fit_kept, c.if-coordinates-lt3072.false, c.if-exclusions-lt2048.false)

pub returns : goal.returns
returns c = read_whole c.args.input.now c.args.coordinates.now c.args.exclusions.now c.if-input-gt65536.false c.if-coordinates-lt3072.false c.if-exclusions-lt2048.false _ _ (rw c.in_ok-desk.was at c.read_lines.ensures.table_after) c.settle.ensures

pub returns-in_err-desk : goal.returns-in_err-desk
returns-in_err-desk c =
    let r = passed_up c.from_residual.result c.in_err-desk.field-0.0 c.from_residual.ensures.1 in
    rw r (read_refused c.args.input.now c.args.coordinates.now c.args.exclusions.now c.if-input-gt65536.false c.if-coordinates-lt3072.false c.if-exclusions-lt2048.false c.in_err-desk.field-0.0 (rw c.in_err-desk.was at c.read_lines.ensures.table_after))
