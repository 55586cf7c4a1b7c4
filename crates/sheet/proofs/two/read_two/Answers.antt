use Rattle.answer.proofs.Passed.{passed_up}
use Rattle.sheet.proofs.SettlingTwo.{long_two, no_room_two, no_species, no_rows_two, kinds_refused, two_refused, two_whole}
use Rattle.sheet.proofs.two.read_two.Goals as goal

pub returns-then-input-gt65536 : goal.returns-then-input-gt65536
returns-then-input-gt65536 c = long_two c.args.input.now c.args.coordinates.now c.args.species.now c.args.exclusions.now c.if-input-gt65536.true

pub returns-then-coordinates-lt3072 : goal.returns-then-coordinates-lt3072
returns-then-coordinates-lt3072 c = no_room_two c.args.input.now c.args.coordinates.now c.args.species.now c.args.exclusions.now c.if-input-gt65536.false c.if-coordinates-lt3072.true

pub returns-then-species-lt1024 : goal.returns-then-species-lt1024
returns-then-species-lt1024 c = no_species c.args.input.now c.args.coordinates.now c.args.species.now c.args.exclusions.now c.if-input-gt65536.false c.if-coordinates-lt3072.false c.if-species-lt1024.true

pub returns-then-exclusions-lt2048 : goal.returns-then-exclusions-lt2048
returns-then-exclusions-lt2048 c = no_rows_two c.args.input.now c.args.coordinates.now c.args.species.now c.args.exclusions.now c.if-input-gt65536.false c.if-coordinates-lt3072.false c.if-species-lt1024.false c.if-exclusions-lt2048.true

pub returns-in_err-first : goal.returns-in_err-first
returns-in_err-first c =
    let r = passed_up c.from_residual.result c.in_err-first.field-0.0 c.from_residual.ensures.1 in
    rw r (kinds_refused c.args.input.now c.args.coordinates.now c.args.species.now c.args.exclusions.now c.if-input-gt65536.false c.if-coordinates-lt3072.false c.if-species-lt1024.false c.if-exclusions-lt2048.false c.in_err-first.field-0.0 (rw c.in_err-first.was at c.read_twos-first.ensures.table_after))

pub settle_two-requires : goal.settle_two-requires
settle_two-requires c = (rw c.in_ok-desk.was at c.read_twos.ensures.fit_kept, c.if-coordinates-lt3072.false, c.if-species-lt1024.false, c.if-exclusions-lt2048.false)

pub returns : goal.returns
returns c = two_whole c.args.input.now c.args.coordinates.now c.args.species.now c.args.exclusions.now c.if-input-gt65536.false c.if-coordinates-lt3072.false c.if-species-lt1024.false c.if-exclusions-lt2048.false _ (rw c.in_ok-first.was at c.read_twos-first.ensures.table_after) _ _ (rw c.in_ok-desk.was at c.read_twos.ensures.table_after) (rw (c.rule_kept.ensures, c.in_ok-first.was) at c.settle_two.ensures)

pub returns-in_err-desk : goal.returns-in_err-desk
returns-in_err-desk c =
    let r = passed_up c.from_residual-in_err-desk.result c.in_err-desk.field-0.0 c.from_residual-in_err-desk.ensures.1 in
    rw r (two_refused c.args.input.now c.args.coordinates.now c.args.species.now c.args.exclusions.now c.if-input-gt65536.false c.if-coordinates-lt3072.false c.if-species-lt1024.false c.if-exclusions-lt2048.false _ (rw c.in_ok-first.was at c.read_twos-first.ensures.table_after) c.in_err-desk.field-0.0 (rw c.in_err-desk.was at c.read_twos.ensures.table_after))
