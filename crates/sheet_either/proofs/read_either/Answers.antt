use Rattle.answer.proofs.Passed.{passed_up}
use Rattle.answer.specs.Seen.{answered, refused_by}
use Rattle.sheet_either.proofs.Either.{no_species, by_two, by_one, told_few}
use mathlib.Core.Path.{sym, ◌∙◌}
use native.Mathlib.Omega.{arith}
use Rattle.sheet_either.proofs.read_either.Goals as goal

pub returns-then-species-lt1024 : goal.returns-then-species-lt1024
returns-then-species-lt1024 c = no_species c.args.input.now c.args.coordinates.now c.args.species.now c.args.exclusions.now c.if-species-lt1024.true

pub returns-then-is_two : goal.returns-then-is_two
returns-then-is_two c = by_two c.args.input.now c.args.coordinates.now c.args.species.now c.args.exclusions.now c.if-species-lt1024.false (record { shown = answered c.in_ok-said.said; coordinates = c.read_two.new.coordinates; species = c.read_two.new.species; exclusions = c.read_two.new.exclusions }) (sym c.is_two.ensures ∙ c.if-is_two.true) (rw c.in_ok-said.was at c.read_two.ensures)

pub returns-in_err-said : goal.returns-in_err-said
returns-in_err-said c =
    let r = passed_up c.from_residual.result c.in_err-said.field-0.0 c.from_residual.ensures.1 in
    rw r (by_two c.args.input.now c.args.coordinates.now c.args.species.now c.args.exclusions.now c.if-species-lt1024.false (record { shown = refused_by c.in_err-said.field-0.0; coordinates = c.read_two.new.coordinates; species = c.read_two.new.species; exclusions = c.read_two.new.exclusions }) (sym c.is_two.ensures ∙ c.if-is_two.true) (rw c.in_err-said.was at c.read_two.ensures))

pub zero_first-requires : goal.zero_first-requires
zero_first-requires c = omega (arith, c.if-species-lt1024.false, told_few c.args.input.now c.args.coordinates.now c.args.exclusions.now c.read.new.coordinates c.read.new.exclusions c.in_ok-job.job (rw c.in_ok-job.was at c.read.ensures))

pub returns : goal.returns
returns c = rw c.zero_first.ensures (by_one c.args.input.now c.args.coordinates.now c.args.species.now c.args.exclusions.now c.if-species-lt1024.false (record { shown = answered c.in_ok-job.job; coordinates = c.read.new.coordinates; exclusions = c.read.new.exclusions }) (sym c.is_two.ensures ∙ c.if-is_two.false) (rw c.in_ok-job.was at c.read.ensures))

pub returns-in_err-job : goal.returns-in_err-job
returns-in_err-job c =
    let r = passed_up c.from_residual-in_err-job.result c.in_err-job.field-0.0 c.from_residual-in_err-job.ensures.1 in
    rw r (by_one c.args.input.now c.args.coordinates.now c.args.species.now c.args.exclusions.now c.if-species-lt1024.false (record { shown = refused_by c.in_err-job.field-0.0; coordinates = c.read.new.coordinates; exclusions = c.read.new.exclusions }) (sym c.is_two.ensures ∙ c.if-is_two.false) (rw c.in_err-job.was at c.read.ensures))
