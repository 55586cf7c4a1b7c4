use Rattle.std.specs.Prelude.{Err, Ok}
use Rattle.answer.specs.declared.Refusal.TheVariants.{Lengths}
use Rattle.sheet_answer.proofs.TellingEither.{either_fits, either_listed, either_small, either_solved}
use Rattle.sheet_answer.proofs.either.solve_either.Goals as goal

pub returns-then-out-lt90133 : goal.returns-then-out-lt90133
returns-then-out-lt90133 c = let h = either_small c.args.input.now c.args.out.now c.if-out-lt90133.true in record { says = h; fits = either_fits c.args.input.now c.args.out.now (Err Lengths) _ h }

pub returns : goal.returns
returns c = let h = either_solved c.args.input.now c.args.out.now c.put_list-n.new.out _ c.put_list-n.result c.if-out-lt90133.false (either_listed c.args.input.now c.list_either-list.result c.list_either-list.new.pairs c.list_either-list.ensures) c.put_list-n.ensures.value c.put_list-n.ensures.out_after in record { says = h; fits = either_fits c.args.input.now c.args.out.now (Ok c.put_list-n.result) _ h }
