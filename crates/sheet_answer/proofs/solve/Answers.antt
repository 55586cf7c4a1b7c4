use Rattle.std.specs.Prelude.{Err, Ok}
use Rattle.answer.specs.declared.Refusal.TheVariants.{Lengths}
use Rattle.sheet_answer.proofs.Fitting.{solve_fits}
use Rattle.sheet_answer.proofs.Telling.{listed_text, too_small, solved}
use Rattle.sheet_answer.proofs.solve.Goals as goal

pub returns-then-out-lt90133 : goal.returns-then-out-lt90133
returns-then-out-lt90133 c = let h = too_small c.args.input.now c.args.out.now c.if-out-lt90133.true in record { says = h; fits = solve_fits c.args.input.now c.args.out.now (Err Lengths) _ h }

pub returns : goal.returns
returns c = let h = solved c.args.input.now c.args.out.now c.put_list-n.new.out _ c.put_list-n.result c.if-out-lt90133.false (listed_text c.args.input.now c.list-list.result c.list-list.new.pairs c.list-list.ensures.says) c.put_list-n.ensures.value c.put_list-n.ensures.out_after in record { says = h; fits = solve_fits c.args.input.now c.args.out.now (Ok c.put_list-n.result) _ h }
