use Rattle.clumps_answer.proofs.Solved.{too_small, within, solved}
use Rattle.clumps_answer.specs.Clumps.{clumps_text}
use Rattle.lists.proofs.Cases.{impossible}
use Rattle.clumps_answer.proofs.solve_clumps.Goals as goal

pub returns-then-out-lt11264 : goal.returns-then-out-lt11264
returns-then-out-lt11264 c = record { says = too_small c.args.input.now c.args.out.now c.if-out-lt11264.true; fits = (λ n e. impossible (cc)); clumps = (λ n e. impossible (cc)) }

pub put_list-n-requires : goal.put_list-n-requires
put_list-n-requires c = within c.args.input.now c.list-list.result c.list-list.new.pairs c.list-list.ensures.says c.list-list.ensures.fits _ c.in-Ok.is

pub returns-in-Ok : goal.returns-in-Ok
unfolding clumps_text
returns-in-Ok c = let all = solved c.args.input.now c.list-list.result c.list-list.new.pairs c.list-list.ensures.says c.list-list.ensures.fits _ c.in-Ok.is c.args.out.now c.put_list-n.new.out c.put_list-n.result c.if-out-lt11264.false c.put_list-n.ensures.value c.put_list-n.ensures.out_after in record { says = all.0; fits = all.1.0; clumps = all.1.1 }

pub returns-in-Err : goal.returns-in-Err
unfolding clumps_text
returns-in-Err c = let all = solved c.args.input.now c.list-list.result c.list-list.new.pairs c.list-list.ensures.says c.list-list.ensures.fits _ c.in-Err.is c.args.out.now c.refuse-n.new.out c.refuse-n.result c.if-out-lt11264.false c.refuse-n.ensures.value c.refuse-n.ensures.out_after in record { says = all.0; fits = all.1.0; clumps = all.1.1 }
