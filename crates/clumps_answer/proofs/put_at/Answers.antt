use Rattle.clumps_answer.proofs.Lines.{own_line, no_line, length_clump}
use Rattle.clumps_answer.specs.Clumps.{clump_line, members_of}
use lib.ListN.{length}
use lib.Seq.{sets}
use mathlib.Core.Path.{sym, ap, ◌∙◌}
use native.Mathlib.Omega.{arith}
use Rattle.clumps_answer.proofs.put_at.Goals as goal

pub returns-then-wide-i : goal.returns-then-wide-i
unfolding clump_line
returns-then-wide-i c = let e = own_line c.args.labels.now c.args.i (sym c.wide.ensures ∙ c.if-wide-i.true) in record { value = omega (arith, ap length e, length_clump c.args.i (members_of c.args.labels.now c.args.i)); out_after = c.put_two.ensures ∙ ap (λ k. sets c.args.out.now c.args.at (clump_line c.args.i k)) c.members-size.ensures ∙ ap (λ x. sets c.args.out.now c.args.at x) (sym e) }

pub returns : goal.returns
returns c = let e = no_line c.args.labels.now c.args.i (λ q. c.if-wide-i.false (c.wide.ensures ∙ q)) in record { value = omega (arith, ap length e); out_after = ap (λ x. sets c.args.out.now c.args.at x) (sym e) }
