use Rattle.clumps_answer.proofs.Lines.{lines_to, line_turn, length_line, lines_are}
use Rattle.clumps_answer.specs.Clumps.{clump_rows, clump_lines}
use Rattle.lists.specs.Lists.{each, numbers}
use lib.ListN.{length}
use lib.Seq.{sets}
use mathlib.Core.Path.{◌≡◌, refl, ap, ◌∙◌}
use native.Mathlib.Omega.{arith}
use Rattle.clumps_answer.proofs.put_clumps.Goals as goal

pub loop-i-init : goal.loop-i-init
unfolding each numbers
loop-i-init c = (omega arith, refl, refl)

pub loop-i-preserved : goal.loop-i-preserved
loop-i-preserved c = let t = line_turn c.args.labels.now c.args.out.now c.loop-i.out c.put_at-at.new.out c.loop-i.i c.loop-i.at c.put_at-at.result c.loop-i.invariant.1 c.loop-i.invariant.2 c.put_at-at.ensures.value c.put_at-at.ensures.out_after in (omega (arith, c.put_at-at.ensures.value, length_line c.args.labels.now c.loop-i.i, c.loop-i.invariant.0), t.0, t.1)

pub returns : goal.returns
returns c = let e : lines_to c.args.labels.now c.loop-i.i ≡ clump_lines (clump_rows c.args.labels.now) = ap (lines_to c.args.labels.now) (omega arith) ∙ lines_are c.args.labels.now in record { value = c.loop-i.invariant.1 ∙ ap length e; out_after = c.loop-i.invariant.2 ∙ ap (λ x. sets c.args.out.now 0 x) e }
