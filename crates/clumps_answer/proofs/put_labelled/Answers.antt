use Rattle.clumps_answer.specs.Clumps.{clump_rows, clump_lines}
use lib.ListN.{length, drop}
use lib.Seq.{sets, length-take-le, take_at}
use mathlib.Core.Path.{◌≡◌, sym, ap, ◌∙◌}
use native.Mathlib.Omega.{arith}
use Rattle.clumps_answer.proofs.put_labelled.Goals as goal

pub slice_bounds-label_all-end-2 : goal.slice_bounds-label_all-end-2
slice_bounds-label_all-end-2 c = sym (length-take-le c.wide-n.result c.args.labels.now (omega (arith, c.wide-n.ensures, c.requires.0)))

pub label_all-requires : goal.label_all-requires
label_all-requires c = (length-take-le c.wide-n.result c.args.labels.now (omega (arith, c.wide-n.ensures, c.requires.0)) ∙ c.wide-n.ensures, c.requires.1)

pub slice_bounds-put_clumps-end-2 : goal.slice_bounds-put_clumps-end-2
slice_bounds-put_clumps-end-2 c = let l : length c.label_all.new.labels ≡ c.wide-n.result = c.label_all.auto.labels ∙ length-take-le c.wide-n.result c.args.labels.now (omega (arith, c.wide-n.ensures, c.requires.0)) in sym (ap length (take_at c.label_all.new.labels (drop c.wide-n.result c.args.labels.now) c.wide-n.result l) ∙ l)

pub put_clumps-requires : goal.put_clumps-requires
put_clumps-requires c = let l : length c.label_all.new.labels ≡ c.wide-n.result = c.label_all.auto.labels ∙ length-take-le c.wide-n.result c.args.labels.now (omega (arith, c.wide-n.ensures, c.requires.0)) in omega (arith, ap length (take_at c.label_all.new.labels (drop c.wide-n.result c.args.labels.now) c.wide-n.result l), l, c.wide-n.ensures, c.requires.1.few)

pub returns : goal.returns
returns c = let l : length c.label_all.new.labels ≡ c.wide-n.result = c.label_all.auto.labels ∙ length-take-le c.wide-n.result c.args.labels.now (omega (arith, c.wide-n.ensures, c.requires.0)) in let t = take_at c.label_all.new.labels (drop c.wide-n.result c.args.labels.now) c.wide-n.result l ∙ c.label_all.ensures in record { value = c.put_clumps.ensures.value ∙ ap (λ x. length (clump_lines (clump_rows x))) t; out_after = c.put_clumps.ensures.out_after ∙ ap (λ x. sets c.args.out.now 0 (clump_lines (clump_rows x))) t }
