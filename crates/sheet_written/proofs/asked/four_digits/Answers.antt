use Rattle.lists.proofs.Chains.{all_every}
use Rattle.std.proofs.Common.{rules, tests}
use Rattle.std.proofs.lemmas.Iterator.{YieldsList-from_slice}
use Rattle.std.proofs.lemmas.Iterator.Search.{all_from_yields_List}
use lib.Dec.{leb}
use mathlib.Core.Path.{◌∙◌}
use Rattle.sheet_written.proofs.asked.four_digits.Goals as goal

pub returns : goal.returns
returns c = all_from_yields_List (λ k. leb k 65535) _ _ c.all.result c.all.ensures.ran (YieldsList-from_slice c.args.table.now cc) (λ x b q k. search (rules, tests)) ∙ all_every _ _
