-- `float::trunc` meets its contract: each branch is a fact of `proofs/Whole.antt`, with what the calls ensure put in. Assumes nothing.
use Rattle.float.proofs.Branches.{yes}
use Rattle.float.proofs.Whole.{big+, with_parts, requires_of, trunc_small, trunc_large}
use Rattle.float.specs.Def.{trunc_of}
use Rattle.float.specs.Steps.{sign_of}
use Rattle.std.proofs.Common.{◌≡◌, true, false, ◌∙◌, subst}
use lib.Ieee.{Float, of_bits, lt}
use Rattle.float.proofs.trunc.Goals as goal

pub whole_part-requires : goal.whole_part-requires
unfolding of_bits
whole_part-requires c = requires_of _ _ c.abs-a.ensures c.if-a.true

pub returns-then-a : goal.returns-then-a
unfolding of_bits
returns-then-a c = c.with_sign.ensures
    ∙ with_parts (λ a t. lt a big+ ≡ true → sign_of c.args.x t ≡ trunc_of c.args.x) _ _ _ c.abs-a.ensures c.whole_part.ensures
    (trunc_small _ (yes c.well_formed.0.1)) c.if-a.true

pub returns-else-a : goal.returns-else-a
unfolding of_bits
returns-else-a c = trunc_large _ (yes c.well_formed.0.1) (subst (λ (a : Float). lt a big+ ≡ false) c.abs-a.ensures c.if-a.false)
