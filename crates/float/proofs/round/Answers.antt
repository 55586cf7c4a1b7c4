-- `float::round` meets its contract: each branch is a fact of `proofs/Whole.antt`, with what the calls ensure put in. Assumes nothing.
use Rattle.float.proofs.Branches.{yes}
use Rattle.float.proofs.Whole.{big+, with_parts, requires_of, round_small, round_large}
use Rattle.float.specs.Def.{round_of}
use Rattle.float.specs.Steps.{sign_of, half_up}
use Rattle.std.proofs.Common.{◌≡◌, true, false, ap, ◌∙◌, subst}
use lib.Ieee.{Float, of_bits, binary64, sub, lt}
use Rattle.float.proofs.round.Goals as goal

pub whole_part-t-requires : goal.whole_part-t-requires
unfolding of_bits
whole_part-t-requires c = requires_of _ _ c.abs-a.ensures c.if-a.true

pub returns-then-a : goal.returns-then-a
unfolding of_bits
returns-then-a c = c.with_sign.ensures
    ∙ ap (sign_of c.args.x) c.half_up.ensures
    ∙ with_parts (λ a t. lt a big+ ≡ true → sign_of c.args.x (half_up t (sub binary64 a t)) ≡ round_of c.args.x) _ _ _ c.abs-a.ensures c.whole_part-t.ensures
    (round_small _ (yes c.well_formed.0.1)) c.if-a.true

pub returns-else-a : goal.returns-else-a
unfolding of_bits
returns-else-a c = round_large _ (yes c.well_formed.0.1) (subst (λ (a : Float). lt a big+ ≡ false) c.abs-a.ensures c.if-a.false)
