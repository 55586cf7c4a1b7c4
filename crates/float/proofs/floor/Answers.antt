-- `float::floor` meets its contract: each branch is a fact of `proofs/Whole.antt`, with what the calls ensure put in. Assumes nothing.
use Rattle.float.proofs.Branches.{yes}
use Rattle.float.proofs.Whole.{big+, one+, with_parts, requires_of, floor_up, floor_whole, floor_else, floor_large}
use Rattle.float.specs.Def.{floor_of}
use Rattle.float.specs.Steps.{sign_of}
use Rattle.std.proofs.Common.{◌≡◌, true, false, ◌∙◌, subst}
use lib.Ieee.{Float, of_bits, binary64, neg, add, lt}
use Rattle.float.proofs.floor.Goals as goal

pub whole_part-t-requires : goal.whole_part-t-requires
unfolding of_bits
whole_part-t-requires c = requires_of _ _ c.abs-a.ensures c.if-a.true

pub returns-then-t-a : goal.returns-then-t-a
unfolding of_bits
returns-then-t-a c = with_parts (λ a t. lt a big+ ≡ true → lt t a ≡ true → neg (add binary64 t one+) ≡ floor_of c.args.x) _ _ _ c.abs-a.ensures c.whole_part-t.ensures
    (λ h k. floor_up _ (yes c.well_formed.0.1) h c.if-x.true k) c.if-a.true c.if-t-a.true

pub returns-else-t-a : goal.returns-else-t-a
unfolding of_bits
returns-else-t-a c = with_parts (λ a t. lt a big+ ≡ true → lt t a ≡ false → neg t ≡ floor_of c.args.x) _ _ _ c.abs-a.ensures c.whole_part-t.ensures
    (λ h k. floor_whole _ (yes c.well_formed.0.1) h c.if-x.true k) c.if-a.true c.if-t-a.false

pub returns-else-x : goal.returns-else-x
unfolding of_bits
returns-else-x c = c.with_sign.ensures
    ∙ with_parts (λ a t. lt a big+ ≡ true → sign_of c.args.x t ≡ floor_of c.args.x) _ _ _ c.abs-a.ensures c.whole_part-t.ensures
    (λ h. floor_else _ (yes c.well_formed.0.1) h c.if-x.false) c.if-a.true

pub returns-else-a : goal.returns-else-a
unfolding of_bits
returns-else-a c = floor_large _ (yes c.well_formed.0.1) (subst (λ (a : Float). lt a big+ ≡ false) c.abs-a.ensures c.if-a.false)
