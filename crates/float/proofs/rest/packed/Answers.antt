use Rattle.std.proofs.Common.{arith, inl, inr, ◌≡◌, ◌≤◌, ◌^◌, ◌⊎◌}
use Rattle.float.proofs.Patterns.{not_nan}
use Rattle.float.proofs.Remainder.{pack_step, packed_is}
use Rattle.float.proofs.rest.packed.Goals as goal
use Rattle.float.proofs.rest.packed.Goals.{then-loop-p-test+else-m-lt4503599627370496, else-loop-p-test}

pub loop-p-preserved : goal.loop-p-preserved
loop-p-preserved c = (omega arith, omega arith, pack_step _ _ _ c.loop-p-test.true c.loop-p.invariant.2)

pub float_from_bits-result : goal.float_from_bits-result
float_from_bits-result c = not_nan _ (omega arith)

pub returns : goal.returns
returns c =
    let at : (c.loop-p.p ≡ 0) ⊎ (2 ^ 52 ≤ c.loop-p.m) = elim c.loop-p-test.branch [ then-loop-p-test+else-m-lt4503599627370496 w ↦ inr w.if-m-lt4503599627370496.false | else-loop-p-test w ↦ inl (omega arith) ] in
    packed_is _ _ _ _ c.loop-p.invariant.1 (omega arith) at c.loop-p.invariant.2
