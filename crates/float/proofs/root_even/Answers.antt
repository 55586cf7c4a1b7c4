-- `float::root_even` meets its contract by `even-root` of `proofs/Patterns.antt`. Assumes nothing.
use Rattle.std.proofs.Common.{ℕ, ◌+◌, ◌*◌, ◌/◌, ◌^◌, ap, ◌∙◌, arith}
use Rattle.float.proofs.Patterns.{digits_lt, even_root, not_nan}
use lib.Ieee.{of_bits, binary64}
use Rattle.float.proofs.root_even.Goals as goal

pub overflow_add-result-2 : goal.overflow_add-result-2
overflow_add-result-2 c = omega (arith, digits_lt _ _ c.requires.1 c.root_digits-r.ensures)

pub overflow_add-result-3 : goal.overflow_add-result-3
overflow_add-result-3 c = omega (arith, digits_lt _ _ c.requires.1 c.root_digits-r.ensures)

pub float_from_bits-result : goal.float_from_bits-result
float_from_bits-result c = not_nan _ (omega (arith, digits_lt _ _ c.requires.1 c.root_digits-r.ensures))

pub returns : goal.returns
returns c = ap (λ (r : ℕ). of_bits binary64 ((c.args.h + 484) * 2 ^ 52 + (r + 1) / 2)) c.root_digits-r.ensures
    ∙ even_root _ _ c.requires.0 c.requires.1 c.requires.2
