use Rattle.std.proofs.Common.{ℕ, ◌+◌, ◌*◌, ◌^◌, sym, refl, ap, ◌∙◌, arith}
use Rattle.float.proofs.Finite.{no_bits}
use Rattle.float.proofs.Patterns.{rounded_hi, digits_lt, even_root}
use lib.Ieee.{of_bits, binary64}
use Rattle.float.proofs.quick_even.Goals as goal

pub overflow_add-result-then-r-gt0 : goal.overflow_add-result-then-r-gt0
overflow_add-result-then-r-gt0 c = omega (arith, c.confirmed-r.ensures.nearest c.if-r-gt0.true, rounded_hi _ (digits_lt c.args.v _ c.requires.bound.1 refl))

pub returns-then-r-gt0 : goal.returns-then-r-gt0
returns-then-r-gt0 c = record { few = omega (arith, c.confirmed-r.ensures.nearest c.if-r-gt0.true, rounded_hi _ (digits_lt c.args.v _ c.requires.bound.1 refl)); right = λ h. ap (λ (r : ℕ). of_bits binary64 ((c.args.h + 484) * 2 ^ 52 + r)) (sym (c.confirmed-r.ensures.nearest c.if-r-gt0.true)) ∙ even_root _ _ c.requires.bound.0 c.requires.bound.1 c.requires.bound.2 }

pub returns-else-r-gt0 : goal.returns-else-r-gt0
returns-else-r-gt0 c = no_bits _
