-- `float::raised` meets its contract by `raise` of `proofs/WholeRoots.antt`. Assumes nothing.
use Rattle.std.proofs.Common.{ℕ, sym, subst, arith}
use Rattle.float.proofs.WholeRoots.{raise, raise_small, raise_fits}
use Rattle.float.specs.Steps.{Within}
use Rattle.float.proofs.raised.Goals as goal

pub overflow_add-next : goal.overflow_add-next
overflow_add-next c = omega (arith, raise_small _ _ _ c.requires.0 c.requires.2)

pub overflow_mul-next : goal.overflow_mul-next
overflow_mul-next c = record { fits = raise_fits _ _ _ c.requires.0 c.requires.1 c.requires.2 }

pub returns : goal.returns
returns c = subst (λ (z : ℕ). Within c.args.w z c.args.k) (sym c.choose.ensures) (raise _ _ _ c.requires.0)
