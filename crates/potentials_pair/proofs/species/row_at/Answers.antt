use Prim.Native.Nat.{ℕ, ◌+◌, ◌-◌, ◌*◌}
use Rattle.potentials_pair.specs.Species.{params_at}
use borrow.Author.Tests.{lt-ltb, le-ltb}
use mathlib.Core.Path.{◌≡◌}
use native.Mathlib.Omega.{arith}
use Rattle.potentials_pair.proofs.species.row_at.Goals as goal

two : (k : ℕ) → 2 * k + 2 - 2 * k ≡ 2
two k = omega arith

pub returns-then-k-params : goal.returns-then-k-params
unfolding params_at
returns-then-k-params c = rw (lt-ltb _ _ c.if-k-params.true, two c.args.k)

pub returns : goal.returns
unfolding params_at
returns c = rw (le-ltb _ _ c.if-k-params.false)
