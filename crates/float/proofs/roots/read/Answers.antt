-- `float::roots::read` meets its contract: the table's rule, at m. Assumes nothing.
use Rattle.std.proofs.Common.{ℕ, ◌*◌, sym, subst}
use Rattle.float.specs.Steps.{Within}
use Rattle.float.proofs.roots.read.Goals as goal

pub returns : goal.returns
returns c = subst (λ (e : ℕ). Within (65536 * c.args.m) e 1) (sym c.wide.ensures) (c.requires.0.at c.args.m c.requires.1 c.requires.2)
