use Prim.Native.Nat.{◌*◌}
use Rattle.bins.proofs.FlatLaws.{place_parts, place_in, home_is, home_past}
use Rattle.bins.proofs.Wide.{two_wide, more_wide}
use mathlib.Core.Path.{sym}
use native.Mathlib.Omega.{arith}
use Rattle.bins.proofs.kernel.home_of.Goals as goal

pub overflow_mul-nx : goal.overflow_mul-nx
overflow_mul-nx c = omega (arith, two_wide c.wide-nx.result c.wide-ny.result c.wide-nx.ensures.1 c.wide-ny.ensures.1)

pub overflow_mul-nx-2 : goal.overflow_mul-nx-2
overflow_mul-nx-2 c = let h = two_wide c.wide-nx.result c.wide-ny.result c.wide-nx.ensures.1 c.wide-ny.ensures.1 in omega (arith, more_wide (c.wide-nx.result * c.wide-ny.result) c.wide-nz.result (omega arith) c.wide-nz.ensures.1)

pub returns-then-nx-ny : goal.returns-then-nx-ny
returns-then-nx-ny c = home_past c.args.g c.args.h c.wide-nx.ensures.0 c.wide-ny.ensures.0 c.wide-nz.ensures.0 c.if-nx-ny.true

pub nonzero_div-line : goal.nonzero_div-line
nonzero_div-line c = omega (arith, place_parts c.wide-nx.result c.wide-ny.result c.wide-nz.result c.args.h c.if-nx-ny.false)

pub nonzero_div-result : goal.nonzero_div-result
nonzero_div-result c = omega (arith, place_parts c.wide-nx.result c.wide-ny.result c.wide-nz.result c.args.h c.if-nx-ny.false)

pub overflow_cast-result : goal.overflow_cast-result
overflow_cast-result c = omega (arith, c.wide-nx.ensures.1, place_parts c.wide-nx.result c.wide-ny.result c.wide-nz.result c.args.h c.if-nx-ny.false)

pub nonzero_rem-result : goal.nonzero_rem-result
nonzero_rem-result c = omega (arith, place_parts c.wide-nx.result c.wide-ny.result c.wide-nz.result c.args.h c.if-nx-ny.false)

pub overflow_cast-result-2 : goal.overflow_cast-result-2
overflow_cast-result-2 c = omega (arith, c.wide-ny.ensures.1, place_parts c.wide-nx.result c.wide-ny.result c.wide-nz.result c.args.h c.if-nx-ny.false)

pub nonzero_rem-result-2 : goal.nonzero_rem-result-2
nonzero_rem-result-2 c = omega (arith, place_parts c.wide-nx.result c.wide-ny.result c.wide-nz.result c.args.h c.if-nx-ny.false)

pub overflow_cast-result-3 : goal.overflow_cast-result-3
overflow_cast-result-3 c = omega (arith, c.wide-nz.ensures.1, place_parts c.wide-nx.result c.wide-ny.result c.wide-nz.result c.args.h c.if-nx-ny.false)

pub returns : goal.returns
returns c = rw (c.wide-ny.ensures.0, c.wide-nz.ensures.0) (sym (home_is c.args.g c.args.h (place_in c.args.g c.args.h c.wide-nx.ensures.0 c.wide-ny.ensures.0 c.wide-nz.ensures.0 c.if-nx-ny.false)))
