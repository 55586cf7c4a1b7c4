use Rattle.bins.proofs.AxisLaws.{step_none, step_stay, step_on, step_on_last, step_on_off, step_back, step_back_first, step_back_off}
use Rattle.bins.proofs.Signs.{is_stay, is_back, is_on}
use mathlib.Core.Path.{sym}
use Rattle.bins.proofs.kernel.step_on.Goals as goal

pub returns-then-size-c : goal.returns-then-size-c
returns-then-size-c c = sym (step_none c.args.a c.args.c c.if-size-c.true c.args.d)

pub returns-then-d-eq0 : goal.returns-then-d-eq0
returns-then-d-eq0 c = rw (is_stay c.args.d c.requires c.if-d-eq0.true) (sym (step_stay c.args.a c.args.c c.if-size-c.false))

pub returns-then-c-gt0 : goal.returns-then-c-gt0
returns-then-c-gt0 c = rw (is_back c.args.d c.requires c.if-d-lt0.true) (sym (step_back c.args.a c.args.c c.if-c-gt0.true c.if-size-c.false))

pub returns-then-round : goal.returns-then-round
returns-then-round c = rw (is_back c.args.d c.requires c.if-d-lt0.true) (sym (step_back_first c.args.a c.args.c c.if-size-c.false c.if-c-gt0.false c.if-round.true))

pub returns-then-d-lt0 : goal.returns-then-d-lt0
returns-then-d-lt0 c = rw (is_back c.args.d c.requires c.if-d-lt0.true) (sym (step_back_off c.args.a c.args.c c.if-c-gt0.false c.if-round.false))

pub returns-then-c-size : goal.returns-then-c-size
returns-then-c-size c = rw (is_on c.args.d c.requires c.if-d-eq0.false c.if-d-lt0.false) (sym (step_on c.args.a c.args.c c.if-c-size.true))

pub returns-then-round-2 : goal.returns-then-round-2
returns-then-round-2 c = rw (is_on c.args.d c.requires c.if-d-eq0.false c.if-d-lt0.false) (sym (step_on_last c.args.a c.args.c c.if-size-c.false c.if-c-size.false c.if-round-2.true))

pub returns : goal.returns
returns c = rw (is_on c.args.d c.requires c.if-d-eq0.false c.if-d-lt0.false) (sym (step_on_off c.args.a c.args.c c.if-c-size.false c.if-round-2.false))
