use Rattle.std.proofs.lemmas.Result.{err_from_is_err_and}
use Rattle.neighbor.proofs.Asking.{outdated_refused, outdated_answered, question_room}
use Rattle.neighbor.proofs.Unmoved.{outdated_at_rest}
use Rattle.std.proofs.Common.{sym, refl, ◌∙◌}
use Rattle.neighbor.proofs.outdated.Goals as goal

pub returns-then-is_at_rest : goal.returns-then-is_at_rest
returns-then-is_at_rest c = outdated_answered _ _ _ _ (sym (c.is_at_rest.ensures.asked c.if-is_at_rest.true)) refl (outdated_at_rest _ _ _ _ c.is_same.ensures (c.is_at_rest.ensures.kept c.if-is_at_rest.true))

pub returns-in_err-question : goal.returns-in_err-question
returns-in_err-question c = let p = err_from_is_err_and c.from_residual.result c.from_residual.ensures.1 in rw (p.1, p.2) (outdated_refused _ _ _ _ c.question.ensures c.in_err-question.was)

pub outdated-requires : goal.outdated-requires
outdated-requires c = question_room c.args.s c.args.cell _ _ (sym c.question.ensures ∙ c.in_ok-question.was)

pub returns : goal.returns
returns c = outdated_answered _ _ _ _ c.question.ensures c.in_ok-question.was c.outdated.ensures
