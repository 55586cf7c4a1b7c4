use Rattle.std.proofs.Common.{[], ◌∷◌}
use Rattle.replay_words.proofs.Words.{told_told}
use Rattle.replay_lists.specs.Told.{sum_words}
use Rattle.replay_lists.proofs.answers.put_summed.Goals as goal

pub returns-in-Ok : goal.returns-in-Ok
returns-in-Ok c =
    rw (c.in-Ok.is, c.put_sum.ensures, c.put_done.ensures) (told_told c.args.out.now (0 ∷ 0 ∷ []) (sum_words c.in-Ok.sum))
