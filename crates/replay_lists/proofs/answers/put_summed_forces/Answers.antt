use Rattle.std.proofs.Common.{◌∷◌, length}
use Rattle.replay_words.specs.Told.{float_words}
use Rattle.replay_words.proofs.Words.{told_told}
use Rattle.replay_lists.specs.Told.{summed_words}
use Rattle.replay_lists.proofs.answers.put_summed_forces.Goals as goal

pub returns : goal.returns
returns c =
    let xs = c.args.forces.now in
    rw (c.put_table.ensures, c.put_summed.ensures) (told_told c.args.out.now (summed_words c.args.answer) (length xs ∷ float_words xs))
