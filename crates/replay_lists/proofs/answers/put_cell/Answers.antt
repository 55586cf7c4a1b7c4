use Rattle.std.proofs.Common.{[], ◌∷◌}
use Rattle.replay_words.proofs.Words.{told_told}
use Rattle.replay_lists.specs.Told.{lattice_words}
use Rattle.replay_lists.proofs.answers.put_cell.Goals as goal

pub returns-in-Some : goal.returns-in-Some
returns-in-Some c =
    rw (c.in-Some.is, c.put_lattice.ensures, c.put-in-Some.ensures) (told_told c.args.out.now (1 ∷ []) (lattice_words c.in-Some.l))
