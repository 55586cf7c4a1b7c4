use Rattle.std.proofs.Common.{[], ◌∷◌}
use Rattle.replay_words.specs.Told.{float_words, bit}
use Rattle.replay_words.proofs.Words.{told_told}
use Rattle.replay_lists.proofs.answers.put_lattice.Goals as goal

pub returns : goal.returns
returns c =
    let l = c.args.l in
    rw (c.put_all-2.ensures, c.put_all.ensures)
    (told_told c.args.out.now
    (float_words (l.a.x ∷ l.a.y ∷ l.a.z ∷ l.b.x ∷ l.b.y ∷ l.b.z ∷ l.c.x ∷ l.c.y ∷ l.c.z ∷ []))
    (bit l.px ∷ bit l.py ∷ bit l.pz ∷ []))
