use Rattle.std.proofs.Common.{◌≡◌, take, map}
use Rattle.replay_words.specs.Told.{told}
use Rattle.replay_words.proofs.put.Answer.put_all.Given as goal

abbrev pub invariant-loop-x : goal.invariant-loop-x
invariant-loop-x g l = l.self ≡ told l.fn.self (map g.T.Word.word_of (take l.x-index l.xs))
