use Rattle.std.proofs.Common.{◌≡◌, take, map}
use Rattle.replay_words.specs.Told.{kept}
use Rattle.replay_words.proofs.store.Store.keep_all.Given as goal

abbrev pub invariant-loop-w : goal.invariant-loop-w
invariant-loop-w g l = l.self ≡ kept l.fn.self (map g.T.Word.value_of (take l.w-index l.words))
