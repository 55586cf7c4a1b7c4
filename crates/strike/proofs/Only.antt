-- For each input one answer and one memory: no second of either fits what `strike` and `put` promise. Assumes nothing.
use Prim.Native.Nat.{ℕ}
use mathlib.Core.Path.{◌≡◌, sym, ap, ◌∙◌}
use mathlib.Core.List.{List}
use Rattle.answer.specs.Seen.{seen}
use Rattle.answer.proofs.Only.{seen_only}
use Rattle.neighbor.specs.declared.State.{State}
use Rattle.strike.specs.declared.NewAtom.{NewAtom}
use Rattle.strike.specs.declared.Struck.{Struck}
use Rattle.strike.specs.declared.Entered.{Entered}
use Rattle.strike.specs.Calls.{LentAtoms, Links, StrikeOutcome, PutOutcome, StrikeSays, PutSays}

module _ (marks : List ℕ) (s : State) (a : LentAtoms) (l : Links) (r r' : Struck) (b b' : LentAtoms) (m m' : Links) (h : StrikeSays marks s a l r b m) (k : StrikeSays marks s a l r' b' m') where
  struck : ◌≡◌ {A = StrikeOutcome} (record { shown = seen r.done; left = r.left; state = r.state; atoms = b; links = m }) (record { shown = seen r'.done; left = r'.left; state = r'.state; atoms = b'; links = m' })
  struck = h ∙ sym k

  pub strike_only : (r ≡ r') × (b ≡ b') × (m ≡ m')
  strike_only =
      let d = seen_only r.done r'.done (ap (λ (o : StrikeOutcome). o.shown) struck) in
      (λ i. record { done = d i; left = (struck i).left; state = (struck i).state }, ap (λ (o : StrikeOutcome). o.atoms) struck, ap (λ (o : StrikeOutcome). o.links) struck)

module _ (count : ℕ) (new : NewAtom) (s : State) (a : LentAtoms) (r r' : Entered) (b b' : LentAtoms) (h : PutSays count new s a r b) (k : PutSays count new s a r' b') where
  placed : ◌≡◌ {A = PutOutcome} (record { shown = seen r.done; count = r.count; state = r.state; atoms = b }) (record { shown = seen r'.done; count = r'.count; state = r'.state; atoms = b' })
  placed = h ∙ sym k

  pub put_only : (r ≡ r') × (b ≡ b')
  put_only =
      let d = seen_only r.done r'.done (ap (λ (o : PutOutcome). o.shown) placed) in
      (λ i. record { done = d i; count = (placed i).count; state = (placed i).state }, ap (λ (o : PutOutcome). o.atoms) placed)
