-- No second answer and no second memory fits a public call's contract. Assumes nothing.
use Rattle.answer.specs.Seen.{seen}
use Rattle.std.specs.Prelude.{Result}
use Rattle.answer.specs.declared.Refusal.{Refusal}
use Rattle.frame.specs.declared.Built.{Built}
use Prim.Native.Nat.{ℕ}
use mathlib.Core.Path.{◌≡◌, sym, ap, ◌∙◌}
use mathlib.Core.List.{List}
use Rattle.answer.proofs.Only.{seen_only}
use Rattle.frame.specs.declared.Frame.{Frame}
use Rattle.frame.specs.declared.Spot.{Spot}
use Rattle.frame.specs.Distance.{SquaredSays}
use Rattle.frame.specs.Build.{Given, Outcome, BuildSays}

pub squared_distance_only : (f : Frame) (a b : Spot) (r s : Result ℕ Refusal) → SquaredSays f a b r → SquaredSays f a b s → r ≡ s
squared_distance_only f a b r s p q = seen_only r s (p ∙ sym q)

module _ (i : Given) (r r' : Result Built Refusal) (pairs pairs' starts starts' items items' : List ℕ) (h : BuildSays i r pairs starts items) (k : BuildSays i r' pairs' starts' items') where
  abbrev first : Outcome
  first = record { answer = seen r; pairs = pairs; starts = starts; items = items }

  abbrev second : Outcome
  second = record { answer = seen r'; pairs = pairs'; starts = starts'; items = items' }

  same : first ≡ second
  same = h ∙ sym k

  pub build_only : (r ≡ r') × (pairs ≡ pairs') × (starts ≡ starts') × (items ≡ items')
  build_only = (
    seen_only r r' (ap (λ (o : Outcome). o.answer) same),
    ap (λ (o : Outcome). o.pairs) same,
    ap (λ (o : Outcome). o.starts) same,
    ap (λ (o : Outcome). o.items) same,
  )
