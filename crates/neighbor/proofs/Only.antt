-- No second answer and no second memory fits a public call's contract. Assumes nothing.
use Rattle.answer.specs.Seen.{seen}
use Rattle.std.specs.Prelude.{Err, Ok, Option, Result}
use Rattle.answer.specs.declared.Refusal.{Refusal}
use Rattle.cell.specs.declared.Lattice.{Lattice}
use Rattle.std.specs.Prelude.{Bool}
use Rattle.std.proofs.Common.{◌≡◌, ℕ, List, sym, refl, ap, ◌∙◌}
use lib.Ieee.{Float}
use Rattle.answer.proofs.Only.{told_back, made, seen_only}
use Rattle.neighbor.specs.declared.Question.{Question}
use Rattle.neighbor.specs.declared.State.{State}
use Rattle.neighbor.specs.declared.Updated.{Updated}
use Rattle.neighbor.specs.State.{NewSays, RadiusSays}
use Rattle.neighbor.specs.Rebuild.{NeedsSays, OutdatedSays}
use Rattle.neighbor.specs.Update.{Given, Outcome, shown, UpdateSays, ListedSays}

pub new_only : (cutoff skin : Float) (r s : Result State Refusal) → NewSays cutoff skin r → NewSays cutoff skin s → r ≡ s
new_only cutoff skin r s p q = seen_only r s (p ∙ sym q)

pub search_radius_only : (t : State) (r s : Result Float Refusal) → RadiusSays t r → RadiusSays t s → r ≡ s
search_radius_only t r s p q = seen_only r s (p ∙ sym q)

pub needs_rebuild_only : (t : State) (cell : Option Lattice) (xs refs : List Float) (r s : Result Bool Refusal) → NeedsSays t cell xs refs r → NeedsSays t cell xs refs s → r ≡ s
needs_rebuild_only t cell xs refs r s p q = seen_only r s (p ∙ sym q)

pub outdated_only : (t : State) (cell : Option Lattice) (xs refs : List Float) (r s : Result Bool Refusal) → OutdatedSays t cell xs refs r → OutdatedSays t cell xs refs s → r ≡ s
outdated_only t cell xs refs r s p q = seen_only r s (p ∙ sym q)

pub listed_asked_only : (t : State) (pairs : List ℕ) (r s : Result (Unit {0}) Refusal) → ListedSays t pairs r → ListedSays t pairs s → r ≡ s
listed_asked_only t pairs r s p q = seen_only r s (p ∙ sym q)

-- `build` and `maybe_build`
module _ (question : Question) (i : Given) (r r' : Updated) (pairs pairs' : List ℕ) (references references' : List Float) (starts starts' items items' : List ℕ)
    (h : UpdateSays question i r pairs references starts items) (k : UpdateSays question i r' pairs' references' starts' items') where
  same : shown r pairs references starts items ≡ shown r' pairs' references' starts' items'
  same = h ∙ sym k

  answers : r ≡ r'
  answers =
      let d = seen_only r.done r'.done (ap (λ (o : Outcome). o.answer) same) in
      λ i. record { done = d i; rebuilt = (same i).rebuilt; state = (same i).state }

  pub update_only : (r ≡ r') × (pairs ≡ pairs') × (references ≡ references') × (starts ≡ starts') × (items ≡ items')
  update_only = (
    answers,
    ap (λ (o : Outcome). o.pairs) same,
    ap (λ (o : Outcome). o.references) same,
    ap (λ (o : Outcome). o.starts) same,
    ap (λ (o : Outcome). o.items) same,
  )
