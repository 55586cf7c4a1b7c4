-- Where no second answer and no second memory fits a call's relation, none fits an export's. Assumes nothing.
use mathlib.Core.Path.{◌≡◌, sym, ap, ◌∙◌}
use Rattle.field_structs.specs.Shown.{Shown}

-- P and Q are the relation at one memory and at another, and Same is what that tells of the two
pub shown_only : {A F : Type 0} {flat : A → F} {P Q : A → Type 0} {r s : F} {Same : Type 0} → Shown flat P r → Shown flat Q s → ((a b : A) → P a → Q b → (a ≡ b) × Same) → (r ≡ s) × Same
shown_only {flat} p q only =
    let both = only p.answer q.answer p.says q.says in
    (p.handed ∙ ap flat both.0 ∙ sym q.handed, both.1)

-- nothing is lent to be written
pub shown_alone : {A F : Type 0} {flat : A → F} {P : A → Type 0} {r s : F} → Shown flat P r → Shown flat P s → ((a b : A) → P a → P b → a ≡ b) → r ≡ s
shown_alone {flat} p q only = p.handed ∙ ap flat (only p.answer q.answer p.says q.says) ∙ sym q.handed
