-- For each input one answer and one memory fit what `to_one` and `to_two` promise. Assumes nothing.
use Rattle.std.specs.Prelude.{Err, Ok, Result}
use Prim.Native.Nat.{ℕ}
use mathlib.Core.Path.{◌≡◌, refl, sym, ap, ◌∙◌}
use mathlib.Core.Bool.{cond}
use mathlib.Core.List.{List}
use lib.Dec.{eqb}
use Rattle.answer.specs.declared.Refusal.{Refusal}
use Rattle.answer.specs.declared.Refusal.TheVariants.{Lengths, TooMany, Range, Drifted, NotThere, Order, HouseOrder, Claims, Cells, Room, Malformed, Again, Absent}
use Rattle.answer.specs.Seen.{Seen, answered, refused, number_of, place_of}
use Rattle.answer.proofs.Only.{told, told_back, seen_only}
use Rattle.sheet_written.specs.Write.{Outcome}
use Rattle.sheet_moved.specs.declared.MoveError.{MoveError}
use Rattle.sheet_moved.specs.declared.MoveError.TheVariants.{Refused, NoWayBack}
use Rattle.sheet_moved.specs.Moved.{seen_moved, ToOneSays, ToTwoSays}

-- the answer made again from what is seen of it
abbrev again : Seen ℕ → Result ℕ MoveError
again (answered n) = Ok n
again (refused n p) = Err (cond (eqb n 12) (NoWayBack p) (Refused (told n p)))

no_other : (r : Refusal) → again (refused (number_of r) (place_of r)) ≡ Err (Refused (told (number_of r) (place_of r)))
no_other Lengths = refl
no_other (TooMany n) = refl
no_other Range = refl
no_other Drifted = refl
no_other (NotThere k) = refl
no_other Order = refl
no_other HouseOrder = refl
no_other Claims = refl
no_other Cells = refl
no_other (Room n) = refl
no_other (Malformed k) = refl
no_other (Again k) = refl
no_other (Absent k) = refl

moved_again : (x : Result ℕ MoveError) → again (seen_moved x) ≡ x
moved_again (Ok n) = refl
moved_again (Err (Refused r)) = no_other r ∙ ap (λ (why : Refusal). Err (Refused why)) (told_back r)
moved_again (Err (NoWayBack k)) = refl

pub moved_only : (x y : Result ℕ MoveError) → seen_moved x ≡ seen_moved y → x ≡ y
moved_only x y e = sym (moved_again x) ∙ ap again e ∙ moved_again y

pub to_one_only : (s out : List ℕ) (r t : Result ℕ MoveError) (out₁ out₂ : List ℕ) → ToOneSays s out r out₁ → ToOneSays s out t out₂ → (r ≡ t) × (out₁ ≡ out₂)
to_one_only s out r t out₁ out₂ p q = (moved_only r t (ap (λ (o : Outcome). o.shown) (p ∙ sym q)), ap (λ (o : Outcome). o.out) (p ∙ sym q))

pub to_two_only : (s out : List ℕ) (r t : Result ℕ Refusal) (out₁ out₂ : List ℕ) → ToTwoSays s out r out₁ → ToTwoSays s out t out₂ → (r ≡ t) × (out₁ ≡ out₂)
to_two_only s out r t out₁ out₂ p q = (seen_only r t (ap (λ (o : Outcome). o.shown) (p ∙ sym q)), ap (λ (o : Outcome). o.out) (p ∙ sym q))
