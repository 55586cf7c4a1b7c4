-- Number and place tell the refusal, and what is seen of an answer tells the answer: no two answers look the same. Assumes nothing.
use Rattle.std.specs.Prelude.{Result, Ok, Err}
use mathlib.Core.Path.{◌≡◌, refl, sym, ap, ap₂, ◌∙◌}
use mathlib.Core.Bool.{cond}
use Prim.Native.Nat.{ℕ}
use lib.Dec.{eqb}
use Rattle.answer.specs.declared.Refusal.{Refusal}
use Rattle.answer.specs.declared.Refusal.TheVariants.{Lengths, TooMany, Range, Drifted, NotThere, Order, HouseOrder, Claims, Cells, Room, Malformed, Again, Absent}
use Rattle.answer.specs.Seen.{number_of, place_of, Seen, answered, refused, seen}

-- the refusal of a number and a place
abbrev pub told : ℕ → ℕ → Refusal
told n p =
    cond (eqb n 1) Lengths
    (cond (eqb n 2) (TooMany p)
    (cond (eqb n 3) (cond (eqb p 1) Drifted Range)
    (cond (eqb n 4) (NotThere p)
    (cond (eqb n 5) (cond (eqb p 1) HouseOrder Order)
    (cond (eqb n 6) Claims
    (cond (eqb n 7) Cells (cond (eqb n 8) (Room p) (cond (eqb n 9) (Malformed p) (cond (eqb n 10) (Again p) (Absent p))))))))))

pub told_back : (r : Refusal) → told (number_of r) (place_of r) ≡ r
told_back Lengths = refl
told_back (TooMany n) = refl
told_back Range = refl
told_back Drifted = refl
told_back (NotThere k) = refl
told_back Order = refl
told_back HouseOrder = refl
told_back Claims = refl
told_back Cells = refl
told_back (Room n) = refl
told_back (Malformed k) = refl
told_back (Again k) = refl
told_back (Absent k) = refl

pub refusal_only : (r s : Refusal) → number_of r ≡ number_of s → place_of r ≡ place_of s → r ≡ s
refusal_only r s n p = sym (told_back r) ∙ ap₂ told n p ∙ told_back s

-- the answer of what is seen
abbrev pub made : {A : Type 0} → Seen A → Result A Refusal
made (answered a) = Ok a
made (refused n p) = Err (told n p)

seen_made : {A : Type 0} (x : Result A Refusal) → made (seen x) ≡ x
seen_made (Ok a) = refl
seen_made (Err r) = ap Err (told_back r)

pub seen_only : {A : Type 0} (x y : Result A Refusal) → seen x ≡ seen y → x ≡ y
seen_only x y e = sym (seen_made x) ∙ ap made e ∙ seen_made y
