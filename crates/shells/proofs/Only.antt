-- No second answer and no second memory fits the contract of `add_shells`. Assumes nothing.
use Rattle.std.specs.Prelude.{Err, Ok, Result}
use Prim.Native.Nat.{ℕ}
use mathlib.Core.Path.{◌≡◌, refl, sym, ap, ◌∙◌}
use mathlib.Core.Bool.{cond}
use mathlib.Core.List.{List}
use lib.Dec.{eqb}
use Rattle.answer.specs.declared.Refusal.{Refusal}
use Rattle.answer.specs.declared.Refusal.TheVariants.{Lengths, TooMany, Range, Drifted, NotThere, Order, HouseOrder, Claims, Cells, Room, Malformed, Again, Absent}
use Rattle.answer.specs.Seen.{Seen, answered, refused, number_of, place_of}
use Rattle.answer.proofs.Only.{told, told_back}
use Rattle.frame.specs.declared.Built.{Built}
use Rattle.shells.specs.declared.CountError.{CountError}
use Rattle.shells.specs.declared.CountError.TheVariants.{Refused, Full}
use Rattle.shells.specs.Shells.{Adding, Tallied, seen_counted, AddShellsSays}

-- the answer made again from what is seen of it
abbrev again : Seen Built → Result Built CountError
again (answered c) = Ok c
again (refused n p) = Err (cond (eqb n 13) Full (Refused (told n p)))

no_other : (r : Refusal) → again (refused (number_of r) (place_of r)) ≡ Err (Refused (told (number_of r) (place_of r)))
no_other Lengths = refl
no_other (TooMany n) = refl
no_other Range = refl
no_other Drifted = refl
no_other (NotThere k) = refl
no_other Order = refl
no_other HouseOrder = refl
no_other Claims = refl
no_other Cells = refl
no_other (Room n) = refl
no_other (Malformed k) = refl
no_other (Again k) = refl
no_other (Absent k) = refl

counted_again : (x : Result Built CountError) → again (seen_counted x) ≡ x
counted_again (Ok c) = refl
counted_again (Err (Refused r)) = no_other r ∙ ap (λ (why : Refusal). Err (Refused why)) (told_back r)
counted_again (Err Full) = refl

pub counted_only : (x y : Result Built CountError) → seen_counted x ≡ seen_counted y → x ≡ y
counted_only x y e = sym (counted_again x) ∙ ap again e ∙ counted_again y

module _ (j : Adding) (r r' : Result Built CountError) (totals totals' pairs pairs' starts starts' items items' : List ℕ) (h : AddShellsSays j r totals pairs starts items) (k : AddShellsSays j r' totals' pairs' starts' items') where
  abbrev first : Tallied
  first = record { answer = seen_counted r; totals = totals; pairs = pairs; starts = starts; items = items }

  abbrev second : Tallied
  second = record { answer = seen_counted r'; totals = totals'; pairs = pairs'; starts = starts'; items = items' }

  same : first ≡ second
  same = h ∙ sym k

  pub add_shells_only : (r ≡ r') × (totals ≡ totals') × (pairs ≡ pairs') × (starts ≡ starts') × (items ≡ items')
  add_shells_only = (
    counted_only r r' (ap (λ (t : Tallied). t.answer) same),
    ap (λ (t : Tallied). t.totals) same,
    ap (λ (t : Tallied). t.pairs) same,
    ap (λ (t : Tallied). t.starts) same,
    ap (λ (t : Tallied). t.items) same,
  )
