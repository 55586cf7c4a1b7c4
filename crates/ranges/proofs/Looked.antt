-- A walk that looks at every element: what it has found and what is left decide. Assumes nothing.
use Prim.Native.Nat.{ℕ, suc, ◌+◌, ◌/◌, ◌≤◌, ◌<◌}
use mathlib.Core.Path.{◌≡◌, refl, sym, ap, ◌∙◌}
use mathlib.Core.Bool.{Bool, true, false, ◌&&◌}
use mathlib.Core.List.{List, [], ◌∷◌}
use lib.ListN.{length, get_or, drop}
use lib.Dec.{ltb}
use Rattle.lists.specs.Lists.{every, first_where, rows}
use Rattle.lists.proofs.Cases.{and_both}
use Rattle.lists.proofs.Rows.{length_rows}
use Rattle.ranges.specs.Rows.{absent_of, is_below, ThereSays}
use Rattle.lists.proofs.Walks.{drop_next, drop_past}

regrouped : (a b c : Bool) → (a && (b && c)) ≡ ((a && b) && c)
regrouped true b c = refl
regrouped false b c = refl

with_true : (a : Bool) → (a && true) ≡ a
with_true true = refl
with_true false = refl

module _ {A : Type 0} (d : A) (p : A → Bool) (l : List A) (i : ℕ) (ok : Bool) where
  pub all_next : (b : Bool) → i < length l → b ≡ p (get_or l i d) → (ok && every p (drop i l)) ≡ ((ok && b) && every p (drop (i + 1) l))
  unfolding every
  all_next b h e = rw (drop_next d l i h, ← e) (regrouped ok b (every p (drop (i + 1) l)))

  pub all_past : length l ≤ i → (ok && every p (drop i l)) ≡ ok
  unfolding every
  all_past h = rw (drop_past l i h) (with_true ok)

-- ---- every number of a table is below n: so no row names an atom that is not there
pub none_absent : (n : ℕ) (t : List ℕ) → every (is_below n) t ≡ true → absent_of n (rows t) ≡ length (rows t)
unfolding every absent_of rows first_where
none_absent n [] h = refl
none_absent n (a ∷ []) h = refl
none_absent n (a ∷ b ∷ t) h =
    let p = and_both (ltb a n) (ltb b n && every (is_below n) t) h in
    let q = and_both (ltb b n) (every (is_below n) t) p.1 in
    rw (p.0, q.0) (ap suc (none_absent n t q.1))

pub absent_past : {t : List ℕ} {n : ℕ} {r : Bool} → ThereSays t n r → r ≡ true → length t / 2 ≡ absent_of n (rows t)
absent_past {t} {n} w e = sym (none_absent n t (w.all e) ∙ length_rows t)
