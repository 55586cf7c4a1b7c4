-- A row of a desk's own table changes the numbers of its own species alone, and is gone when it is taken out. Assumes nothing.
use mathlib.Core.Path.{◌≡◌, refl, sym, ap, ap₂, ◌∙◌}
use mathlib.Core.Logic.{⊎_elim}
use mathlib.Core.Bool.{cond}
use mathlib.Core.List.{List, [], ◌∷◌}
use Prim.Native.Nat.{ℕ, zero, suc, ◌*◌, ◌/◌, ◌<◌, ◌≤◌}
use native.Mathlib.Omega.{arith}
use borrow.Author.Tests.{lt-ltb, le-ltb, ne_eqb}
use lib.Dec.{eqb, ltb}
use lib.Ieee.{Float}
use lib.ListN.{length}
use Rattle.lists.specs.Lists.{first_where}
use Rattle.lists.proofs.Cases.{by_test, below_or}
use Rattle.potentials_pair.specs.Species.{Tables, or_else, numbers_in, params_at, row_in, row_of, look_of}
use Rattle.potentials_pair.specs.Desks.{put_at, taken_at, OthersStay, TakenOut, HouseRow}

-- ---- the row after the first
half_next : (n : ℕ) → suc (suc n) / 2 ≡ suc (n / 2)
half_next n = omega arith

below_next : (f m : ℕ) → ltb (suc f) (suc m) ≡ ltb f m
below_next f m =
    ⊎_elim (λ (h : f < m). lt-ltb (suc f) (suc m) (omega arith) ∙ sym (lt-ltb f m h)) (λ (h : m ≤ f). le-ltb (suc f) (suc m) (omega arith) ∙ sym (le-ltb f m h)) (below_or f m)

two_next : (f : ℕ) → 2 * suc f ≡ suc (suc (2 * f))
two_next f = omega arith

row_next : (x y : Float) (l : List Float) (f : ℕ) → params_at (x ∷ (y ∷ l)) (suc f) ≡ params_at l f
unfolding params_at
row_next x y l f = rw (half_next (length l), two_next f, below_next f (length l / 2))

row_first : (x y : Float) (l : List Float) → params_at (x ∷ (y ∷ l)) 0 ≡ x ∷ (y ∷ [])
unfolding params_at
row_first x y l = rw (half_next (length l), lt-ltb 0 (suc (length l / 2)) (omega arith))

-- the lookup, one row at a time
row_step : (a : ℕ) (ids : List ℕ) (x y : Float) (l : List Float) (z : ℕ) → row_in (a ∷ ids) (x ∷ (y ∷ l)) z ≡ cond (eqb a z) (x ∷ (y ∷ [])) (row_in ids l z)
unfolding row_in first_where
row_step a ids x y l z =
    by_test
    (λ t. cond (ltb (cond t 0 (suc (first_where (λ id. eqb id z) ids))) (suc (length ids))) (params_at (x ∷ (y ∷ l)) (cond t 0 (suc (first_where (λ id. eqb id z) ids)))) []
    ≡ cond t (x ∷ (y ∷ [])) (cond (ltb (first_where (λ id. eqb id z) ids) (length ids)) (params_at l (first_where (λ id. eqb id z) ids)) []))
    (eqb a z)
    (λ _. rw (lt-ltb 0 (suc (length ids)) (omega arith)) (row_first x y l))
    (λ _. rw (below_next (first_where (λ id. eqb id z) ids) (length ids), row_next x y l (first_where (λ id. eqb id z) ids)))

-- ---- one more row
put_two : (k : ℕ) (e g x y : Float) (l : List Float) → put_at (2 * suc k) e (put_at (2 * suc k) g (x ∷ (y ∷ l))) ≡ x ∷ (y ∷ put_at (2 * k) e (put_at (2 * k) g l))
put_two k e g x y l = rw (two_next k)

others : (k s : ℕ) (e g : Float) (z : ℕ) → (z ≡ s → ⊥) → (ids : List ℕ) (l : List Float) → k ≤ length ids → length l ≡ 2 * length ids
    → row_in (put_at k s ids) (put_at (2 * k) e (put_at (2 * k) g l)) z ≡ row_in ids l z
others zero s e g z n ids l h r = row_step s ids e g l z ∙ rw (ne_eqb s z (λ q. n (sym q)))
others (suc k) s e g z n [] l h r = absurd (omega arith)
others (suc k) s e g z n (a ∷ ids) [] h r = absurd (omega arith)
others (suc k) s e g z n (a ∷ ids) (x ∷ []) h r = absurd (omega arith)
others (suc k) s e g z n (a ∷ ids) (x ∷ (y ∷ l)) h r =
    ap (λ (m : List Float). row_in (a ∷ put_at k s ids) m z) (put_two k e g x y l)
    ∙ row_step a (put_at k s ids) x y (put_at (2 * k) e (put_at (2 * k) g l)) z
    ∙ ap (λ (m : List Float). cond (eqb a z) (x ∷ (y ∷ [])) m) (others k s e g z n ids l (omega arith) (omega arith))
    ∙ sym (row_step a ids x y l z)

pub others_stay : (k s : ℕ) (epsilon sigma : Float) (t : Tables) → OthersStay k s epsilon sigma t
unfolding look_of row_of
others_stay k s epsilon sigma t p lj z n =
    ap (λ (row : List Float). numbers_in (or_else row (row_in t.ids t.params z)) lj) (others k s epsilon sigma z n t.own_ids t.own_params p.ids p.rows)

-- ---- taken out again
taken : {A : Type 0} (k : ℕ) (a : A) (l : List A) → k ≤ length l → taken_at k (put_at k a l) ≡ l
taken zero a l h = refl
taken (suc k) a [] h = absurd (omega arith)
taken {A} (suc k) a (b ∷ l) h = ap (λ (m : List A). b ∷ m) (taken k a l (omega arith))

put_length : {A : Type 0} (k : ℕ) (a : A) (l : List A) → k ≤ length l → length (put_at k a l) ≡ suc (length l)
put_length zero a l h = refl
put_length (suc k) a [] h = absurd (omega arith)
put_length (suc k) a (b ∷ l) h = ap suc (put_length k a l (omega arith))

pub taken_out : (k s : ℕ) (epsilon sigma : Float) (t : Tables) → TakenOut k s epsilon sigma t
taken_out k s epsilon sigma t p =
    let h = p.ids in
    let r = p.rows in
    let one = taken k s t.own_ids h in
    let inner = taken (2 * k) sigma t.own_params (omega arith) in
    let outer = taken (2 * k) epsilon (put_at (2 * k) sigma t.own_params) (omega (arith, put_length (2 * k) sigma t.own_params (omega arith))) in
    ap₂ (λ (ids : List ℕ) (params : List Float). record { own_ids = ids; own_params = params; ids = t.ids; params = t.params }) one
    (ap (taken_at (2 * k)) outer ∙ inner)

-- ---- the house's row
pub house_row : (t : Tables) (z : ℕ) → HouseRow t z
unfolding row_of
house_row t z e = rw e
