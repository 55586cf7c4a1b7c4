-- Where the first place that passes a test is past the end, no element does. Assumes nothing.
use Prim.Native.Nat.{ℕ, zero, suc, ◌<◌}
use native.Mathlib.Omega.{arith}
use mathlib.Core.Path.{◌≡◌, refl, ap, ◌∙◌}
use mathlib.Core.Logic.{⊎_elim}
use mathlib.Core.Bool.{Bool, false, cond}
use mathlib.Core.List.Memᴰ
use mathlib.Core.List.{List, [], ◌∷◌, foldl}
use lib.Dec.{ltb}
use lib.ListN.{length, get_or}
use borrow.Author.Tests.{le-ltb, ltb-false}
use Rattle.lists.specs.Exact.{◌∈◌}
use Rattle.lists.specs.Lists.{first_where}
use Rattle.lists.proofs.Cases.{by_test}

head_fails : {A : Type 0} (q : A → Bool) (a : A) (l : List A) → ltb (first_where q (a ∷ l)) (suc (length l)) ≡ false → (q a ≡ false) × (ltb (first_where q l) (length l) ≡ false)
unfolding first_where
head_fails q a l =
    by_test (λ t. ltb (cond t 0 (suc (first_where q l))) (suc (length l)) ≡ false → (t ≡ false) × (ltb (first_where q l) (length l) ≡ false)) (q a)
    (λ _ f. absurd (omega (arith, ltb-false 0 (suc (length l)) f)))
    (λ _ f. (refl, le-ltb (first_where q l) (length l) (omega (arith, ltb-false (suc (first_where q l)) (suc (length l)) f))))

-- by place
pub none_there : {A : Type 0} (d : A) (q : A → Bool) (l : List A) → ltb (first_where q l) (length l) ≡ false → (k : ℕ) → k < length l → q (get_or l k d) ≡ false
none_there d q [] h k s = absurd (omega arith)
none_there d q (a ∷ l) h zero s = (head_fails q a l h).0
none_there d q (a ∷ l) h (suc k) s = none_there d q l (head_fails q a l h).1 k (omega arith)

-- by membership
pub none_passes : {A : Type 0} (q : A → Bool) (l : List A) → ltb (first_where q l) (length l) ≡ false → (a : A) → a ∈ l → q a ≡ false
none_passes q [] h a m = absurd (Memᴰ.not-nil m)
none_passes q (b ∷ l) h a m = ⊎_elim (λ e. ap q e ∙ (head_fails q b l h).0) (λ t. none_passes q l (head_fails q b l h).1 a t) (Memᴰ.cases_cons m)

-- the other way round
pub first_past : {A : Type 0} (q : A → Bool) (l : List A) → ((a : A) → a ∈ l → q a ≡ false) → first_where q l ≡ length l
unfolding first_where
first_past q [] h = refl
first_past q (a ∷ l) h = rw (h a (Memᴰ.head refl)) (ap suc (first_past q l (λ b m. h b (Memᴰ.tail m))))

-- loops that do the same with each element
pub fold_same : {A B : Type 0} (f g : B → A → B) (l : List A) → ((a : A) → a ∈ l → (t : B) → f t a ≡ g t a) → (t : B) → foldl f t l ≡ foldl g t l
fold_same f g [] h t = refl
fold_same {A} {B} f g (a ∷ l) h t = ap (λ (u : B). foldl f u l) (h a (Memᴰ.head refl) t) ∙ fold_same f g l (λ b m. h b (Memᴰ.tail m)) (g t a)
