-- What a loop computes: a fold over the numbers below n, a list each of whose elements is changed by its place, a search by halving. Definitions only.
use Rattle.std.specs.Prelude.{List, [], ◌∷◌, Bool, cond, ltb, ℕ, zero, suc, ◌+◌, ◌-◌, ◌/◌}

-- a, then f at 0, 1, .., k - 1
unfoldable pub fold_up_to : {A : Type 0} → (ℕ → A → A) → ℕ → A → A
fold_up_to f zero a = a
fold_up_to f (suc k) a = f k (fold_up_to f k a)

-- element k of the list becomes g k of it; n is the place of the first
unfoldable pub map_from : {A : Type 0} → (ℕ → A → A) → ℕ → List A → List A
map_from g n [] = []
map_from g n (a ∷ l) = g n a ∷ map_from g (suc n) l

abbrev pub map_at : {A : Type 0} → (ℕ → A → A) → List A → List A
map_at g l = map_from g 0 l

-- so far the first k only
unfoldable pub part_from : {A : Type 0} → (ℕ → A → A) → ℕ → ℕ → List A → List A
part_from g n zero l = l
part_from g n (suc k) [] = []
part_from g n (suc k) (a ∷ l) = g n a ∷ part_from g (suc n) k l

abbrev pub part_at : {A : Type 0} → (ℕ → A → A) → ℕ → List A → List A
part_at g k l = part_from g 0 k l

-- between two numbers, the lower half's
abbrev pub middle : ℕ → ℕ → ℕ
middle from to = from + (to - from) / 2

-- what a search by halving finds in `from` up to `to`, where the test holds up to some place and not from there on: that place.
-- `fuel` bounds the turns; `to - from` of them are enough
unfoldable pub halved : (ℕ → Bool) → ℕ → ℕ → ℕ → ℕ
halved q zero from to = from
halved q (suc fuel) from to =
    cond (ltb from to)
    (cond (q (middle from to)) (halved q fuel (middle from to + 1) to) (halved q fuel from (middle from to)))
    from
