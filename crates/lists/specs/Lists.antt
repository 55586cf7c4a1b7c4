-- Lists of numbers and of pairs, and tests of lists. Definitions only.
use Rattle.std.specs.Prelude.{Bool, true, false, cond, ◌&&◌, ◌||◌, List, [], ◌∷◌, ◌++◌, map, ℕ, zero, suc, ◌+◌, ◌<◌, min, max}

-- from, from + 1, .., `count` of them. (By its first number, so that a loop that counts up takes them off the front.)
unfoldable pub numbers : ℕ → ℕ → List ℕ
numbers from zero = []
numbers from (suc count) = from ∷ numbers (from + 1) count

-- 0, 1, .., n - 1
abbrev pub up_to : ℕ → List ℕ
up_to n = numbers 0 n

-- f of each element, one after the other
unfoldable pub each : {A B : Type 0} → (A → List B) → List A → List B
each f [] = []
each f (a ∷ l) = f a ++ each f l

-- those elements that pass the test
unfoldable pub keep : {A : Type 0} → (A → Bool) → List A → List A
keep q [] = []
keep q (a ∷ l) = cond (q a) (a ∷ keep q l) (keep q l)

-- how many elements pass the test
unfoldable pub how_many : {A : Type 0} → (A → Bool) → List A → ℕ
how_many q [] = 0
how_many q (a ∷ l) = cond (q a) (suc (how_many q l)) (how_many q l)

-- each element passes the test
unfoldable pub every : {A : Type 0} → (A → Bool) → List A → Bool
every q [] = true
every q (a ∷ l) = q a && every q l

-- some element passes the test
unfoldable pub some : {A : Type 0} → (A → Bool) → List A → Bool
some q [] = false
some q (a ∷ l) = q a || some q l

-- the first place whose element passes the test, or the list's length
unfoldable pub first_where : {A : Type 0} → (A → Bool) → List A → ℕ
first_where q [] = 0
first_where q (a ∷ l) = cond (q a) 0 (suc (first_where q l))

-- ---- pairs of numbers. They are put in order where they are made, low before high, so that a list of them says what is stored.

-- low, high
unfoldable pub ordered : ℕ → ℕ → ℕ × ℕ
ordered i j = (min i j, max i j)

-- i with each of a list, in its order
unfoldable pub with_each : ℕ → List ℕ → List (ℕ × ℕ)
unfolding ordered
with_each i l = map (ordered i) l

-- each element with each later one
unfoldable pub inside : List ℕ → List (ℕ × ℕ)
unfolding with_each
inside [] = []
inside (i ∷ l) = with_each i l ++ inside l

-- each of the first with each of the second
unfoldable pub across : List ℕ → List ℕ → List (ℕ × ℕ)
unfolding with_each each
across is js = each (λ i. with_each i js) is

-- every two numbers below n: i, then j, rising
abbrev pub all_pairs : ℕ → List (ℕ × ℕ)
all_pairs n = inside (up_to n)

-- p is two numbers below n, low before high
abbrev pub Two : ℕ → ℕ × ℕ → Type 0
Two n p = (p.0 < p.1) × (p.1 < n)

-- pairs as two numbers a row, and the rows of a list of numbers; half a row at the end is none
unfoldable pub flat : List (ℕ × ℕ) → List ℕ
flat [] = []
flat (p ∷ ps) = p.0 ∷ p.1 ∷ flat ps

unfoldable pub rows : List ℕ → List (ℕ × ℕ)
rows [] = []
rows (a ∷ []) = []
rows (a ∷ b ∷ l) = (a, b) ∷ rows l
