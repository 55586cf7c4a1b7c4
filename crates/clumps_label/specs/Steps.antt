-- What the private functions say of themselves: while the rows are read, the lent labels are a forest, in which each atom points at itself, a root,
-- or at a lower one. Nobody has to believe it.
use Rattle.std.specs.Prelude.{ℕ, ◌≤◌, ◌<◌, ◌≡◌, cond, List, length, get_or, set, eqb}
use Rattle.lists.specs.Lists.{up_to, how_many}

-- no atom points at a higher one
pub record Falling (p : List ℕ) : Type 0 where
  pub down : (j : ℕ) → get_or p j 0 ≤ j

-- the forest p is one of the labels f: along it the label stays, and a root is its own
pub record Forest (f : ℕ → ℕ) (p : List ℕ) : Type 0 where
  pub same : (j : ℕ) → j < length p → f (get_or p j 0) ≡ f j
  pub own : (j : ℕ) → j < length p → get_or p j 0 ≡ j → f j ≡ j

-- what makes q of p: a forest of labels f becomes one of labels g f
pub record Moved (g : (ℕ → ℕ) → ℕ → ℕ) (p q : List ℕ) : Type 0 where
  pub long : length q ≡ length p
  pub falls : Falling q
  pub forest : (f : ℕ → ℕ) → Forest f p → Forest (g f) q

-- an atom r on the path down from i, which is cut short behind it
pub record Climbed (p : List ℕ) (i r : ℕ) (q : List ℕ) : Type 0 where
  pub moved : Moved (λ f. f) p q
  pub least : r ≤ i
  pub label : (f : ℕ → ℕ) → Forest f p → f r ≡ f i

-- and the root at its end
pub record Found (p : List ℕ) (i r : ℕ) (q : List ℕ) : Type 0 where
  pub climbed : Climbed p i r q
  pub root : get_or q r 0 ≡ r

-- two atoms of the forest
pub record Rooted (p : List ℕ) (a b : ℕ) : Type 0 where
  pub falls : Falling p
  pub left : a < length p
  pub right : b < length p

-- atom i points where the one below it did; 1 where that is itself
pub record Step (p : List ℕ) (i r : ℕ) (q : List ℕ) : Type 0 where
  pub stored : q ≡ set p i (get_or p (get_or p i 0) 0)
  pub counted : r ≡ cond (eqb (get_or p i 0) i) 1 0

-- the first k atoms point at their labels, and `count` of them at themselves
pub record Settled (p : List ℕ) (k count : ℕ) (q : List ℕ) : Type 0 where
  pub moved : Moved (λ f. f) p q
  pub few : count ≤ k
  pub done : (f : ℕ → ℕ) → Forest f p → (j : ℕ) → j < k → get_or q j 0 ≡ f j
  pub roots : (f : ℕ → ℕ) → Forest f p → count ≡ how_many (λ j. eqb (f j) j) (up_to k)
