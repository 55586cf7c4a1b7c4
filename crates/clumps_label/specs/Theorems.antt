-- THEOREM (02, No. 13): "give each atom the lowest atom number it can reach through listed pairs. Two atoms get the same number exactly when a chain of
-- listed pairs joins them." Of every list of rows, turned round, repeated or of an atom with itself. proofs/Chains.antt proves it. Definitions only.
use Rattle.std.specs.Prelude.{Result}
use Rattle.answer.specs.declared.Refusal.{Refusal}
use Rattle.std.specs.Prelude.{ℕ, ◌≤◌, ◌<◌, ◌≡◌, List, length, get_or, eqb}
use Rattle.answer.specs.Seen.{answered, seen}
use Rattle.lists.specs.Exact.{◌∈◌}
use Rattle.lists.specs.Lists.{rows, up_to, how_many}

-- a chain of listed pairs from one atom to another, each pair passed in either direction; of no pair from an atom to itself
pub data Chain (l : List (ℕ × ℕ)) : ℕ → ℕ → Type 0 where
  none : {a : ℕ} → Chain l a a
  on : {a b z : ℕ} → (a, b) ∈ l → Chain l b z → Chain l a z
  back : {a b z : ℕ} → (b, a) ∈ l → Chain l b z → Chain l a z

-- the labels of n atoms by the rows of l
pub record Clumped (n : ℕ) (l : List (ℕ × ℕ)) (labels : List ℕ) : Type 0 where
  pub long : length labels ≡ n
  -- an atom's label is an atom that it reaches, and the lowest
  pub reached : (i : ℕ) → i < n → Chain l i (get_or labels i 0)
  pub lowest : (i j : ℕ) → i < n → Chain l i j → get_or labels i 0 ≤ j
  -- two labels are the same exactly when a chain joins the two atoms
  pub chained : (i j : ℕ) → i < n → j < n → get_or labels i 0 ≡ get_or labels j 0 → Chain l i j
  pub same : (i j : ℕ) → i < n → j < n → Chain l i j → get_or labels i 0 ≡ get_or labels j 0

-- after an answered call: the labels are these, and there are as many clumps as atoms that are the lowest of theirs
pub record Labelled (count : ℕ) (l : List (ℕ × ℕ)) (clumps : ℕ) (labels : List ℕ) : Type 0 where
  pub clumped : Clumped count l labels
  pub many : clumps ≡ how_many (λ i. eqb (get_or labels i 0) i) (up_to count)

abbrev pub LabelClumps : ℕ → List ℕ → Result ℕ Refusal → List ℕ → Type 0
LabelClumps count pairs r labels' = (k : ℕ) → seen r ≡ answered k → Labelled count (rows pairs) k labels'
