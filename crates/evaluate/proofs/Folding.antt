-- One term after the other is the fold over the contributions. Assumes nothing.
use mathlib.Core.Path.{◌≡◌, refl, ap, ◌∙◌}
use mathlib.Core.List.{List, [], ◌∷◌, ◌++◌, foldl-append}
use Prim.Native.Nat.{ℕ, suc}
use lib.Ieee.{Float}
use lib.ListN.{length}
use Rattle.lists.specs.Loops.{map_from}
use Rattle.float.specs.Arith.{◌⊕◌}
use Rattle.float.specs.Literals.{f0}
use Rattle.virial.specs.declared.Sum.{Sum}
use Rattle.virial.specs.Virial.{zero_sum, zero_forces, merged_sum, merged_forces}
use Rattle.virial.proofs.Forces.{merged_length, zeros_length}
use Rattle.potentials_pair.specs.Pull.{Total, held}
use Rattle.potentials.specs.Terms.{zero_total}
use Rattle.evaluate.specs.Terms.{merged, merged_into, merged_all}

pub merged_by : (sum own : Sum) (forces added : List Float) {r : Sum} {after : List Float} → after ≡ merged_forces forces added → r ≡ merged_sum sum own → held r after ≡ merged (held sum forces) (held own added)
unfolding merged
merged_by sum own forces added f s = rw (f, s)

-- a present term's one contribution
pub merged_one : (t : Total) {own u r : Total} → own ≡ u → r ≡ merged t own → r ≡ merged_into t (u ∷ [])
unfolding merged_into
merged_one t e h = rw (← e) h

pub merged_none : (t : Total) → t ≡ merged_into t []
unfolding merged_into
merged_none t = refl

-- ---- two terms by one walk

-- what a turn of `onto_zero` stores at k
abbrev pub onto_zero : ℕ → Float → Float
onto_zero k x = f0 ⊕ x

pub onto_zeros : (n : ℕ) (l : List Float) → map_from onto_zero n l ≡ merged_forces (zero_forces (length l)) l
unfolding map_from zero_forces merged_forces
onto_zeros n [] = refl
onto_zeros n (x ∷ l) = ap (λ (r : List Float). (f0 ⊕ x) ∷ r) (onto_zeros (suc n) l)

-- the first one's own forces lie where the merged ones do
pub merged_at_once : (sum lj coulomb : Sum) (room : ℕ) (forces scratch : List Float) {u v : Total} → held lj forces ≡ u → held coulomb scratch ≡ v → length forces ≡ room
    → {after : List Float} → after ≡ merged_forces (zero_forces (length forces)) forces → {s : Sum} → s ≡ merged_sum sum lj → {r : Total} → r ≡ merged (held s after) (held coulomb scratch)
    → r ≡ merged (merged (held sum (zero_forces room)) u) v
merged_at_once sum lj coulomb room forces scratch eu ev n ef es er =
    rw (← eu, ← ev)
    (er ∙ ap (λ (t : Total). merged t (held coulomb scratch)) (merged_by sum lj (zero_forces room) forces (ef ∙ ap (λ (k : ℕ). merged_forces (zero_forces k) forces) n) es))

pub merged_both : (t u v : Total) {r : Total} → r ≡ merged (merged t u) v → r ≡ merged_into (merged_into t (u ∷ [])) (v ∷ [])
unfolding merged_into
merged_both t u v h = h

-- two terms into zero forces
pub merged_two : (sum : Sum) (room : ℕ) (a b : List Total) {forces : List Float} → forces ≡ zero_forces room → {w x : Total} → w ≡ merged_into (held sum forces) a → x ≡ merged_into w b
    → x ≡ merged_into (merged_into (held sum (zero_forces room)) a) b
merged_two sum room a b f p q = rw (← f, ← p) q

joined : (t : Total) (a b : List Total) → merged_into t (a ++ b) ≡ merged_into (merged_into t a) b
unfolding merged_into
joined t a b = foldl-append merged t a b

-- four terms, from zero
pub merged_four : (room : ℕ) (a b c d : List Total) {sum : Sum} {forces : List Float} → forces ≡ zero_forces room → sum ≡ zero_sum → {w x y z : Total}
    → w ≡ merged_into (held sum forces) a → x ≡ merged_into w b → y ≡ merged_into x c → z ≡ merged_into y d → z ≡ merged_all room (a ++ (b ++ (c ++ d)))
unfolding merged_all zero_total
merged_four room a b c d f s p q r t =
    rw (
      joined (held zero_sum (zero_forces room)) a (b ++ (c ++ d)),
      joined (merged_into (held zero_sum (zero_forces room)) a) b (c ++ d),
      joined (merged_into (merged_into (held zero_sum (zero_forces room)) a) b) c d,
      ← f,
      ← s,
      ← p,
      ← q,
      ← r,
    )
    t

-- a sum has as many forces as it began with
into_length : (t : Total) (l : List Total) → length (merged_into t l).forces ≡ length t.forces
unfolding merged_into merged
into_length t [] = refl
into_length t (x ∷ l) = into_length (merged t x) l ∙ merged_length t.forces x.forces

pub merged_room : (room : ℕ) (l : List Total) → length (merged_all room l).forces ≡ room
unfolding merged_all zero_total
merged_room room l = into_length (held zero_sum (zero_forces room)) l ∙ zeros_length room
