-- The rule of the table of starting roots: one test that antt computes over the whole table, and what it says of each entry. Assumes nothing.
use Rattle.std.proofs.Common.{◌≡◌, ℕ, zero, suc, ◌+◌, ◌-◌, ◌*◌, ◌<◌, ◌≤◌, Bool, true, false, T, ltb, leb, List, [], ◌∷◌, length, get_or, sym, ◌∙◌, subst, le_of_suc-le-suc, not-suc-le-zero, add-zero, add-suc, suc-add, arith, ltb→lt, leb→le}
use Rattle.float.specs.Steps.{Within, Ruled}

abbrev pub both : Bool → Bool → Bool
both true b = b
both false b = false

both_left : (a b : Bool) → T (both a b) → T a
both_left true b t = tt
both_left false b t = t

both_right : (a b : Bool) → T (both a b) → T b
both_right true b t = t
both_right false b t = absurd t

-- the entry e of m
abbrev pub rule : ℕ → ℕ → Bool
rule m e = both (leb (e * e) (65536 * m)) (ltb (65536 * m) ((e + 1) * (e + 1)))

-- every entry of the list, the first of them m's
abbrev pub ruled : ℕ → List ℕ → Bool
ruled m [] = true
ruled m (e ∷ es) = both (rule m e) (ruled (suc m) es)

from : (es : List ℕ) (m : ℕ) → T (ruled m es) → (k : ℕ) → k < length es → T (rule (m + k) (get_or es k 0))
from [] m t k h = absurd (not-suc-le-zero h)
from (e ∷ es) m t zero h = subst (λ (n : ℕ). T (rule n e)) (sym (add-zero m)) (both_left (rule m e) (ruled (suc m) es) t)
from (e ∷ es) m t (suc k) h =
    subst (λ (n : ℕ). T (rule n (get_or es k 0))) (suc-add m k ∙ sym (add-suc m k))
    (from es (suc m) (both_right (rule m e) (ruled (suc m) es) t) k (le_of_suc-le-suc h))

-- the test passed by 768 entries is the rule
pub keeps_rule : (es : List ℕ) → T (ruled 256 es) → length es ≡ 768 → Ruled es
keeps_rule es t n = record { at = λ m lo hi. entry_of m (get_or es (m - 256) 0) (subst (λ (z : ℕ). T (rule z (get_or es (m - 256) 0))) (back m lo) (from es 256 t (m - 256) (inside m (length es) n lo hi))) }
  where
    back : (m : ℕ) → 256 ≤ m → 256 + (m - 256) ≡ m
    back m h = omega arith

    inside : (m n : ℕ) → n ≡ 768 → 256 ≤ m → m < 1024 → m - 256 < n
    inside m n e lo hi = omega arith

    entry_of : (m e : ℕ) → T (rule m e) → Within (65536 * m) e 1
    entry_of m e r =
        let a = leb (e * e) (65536 * m) in
        let b = ltb (65536 * m) ((e + 1) * (e + 1)) in
        record { low = leb→le (e * e) (65536 * m) (both_left a b r); high = ltb→lt (65536 * m) ((e + 1) * (e + 1)) (both_right a b r) }
