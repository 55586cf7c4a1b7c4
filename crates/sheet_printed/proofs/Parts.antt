-- Laws of printed lines: how long each is, its parts written one after the other, and one pair more. Assumes nothing.
use Prim.Native.Nat.{ℕ, ◌+◌, ◌*◌, ◌/◌, ◌≤◌, ◌<◌}
use mathlib.Core.Path.{◌≡◌, refl, sym, ap, ◌∙◌}
use mathlib.Core.Bool.{Bool}
use mathlib.Core.List.{List, [], ◌∷◌, ◌++◌, append_assoc, append-nil}
use native.Mathlib.Numerals.{add-one}
use native.Mathlib.Omega.{arith}
use lib.ListN.{length, get_or, set, take, length-append}
use native.Mathlib.Nat.{le_of_lt}
use lib.Seq.{sets, take-suc, take_all, length-take-le}
use Rattle.lists.specs.Lists.{each, rows}
use Rattle.lists.proofs.Rows.{length_rows, rows_at}
use Rattle.hexadecimal.proofs.Writing.{length2, length4, length8, put_put}
use Rattle.sheet_printed.specs.Printed.{count_line, pair_line, refusal_line, pair_lines, built_text}

-- a line of three or of four numbers, and its newline
pub three_parts : (i j k n v : ℕ) (a b d l m₁ m₂ m₃ m₄ : List ℕ)
    → length a ≡ j → length b ≡ k → length d ≡ n → m₁ ≡ sets l i a → m₂ ≡ sets m₁ (i + j) b → m₃ ≡ sets m₂ (i + (j + k)) d → m₄ ≡ set m₃ (i + (j + k + n)) v → m₄ ≡ sets l i (a ++ b ++ d ++ (v ∷ []))
three_parts i j k n v a b d l m₁ m₂ m₃ m₄ e f g p q r s =
    let ef : length (a ++ b) ≡ j + k = length-append a b ∙ (cc) in
    let efg : length (a ++ b ++ d) ≡ j + k + n = length-append (a ++ b) d ∙ (cc) in
    let two : m₂ ≡ sets l i (a ++ b) = put_put j a b l m₁ m₂ i e p q in
    let three : m₃ ≡ sets l i (a ++ b ++ d) = put_put (j + k) (a ++ b) d l m₂ m₃ i ef two r in
    put_put (j + k + n) (a ++ b ++ d) (v ∷ []) l m₃ m₄ i efg three s

pub four_parts : (i j k n o v : ℕ) (a b d x l m₁ m₂ m₃ m₄ m₅ : List ℕ)
    → length a ≡ j → length b ≡ k → length d ≡ n → length x ≡ o → m₁ ≡ sets l i a → m₂ ≡ sets m₁ (i + j) b → m₃ ≡ sets m₂ (i + (j + k)) d → m₄ ≡ sets m₃ (i + (j + k + n)) x
    → m₅ ≡ set m₄ (i + (j + k + n + o)) v → m₅ ≡ sets l i (a ++ b ++ d ++ x ++ (v ∷ []))
four_parts i j k n o v a b d x l m₁ m₂ m₃ m₄ m₅ e f g h p q r s u =
    let ef : length (a ++ b) ≡ j + k = length-append a b ∙ (cc) in
    let efg : length (a ++ b ++ d) ≡ j + k + n = length-append (a ++ b) d ∙ (cc) in
    let efgh : length (a ++ b ++ d ++ x) ≡ j + k + n + o = length-append (a ++ b ++ d) x ∙ (cc) in
    let two : m₂ ≡ sets l i (a ++ b) = put_put j a b l m₁ m₂ i e p q in
    let three : m₃ ≡ sets l i (a ++ b ++ d) = put_put (j + k) (a ++ b) d l m₂ m₃ i ef two r in
    let four : m₄ ≡ sets l i (a ++ b ++ d ++ x) = put_put (j + k + n) (a ++ b ++ d) x l m₃ m₄ i efg three s in
    put_put (j + k + n + o) (a ++ b ++ d ++ x) (v ∷ []) l m₄ m₅ i efgh four u

-- ---- lengths

pub length_refusal : (a b : ℕ) → length (refusal_line a b) ≡ 13
unfolding refusal_line
length_refusal a b = simp (length-append, length2, length8)

pub length_count : (a b : ℕ) (on : Bool) → length (count_line a b on) ≡ 21
unfolding count_line
length_count a b on = simp (length-append, length2, length8)

pub length_pair : (a b : ℕ) → length (pair_line a b) ≡ 11
unfolding pair_line
length_pair a b = simp (length-append, length2, length4)

pub length_pairs : (ps : List (ℕ × ℕ)) → length (pair_lines ps) ≡ 11 * length ps
unfolding pair_lines each
length_pairs [] = refl
length_pairs (p ∷ ps) =
    length-append (pair_line p.0 p.1) (each (λ q. pair_line q.0 q.1) ps)
    ∙ omega (arith, length_pairs ps, length_pair p.0 p.1)

pub length_built : (n a : ℕ) (on : Bool) (ps : List (ℕ × ℕ)) → length (built_text n a on ps) ≡ 21 + 11 * length ps
unfolding built_text
length_built n a on ps = length-append (count_line n a on) (pair_lines ps) ∙ omega (arith, length_count n a on, length_pairs ps)

-- ---- one pair more

pairs_snoc : (ps : List (ℕ × ℕ)) (p : ℕ × ℕ) → pair_lines (ps ++ (p ∷ [])) ≡ pair_lines ps ++ pair_line p.0 p.1
unfolding pair_lines each
pairs_snoc [] p = append-nil (pair_line p.0 p.1)
pairs_snoc (q ∷ ps) p =
    ap (λ (r : List ℕ). pair_line q.0 q.1 ++ r) (pairs_snoc ps p)
    ∙ sym (append_assoc (pair_line q.0 q.1) (each (λ x. pair_line x.0 x.1) ps) (pair_line p.0 p.1))

-- one turn of `put_pairs`
pub one_pair : (ps l m r : List ℕ) (at i a b : ℕ) → i < length ps / 2 → a ≡ get_or ps (2 * i) 0 → b ≡ get_or ps (2 * i + 1) 0 → m ≡ sets l at (pair_lines (take i (rows ps))) → r ≡ sets m (at + 11 * i) (pair_line a b) → r ≡ sets l at (pair_lines (take (i + 1) (rows ps)))
one_pair ps l m r at i a b h p q s t =
    let n : i < length (rows ps) = omega (arith, length_rows ps) in
    let row : get_or (rows ps) i (0, 0) ≡ (a, b) = rows_at ps i h ∙ (ap (λ (x : ℕ). (x, get_or ps (2 * i + 1) 0)) (sym p) ∙ ap (λ (x : ℕ). (a, x)) (sym q)) in
    let more : take (i + 1) (rows ps) ≡ take i (rows ps) ++ ((a, b) ∷ []) = rw add-one (take-suc (rows ps) i (0, 0) n ∙ ap (λ (x : ℕ × ℕ). take i (rows ps) ++ (x ∷ [])) row) in
    let long : length (pair_lines (take i (rows ps))) ≡ 11 * i = length_pairs (take i (rows ps)) ∙ ap (λ (k : ℕ). 11 * k) (length-take-le i (rows ps) (le_of_lt n)) in
    put_put (11 * i) (pair_lines (take i (rows ps))) (pair_line a b) l m r at long s t
    ∙ ap (λ (x : List ℕ). sets l at x) (sym (ap pair_lines more ∙ pairs_snoc (take i (rows ps)) (a, b)))

-- the count line, and the lines of the first n rows, which are as many as the table has of the first `count`
pub built : (ps l m r : List ℕ) (n count checks : ℕ) (on : Bool) → n ≤ length ps / 2 → take n (rows ps) ≡ take count (rows ps)
    → m ≡ sets l 0 (count_line count checks on) → r ≡ sets m 21 (pair_lines (take n (rows ps)))
    → (21 + 11 * n ≡ length (built_text count checks on (take count (rows ps)))) × (r ≡ sets l 0 (built_text count checks on (take count (rows ps))))
unfolding built_text
built ps l m r n count checks on h e p q =
    let long : length (take count (rows ps)) ≡ n = ap length (sym e) ∙ length-take-le n (rows ps) (omega (arith, length_rows ps)) in (
      sym (length_built count checks on (take count (rows ps)) ∙ ap (λ (k : ℕ). 21 + 11 * k) long),
      put_put 21 (count_line count checks on) (pair_lines (take count (rows ps))) l m r 0 (length_count count checks on) p
          (q ∙ ap (λ (x : List (ℕ × ℕ)). sets m 21 (pair_lines x)) e),
    )

-- past the last row there are no more
pub all_rows : (ps : List ℕ) (count : ℕ) → length ps / 2 < count → take (length ps / 2) (rows ps) ≡ take count (rows ps)
all_rows ps count h =
    take_all (length ps / 2) (rows ps) (omega (arith, length_rows ps)) ∙ sym (take_all count (rows ps) (omega (arith, length_rows ps)))
