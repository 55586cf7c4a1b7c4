-- Numbers put at the front of a list: one more is copied, and all of them at once. Assumes nothing.
use Prim.Native.Nat.{ℕ, ◌+◌, ◌<◌, ◌≤◌}
use mathlib.Core.Path.{◌≡◌, sym, ap, ◌∙◌}
use mathlib.Core.List.{List, [], ◌∷◌, ◌++◌}
use native.Mathlib.Nat.{zero-add, le_of_lt}
use native.Mathlib.Numerals.{add-one}
use native.Mathlib.Omega.{arith}
use lib.ListN.{length, get_or, take, drop, set}
use lib.Seq.{sets, take-suc, length-take-le}
use Rattle.std.proofs.lemmas.List.Edits.{sets-eq}
use Rattle.hexadecimal.proofs.Writing.{put_put}

pub one_more : (from l m : List ℕ) (i : ℕ) → i < length from → m ≡ sets l 0 (take i from) → set m i (get_or from i 0) ≡ sets l 0 (take (i + 1) from)
one_more from l m i h e =
    let more : take (i + 1) from ≡ take i from ++ (get_or from i 0 ∷ []) = rw add-one (take-suc from i 0 h) in
    put_put i (take i from) (get_or from i 0 ∷ []) l m (set m i (get_or from i 0)) 0 (length-take-le i from (le_of_lt h)) e
    (ap (λ (k : ℕ). set m k (get_or from i 0)) (sym (zero-add i)))
    ∙ ap (λ (x : List ℕ). sets l 0 x) (sym more)

pub sets_front : (n : ℕ) (vs l : List ℕ) → length vs ≡ n → n ≤ length l → sets l 0 vs ≡ vs ++ drop n l
sets_front n vs l e h = rw (zero-add, e) at (sets-eq vs l 0 (omega (arith, e, h)))
