-- The law of `told`: words put behind words are the words of both.
use Rattle.std.proofs.Common.{ℕ, zero, suc, ◌≡◌, ◌-◌, List, [], ◌∷◌, ◌++◌, length, take, sym, ◌∙◌, ap, arith, append_assoc, length-append}
use Rattle.std.proofs.lemmas.List.{length-take}
use Rattle.std.proofs.lemmas.Grind.{common_steps}
use Rattle.replay_words.specs.Told.{told}

take_both : (n : ℕ) (xs ys : List ℕ) → take n (xs ++ ys) ≡ take n xs ++ take (n - length xs) ys
take_both n [] ys = grind (arith, common_steps)
take_both zero (x ∷ xs) ys = grind (arith, common_steps)
take_both (suc n) (x ∷ xs) ys = grind (arith, common_steps, take_both n xs ys)

left : (n : ℕ) (before xs : List ℕ) → n - length (before ++ take (n - length before) xs) ≡ n - length before - length xs
left n before xs = omega (arith, length-append before (take (n - length before) xs), length-take (n - length before) xs)

pub told_told : (before xs ys : List ℕ) → told (told before xs) ys ≡ told before (xs ++ ys)
told_told before xs ys =
    ap (λ n. before ++ take (8208 - length before) xs ++ take n ys) (left 8208 before xs)
    ∙ append_assoc before (take (8208 - length before) xs) (take (8208 - length before - length xs) ys)
    ∙ ap (λ ws. before ++ ws) (sym (take_both (8208 - length before) xs ys))
