-- A whole line reads the same whatever stands after it, so the lines up to the first malformed one do not depend on what follows. Assumes nothing.
use Rattle.std.specs.Prelude.{None, Option, Some}
use Prim.Native.Nat.{ℕ, zero, suc, ◌+◌, ◌≤◌, ◌<◌, ◌^◌}
use mathlib.Core.Path.{◌≡◌, refl, sym, ap, ◌∙◌}
use mathlib.Core.Bool.{Bool, true, false, cond}
use mathlib.Core.List.{List, [], ◌∷◌, ◌++◌, append_assoc}
use native.Mathlib.Nat.{add-zero}
use native.Mathlib.Numerals.{add-one}
use native.Mathlib.Omega.{arith}
use lib.ListN.{length, drop, length-append}
use lib.Seq.{drop-cons, drop-append-add}
use lib.Dec.{ltb, eqb}
use borrow.Author.Tests.{lt-ltb, le-ltb}
use Rattle.hexadecimal.specs.Digits.{byte_at, hex2, hex4, hex8}
use Rattle.hexadecimal.specs.Glyphs.{Stands}
use Rattle.hexadecimal.proofs.Reading.{stands_split}
use Rattle.sheet_lines.specs.Reading.{three_at, header_of, atom_of, exclusion_of, line_at, line_width, lines_from}
use Rattle.sheet_lines.specs.Grammar.{line_text, Valid, WellFormed, WholeLine, AllWhole, join_all}
use Rattle.sheet_lines.specs.declared.Line.{Line}
use Rattle.sheet_lines.specs.declared.Line.TheVariants.{Header, Atom, Exclusion, Malformed, End}
use Rattle.sheet_lines.proofs.GrammarLaws.{line_text_lem, text_line, length_text}
use Rattle.sheet_lines.proofs.AnyForm.{stands_self, unsplit}
use Rattle.sheet_lines.proofs.Texts.{sound_good, line_ends, whole_text}

-- bytes that stand at a place are what is there
stands_drop : (xs s : List ℕ) (at : ℕ) → Stands s at xs → at + length xs ≤ length s → drop at s ≡ xs ++ drop (at + length xs) s
stands_drop [] s at k h = ap (λ (j : ℕ). drop j s) (sym (add-zero at))
stands_drop (x ∷ xs) s at k h =
    let here : at < length s = omega arith in
    let e : at + 1 + length xs ≡ at + suc (length xs) = omega arith in
    drop-cons s at 0 here
    ∙ (ap (λ (b : ℕ). b ∷ drop (suc at) s) k.0
    ∙ ap (λ (r : List ℕ). x ∷ r) (rw (← add-one at) (stands_drop xs s (at + 1) k.1 (omega arith) ∙ ap (λ (j : ℕ). xs ++ drop j s) e)))

-- ---- one whole line

module _ (pre c rest : List ℕ) (w : WholeLine c) where
  abbrev here : List ℕ
  here = pre ++ (c ++ rest)

  -- a line that was read is the whole line
  pub read_is : (l : Line) → Valid l → Stands here (length pre) (line_text l) → line_text l ≡ c
  read_is l v k =
      let n = whole_text l v in
      let d : drop (length pre) here ≡ line_text l ++ drop (length pre + length (line_text l)) here = stands_drop (line_text l) here (length pre) k (line_ends here (length pre) l v k) in
      let f : drop (length pre) here ≡ c ++ rest = ap (λ (j : ℕ). drop j here) (sym (add-zero (length pre))) ∙ drop-append-add pre (c ++ rest) 0 in
      let p : line_text l ++ drop (length pre + length (line_text l)) here ≡ n.body ++ (10 ∷ drop (length pre + length (line_text l)) here) =
      ap (λ (x : List ℕ). x ++ drop (length pre + length (line_text l)) here) n.is ∙ append_assoc n.body (10 ∷ []) (drop (length pre + length (line_text l)) here) in
      let q : c ++ rest ≡ w.body ++ (10 ∷ rest) = ap (λ (x : List ℕ). x ++ rest) w.is ∙ append_assoc w.body (10 ∷ []) rest in
      let u = unsplit n.body w.body (drop (length pre + length (line_text l)) here) rest n.unbroken w.unbroken (sym p ∙ (sym d ∙ (f ∙ q))) in
      n.is ∙ (ap (λ (x : List ℕ). x ++ (10 ∷ [])) u.0 ∙ sym w.is)

  stands_here : Stands here (length pre) c
  stands_here = (stands_split here (length pre) c rest (stands_self pre (c ++ rest))).0

  pub reads_as : (l : Line) → Valid l → line_text l ≡ c → line_at here (length pre) ≡ l
  reads_as l v e = line_text_lem here (length pre) l v (rw e stands_here)

  inside : length pre < length here
  inside = omega (arith, length-append pre (c ++ rest), length-append c rest, ap length w.is, length-append w.body (10 ∷ []))

-- within the bytes there is a line, if a malformed one
abbrev AnyLine : Line → Type 0
AnyLine (Header h) = Unit {0}
AnyLine (Atom n x y z) = Unit {0}
AnyLine (Exclusion a b) = Unit {0}
AnyLine Malformed = Unit {0}
AnyLine End = ⊥

any_if : (b : Bool) (x y : Line) → AnyLine x → AnyLine y → AnyLine (cond b x y)
any_if true x y f g = f
any_if false x y f g = g

any_header : (a : ℕ) (t : Option (ℕ × ℕ × ℕ)) (m r z : ℕ) → AnyLine (header_of a t m r z)
unfolding header_of
any_header a None m r z = tt
any_header a (Some (x, y, w)) m r z = any_if (ltb a (2 ^ 16)) _ _ (any_if (ltb m 8) _ _ (any_if (ltb r (2 ^ 32)) _ _ (any_if (eqb z 10) _ _ tt tt) tt) tt) tt

any_atom : (n : ℕ) (t : Option (ℕ × ℕ × ℕ)) (z : ℕ) → AnyLine (atom_of n t z)
unfolding atom_of
any_atom n None z = tt
any_atom n (Some (x, y, w)) z = any_if (ltb n 1024) _ _ (any_if (eqb z 10) _ _ tt tt) tt

any_exclusion : (a b z : ℕ) → AnyLine (exclusion_of a b z)
unfolding exclusion_of
any_exclusion a b z = any_if (ltb a (2 ^ 16)) _ _ (any_if (ltb b (2 ^ 16)) _ _ (any_if (eqb z 10) _ _ tt tt) tt) tt

any_line : (s : List ℕ) (at : ℕ) → at < length s → AnyLine (line_at s at)
unfolding line_at
any_line s at h =
    simp (lt-ltb at (length s) h)
    (any_if (eqb (hex2 s at) 1) _ _ (any_header (hex4 s (at + 2)) (three_at s (at + 6)) (hex2 s (at + 30)) (hex8 s (at + 32)) (byte_at s (at + 40)))
    (any_if (eqb (hex2 s at) 2) _ _ (any_atom (hex4 s (at + 2)) (three_at s (at + 6)) (byte_at s (at + 30)))
    (any_if (eqb (hex2 s at) 3) _ _ (any_exclusion (hex4 s (at + 2)) (hex4 s (at + 6)) (byte_at s (at + 10))) tt)))

-- a whole line reads the same before any rest
module _ (pre c r t : List ℕ) (w : WholeLine c) where
  same_good : (l : Line) → line_at (here pre c r w) (length pre) ≡ l → WellFormed l → line_at (here pre c r w) (length pre) ≡ line_at (here pre c t w) (length pre)
  same_good l e g =
      let k = sound_good (here pre c r w) (length pre) l g (rw e at (text_line (here pre c r w) (length pre))) in
      e ∙ sym (reads_as pre c t w l k.0 (read_is pre c r w l k.0 k.1))

same_line : (pre c r t : List ℕ) (w : WholeLine c) (l k : Line) → line_at (here pre c r w) (length pre) ≡ l → line_at (here pre c t w) (length pre) ≡ k → AnyLine l → AnyLine k → l ≡ k
same_line pre c r t w (Header h) k e f a b = sym e ∙ (same_good pre c r t w (Header h) e tt ∙ f)
same_line pre c r t w (Atom n x y z) k e f a b = sym e ∙ (same_good pre c r t w (Atom n x y z) e tt ∙ f)
same_line pre c r t w (Exclusion n m) k e f a b = sym e ∙ (same_good pre c r t w (Exclusion n m) e tt ∙ f)
same_line pre c r t w Malformed (Header h) e f a b = sym e ∙ (sym (same_good pre c t r w (Header h) f tt) ∙ f)
same_line pre c r t w Malformed (Atom n x y z) e f a b = sym e ∙ (sym (same_good pre c t r w (Atom n x y z) f tt) ∙ f)
same_line pre c r t w Malformed (Exclusion n m) e f a b = sym e ∙ (sym (same_good pre c t r w (Exclusion n m) f tt) ∙ f)
same_line pre c r t w Malformed Malformed e f a b = refl
same_line pre c r t w Malformed End e f a b = absurd b
same_line pre c r t w End k e f a b = absurd a

pub reads_alike : (pre c r t : List ℕ) (w : WholeLine c) → line_at (pre ++ (c ++ r)) (length pre) ≡ line_at (pre ++ (c ++ t)) (length pre)
reads_alike pre c r t w =
    same_line pre c r t w (line_at (here pre c r w) (length pre)) (line_at (here pre c t w) (length pre)) refl refl
    (any_line (here pre c r w) (length pre) (inside pre c r w)) (any_line (here pre c t w) (length pre) (inside pre c t w))

-- ---- the lines up to the first malformed one

-- the second lines begin with the first, as far as these are well formed and one further
abbrev pub Begins : List Line → List Line → Type 0
Begins [] ks = Unit {0}
Begins (l ∷ ls) [] = ⊥
Begins (l ∷ ls) (k ∷ ks) = (l ≡ k) × (WellFormed l → Begins ls ks)

good_text : (s : List ℕ) (at : ℕ) → WellFormed (line_at s at) → Valid (line_at s at) × Stands s at (line_text (line_at s at))
good_text s at g = sound_good s at (line_at s at) g (text_line s at)

pub begins : (cs : List (List ℕ)) (pre t : List ℕ) (f g : ℕ) → AllWhole cs → length (join_all cs) ≤ f → f ≤ g → Begins (lines_from f (pre ++ join_all cs) (length pre)) (lines_from g (pre ++ (join_all cs ++ t)) (length pre))
begins [] pre t zero g w h k = tt
begins [] pre t (suc f) g w h k = simp (le-ltb (length pre) (length (pre ++ [])) (omega (arith, length-append pre []))) tt
begins (c ∷ cs) pre t zero g w h k =
    absurd (omega (arith, length-append c (join_all cs), ap length w.0.is, length-append w.0.body (10 ∷ [])))
begins (c ∷ cs) pre t (suc f) zero w h k = absurd (omega arith)
begins (c ∷ cs) pre t (suc f) (suc g) w h k =
    let a : length pre < length (pre ++ (c ++ join_all cs)) = inside pre c (join_all cs) w.0 in
    let b : length pre < length (pre ++ ((c ++ join_all cs) ++ t)) = rw (append_assoc c (join_all cs) t) (inside pre c (join_all cs ++ t) w.0) in
    let e : line_at (pre ++ (c ++ join_all cs)) (length pre) ≡ line_at (pre ++ ((c ++ join_all cs) ++ t)) (length pre) =
    reads_alike pre c (join_all cs) (join_all cs ++ t) w.0 ∙ ap (λ (x : List ℕ). line_at (pre ++ x) (length pre)) (sym (append_assoc c (join_all cs) t)) in
    simp (lt-ltb (length pre) (length (pre ++ (c ++ join_all cs))) a, lt-ltb (length pre) (length (pre ++ ((c ++ join_all cs) ++ t))) b) (
      e,
      λ good.
          let v = good_text (pre ++ (c ++ join_all cs)) (length pre) good in
          let l = line_at (pre ++ (c ++ join_all cs)) (length pre) in
          let is : line_text (line_at (pre ++ (c ++ join_all cs)) (length pre)) ≡ c = read_is pre c (join_all cs) w.0 (line_at (pre ++ (c ++ join_all cs)) (length pre)) v.0 v.1 in
          let wide : line_width (line_at (pre ++ (c ++ join_all cs)) (length pre)) ≡ length c = sym (length_text (line_at (pre ++ (c ++ join_all cs)) (length pre))) ∙ ap length is in
          let at : length pre + line_width (line_at (pre ++ (c ++ join_all cs)) (length pre)) ≡ length (pre ++ c) = omega (arith, length-append pre c) in
          let r = begins cs (pre ++ c) t f g w.1 (omega (arith, length-append c (join_all cs), ap length w.0.is, length-append w.0.body (10 ∷ []))) (omega arith) in
          rw (← e, at, ← append_assoc pre c (join_all cs), append_assoc c (join_all cs) t, ← append_assoc pre c (join_all cs ++ t)) r,
    )
