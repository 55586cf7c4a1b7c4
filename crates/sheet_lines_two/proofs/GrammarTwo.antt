-- The reader of the second form accepts exactly its grammar: a line's bytes read as that line, and a line that was read stands there in bytes. Assumes nothing.
use Rattle.std.specs.Prelude.{None, Option, Some}
use Prim.Native.Nat.{ℕ, zero, suc, ◌+◌, ◌/◌, ◌%◌, ◌^◌, ◌<◌}
use mathlib.Core.Path.{◌≡◌, refl, ◌∙◌}
use mathlib.Core.Bool.{Bool, true, false, cond}
use mathlib.Core.List.{List, [], ◌∷◌, ◌++◌}
use native.Mathlib.Omega.{arith}
use lib.ListN.{length, length-append}
use lib.Dec.{ltb, eqb}
use borrow.Author.Tests.{lt-ltb, ltb-true, ne_eqb, eqb-true}
use Rattle.hexadecimal.specs.Digits.{byte_at, hex2, hex4, hex8}
use Rattle.hexadecimal.specs.Glyphs.{text2, text4, text8, Stands}
use Rattle.hexadecimal.proofs.Writing.{length2, length4, length8}
use Rattle.hexadecimal.proofs.Reading.{stands_split, stands_join, hex2_text, text_hex2, hex4_text, text_hex4, hex8_text, text_hex8, in_range}
use Rattle.sheet_lines.specs.Reading.{three_at, header_of, atom_of, exclusion_of}
use Rattle.sheet_lines.specs.Grammar.{text888, line_text}
use Rattle.sheet_lines.specs.declared.Line.{Line}
use Rattle.sheet_lines.specs.declared.Line.TheVariants.{Header, Atom, Exclusion, Malformed, End}
use Rattle.sheet_lines.proofs.GrammarLaws.{length888, three_text, ThreeStands, text_three}
use Rattle.sheet_lines_two.specs.declared.TwoLine.{TwoLine}
use Rattle.sheet_lines_two.specs.Twos.{typed_two, ruled_two, end_two, header_two, two_at, head_wide, wide_two}
use Rattle.sheet_lines_two.specs.Grammar.{head_text, rule_text, text_with, two_text, ValidWith, ValidTwo}

-- ---- a header's end

pub rule_bytes : (t : ℕ) → 0 < t → rule_text t ≡ text2 t ++ (10 ∷ [])
unfolding rule_text
rule_bytes t h = simp (ne_eqb t 0 (λ e. omega arith))

-- the digit pair of 1 and of 2 begins with no newline
no_newline : (s : List ℕ) (at t : ℕ) → t < 3 → Stands s at (text2 t) → byte_at s at ≡ 48
unfolding text2
no_newline s at t b k = let e : t / 16 % 16 ≡ 0 = omega arith in rw e at k.0

pair_reads : (s : List ℕ) (at t : ℕ) → 0 < t → t < 3 → Stands s at (rule_text t) → (byte_at s at ≡ 48) × (hex2 s at ≡ t) × (byte_at s (at + 2) ≡ 10)
pair_reads s at t a b k =
    let p = stands_split s at (text2 t) (10 ∷ []) (rw (rule_bytes t a) at k) in
    let q = simp length2 at p.1 in
    (no_newline s at t b p.0, hex2_text s at t (omega arith) p.0, q.0)

end_text : (s : List ℕ) (at t : ℕ) (f : ℕ → Line) → t < 3 → Stands s at (rule_text t) → end_two s at f ≡ record { core = f 10; extra = t }
unfolding end_two ruled_two rule_text
end_text s at zero f h k = simp k.0
end_text s at (suc zero) f h k = let q = pair_reads s at 1 (omega arith) (omega arith) k in simp (q.0, q.1, q.2)
end_text s at (suc (suc zero)) f h k = let q = pair_reads s at 2 (omega arith) (omega arith) k in simp (q.0, q.1, q.2)
end_text s at (suc (suc (suc t))) f h k = absurd (omega arith)

-- ---- from a line's bytes to the line

text_two : (s : List ℕ) (at : ℕ) (c : Line) (t : ℕ) → ValidWith c t → Stands s at (text_with c t) → two_at s at ≡ record { core = c; extra = t }
unfolding two_at header_two text_with head_text line_text header_of atom_of exclusion_of typed_two
text_two s at (Exclusion a b) t v k =
    let p = stands_split s at (text2 3 ++ text4 a ++ text4 b) (10 ∷ []) k in
    let q = stands_split s at (text2 3 ++ text4 a) (text4 b) p.0 in
    let r = stands_split s at (text2 3) (text4 a) q.0 in
    let kind : hex2 s at ≡ 3 = hex2_text s at 3 (omega arith) r.0 in
    let here : at < length s = in_range s at (omega arith) in
    let fa : hex4 s (at + 2) ≡ a = hex4_text s (at + 2) a v.0.0 (simp length2 at r.1) in
    let fb : hex4 s (at + 6) ≡ b = hex4_text s (at + 6) b v.0.1 (simp (length-append, length2, length4) at q.1) in
    let end = simp (length-append, length2, length4) at p.1 in
    simp (lt-ltb at (length s) here, kind, fa, fb, end.0, lt-ltb a (2 ^ 16) v.0.0, lt-ltb b (2 ^ 16) v.0.1, v.1)
text_two s at (Atom n x y z) t v k =
    let p = stands_split s at (text2 18 ++ text4 n ++ text888 x y z ++ text8 t) (10 ∷ []) k in
    let o = stands_split s at (text2 18 ++ text4 n ++ text888 x y z) (text8 t) p.0 in
    let q = stands_split s at (text2 18 ++ text4 n) (text888 x y z) o.0 in
    let r = stands_split s at (text2 18) (text4 n) q.0 in
    let kind : hex2 s at ≡ 18 = hex2_text s at 18 (omega arith) r.0 in
    let here : at < length s = in_range s at (omega arith) in
    let small : n < 2 ^ 16 = omega (arith, v.0.0) in
    let fn : hex4 s (at + 2) ≡ n = hex4_text s (at + 2) n small (simp length2 at r.1) in
    let fx : three_at s (at + 6) ≡ Some (x, y, z) = three_text s (at + 6) x y z v.0.1 v.0.2 v.0.3 (simp (length-append, length2, length4) at q.1) in
    let ft : hex8 s (at + 30) ≡ t = hex8_text s (at + 30) t v.1 (simp (length-append, length2, length4, length888) at o.1) in
    let end = simp (length-append, length2, length4, length8, length888) at p.1 in
    simp (lt-ltb at (length s) here, kind, fn, fx, ft, end.0, lt-ltb n 1024 v.0.0, lt-ltb t (2 ^ 32) v.1)
text_two s at (Header h) t v k =
    let w = stands_split s at (head_text h) (rule_text t) k in
    let p = w.0 in
    let o = stands_split s at (text2 17 ++ text4 h.atoms ++ text888 h.ex h.ey h.ez ++ text2 h.mask) (text8 h.radius) p in
    let m = stands_split s at (text2 17 ++ text4 h.atoms ++ text888 h.ex h.ey h.ez) (text2 h.mask) o.0 in
    let q = stands_split s at (text2 17 ++ text4 h.atoms) (text888 h.ex h.ey h.ez) m.0 in
    let r = stands_split s at (text2 17) (text4 h.atoms) q.0 in
    let kind : hex2 s at ≡ 17 = hex2_text s at 17 (omega arith) r.0 in
    let here : at < length s = in_range s at (omega arith) in
    let fn : hex4 s (at + 2) ≡ h.atoms = hex4_text s (at + 2) h.atoms v.0.0 (simp length2 at r.1) in
    let fx : three_at s (at + 6) ≡ Some (h.ex, h.ey, h.ez) = three_text s (at + 6) h.ex h.ey h.ez v.0.1 v.0.2 v.0.3 (simp (length-append, length2, length4) at q.1) in
    let small : h.mask < 256 = omega (arith, v.0.4) in
    let fm : hex2 s (at + 30) ≡ h.mask = hex2_text s (at + 30) h.mask small (simp (length-append, length2, length4, length888) at m.1) in
    let fr : hex8 s (at + 32) ≡ h.radius = hex8_text s (at + 32) h.radius v.0.5 (simp (length-append, length2, length4, length888) at o.1) in
    let end = end_text s (at + 40) t (λ z. header_of (hex4 s (at + 2)) (three_at s (at + 6)) (hex2 s (at + 30)) (hex8 s (at + 32)) z) v.1 (simp (length-append, length2, length4, length8, length888) at w.1) in
    simp (lt-ltb at (length s) here, kind) (end ∙ simp (fn, fx, fm, fr, lt-ltb h.atoms (2 ^ 16) v.0.0, lt-ltb h.mask 8 v.0.4, lt-ltb h.radius (2 ^ 32) v.0.5))
text_two s at Malformed t v k = absurd v
text_two s at End t v k = absurd v

pub line_text_two : (s : List ℕ) (at : ℕ) (l : TwoLine) → ValidTwo l → Stands s at (two_text l) → two_at s at ≡ l
line_text_two s at l v k = text_two s at l.core l.extra v k

-- ---- from a line that was read to its bytes

-- a line that was read is valid, and its bytes stand there
abbrev pub StoodWith : List ℕ → ℕ → Line → ℕ → Type 0
StoodWith s at (Header h) t = ValidWith (Header h) t × Stands s at (text_with (Header h) t)
StoodWith s at (Atom n x y z) t = ValidWith (Atom n x y z) t × Stands s at (text_with (Atom n x y z) t)
StoodWith s at (Exclusion a b) t = ValidWith (Exclusion a b) t × Stands s at (text_with (Exclusion a b) t)
StoodWith s at Malformed t = Unit {0}
StoodWith s at End t = Unit {0}

abbrev pub StoodTwo : List ℕ → ℕ → TwoLine → Type 0
StoodTwo s at l = StoodWith s at l.core l.extra

line_if : (s : List ℕ) (at : ℕ) (b : Bool) (x y : Line) (t : ℕ) → (b ≡ true → StoodWith s at x t) → StoodWith s at y t → StoodWith s at (cond b x y) t
line_if s at true x y t f g = f refl
line_if s at false x y t f g = g

two_if : (s : List ℕ) (at : ℕ) (b : Bool) (x y : TwoLine) → (b ≡ true → StoodTwo s at x) → StoodTwo s at y → StoodTwo s at (cond b x y)
two_if s at true x y f g = f refl
two_if s at false x y f g = g

sound_exclusion : (s : List ℕ) (at : ℕ) → hex2 s at ≡ 3 → StoodWith s at (exclusion_of (hex4 s (at + 2)) (hex4 s (at + 6)) (byte_at s (at + 10))) 0
unfolding exclusion_of text_with line_text
sound_exclusion s at kind =
    line_if s at (ltb (hex4 s (at + 2)) (2 ^ 16)) _ _ 0
    (λ a. line_if s at (ltb (hex4 s (at + 6)) (2 ^ 16)) _ _ 0
    (λ b. line_if s at (eqb (byte_at s (at + 10)) 10) _ _ 0
    (λ d.
    let p : hex4 s (at + 2) < 2 ^ 16 = ltb-true (hex4 s (at + 2)) (2 ^ 16) a in
    let q : hex4 s (at + 6) < 2 ^ 16 = ltb-true (hex4 s (at + 6)) (2 ^ 16) b in
    let k : Stands s at (text2 3) = rw kind at (text_hex2 s at (omega arith)) in (
      ((p, q), refl),
      stands_join s at (text2 3 ++ text4 (hex4 s (at + 2)) ++ text4 (hex4 s (at + 6))) (10 ∷ [])
          (stands_join s at (text2 3 ++ text4 (hex4 s (at + 2))) (text4 (hex4 s (at + 6)))
          (stands_join s at (text2 3) (text4 (hex4 s (at + 2))) k (simp length2 (text_hex4 s (at + 2) p)))
          (simp (length-append, length2, length4) (text_hex4 s (at + 6) q)))
          (simp (length-append, length2, length4) (eqb-true (byte_at s (at + 10)) 10 d, tt)),
    ))
    tt)
    tt)
    tt

sound_atom : (s : List ℕ) (at : ℕ) (t : Option (ℕ × ℕ × ℕ)) → hex2 s at ≡ 18 → ThreeStands s (at + 6) t → hex8 s (at + 30) < 2 ^ 32 → StoodWith s at (atom_of (hex4 s (at + 2)) t (byte_at s (at + 38))) (hex8 s (at + 30))
unfolding atom_of text_with
sound_atom s at None kind h e = tt
sound_atom s at (Some (x, y, z)) kind h e =
    line_if s at (ltb (hex4 s (at + 2)) 1024) _ _ (hex8 s (at + 30))
    (λ a. line_if s at (eqb (byte_at s (at + 38)) 10) _ _ (hex8 s (at + 30))
    (λ d.
    let p : hex4 s (at + 2) < 1024 = ltb-true (hex4 s (at + 2)) 1024 a in
    let p' : hex4 s (at + 2) < 65536 = omega arith in
    let k : Stands s at (text2 18) = rw kind at (text_hex2 s at (omega arith)) in (
      ((p, h.0, h.1, h.2), e),
      stands_join s at (text2 18 ++ text4 (hex4 s (at + 2)) ++ text888 x y z ++ text8 (hex8 s (at + 30))) (10 ∷ [])
          (stands_join s at (text2 18 ++ text4 (hex4 s (at + 2)) ++ text888 x y z) (text8 (hex8 s (at + 30)))
          (stands_join s at (text2 18 ++ text4 (hex4 s (at + 2))) (text888 x y z)
          (stands_join s at (text2 18) (text4 (hex4 s (at + 2))) k (simp length2 (text_hex4 s (at + 2) p')))
          (simp (length-append, length2, length4) h.3))
          (simp (length-append, length2, length4, length888) (text_hex8 s (at + 30) e)))
          (simp (length-append, length2, length4, length8, length888) (eqb-true (byte_at s (at + 38)) 10 d, tt)),
    ))
    tt)
    tt

-- with the byte at its end, and what stands after the 40 digits where that is a newline
sound_header : (s : List ℕ) (at : ℕ) (t : Option (ℕ × ℕ × ℕ)) (e z : ℕ) → hex2 s at ≡ 17 → ThreeStands s (at + 6) t → e < 3 → (z ≡ 10 → Stands s (at + 40) (rule_text e)) → StoodWith s at (header_of (hex4 s (at + 2)) t (hex2 s (at + 30)) (hex8 s (at + 32)) z) e
unfolding header_of text_with head_text
sound_header s at None e z kind h f g = tt
sound_header s at (Some (x, y, w)) e z kind h f g =
    line_if s at (ltb (hex4 s (at + 2)) (2 ^ 16)) _ _ e
    (λ a. line_if s at (ltb (hex2 s (at + 30)) 8) _ _ e
    (λ b. line_if s at (ltb (hex8 s (at + 32)) (2 ^ 32)) _ _ e
    (λ c. line_if s at (eqb z 10) _ _ e
    (λ d.
    let p : hex4 s (at + 2) < 2 ^ 16 = ltb-true (hex4 s (at + 2)) (2 ^ 16) a in
    let q : hex2 s (at + 30) < 8 = ltb-true (hex2 s (at + 30)) 8 b in
    let q' : hex2 s (at + 30) < 256 = omega arith in
    let r : hex8 s (at + 32) < 2 ^ 32 = ltb-true (hex8 s (at + 32)) (2 ^ 32) c in
    let k : Stands s at (text2 17) = rw kind at (text_hex2 s at (omega arith)) in (
      ((p, h.0, h.1, h.2, q, r), f),
      stands_join s at (text2 17 ++ text4 (hex4 s (at + 2)) ++ text888 x y w ++ text2 (hex2 s (at + 30)) ++ text8 (hex8 s (at + 32))) (rule_text e)
          (stands_join s at (text2 17 ++ text4 (hex4 s (at + 2)) ++ text888 x y w ++ text2 (hex2 s (at + 30))) (text8 (hex8 s (at + 32)))
          (stands_join s at (text2 17 ++ text4 (hex4 s (at + 2)) ++ text888 x y w) (text2 (hex2 s (at + 30)))
          (stands_join s at (text2 17 ++ text4 (hex4 s (at + 2))) (text888 x y w)
          (stands_join s at (text2 17) (text4 (hex4 s (at + 2))) k (simp length2 (text_hex4 s (at + 2) p)))
          (simp (length-append, length2, length4) h.3))
          (simp (length-append, length2, length4, length888) (text_hex2 s (at + 30) q')))
          (simp (length-append, length2, length4, length888) (text_hex8 s (at + 32) r)))
          (simp (length-append, length2, length4, length8, length888) (g (eqb-true z 10 d))),
    ))
    tt)
    tt)
    tt)
    tt

-- the digit pair that was read, and the newline after it
pair_stands : (s : List ℕ) (at t : ℕ) → 0 < t → t < 3 → hex2 s at ≡ t → byte_at s (at + 2) ≡ 10 → Stands s at (rule_text t)
pair_stands s at t a b e z =
    let k : Stands s at (text2 t) = rw e at (text_hex2 s at (omega arith)) in
    rw (rule_bytes t a) (stands_join s at (text2 t) (10 ∷ []) k (simp length2 (z, tt)))

sound_head : (s : List ℕ) (at : ℕ) → hex2 s at ≡ 17 → StoodTwo s at (header_two s at)
unfolding header_two end_two ruled_two rule_text
sound_head s at kind =
    two_if s at (eqb (byte_at s (at + 40)) 10) _ _
    (λ _. sound_header s at (three_at s (at + 6)) 0 (byte_at s (at + 40)) kind (text_three s (at + 6)) (omega arith) (λ z. (z, tt)))
    (two_if s at (eqb (hex2 s (at + 40)) 1) _ _
    (λ e. sound_header s at (three_at s (at + 6)) 1 (byte_at s (at + 40 + 2)) kind (text_three s (at + 6)) (omega arith) (pair_stands s (at + 40) 1 (omega arith) (omega arith) (eqb-true (hex2 s (at + 40)) 1 e)))
    (two_if s at (eqb (hex2 s (at + 40)) 2) _ _
    (λ e. sound_header s at (three_at s (at + 6)) 2 (byte_at s (at + 40 + 2)) kind (text_three s (at + 6)) (omega arith) (pair_stands s (at + 40) 2 (omega arith) (omega arith) (eqb-true (hex2 s (at + 40)) 2 e)))
    tt))

-- whatever was read as a line is valid and stands there, in just these bytes
pub text_line_two : (s : List ℕ) (at : ℕ) → StoodTwo s at (two_at s at)
unfolding two_at typed_two
text_line_two s at =
    two_if s at (ltb at (length s)) _ _
    (λ _. two_if s at (eqb (hex2 s at) 17) _ _ (λ e. sound_head s at (eqb-true (hex2 s at) 17 e))
    (two_if s at (eqb (hex2 s at) 18) _ _
    (λ e. two_if s at (ltb (hex8 s (at + 30)) (2 ^ 32)) _ _
    (λ f. sound_atom s at (three_at s (at + 6)) (eqb-true (hex2 s at) 18 e) (text_three s (at + 6)) (ltb-true (hex8 s (at + 30)) (2 ^ 32) f)) tt)
    (two_if s at (eqb (hex2 s at) 3) _ _ (λ e. sound_exclusion s at (eqb-true (hex2 s at) 3 e)) tt)))
    tt

rule_length : (t : ℕ) → 40 + length (rule_text t) ≡ head_wide t
unfolding rule_text
rule_length zero = refl
rule_length (suc t) = simp (ne_eqb (suc t) 0 (λ e. omega arith), length-append, length2)

pub length_two : (c : Line) (t : ℕ) → length (text_with c t) ≡ wide_two c t
unfolding text_with head_text line_text
length_two (Header h) t = simp (length-append, length2, length4, length8, length888) (rule_length t)
length_two (Atom n x y z) t = simp (length-append, length2, length4, length8, length888)
length_two (Exclusion a b) t = simp (length-append, length2, length4)
length_two Malformed t = refl
length_two End t = refl
