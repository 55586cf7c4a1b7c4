-- The reader accepts exactly the grammar: a line's bytes read as that line, and a line that was read stands there in bytes. Assumes nothing.
use Rattle.std.specs.Prelude.{None, Option, Some}
use Prim.Native.Nat.{ℕ, ◌+◌, ◌^◌, ◌<◌}
use mathlib.Core.Path.{◌≡◌, refl}
use mathlib.Core.Bool.{Bool, true, false, cond}
use mathlib.Core.List.{List, [], ◌∷◌, ◌++◌}
use native.Mathlib.Omega.{arith}
use lib.ListN.{length, length-append}
use lib.Dec.{ltb, eqb}
use borrow.Author.Tests.{lt-ltb, ltb-true, eqb-true}
use Rattle.hexadecimal.specs.Digits.{byte_at, hex2, hex4, hex8}
use Rattle.hexadecimal.specs.Glyphs.{text2, text4, text8, Stands}
use Rattle.hexadecimal.proofs.Choice.{cases}
use Rattle.hexadecimal.proofs.Writing.{length2, length4, length8}
use Rattle.hexadecimal.proofs.Reading.{stands_split, stands_join, hex2_text, text_hex2, hex4_text, text_hex4, hex8_text, text_hex8, in_range}
use Rattle.sheet_lines.specs.Reading.{three_of, three_at, header_of, atom_of, exclusion_of, line_at, line_width}
use Rattle.sheet_lines.specs.Grammar.{text888, line_text, Valid}
use Rattle.sheet_lines.specs.declared.Line.{Line}
use Rattle.sheet_lines.specs.declared.Line.TheVariants.{Header, Atom, Exclusion, Malformed, End}

pub length888 : (x y z : ℕ) → length (text888 x y z) ≡ 24
unfolding text888
length888 x y z = simp (length-append, length8)

-- ---- from a line's bytes to the line

pub three_text : (s : List ℕ) (at x y z : ℕ) → x < 2 ^ 32 → y < 2 ^ 32 → z < 2 ^ 32 → Stands s at (text888 x y z) → three_at s at ≡ Some (x, y, z)
unfolding three_at three_of text888
three_text s at x y z a b d k =
    let p = stands_split s at (text8 x ++ text8 y) (text8 z) k in
    let q = stands_split s at (text8 x) (text8 y) p.0 in
    let u : hex8 s at ≡ x = hex8_text s at x a q.0 in
    let v : hex8 s (at + 8) ≡ y = hex8_text s (at + 8) y b (simp length8 at q.1) in
    let w : hex8 s (at + 16) ≡ z = hex8_text s (at + 16) z d (simp (length-append, length8) at p.1) in
    simp (u, v, w, lt-ltb x (2 ^ 32) a, lt-ltb y (2 ^ 32) b, lt-ltb z (2 ^ 32) d)

pub line_text_lem : (s : List ℕ) (at : ℕ) (l : Line) → Valid l → Stands s at (line_text l) → line_at s at ≡ l
unfolding line_at line_text header_of atom_of exclusion_of
line_text_lem s at (Exclusion a b) v k =
    let p = stands_split s at (text2 3 ++ text4 a ++ text4 b) (10 ∷ []) k in
    let q = stands_split s at (text2 3 ++ text4 a) (text4 b) p.0 in
    let r = stands_split s at (text2 3) (text4 a) q.0 in
    let kind : hex2 s at ≡ 3 = hex2_text s at 3 (omega arith) r.0 in
    let here : at < length s = in_range s at (omega arith) in
    let fa : hex4 s (at + 2) ≡ a = hex4_text s (at + 2) a v.0 (simp length2 at r.1) in
    let fb : hex4 s (at + 6) ≡ b = hex4_text s (at + 6) b v.1 (simp (length-append, length2, length4) at q.1) in
    let end = simp (length-append, length2, length4) at p.1 in
    simp (lt-ltb at (length s) here, kind, fa, fb, end.0, lt-ltb a (2 ^ 16) v.0, lt-ltb b (2 ^ 16) v.1)
line_text_lem s at (Atom n x y z) v k =
    let p = stands_split s at (text2 2 ++ text4 n ++ text888 x y z) (10 ∷ []) k in
    let q = stands_split s at (text2 2 ++ text4 n) (text888 x y z) p.0 in
    let r = stands_split s at (text2 2) (text4 n) q.0 in
    let kind : hex2 s at ≡ 2 = hex2_text s at 2 (omega arith) r.0 in
    let here : at < length s = in_range s at (omega arith) in
    let fn : hex4 s (at + 2) ≡ n = hex4_text s (at + 2) n (omega arith) (simp length2 at r.1) in
    let fx : three_at s (at + 6) ≡ Some (x, y, z) = three_text s (at + 6) x y z v.1 v.2 v.3 (simp (length-append, length2, length4) at q.1) in
    let end = simp (length-append, length2, length4, length888) at p.1 in
    simp (lt-ltb at (length s) here, kind, fn, fx, end.0, lt-ltb n 1024 v.0)
line_text_lem s at (Header h) v k =
    let n = h.atoms in
    let p = stands_split s at (text2 1 ++ text4 h.atoms ++ text888 h.ex h.ey h.ez ++ text2 h.mask ++ text8 h.radius) (10 ∷ []) k in
    let o = stands_split s at (text2 1 ++ text4 h.atoms ++ text888 h.ex h.ey h.ez ++ text2 h.mask) (text8 h.radius) p.0 in
    let m = stands_split s at (text2 1 ++ text4 h.atoms ++ text888 h.ex h.ey h.ez) (text2 h.mask) o.0 in
    let q = stands_split s at (text2 1 ++ text4 h.atoms) (text888 h.ex h.ey h.ez) m.0 in
    let r = stands_split s at (text2 1) (text4 h.atoms) q.0 in
    let kind : hex2 s at ≡ 1 = hex2_text s at 1 (omega arith) r.0 in
    let here : at < length s = in_range s at (omega arith) in
    let fn : hex4 s (at + 2) ≡ h.atoms = hex4_text s (at + 2) h.atoms v.0 (simp length2 at r.1) in
    let fx : three_at s (at + 6) ≡ Some (h.ex, h.ey, h.ez) = three_text s (at + 6) h.ex h.ey h.ez v.1 v.2 v.3 (simp (length-append, length2, length4) at q.1) in
    let fm : hex2 s (at + 30) ≡ h.mask = hex2_text s (at + 30) h.mask (omega (arith, v.4)) (simp (length-append, length2, length4, length888) at m.1) in
    let fr : hex8 s (at + 32) ≡ h.radius = hex8_text s (at + 32) h.radius v.5 (simp (length-append, length2, length4, length888) at o.1) in
    let end = simp (length-append, length2, length4, length8, length888) at p.1 in
    simp (lt-ltb at (length s) here, kind, fn, fx, fm, fr, end.0, lt-ltb h.atoms (2 ^ 16) v.0, lt-ltb h.mask 8 v.4, lt-ltb h.radius (2 ^ 32) v.5)
line_text_lem s at Malformed v k = absurd v
line_text_lem s at End v k = absurd v

-- ---- from a line that was read to its bytes

-- three numbers that were read stand there, and are in range
abbrev pub ThreeStands : List ℕ → ℕ → Option (ℕ × ℕ × ℕ) → Type 0
ThreeStands s at (Some (x, y, z)) = (x < 2 ^ 32) × (y < 2 ^ 32) × (z < 2 ^ 32) × Stands s at (text888 x y z)
ThreeStands s at None = Unit {0}

pub text_three : (s : List ℕ) (at : ℕ) → ThreeStands s at (three_at s at)
unfolding three_at three_of text888
text_three s at =
    cases (ltb (hex8 s at) (2 ^ 32))
    (λ a.
    cases (ltb (hex8 s (at + 8)) (2 ^ 32))
    (λ b.
    cases (ltb (hex8 s (at + 16)) (2 ^ 32))
    (λ d.
    let p : hex8 s at < 2 ^ 32 = ltb-true (hex8 s at) (2 ^ 32) a in
    let q : hex8 s (at + 8) < 2 ^ 32 = ltb-true (hex8 s (at + 8)) (2 ^ 32) b in
    let r : hex8 s (at + 16) < 2 ^ 32 = ltb-true (hex8 s (at + 16)) (2 ^ 32) d in
    simp (a, b, d) (
      p,
      q,
      r,
      stands_join s at (text8 (hex8 s at) ++ text8 (hex8 s (at + 8))) (text8 (hex8 s (at + 16)))
          (stands_join s at (text8 (hex8 s at)) (text8 (hex8 s (at + 8))) (text_hex8 s at p) (simp length8 (text_hex8 s (at + 8) q)))
          (simp (length-append, length8) (text_hex8 s (at + 16) r)),
    ))
    (λ d. simp (a, b, d) tt))
    (λ b. simp (a, b) tt))
    (λ a. simp a tt)

-- a line that was read is valid, and its bytes stand there
abbrev pub Sound : List ℕ → ℕ → Line → Type 0
Sound s at (Header h) = Valid (Header h) × Stands s at (line_text (Header h))
Sound s at (Atom n x y z) = Valid (Atom n x y z) × Stands s at (line_text (Atom n x y z))
Sound s at (Exclusion a b) = Valid (Exclusion a b) × Stands s at (line_text (Exclusion a b))
Sound s at Malformed = Unit {0}
Sound s at End = Unit {0}

sound_if : (s : List ℕ) (at : ℕ) (b : Bool) (x y : Line) → (b ≡ true → Sound s at x) → Sound s at y → Sound s at (cond b x y)
sound_if s at true x y f g = f refl
sound_if s at false x y f g = g

sound_exclusion : (s : List ℕ) (at : ℕ) → hex2 s at ≡ 3 → Sound s at (exclusion_of (hex4 s (at + 2)) (hex4 s (at + 6)) (byte_at s (at + 10)))
unfolding exclusion_of line_text
sound_exclusion s at kind =
    sound_if s at (ltb (hex4 s (at + 2)) (2 ^ 16)) _ _
    (λ a. sound_if s at (ltb (hex4 s (at + 6)) (2 ^ 16)) _ _
    (λ b. sound_if s at (eqb (byte_at s (at + 10)) 10) _ _
    (λ d.
    let p : hex4 s (at + 2) < 2 ^ 16 = ltb-true (hex4 s (at + 2)) (2 ^ 16) a in
    let q : hex4 s (at + 6) < 2 ^ 16 = ltb-true (hex4 s (at + 6)) (2 ^ 16) b in
    let k : Stands s at (text2 3) = rw kind at (text_hex2 s at (omega arith)) in (
      (p, q),
      stands_join s at (text2 3 ++ text4 (hex4 s (at + 2)) ++ text4 (hex4 s (at + 6))) (10 ∷ [])
          (stands_join s at (text2 3 ++ text4 (hex4 s (at + 2))) (text4 (hex4 s (at + 6)))
          (stands_join s at (text2 3) (text4 (hex4 s (at + 2))) k (simp length2 (text_hex4 s (at + 2) p)))
          (simp (length-append, length2, length4) (text_hex4 s (at + 6) q)))
          (simp (length-append, length2, length4) (eqb-true (byte_at s (at + 10)) 10 d, tt)),
    ))
    tt)
    tt)
    tt

sound_atom : (s : List ℕ) (at : ℕ) (t : Option (ℕ × ℕ × ℕ)) → hex2 s at ≡ 2 → ThreeStands s (at + 6) t → Sound s at (atom_of (hex4 s (at + 2)) t (byte_at s (at + 30)))
unfolding atom_of line_text
sound_atom s at None kind h = tt
sound_atom s at (Some (x, y, z)) kind h =
    sound_if s at (ltb (hex4 s (at + 2)) 1024) _ _
    (λ a. sound_if s at (eqb (byte_at s (at + 30)) 10) _ _
    (λ d.
    let p : hex4 s (at + 2) < 1024 = ltb-true (hex4 s (at + 2)) 1024 a in
    let p' : hex4 s (at + 2) < 65536 = omega arith in
    let k : Stands s at (text2 2) = rw kind at (text_hex2 s at (omega arith)) in (
      (p, h.0, h.1, h.2),
      stands_join s at (text2 2 ++ text4 (hex4 s (at + 2)) ++ text888 x y z) (10 ∷ [])
          (stands_join s at (text2 2 ++ text4 (hex4 s (at + 2))) (text888 x y z)
          (stands_join s at (text2 2) (text4 (hex4 s (at + 2))) k (simp length2 (text_hex4 s (at + 2) p')))
          (simp (length-append, length2, length4) h.3))
          (simp (length-append, length2, length4, length888) (eqb-true (byte_at s (at + 30)) 10 d, tt)),
    ))
    tt)
    tt

sound_header : (s : List ℕ) (at : ℕ) (t : Option (ℕ × ℕ × ℕ)) → hex2 s at ≡ 1 → ThreeStands s (at + 6) t → Sound s at (header_of (hex4 s (at + 2)) t (hex2 s (at + 30)) (hex8 s (at + 32)) (byte_at s (at + 40)))
unfolding header_of line_text
sound_header s at None kind h = tt
sound_header s at (Some (x, y, z)) kind h =
    sound_if s at (ltb (hex4 s (at + 2)) (2 ^ 16)) _ _
    (λ a. sound_if s at (ltb (hex2 s (at + 30)) 8) _ _
    (λ b. sound_if s at (ltb (hex8 s (at + 32)) (2 ^ 32)) _ _
    (λ c. sound_if s at (eqb (byte_at s (at + 40)) 10) _ _
    (λ d.
    let p : hex4 s (at + 2) < 2 ^ 16 = ltb-true (hex4 s (at + 2)) (2 ^ 16) a in
    let q : hex2 s (at + 30) < 8 = ltb-true (hex2 s (at + 30)) 8 b in
    let q' : hex2 s (at + 30) < 256 = omega arith in
    let r : hex8 s (at + 32) < 2 ^ 32 = ltb-true (hex8 s (at + 32)) (2 ^ 32) c in
    let k : Stands s at (text2 1) = rw kind at (text_hex2 s at (omega arith)) in (
      (p, h.0, h.1, h.2, q, r),
      stands_join s at (text2 1 ++ text4 (hex4 s (at + 2)) ++ text888 x y z ++ text2 (hex2 s (at + 30)) ++ text8 (hex8 s (at + 32))) (10 ∷ [])
          (stands_join s at (text2 1 ++ text4 (hex4 s (at + 2)) ++ text888 x y z ++ text2 (hex2 s (at + 30))) (text8 (hex8 s (at + 32)))
          (stands_join s at (text2 1 ++ text4 (hex4 s (at + 2)) ++ text888 x y z) (text2 (hex2 s (at + 30)))
          (stands_join s at (text2 1 ++ text4 (hex4 s (at + 2))) (text888 x y z)
          (stands_join s at (text2 1) (text4 (hex4 s (at + 2))) k (simp length2 (text_hex4 s (at + 2) p)))
          (simp (length-append, length2, length4) h.3))
          (simp (length-append, length2, length4, length888) (text_hex2 s (at + 30) q')))
          (simp (length-append, length2, length4, length888) (text_hex8 s (at + 32) r)))
          (simp (length-append, length2, length4, length8, length888) (eqb-true (byte_at s (at + 40)) 10 d, tt)),
    ))
    tt)
    tt)
    tt)
    tt

-- whatever was read as a line is valid and stands there, in just these bytes
pub text_line : (s : List ℕ) (at : ℕ) → Sound s at (line_at s at)
unfolding line_at
text_line s at =
    sound_if s at (ltb at (length s)) _ _
    (λ _. sound_if s at (eqb (hex2 s at) 1) _ _ (λ e. sound_header s at (three_at s (at + 6)) (eqb-true (hex2 s at) 1 e) (text_three s (at + 6)))
    (sound_if s at (eqb (hex2 s at) 2) _ _ (λ e. sound_atom s at (three_at s (at + 6)) (eqb-true (hex2 s at) 2 e) (text_three s (at + 6)))
    (sound_if s at (eqb (hex2 s at) 3) _ _ (λ e. sound_exclusion s at (eqb-true (hex2 s at) 3 e)) tt)))
    tt

pub length_text : (l : Line) → length (line_text l) ≡ line_width l
unfolding line_text
length_text (Header h) = simp (length-append, length2, length4, length8, length888)
length_text (Atom n x y z) = simp (length-append, length2, length4, length888)
length_text (Exclusion a b) = simp (length-append, length2, length4)
length_text Malformed = refl
length_text End = refl
