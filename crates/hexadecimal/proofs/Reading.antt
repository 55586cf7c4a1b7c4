-- Laws of reading: a number's bytes read as that number, and a number that was read stands there in bytes. Assumes nothing.
use Prim.Native.Nat.{ℕ, suc, ◌+◌, ◌-◌, ◌*◌, ◌/◌, ◌%◌, ◌≤◌, ◌<◌}
use mathlib.Core.Path.{◌≡◌, refl, sym, ap, ◌∙◌}
use mathlib.Core.List.{List, [], ◌∷◌, ◌++◌}
use native.Mathlib.Nat.{add-zero}
use native.Mathlib.Omega.{arith}
use lib.ListN.{length, get_or-eq_default}
use lib.Dec.{ltb}
use borrow.Author.Tests.{lt-ltb, le-ltb, ltb-true, ltb-false}
use Rattle.hexadecimal.proofs.Choice.{cases}
use Rattle.std.specs.Prelude.{Option, Some, None}
use Rattle.hexadecimal.specs.Digits.{byte_at, digit_of, joined, hex2, hex4, hex8, number_at, number_or}
use Rattle.hexadecimal.specs.Glyphs.{glyph_of, text2, text4, text8, Stands}
use Rattle.hexadecimal.proofs.Writing.{length2, length4}

-- ---- bytes that stand one after the other

pub stands_split : (s : List ℕ) (at : ℕ) (xs ys : List ℕ) → Stands s at (xs ++ ys) → Stands s at xs × Stands s (at + length xs) ys
stands_split s at [] ys h = (tt, rw (add-zero at) h)
stands_split s at (x ∷ xs) ys h =
    let r = stands_split s (at + 1) xs ys h.1 in
    let e : at + 1 + length xs ≡ at + suc (length xs) = omega arith in
    ((h.0, r.0), rw e at r.1)

pub stands_join : (s : List ℕ) (at : ℕ) (xs ys : List ℕ) → Stands s at xs → Stands s (at + length xs) ys → Stands s at (xs ++ ys)
stands_join s at [] ys h k = rw (add-zero at) at k
stands_join s at (x ∷ xs) ys h k =
    let e : at + suc (length xs) ≡ at + 1 + length xs = omega arith in
    (h.0, stands_join s (at + 1) xs ys h.1 (rw e at k))

-- ---- digits

digit_glyph : (d : ℕ) → d < 16 → digit_of (glyph_of d) ≡ d
unfolding digit_of
digit_glyph d h =
    cases (ltb d 10)
    (λ p. let q : d < 10 = ltb-true d 10 p in simp (p, le-ltb (48 + d) 48 (omega arith), lt-ltb (48 + d) 58 (omega arith)) (omega arith))
    (λ p. let q : 10 ≤ d = ltb-false d 10 p in simp (p, le-ltb (87 + d) 48 (omega arith), le-ltb (87 + d) 58 (omega arith), le-ltb (87 + d) 97 (omega arith), lt-ltb (87 + d) 103 (omega arith)) (omega arith))

glyph_digit : (b : ℕ) → digit_of b < 16 → b ≡ glyph_of (digit_of b)
unfolding digit_of
glyph_digit b =
    cases (ltb b 48)
    (λ p. simp p (λ h. absurd (omega arith)))
    (λ p.
    cases (ltb b 58)
    (λ q. let u : 48 ≤ b = ltb-false b 48 p in let v : b < 58 = ltb-true b 58 q in simp (p, q) (λ h. simp (lt-ltb (b - 48) 10 (omega arith)) (omega arith)))
    (λ q.
    cases (ltb b 97)
    (λ r. simp (p, q, r) (λ h. absurd (omega arith)))
    (λ r.
    cases (ltb b 103)
    (λ t. let u : 97 ≤ b = ltb-false b 97 r in let v : b < 103 = ltb-true b 103 t in simp (p, q, r, t) (λ h. simp (le-ltb (b - 87) 10 (omega arith)) (omega arith)))
    (λ t. simp (p, q, r, t) (λ h. absurd (omega arith))))))

-- ---- a number of two halves, over the base

joined_good : (b hi lo : ℕ) → hi < b → lo < b → joined b hi lo ≡ hi * b + lo
unfolding joined
joined_good b hi lo h k = simp (lt-ltb hi b h, lt-ltb lo b k)

-- as the readers put two halves together: both are numbers, or the first is none, or the second
pub both_halves : (b hi lo x y : ℕ) → hi < b → lo < b → hi ≡ x → lo ≡ y → hi * b + lo ≡ joined b x y
both_halves b hi lo x y h k e f = rw (← e, ← f) (sym (joined_good b hi lo h k))

pub no_high : (b x y : ℕ) → b ≡ x → b * b ≡ joined b x y
unfolding joined
no_high b x y e = rw (← e) (simp (le-ltb b b (omega arith)))

pub no_low : (b hi x y : ℕ) → hi < b → hi ≡ x → b ≡ y → b * b ≡ joined b x y
unfolding joined
no_low b hi x y h e f = rw (← e, ← f) (simp (lt-ltb hi b h, le-ltb b b (omega arith)))

-- ---- what a reader answers, told by the number

pub none_at : (past n : ℕ) → past ≡ n → None ≡ number_at past n
none_at past n e = rw (← e) (simp (le-ltb past past (omega arith)))

pub handed_on : (past : ℕ) (r : Option ℕ) (n : ℕ) → r ≡ None → number_or past r ≡ n → r ≡ number_at past n
handed_on past r n e h = rw e (none_at past n (rw e at h))

pub some_at : (past m n : ℕ) → m < past → m ≡ n → Some m ≡ number_at past n
some_at past m n h e = rw (← e) (simp (lt-ltb m past h))

joined_back : (b hi lo : ℕ) → joined b hi lo < b * b → (hi < b) × (lo < b) × (joined b hi lo ≡ hi * b + lo)
unfolding joined
joined_back b hi lo =
    cases (ltb hi b)
    (λ p.
    cases (ltb lo b)
    (λ q. simp (p, q) (λ h. (ltb-true hi b p, ltb-true lo b q, refl)))
    (λ q. simp (p, q) (λ h. absurd (omega arith))))
    (λ p. simp p (λ h. absurd (omega arith)))

-- ---- numbers of 2, 4, 8 digits: from the text, and to it

pub hex2_text : (s : List ℕ) (at n : ℕ) → n < 256 → Stands s at (text2 n) → hex2 s at ≡ n
unfolding hex2 text2
hex2_text s at n h k =
    rw (k.0, k.1.0, digit_glyph (n / 16 % 16) (omega arith), digit_glyph (n % 16) (omega arith), joined_good 16 (n / 16 % 16) (n % 16) (omega arith) (omega arith))
    (omega arith)

pub text_hex2 : (s : List ℕ) (at : ℕ) → hex2 s at < 256 → Stands s at (text2 (hex2 s at))
unfolding hex2 text2
text_hex2 s at h =
    let hi = digit_of (byte_at s at) in
    let lo = digit_of (byte_at s (at + 1)) in
    let j = joined_back 16 (digit_of (byte_at s at)) (digit_of (byte_at s (at + 1))) h in
    let n = joined 16 (digit_of (byte_at s at)) (digit_of (byte_at s (at + 1))) in
    let a : digit_of (byte_at s at) ≡ joined 16 (digit_of (byte_at s at)) (digit_of (byte_at s (at + 1))) / 16 % 16 = omega (arith, j.0, j.1, j.2) in
    let b : digit_of (byte_at s (at + 1)) ≡ joined 16 (digit_of (byte_at s at)) (digit_of (byte_at s (at + 1))) % 16 = omega (arith, j.0, j.1, j.2) in
    (glyph_digit (byte_at s at) j.0 ∙ ap glyph_of a, (glyph_digit (byte_at s (at + 1)) j.1 ∙ ap glyph_of b, tt))

-- two halves, over the reader and the writer of a half
module _ (w : ℕ) (b : ℕ) (read : List ℕ → ℕ → ℕ) (text : ℕ → List ℕ) (wide : (n : ℕ) → length (text n) ≡ w)
    (from : (s : List ℕ) (at n : ℕ) → n < b → Stands s at (text n) → read s at ≡ n)
    (to : (s : List ℕ) (at : ℕ) → read s at < b → Stands s at (text (read s at))) where
  both_from : (s : List ℕ) (at hi lo : ℕ) → hi < b → lo < b → Stands s at (text hi ++ text lo) → joined b (read s at) (read s (at + w)) ≡ hi * b + lo
  both_from s at hi lo h k e =
      let p = stands_split s at (text hi) (text lo) e in
      rw (from s at hi h p.0, from s (at + w) lo k (rw (wide hi) at p.1))
      (joined_good b hi lo h k)

  both_to : (s : List ℕ) (at : ℕ) → read s at < b → read s (at + w) < b → Stands s at (text (read s at) ++ text (read s (at + w)))
  both_to s at h k = stands_join s at (text (read s at)) (text (read s (at + w))) (to s at h) (rw (wide (read s at)) (to s (at + w) k))

pub hex4_text : (s : List ℕ) (at n : ℕ) → n < 65536 → Stands s at (text4 n) → hex4 s at ≡ n
unfolding hex4 text4
hex4_text s at n h k =
    both_from 2 256 hex2 text2 length2 hex2_text text_hex2 s at (n / 256) (n % 256) (omega arith) (omega arith) k ∙ omega arith

pub text_hex4 : (s : List ℕ) (at : ℕ) → hex4 s at < 65536 → Stands s at (text4 (hex4 s at))
unfolding hex4 text4
text_hex4 s at h =
    let j = joined_back 256 (hex2 s at) (hex2 s (at + 2)) h in
    let a : joined 256 (hex2 s at) (hex2 s (at + 2)) / 256 ≡ hex2 s at = omega (arith, j.0, j.1, j.2) in
    let b : joined 256 (hex2 s at) (hex2 s (at + 2)) % 256 ≡ hex2 s (at + 2) = omega (arith, j.0, j.1, j.2) in
    rw (a, b) (both_to 2 256 hex2 text2 length2 hex2_text text_hex2 s at j.0 j.1)

pub hex8_text : (s : List ℕ) (at n : ℕ) → n < 4294967296 → Stands s at (text8 n) → hex8 s at ≡ n
unfolding hex8 text8
hex8_text s at n h k =
    both_from 4 65536 hex4 text4 length4 hex4_text text_hex4 s at (n / 65536) (n % 65536) (omega arith) (omega arith) k ∙ omega arith

pub text_hex8 : (s : List ℕ) (at : ℕ) → hex8 s at < 4294967296 → Stands s at (text8 (hex8 s at))
unfolding hex8 text8
text_hex8 s at h =
    let j = joined_back 65536 (hex4 s at) (hex4 s (at + 4)) h in
    let a : joined 65536 (hex4 s at) (hex4 s (at + 4)) / 65536 ≡ hex4 s at = omega (arith, j.0, j.1, j.2) in
    let b : joined 65536 (hex4 s at) (hex4 s (at + 4)) % 65536 ≡ hex4 s (at + 4) = omega (arith, j.0, j.1, j.2) in
    rw (a, b) (both_to 4 65536 hex4 text4 length4 hex4_text text_hex4 s at j.0 j.1)

no_digit : (b : ℕ) → b ≡ 0 → digit_of b < 16 → ⊥
unfolding digit_of
no_digit b e = rw e (λ h. omega arith)

pub in_range : (s : List ℕ) (at : ℕ) → hex2 s at < 256 → at < length s
unfolding hex2
in_range s at h =
    cases (ltb at (length s))
    (λ p. ltb-true at (length s) p)
    (λ p.
    let e : byte_at s at ≡ 0 = get_or-eq_default s 0 (ltb-false at (length s) p) in
    let j = joined_back 16 (digit_of (byte_at s at)) (digit_of (byte_at s (at + 1))) h in
    absurd (no_digit (byte_at s at) e j.0))

-- ---- past the end nothing is a number

past_digit : (s : List ℕ) (at : ℕ) → length s ≤ at → digit_of (byte_at s at) ≡ 16
unfolding digit_of
past_digit s at h = let e : byte_at s at ≡ 0 = get_or-eq_default s 0 h in rw e

pub past2 : (s : List ℕ) (at : ℕ) → length s ≤ at → 256 ≡ hex2 s at
unfolding hex2 joined
past2 s at h = rw (past_digit s at h)

pub past4 : (s : List ℕ) (at : ℕ) → length s ≤ at → 65536 ≡ hex4 s at
unfolding hex4 joined
past4 s at h = rw (← past2 s at h)

pub past8 : (s : List ℕ) (at : ℕ) → length s ≤ at → 4294967296 ≡ hex8 s at
unfolding hex8 joined
past8 s at h = rw (← past4 s at h)
