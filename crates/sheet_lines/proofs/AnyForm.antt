-- Laws of whole lines over any form of a sheet: its lines' text, how a line is read, how wide it is. A text of lines reads as these lines, a sheet with no malformed
-- line is its lines' bytes, bytes fall into whole lines in one way, and another order of the whole lines is another order of the lines. Assumes nothing.
use Prim.Native.Nat.{ℕ, zero, suc, ◌+◌, ◌≤◌, ◌<◌}
use mathlib.Core.Path.{◌≡◌, refl, sym, ap, subst, ◌∙◌}
use mathlib.Core.Bool.{cond}
use mathlib.Core.List.{List, [], ◌∷◌, ◌++◌, append_assoc, Permᴰ}
use native.Mathlib.Nat.{le_of_suc-le-suc, not-suc-le-zero}
use native.Mathlib.Numerals.{add-one}
use native.Mathlib.Omega.{arith}
use lib.ListN.{length, drop, length-append, get_or-eq_default}
use lib.Seq.{get_or-append_seam, drop-cons, drop-length}
use lib.Dec.{ltb}
use borrow.Author.Tests.{lt-ltb, le-ltb, ltb-true, ltb-false}
use Rattle.lists.proofs.Cases.{impossible}
use Rattle.hexadecimal.specs.Digits.{byte_at}
use Rattle.hexadecimal.specs.Glyphs.{Stands}
use Rattle.hexadecimal.proofs.Choice.{cases}
use Rattle.hexadecimal.proofs.Reading.{stands_split, stands_join}
use Rattle.sheet_lines.specs.Grammar.{Unbroken, WholeLine, AllWhole, join_all}

-- ---- bytes

pub stands_self : (pre xs : List ℕ) → Stands (pre ++ xs) (length pre) xs
stands_self pre [] = tt
stands_self pre (x ∷ xs) =
    let e : length (pre ++ (x ∷ [])) ≡ length pre + 1 = length-append pre (x ∷ []) in
    let r : Stands ((pre ++ (x ∷ [])) ++ xs) (length pre + 1) xs = rw e at (stands_self (pre ++ (x ∷ [])) xs) in
    (get_or-append_seam pre x xs 0, rw (append_assoc pre (x ∷ []) xs) at r)

newline_in : (s : List ℕ) (at : ℕ) (xs : List ℕ) → Stands s at (xs ++ (10 ∷ [])) → at + length (xs ++ (10 ∷ [])) ≤ length s
newline_in s at xs k =
    let p = stands_split s at xs (10 ∷ []) k in
    cases (ltb (at + length xs) (length s))
    (λ q. omega (arith, ltb-true (at + length xs) (length s) q, length-append xs (10 ∷ [])))
    (λ q.
    let z : byte_at s (at + length xs) ≡ 0 = get_or-eq_default s 0 (ltb-false (at + length xs) (length s) q) in
    absurd (omega (arith, p.1.0)))

-- a whole line that stands somewhere ends within the bytes
pub whole_ends : (s : List ℕ) (at : ℕ) (c : List ℕ) → WholeLine c → Stands s at c → at + length c ≤ length s
whole_ends s at c w k =
    let q : Stands s at (w.body ++ (10 ∷ [])) = subst (λ (x : List ℕ). Stands s at x) w.is k in
    omega (arith, newline_in s at w.body q, ap length w.is)

whole_some : (c : List ℕ) → WholeLine c → 1 ≤ length c
whole_some c w = omega (arith, ap length w.is, length-append w.body (10 ∷ []))

-- bytes that stand to the end are the rest
rest_is : (xs s : List ℕ) (at : ℕ) → Stands s at xs → at + length xs ≡ length s → drop at s ≡ xs
rest_is [] s at k e = let e' : at ≡ length s = omega arith in ap (λ (j : ℕ). drop j s) e' ∙ drop-length s
rest_is (x ∷ xs) s at k e =
    let h : at < length s = omega arith in
    drop-cons s at 0 h ∙ (ap (λ (b : ℕ). b ∷ drop (suc at) s) k.0 ∙ ap (λ (r : List ℕ). x ∷ r) (rw (← add-one at) (rest_is xs s (at + 1) k.1 (omega arith))))

-- ---- bytes fall into whole lines in one way

pub unsplit : (xs ys r t : List ℕ) → Unbroken xs → Unbroken ys → xs ++ (10 ∷ r) ≡ ys ++ (10 ∷ t) → (xs ≡ ys) × (r ≡ t)
unsplit [] [] r t a b e = (refl, cc)
unsplit [] (y ∷ ys) r t a b e = let z : y ≡ 10 = cc in absurd (b.0 z)
unsplit (x ∷ xs) [] r t a b e = let z : x ≡ 10 = cc in absurd (a.0 z)
unsplit (x ∷ xs) (y ∷ ys) r t a b e =
    let h : x ≡ y = cc in
    let q = unsplit xs ys r t a.1 b.1 (cc) in
    (cc q.0, q.1)

pub one_way : (cs es : List (List ℕ)) → AllWhole cs → AllWhole es → join_all cs ≡ join_all es → cs ≡ es
one_way [] [] a b e = refl
one_way [] (d ∷ es) a b e =
    absurd (omega (arith, ap length e, length-append d (join_all es), ap length b.0.is, length-append b.0.body (10 ∷ [])))
one_way (c ∷ cs) [] a b e =
    absurd (omega (arith, ap length e, length-append c (join_all cs), ap length a.0.is, length-append a.0.body (10 ∷ [])))
one_way (c ∷ cs) (d ∷ es) a b e =
    let p : c ++ join_all cs ≡ a.0.body ++ (10 ∷ join_all cs) = rw a.0.is (append_assoc a.0.body (10 ∷ []) (join_all cs)) in
    let q : d ++ join_all es ≡ b.0.body ++ (10 ∷ join_all es) = rw b.0.is (append_assoc b.0.body (10 ∷ []) (join_all es)) in
    let u = unsplit a.0.body b.0.body (join_all cs) (join_all es) a.0.unbroken b.0.unbroken (sym p ∙ (e ∙ q)) in
    let v : cs ≡ es = one_way cs es a.1 b.1 u.1 in
    cc (a.0.is, b.0.is, u.0)

-- ---- a form

abbrev pub Each : {L : Type 0} → (L → Type 0) → List L → Type 0
Each P [] = Unit {0}
Each P (l ∷ ls) = P l × Each P ls

abbrev pub texts_by : {L : Type 0} → (L → List ℕ) → List L → List (List ℕ)
texts_by text [] = []
texts_by text (l ∷ ls) = text l ∷ texts_by text ls

abbrev pub lines_by : {L : Type 0} → (List ℕ → ℕ → L) → (L → ℕ) → ℕ → List ℕ → ℕ → List L
lines_by line width zero s at = []
lines_by line width (suc f) s at = cond (ltb at (length s)) (line s at ∷ lines_by line width f s (at + width (line s at))) []

-- a line's bytes read as that line, a line that was read stands there in bytes, as wide as they are, and they are a whole line
pub record Form (L : Type 0) (text : L → List ℕ) (line : List ℕ → ℕ → L) (width : L → ℕ) (Fits Well : L → Type 0) : Type 0 where
  pub reads : (s : List ℕ) (at : ℕ) (l : L) → Fits l → Stands s at (text l) → line s at ≡ l
  pub stood : (s : List ℕ) (at : ℕ) → Well (line s at) → Fits (line s at) × Stands s at (text (line s at))
  pub wide : (l : L) → length (text l) ≡ width l
  pub whole : (l : L) → Fits l → WholeLine (text l)

module _ (L : Type 0) (text : L → List ℕ) (line : List ℕ → ℕ → L) (width : L → ℕ) (Fits Well : L → Type 0) (form : Form L text line width Fits Well) where
  abbrev lines : ℕ → List ℕ → ℕ → List L
  lines f s at = lines_by line width f s at

  abbrev bytes : List L → List ℕ
  bytes ls = join_all (texts_by text ls)

  least : (l : L) → Fits l → 1 ≤ width l
  least l v = omega (arith, whole_some (text l) (form.whole l v), form.wide l)

  -- ---- the lines of a text
  lines_from : (ls : List L) (f : ℕ) (s : List ℕ) (at : ℕ) → Each Fits ls → Stands s at (bytes ls) → length s ≡ at + length (bytes ls) → length ls ≤ f → lines f s at ≡ ls
  lines_from [] zero s at v k e h = refl
  lines_from [] (suc f) s at v k e h = simp (le-ltb at (length s) (omega arith))
  lines_from (l ∷ ls) zero s at v k e h = absurd (not-suc-le-zero h)
  lines_from (l ∷ ls) (suc f) s at v k e h =
      let p = stands_split s at (text l) (bytes ls) k in
      let w : length (text l) ≡ width l = form.wide l in
      let here : at < length s = omega (arith, least l v.0, length-append (text l) (bytes ls)) in
      let is : line s at ≡ l = form.reads s at l v.0 p.0 in
      simp (lt-ltb at (length s) here, is)
      (ap (λ (r : List L). l ∷ r)
      (lines_from ls f s (at + width l) v.1 (rw w at p.1) (omega (arith, length-append (text l) (bytes ls))) (le_of_suc-le-suc h)))

  few_lines : (ls : List L) → Each Fits ls → length ls ≤ length (bytes ls)
  few_lines [] v = omega arith
  few_lines (l ∷ ls) v = omega (arith, few_lines ls v.1, least l v.0, form.wide l, length-append (text l) (bytes ls))

  pub lines_of_bytes : (ls : List L) → Each Fits ls → lines_by line width (length (join_all (texts_by text ls))) (join_all (texts_by text ls)) 0 ≡ ls
  lines_of_bytes ls v = lines_from ls (length (bytes ls)) (bytes ls) 0 v (stands_self [] (bytes ls)) (omega arith) (few_lines ls v)

  -- ---- the text of the lines
  abbrev Spelt : List ℕ → ℕ → List L → Type 0
  Spelt s at ls = Each Fits ls × Stands s at (bytes ls) × (at + length (bytes ls) ≡ length s)

  spelt : (f : ℕ) (s : List ℕ) (at : ℕ) → at ≤ length s → length s ≤ at + f → Each Well (lines f s at) → Spelt s at (lines f s at)
  spelt zero s at h k = λ g. (tt, tt, omega arith)
  spelt (suc f) s at h k =
      cases (ltb at (length s))
      (λ p.
      simp p
      (λ g.
      let v = form.stood s at g.0 in
      let w : length (text (line s at)) ≡ width (line s at) = form.wide (line s at) in
      let m : at + width (line s at) ≤ length s = omega (arith, whole_ends s at (text (line s at)) (form.whole (line s at) v.0) v.1) in
      let r = spelt f s (at + width (line s at)) m (omega (arith, least (line s at) v.0)) g.1 in (
        (v.0, r.0),
        stands_join s at (text (line s at)) (bytes (lines f s (at + width (line s at)))) v.1 (rw w r.1),
        omega (arith, r.2, length-append (text (line s at)) (bytes (lines f s (at + width (line s at))))),
      )))
      (λ p. simp p (λ g. (tt, tt, omega (arith, ltb-false at (length s) p))))

  -- a sheet with no malformed line is its lines' bytes, one after the other
  pub bytes_of_lines : (s : List ℕ) → Each Well (lines_by line width (length s) s 0) → Each Fits (lines_by line width (length s) s 0) × (s ≡ join_all (texts_by text (lines_by line width (length s) s 0)))
  bytes_of_lines s g =
      let t = spelt (length s) s 0 (omega arith) (omega arith) g in
      (t.0, rest_is (bytes (lines (length s) s 0)) s 0 t.1 t.2)

  -- ---- whole lines
  pub whole_texts : (ls : List L) → Each Fits ls → AllWhole (texts_by text ls)
  whole_texts [] v = tt
  whole_texts (l ∷ ls) v = (form.whole l v.0, whole_texts ls v.1)

  -- ---- in another order
  fits_order : {ls ms : List L} → Permᴰ ls ms → Each Fits ls → Each Fits ms
  fits_order Permᴰ.nil v = v
  fits_order (Permᴰ.cons e p) v = (subst (λ (x : L). Fits x) e v.0, fits_order p v.1)
  fits_order (Permᴰ.swap e f) v = (subst (λ (x : L). Fits x) f v.1.0, (subst (λ (x : L). Fits x) e v.0, v.1.1))
  fits_order (Permᴰ.trans p q) v = fits_order q (fits_order p v)

  length_order : {ls ms : List L} → Permᴰ ls ms → length (bytes ls) ≡ length (bytes ms)
  length_order Permᴰ.nil = refl
  length_order (Permᴰ.cons {a = a} {b = b} {l₁ = l₁} {l₂ = l₂} e p) =
      omega (arith, length-append (text a) (bytes l₁), length-append (text b) (bytes l₂), ap (λ (x : L). length (text x)) e, length_order p)
  length_order (Permᴰ.swap {a = a} {b = b} {a' = a'} {b' = b'} {l = l} e f) =
      omega (arith, length-append (text a) (text b ++ bytes l), length-append (text b) (bytes l), length-append (text a') (text b' ++ bytes l), length-append (text b') (bytes l), ap (λ (x : L). length (text x)) e, ap (λ (x : L). length (text x)) f)
  length_order (Permᴰ.trans p q) = length_order p ∙ length_order q

  -- the order of the bytes' lines is an order of the lines
  abbrev Follows : List L → List (List ℕ) → Type 0
  Follows ls ds = (ms : List L) × (ds ≡ texts_by text ms) × Permᴰ ls ms

  follow_nil : (ls : List L) → ◌≡◌ {A = List (List ℕ)} [] (texts_by text ls) → Follows ls []
  follow_nil [] e = ([], refl, Permᴰ.nil)
  follow_nil (l ∷ ls) e = impossible (cc)

  follow : {cs ds : List (List ℕ)} → Permᴰ cs ds → (ls : List L) → cs ≡ texts_by text ls → Follows ls ds
  follow Permᴰ.nil ls e = follow_nil ls e
  follow (Permᴰ.cons {a = a} {b = b} {l₁ = l₁} {l₂ = l₂} h p) [] e = impossible (cc)
  follow (Permᴰ.cons {a = a} {b = b} {l₁ = l₁} {l₂ = l₂} h p) (l ∷ ls) e =
      let r = follow p ls (cc) in
      (l ∷ r.0, cc r.1, Permᴰ.cons refl r.2)
  follow (Permᴰ.swap {a = a} {b = b} {a' = a'} {b' = b'} {l = l} g h) [] e = impossible (cc)
  follow (Permᴰ.swap {a = a} {b = b} {a' = a'} {b' = b'} {l = l} g h) (k ∷ []) e = impossible (cc)
  follow (Permᴰ.swap {a = a} {b = b} {a' = a'} {b' = b'} {l = l} g h) (k ∷ (m ∷ ls)) e = (m ∷ (k ∷ ls), cc, Permᴰ.swap refl refl)
  follow (Permᴰ.trans p q) ls e =
      let r = follow p ls e in
      let t = follow q r.0 r.1 in
      (t.0, t.1, Permᴰ.trans r.2 t.2)

  -- a sheet with no malformed line, and the same whole lines in another order: the same lines in that order, and as many bytes
  pub lines_reordered : (cs ds : List (List ℕ)) → AllWhole cs → Permᴰ cs ds → Each Well (lines_by line width (length (join_all cs)) (join_all cs) 0) → Permᴰ (lines_by line width (length (join_all cs)) (join_all cs) 0) (lines_by line width (length (join_all ds)) (join_all ds) 0) × (length (join_all cs) ≡ length (join_all ds))
  lines_reordered cs ds w p g =
      let t = bytes_of_lines (join_all cs) g in
      let e : cs ≡ texts_by text (lines (length (join_all cs)) (join_all cs) 0) = one_way cs (texts_by text (lines (length (join_all cs)) (join_all cs) 0)) w (whole_texts (lines (length (join_all cs)) (join_all cs) 0) t.0) t.1 in
      let m = follow p (lines (length (join_all cs)) (join_all cs) 0) e in
      let d : join_all ds ≡ bytes m.0 = ap join_all m.1 in
      let v = fits_order m.2 t.0 in
      let q : lines (length (join_all ds)) (join_all ds) 0 ≡ m.0 = ap (λ (x : List ℕ). lines (length x) x 0) d ∙ lines_of_bytes m.0 v in
      (rw q m.2, ap length t.1 ∙ (length_order m.2 ∙ sym (ap length d)))
