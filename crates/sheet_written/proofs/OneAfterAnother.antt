-- Laws of lines written one after the other. Assumes nothing.
use Prim.Native.Nat.{ℕ, suc, ◌+◌, ◌*◌, ◌-◌, ◌/◌, ◌<◌, ◌≤◌}
use mathlib.Core.Path.{◌≡◌, refl, sym, ap, ◌∙◌}
use mathlib.Core.List.{List, [], ◌∷◌, ◌++◌, map, append_assoc}
use native.Mathlib.Nat.{sub-zero, zero-add, mul-suc, add_comm}
use native.Mathlib.Omega.{arith}
use lib.ListN.{length, get_or, set, drop, length-append}
use lib.Seq.{sets, length-sets}
use Rattle.lists.specs.Lists.{numbers, up_to, rows}
use Rattle.lists.proofs.Exactness.{length_up_to}
use Rattle.lists.proofs.Walks.{numbers_next, numbers_end, drop_next, drop_past}
use Rattle.lists.proofs.Rows.{length_rows, rows_at}
use Rattle.hexadecimal.specs.Glyphs.{text2, text4, text8}
use Rattle.hexadecimal.proofs.Writing.{length2, length4, length8, sets_append, put_put}
use Rattle.sheet_lines.specs.Reading.{line_width}
use Rattle.sheet_lines.specs.Grammar.{text888, line_text, sheet_text}
use Rattle.sheet_lines.specs.declared.Head.{Head}
use Rattle.sheet_lines.specs.declared.Line.{Line}
use Rattle.sheet_lines.specs.declared.Line.TheVariants.{Header, Atom, Exclusion}
use Rattle.sheet_lines.proofs.GrammarLaws.{length_text}
use Rattle.sheet_written.specs.Written.{atom_line, atom_lines, row_line, written_lines}

pub long888 : (x y z : ℕ) → length (text888 x y z) ≡ 24
unfolding text888
long888 x y z = simp (length-append, length8)

-- ---- the numbers of a line

pub three_put : (at x y z : ℕ) (l m₁ m₂ m₃ : List ℕ) → m₁ ≡ sets l at (text8 x) → m₂ ≡ sets m₁ (at + 8) (text8 y) → m₃ ≡ sets m₂ (at + 16) (text8 z) → m₃ ≡ sets l at (text888 x y z)
unfolding text888
three_put at x y z l m₁ m₂ m₃ p q r =
    let two : m₂ ≡ sets l at (text8 x ++ text8 y) = put_put 8 (text8 x) (text8 y) l m₁ m₂ at (length8 x) p q in
    put_put 16 (text8 x ++ text8 y) (text8 z) l m₂ m₃ at (simp (length-append, length8)) two r

-- a header's 40 digits, those of its kind first
abbrev pub head_digits : ℕ → Head → List ℕ
head_digits k h = text2 k ++ text4 h.atoms ++ text888 h.ex h.ey h.ez ++ text2 h.mask ++ text8 h.radius

pub head_long : (k : ℕ) (h : Head) → length (head_digits k h) ≡ 40
head_long k h = simp (length-append, length2, length4, length8, long888)

pub head_put : (k : ℕ) (h : Head) (l m₁ m₂ m₃ m₄ m₅ : List ℕ) → m₁ ≡ sets l 0 (text2 k) → m₂ ≡ sets m₁ 2 (text4 h.atoms) → m₃ ≡ sets m₂ 6 (text888 h.ex h.ey h.ez) → m₄ ≡ sets m₃ 30 (text2 h.mask) → m₅ ≡ sets m₄ 32 (text8 h.radius) → m₅ ≡ sets l 0 (head_digits k h)
head_put k h l m₁ m₂ m₃ m₄ m₅ p q r s t =
    let a = text2 k ++ text4 h.atoms in
    let b = text2 k ++ text4 h.atoms ++ text888 h.ex h.ey h.ez in
    let d = text2 k ++ text4 h.atoms ++ text888 h.ex h.ey h.ez ++ text2 h.mask in
    let two : m₂ ≡ sets l 0 a = put_put 2 (text2 k) (text4 h.atoms) l m₁ m₂ 0 (length2 k) p q in
    let three : m₃ ≡ sets l 0 b = put_put 6 a (text888 h.ex h.ey h.ez) l m₂ m₃ 0 (simp (length-append, length2, length4)) two r in
    let four : m₄ ≡ sets l 0 d = put_put 30 b (text2 h.mask) l m₃ m₄ 0 (simp (length-append, length2, length4, long888)) three s in
    put_put 32 d (text8 h.radius) l m₄ m₅ 0 (simp (length-append, length2, length4, long888)) four t

pub header_put : (h : Head) (l m₁ m₂ : List ℕ) → m₁ ≡ sets l 0 (head_digits 1 h) → m₂ ≡ set m₁ 40 10 → m₂ ≡ sets l 0 (line_text (Header h))
unfolding line_text
header_put h l m₁ m₂ p q = put_put 40 (head_digits 1 h) (10 ∷ []) l m₁ m₂ 0 (head_long 1 h) p q

-- an atom's 30 digits, those of its kind first
abbrev pub place_digits : ℕ → ℕ → ℕ → ℕ → ℕ → List ℕ
place_digits k n x y z = text2 k ++ text4 n ++ text888 x y z

pub place_long : (k n x y z : ℕ) → length (place_digits k n x y z) ≡ 30
place_long k n x y z = simp (length-append, length2, length4, long888)

pub place_put : (at k n x y z : ℕ) (l m₁ m₂ m₃ : List ℕ) → m₁ ≡ sets l at (text2 k) → m₂ ≡ sets m₁ (at + 2) (text4 n) → m₃ ≡ sets m₂ (at + 6) (text888 x y z) → m₃ ≡ sets l at (place_digits k n x y z)
place_put at k n x y z l m₁ m₂ m₃ p q r =
    let two : m₂ ≡ sets l at (text2 k ++ text4 n) = put_put 2 (text2 k) (text4 n) l m₁ m₂ at (length2 k) p q in
    put_put 6 (text2 k ++ text4 n) (text888 x y z) l m₂ m₃ at (simp (length-append, length2, length4)) two r

pub atom_put : (at n x y z : ℕ) (l m₁ m₂ : List ℕ) → m₁ ≡ sets l at (place_digits 2 n x y z) → m₂ ≡ set m₁ (at + 30) 10 → m₂ ≡ sets l at (line_text (Atom n x y z))
unfolding line_text
atom_put at n x y z l m₁ m₂ p q = put_put 30 (place_digits 2 n x y z) (10 ∷ []) l m₁ m₂ at (place_long 2 n x y z) p q

-- ---- a line, and those that are left after it

-- of any text of lines: what is left after a line, written after it
pub turn_of : (text : Line → List ℕ) (total : List Line → List ℕ) (l : Line) (ls : List Line) → total (l ∷ ls) ≡ text l ++ total ls → (out out' t : List ℕ) (at to : ℕ) → out' ≡ sets out at (text l) → to ≡ at + length (text l) → sets out at (total (l ∷ ls)) ≡ t → sets out' to (total ls) ≡ t
turn_of text total l ls c out out' t at to p q r =
    ap (λ (o : List ℕ). sets o to (total ls)) p
    ∙ (ap (λ (k : ℕ). sets (sets out at (text l)) k (total ls)) q
    ∙ (sets_append (text l) (total ls) out at ∙ (ap (λ (x : List ℕ). sets out at x) (sym c) ∙ r)))

pub line_turn : (l : Line) (ls : List Line) (out out' t : List ℕ) (at to : ℕ) → out' ≡ sets out at (line_text l) → to ≡ at + line_width l → sets out at (sheet_text (l ∷ ls)) ≡ t → sets out' to (sheet_text ls) ≡ t
line_turn l ls out out' t at to p q r = turn_of line_text sheet_text l ls refl out out' t at to p (q ∙ ap (λ (w : ℕ). at + w) (sym (length_text l))) r

-- ---- the atoms by number: what is left, written from here, gives what all gives from the start
module _ (xs out₀ : List ℕ) where
  abbrev n : ℕ
  n = length xs / 3

  abbrev atoms_from : ℕ → List Line
  atoms_from i = map (atom_line xs) (numbers i (n - i))

  pub record AtomsPut (out : List ℕ) (i : ℕ) : Type 0 where
    pub within : i ≤ n
    pub size : length out ≡ length out₀
    pub left : sets out (41 + 31 * i) (sheet_text (atoms_from i)) ≡ sets out₀ 41 (sheet_text (atom_lines xs))

  pub atoms_begin : AtomsPut out₀ 0
  unfolding atom_lines
  atoms_begin = record { within = omega arith; size = refl; left = ap (λ (k : ℕ). sets out₀ 41 (sheet_text (map (atom_line xs) (numbers 0 k)))) (sub-zero n) }

  pub atoms_turn : {i : ℕ} {out out' : List ℕ} → AtomsPut out i → i < n → out' ≡ sets out (41 + 31 * i) (line_text (Atom i (get_or xs (3 * i) 0) (get_or xs (3 * i + 1) 0) (get_or xs (3 * i + 2) 0))) → AtomsPut out' (i + 1)
  unfolding atom_line
  atoms_turn {i} {out} {out'} a h p =
      record {
        within = omega arith;
        size = ap length p ∙ (length-sets out (41 + 31 * i) (line_text (atom_line xs i)) ∙ a.size);
        left =
            line_turn (atom_line xs i) (atoms_from (i + 1)) out out' (sets out₀ 41 (sheet_text (atom_lines xs))) (41 + 31 * i) (41 + 31 * (i + 1)) p (omega arith)
            (ap (λ (l : List ℕ). sets out (41 + 31 * i) (sheet_text (map (atom_line xs) l))) (sym (numbers_next n i h)) ∙ a.left);
      }

  pub atoms_end : {i : ℕ} {out : List ℕ} → AtomsPut out i → n ≤ i → out ≡ sets out₀ 41 (sheet_text (atom_lines xs))
  atoms_end {i} {out} a h = ap (λ (l : List ℕ). sets out (41 + 31 * i) (sheet_text (map (atom_line xs) l))) (sym (numbers_end n i h)) ∙ a.left

-- ---- the exclusions
module _ (table out₀ : List ℕ) (at : ℕ) where
  abbrev rows_from : ℕ → List Line
  rows_from i = map row_line (drop i (rows table))

  pub record RowsPut (out : List ℕ) (i : ℕ) : Type 0 where
    pub within : i ≤ length table / 2
    pub size : length out ≡ length out₀
    pub left : sets out (at + 11 * i) (sheet_text (rows_from i)) ≡ sets out₀ at (sheet_text (map row_line (rows table)))

  pub rows_begin : RowsPut out₀ 0
  rows_begin = let e : at + 11 * 0 ≡ at = omega arith in record { within = omega arith; size = refl; left = ap (λ (k : ℕ). sets out₀ k (sheet_text (map row_line (rows table)))) e }

  pub rows_turn : {i : ℕ} {out out' : List ℕ} → RowsPut out i → i < length table / 2 → out' ≡ sets out (at + 11 * i) (line_text (Exclusion (get_or table (2 * i) 0) (get_or table (2 * i + 1) 0))) → RowsPut out' (i + 1)
  rows_turn {i} {out} {out'} a h p =
      let e : drop i (rows table) ≡ (get_or table (2 * i) 0, get_or table (2 * i + 1) 0) ∷ drop (i + 1) (rows table) =
      drop_next (0, 0) (rows table) i (omega (arith, length_rows table)) ∙ ap (λ (r : ℕ × ℕ). r ∷ drop (i + 1) (rows table)) (rows_at table i h) in
      let l = Exclusion (get_or table (2 * i) 0) (get_or table (2 * i + 1) 0) in
      record {
        within = omega arith;
        size = ap length p ∙ (length-sets out (at + 11 * i) (line_text l) ∙ a.size);
        left =
            line_turn l (rows_from (i + 1)) out out' (sets out₀ at (sheet_text (map row_line (rows table)))) (at + 11 * i) (at + 11 * (i + 1)) p (omega arith)
            (ap (λ (k : List (ℕ × ℕ)). sets out (at + 11 * i) (sheet_text (map row_line k))) (sym e) ∙ a.left);
      }

  pub rows_end : {i : ℕ} {out : List ℕ} → RowsPut out i → length table / 2 ≤ i → out ≡ sets out₀ at (sheet_text (map row_line (rows table)))
  rows_end {i} {out} a h =
      ap (λ (l : List (ℕ × ℕ)). sets out (at + 11 * i) (sheet_text (map row_line l))) (sym (drop_past (rows table) i (omega (arith, length_rows table)))) ∙ a.left

-- ---- the whole

-- of any text of lines that is that of its lines, one after the other
module _ (text : Line → List ℕ) (total : List Line → List ℕ) (nil : total [] ≡ []) (cons : (l : Line) (ls : List Line) → total (l ∷ ls) ≡ text l ++ total ls) where
  pub append_of : (ls ks : List Line) → total (ls ++ ks) ≡ total ls ++ total ks
  append_of [] ks = ap (λ (t : List ℕ). t ++ total ks) (sym nil)
  append_of (l ∷ ls) ks =
      cons l (ls ++ ks)
      ∙ (ap (λ (t : List ℕ). text l ++ t) (append_of ls ks)
      ∙ (sym (append_assoc (text l) (total ls) (total ks)) ∙ ap (λ (t : List ℕ). t ++ total ks) (sym (cons l ls))))

  pub long_of : {A : Type 0} (f : A → Line) (w : ℕ) (l : List A) → ((a : A) → length (text (f a)) ≡ w) → length (total (map f l)) ≡ w * length l
  long_of f w [] h = omega (arith, ap length nil)
  long_of f w (a ∷ l) h =
      ap length (cons (f a) (map f l))
      ∙ (length-append (text (f a)) (total (map f l)) ∙ (ap (λ (k : ℕ). k + length (total (map f l))) (h a) ∙ (ap (λ (k : ℕ). w + k) (long_of f w l h) ∙ more w (length l))))
    where
      more : (w k : ℕ) → w + w * k ≡ w * suc k
      more w k = sym (mul-suc w k ∙ add_comm (w * k) w)

pub sheet_append : (ls ks : List Line) → sheet_text (ls ++ ks) ≡ sheet_text ls ++ sheet_text ks
sheet_append ls ks = append_of line_text sheet_text refl (λ l ms. refl) ls ks

long_map : {A : Type 0} (f : A → Line) (w : ℕ) (l : List A) → ((a : A) → line_width (f a) ≡ w) → length (sheet_text (map f l)) ≡ w * length l
long_map f w l h = long_of line_text sheet_text refl (λ l ms. refl) f w l (λ a. length_text (f a) ∙ h a)

pub long_atoms : (xs : List ℕ) → length (sheet_text (atom_lines xs)) ≡ 31 * (length xs / 3)
unfolding atom_lines atom_line
long_atoms xs = long_map (atom_line xs) 31 (up_to (length xs / 3)) (λ k. refl) ∙ ap (λ (k : ℕ). 31 * k) (length_up_to (length xs / 3))

pub long_rows : (l : List (ℕ × ℕ)) → length (sheet_text (map row_line l)) ≡ 11 * length l
long_rows l = long_map row_line 11 l (λ p. refl)

-- header, atoms, exclusions: how many bytes, and that they were written
pub long_written : (h : Head) (xs : List ℕ) (l : List (ℕ × ℕ)) → length (sheet_text (written_lines h xs l)) ≡ 41 + 31 * (length xs / 3) + 11 * length l
unfolding written_lines
long_written h xs l =
    omega (arith, length-append (line_text (Header h)) (sheet_text (atom_lines xs ++ map row_line l)), length_text (Header h), ap length (sheet_append (atom_lines xs) (map row_line l)), length-append (sheet_text (atom_lines xs)) (sheet_text (map row_line l)), long_atoms xs, long_rows l)

pub written_put : (h : Head) (xs : List ℕ) (l : List (ℕ × ℕ)) (out m₁ m₂ m₃ : List ℕ) → m₁ ≡ sets out 0 (line_text (Header h)) → m₂ ≡ sets m₁ 41 (sheet_text (atom_lines xs)) → m₃ ≡ sets m₂ (41 + 31 * (length xs / 3)) (sheet_text (map row_line l)) → m₃ ≡ sets out 0 (sheet_text (written_lines h xs l))
unfolding written_lines
written_put h xs l out m₁ m₂ m₃ p q r =
    let two : m₂ ≡ sets out 0 (line_text (Header h) ++ sheet_text (atom_lines xs)) = put_put 41 (line_text (Header h)) (sheet_text (atom_lines xs)) out m₁ m₂ 0 (length_text (Header h)) p q in
    let long : length (line_text (Header h) ++ sheet_text (atom_lines xs)) ≡ 41 + 31 * (length xs / 3) = omega (arith, length-append (line_text (Header h)) (sheet_text (atom_lines xs)), length_text (Header h), long_atoms xs) in
    put_put (41 + 31 * (length xs / 3)) (line_text (Header h) ++ sheet_text (atom_lines xs)) (sheet_text (map row_line l)) out m₂ m₃ 0 long two (r ∙ ap (λ (k : ℕ). sets m₂ k (sheet_text (map row_line l))) (sym (zero-add (41 + 31 * (length xs / 3)))))
    ∙ ap (λ (t : List ℕ). sets out 0 t) (append_assoc (line_text (Header h)) (sheet_text (atom_lines xs)) (sheet_text (map row_line l)) ∙ ap (λ (t : List ℕ). line_text (Header h) ++ t) (sym (sheet_append (atom_lines xs) (map row_line l))))
