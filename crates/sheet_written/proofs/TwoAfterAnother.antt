-- Laws of lines of the second form written one after the other; `write_two` by its cases. Assumes nothing.
use Rattle.std.specs.Prelude.{Err, Ok, Result}
use Prim.Native.Nat.{ℕ, ◌+◌, ◌*◌, ◌-◌, ◌/◌, ◌<◌, ◌≤◌}
use mathlib.Core.Path.{◌≡◌, refl, sym, ap, ◌∙◌}
use mathlib.Core.List.{List, [], ◌∷◌, ◌++◌, map, append_assoc}
use native.Mathlib.Nat.{sub-zero, zero-add}
use native.Mathlib.Omega.{arith}
use lib.ListN.{length, get_or, set, length-append}
use lib.Seq.{sets, length-sets}
use borrow.Author.Tests.{lt-ltb, le-ltb}
use Rattle.answer.specs.Seen.{answered, refused, refused_by}
use Rattle.answer.specs.declared.Refusal.{Refusal}
use Rattle.lists.specs.Lists.{numbers, up_to, rows}
use Rattle.lists.proofs.Exactness.{length_up_to}
use Rattle.lists.proofs.Walks.{numbers_next, numbers_end}
use Rattle.lists.proofs.Rows.{length_rows}
use Rattle.frame.specs.declared.Frame.{Frame}
use Rattle.hexadecimal.specs.Glyphs.{text2, text8}
use Rattle.hexadecimal.proofs.Writing.{length2, length4, length8, put_put}
use Rattle.sheet_lines.specs.Grammar.{line_text, sheet_text}
use Rattle.sheet_lines.specs.declared.Head.{Head}
use Rattle.sheet_lines.specs.declared.Line.{Line}
use Rattle.sheet_lines.specs.declared.Line.TheVariants.{Header, Atom}
use Rattle.sheet_lines_two.specs.Grammar.{head_text, rule_text, text_with, text_two}
use Rattle.sheet_lines_two.proofs.GrammarTwo.{length_two}
use Rattle.sheet_written.specs.Written.{head_of, atom_line, atom_lines, row_line}
use Rattle.sheet_written.specs.Write.{write_asked, laid_in}
use Rattle.sheet_written.specs.WrittenTwo.{plain_text, two_lines, written_two, write_two_of}
use Rattle.sheet_written.proofs.OneAfterAnother.{long888, head_digits, head_long, place_digits, place_long, turn_of, append_of, long_of, long_rows}

-- ---- the numbers of a line

pub header_put_two : (h : Head) (l m₁ m₂ m₃ : List ℕ) → m₁ ≡ sets l 0 (head_digits 17 h) → m₂ ≡ sets m₁ 40 (text2 1) → m₃ ≡ set m₂ 42 10 → m₃ ≡ sets l 0 (text_with (Header h) 1)
unfolding text_with head_text rule_text
header_put_two h l m₁ m₂ m₃ p q r =
    let end : m₃ ≡ sets m₁ 40 (text2 1 ++ (10 ∷ [])) = put_put 2 (text2 1) (10 ∷ []) m₁ m₂ m₃ 40 (length2 1) q r in
    put_put 40 (head_digits 17 h) (text2 1 ++ (10 ∷ [])) l m₁ m₃ 0 (head_long 17 h) p end

pub atom_put_two : (at n x y z t : ℕ) (l m₁ m₂ m₃ : List ℕ) → m₁ ≡ sets l at (place_digits 18 n x y z) → m₂ ≡ sets m₁ (at + 30) (text8 t) → m₃ ≡ set m₂ (at + 38) 10 → m₃ ≡ sets l at (text_with (Atom n x y z) t)
unfolding text_with
atom_put_two at n x y z t l m₁ m₂ m₃ p q r =
    let d = place_digits 18 n x y z ++ text8 t in
    let two : m₂ ≡ sets l at d = put_put 30 (place_digits 18 n x y z) (text8 t) l m₁ m₂ at (place_long 18 n x y z) p q in
    put_put 38 d (10 ∷ []) l m₂ m₃ at (simp (length-append, length2, length4, length8, long888)) two r

-- ---- the atoms by number
abbrev text_one : Line → List ℕ
text_one l = text_with l 0

module _ (xs out₀ : List ℕ) where
  abbrev n : ℕ
  n = length xs / 3

  abbrev atoms_from : ℕ → List Line
  atoms_from i = map (atom_line xs) (numbers i (n - i))

  pub record TwosPut (out : List ℕ) (i : ℕ) : Type 0 where
    pub within : i ≤ n
    pub size : length out ≡ length out₀
    pub left : sets out (43 + 39 * i) (plain_text (atoms_from i)) ≡ sets out₀ 43 (plain_text (atom_lines xs))

  pub twos_begin : TwosPut out₀ 0
  unfolding atom_lines
  twos_begin = record { within = omega arith; size = refl; left = ap (λ (k : ℕ). sets out₀ 43 (plain_text (map (atom_line xs) (numbers 0 k)))) (sub-zero n) }

  pub twos_turn : {i : ℕ} {out out' : List ℕ} → TwosPut out i → i < n → out' ≡ sets out (43 + 39 * i) (text_with (Atom i (get_or xs (3 * i) 0) (get_or xs (3 * i + 1) 0) (get_or xs (3 * i + 2) 0)) 0) → TwosPut out' (i + 1)
  unfolding atom_line
  twos_turn {i} {out} {out'} a h p =
      record {
        within = omega arith;
        size = ap length p ∙ (length-sets out (43 + 39 * i) (text_with (atom_line xs i) 0) ∙ a.size);
        left =
            turn_of text_one plain_text (atom_line xs i) (atoms_from (i + 1)) refl out out' (sets out₀ 43 (plain_text (atom_lines xs))) (43 + 39 * i) (43 + 39 * (i + 1)) p (omega (arith, length_two (atom_line xs i) 0))
            (ap (λ (l : List ℕ). sets out (43 + 39 * i) (plain_text (map (atom_line xs) l))) (sym (numbers_next n i h)) ∙ a.left);
      }

  pub twos_end : {i : ℕ} {out : List ℕ} → TwosPut out i → n ≤ i → out ≡ sets out₀ 43 (plain_text (atom_lines xs))
  twos_end {i} {out} a h = ap (λ (l : List ℕ). sets out (43 + 39 * i) (plain_text (map (atom_line xs) l))) (sym (numbers_end n i h)) ∙ a.left

-- ---- the whole

-- exclusions have one text in both forms
rows_alike : (l : List (ℕ × ℕ)) → plain_text (map row_line l) ≡ sheet_text (map row_line l)
unfolding text_with
rows_alike [] = refl
rows_alike (p ∷ l) = ap (λ (t : List ℕ). line_text (row_line p) ++ t) (rows_alike l)

long_twos : (xs : List ℕ) → length (plain_text (atom_lines xs)) ≡ 39 * (length xs / 3)
unfolding atom_lines atom_line
long_twos xs =
    long_of text_one plain_text refl (λ l ms. refl) (atom_line xs) 39 (up_to (length xs / 3)) (λ k. length_two (atom_line xs k) 0)
    ∙ ap (λ (k : ℕ). 39 * k) (length_up_to (length xs / 3))

module _ (h : Head) (xs : List ℕ) (l : List (ℕ × ℕ)) where
  parts_two : text_two (two_lines h xs l) ≡ text_with (Header h) 1 ++ (plain_text (atom_lines xs) ++ sheet_text (map row_line l))
  unfolding two_lines
  parts_two =
      ap (λ (t : List ℕ). text_with (Header h) 1 ++ t)
      (append_of text_one plain_text refl (λ k ms. refl) (atom_lines xs) (map row_line l) ∙ ap (λ (t : List ℕ). plain_text (atom_lines xs) ++ t) (rows_alike l))

  long_two : length (text_two (two_lines h xs l)) ≡ 43 + 39 * (length xs / 3) + 11 * length l
  long_two =
      omega (arith, ap length parts_two, length-append (text_with (Header h) 1) (plain_text (atom_lines xs) ++ sheet_text (map row_line l)), length_two (Header h) 1, length-append (plain_text (atom_lines xs)) (sheet_text (map row_line l)), long_twos xs, long_rows l)

  two_put : (out m₁ m₂ m₃ : List ℕ) → m₁ ≡ sets out 0 (text_with (Header h) 1) → m₂ ≡ sets m₁ 43 (plain_text (atom_lines xs)) → m₃ ≡ sets m₂ (43 + 39 * (length xs / 3)) (sheet_text (map row_line l)) → m₃ ≡ sets out 0 (text_two (two_lines h xs l))
  two_put out m₁ m₂ m₃ p q r =
      let two : m₂ ≡ sets out 0 (text_with (Header h) 1 ++ plain_text (atom_lines xs)) = put_put 43 (text_with (Header h) 1) (plain_text (atom_lines xs)) out m₁ m₂ 0 (length_two (Header h) 1) p q in
      let long : length (text_with (Header h) 1 ++ plain_text (atom_lines xs)) ≡ 43 + 39 * (length xs / 3) = omega (arith, length-append (text_with (Header h) 1) (plain_text (atom_lines xs)), length_two (Header h) 1, long_twos xs) in
      put_put (43 + 39 * (length xs / 3)) (text_with (Header h) 1 ++ plain_text (atom_lines xs)) (sheet_text (map row_line l)) out m₂ m₃ 0 long two (r ∙ ap (λ (k : ℕ). sets m₂ k (sheet_text (map row_line l))) (sym (zero-add (43 + 39 * (length xs / 3)))))
      ∙ ap (λ (t : List ℕ). sets out 0 t) (append_assoc (text_with (Header h) 1) (plain_text (atom_lines xs)) (sheet_text (map row_line l)) ∙ sym parts_two)

-- ---- the outcome
pub bytes_two : (f : Frame) (xs table : List ℕ) → length (written_two f xs table) ≡ 43 + 39 * (length xs / 3) + 11 * (length table / 2)
unfolding written_two
bytes_two f xs table = long_two (head_of f (length xs / 3)) xs (rows table) ∙ ap (λ (k : ℕ). 43 + 39 * (length xs / 3) + 11 * k) (length_rows table)

module _ (f : Frame) (xs table out : List ℕ) (d : Result (Unit {0}) Refusal) (is : d ≡ write_asked f xs table) where
  pub two_refused : {r : Refusal} → d ≡ Err r → record { shown = refused_by r; out = out } ≡ write_two_of f xs table out
  unfolding write_two_of
  two_refused e = rw (← is, e)

  module _ (e : d ≡ Ok tt) where
    abbrev bytes : ℕ
    bytes = 43 + 39 * (length xs / 3) + 11 * (length table / 2)

    pub two_full : length out < bytes → record { shown = refused 8 bytes; out = out } ≡ write_two_of f xs table out
    unfolding write_two_of laid_in
    two_full h = rw (← is, e, bytes_two f xs table, lt-ltb (length out) bytes h)

    pub two_done : (h : Head) (m₁ m₂ m₃ : List ℕ) → bytes ≤ length out → h ≡ head_of f (length xs / 3) → m₁ ≡ sets out 0 (text_with (Header h) 1) → m₂ ≡ sets m₁ 43 (plain_text (atom_lines xs)) → m₃ ≡ sets m₂ (43 + 39 * (length xs / 3)) (sheet_text (map row_line (rows table))) → record { shown = answered bytes; out = m₃ } ≡ write_two_of f xs table out
    unfolding write_two_of laid_in written_two
    two_done h m₁ m₂ m₃ k p q r s =
        let t : m₃ ≡ sets out 0 (written_two f xs table) = two_put h xs (rows table) out m₁ m₂ m₃ q r s ∙ ap (λ (g : Head). sets out 0 (text_two (two_lines g xs (rows table)))) p in
        rw (← is, e, bytes_two f xs table, le-ltb (length out) bytes k, t)
