-- `write` by its cases: each test, and what an answered call has passed. Assumes nothing.
use Rattle.std.specs.Prelude.{Err, Ok, Result}
use Prim.Native.Nat.{ℕ, ◌+◌, ◌*◌, ◌/◌, ◌%◌, ◌≤◌, ◌<◌}
use mathlib.Core.Path.{◌≡◌, refl, sym, ap, ◌∙◌}
use mathlib.Core.Bool.{Bool, true, false, cond, not, ◌&&◌}
use mathlib.Core.List.{List, map}
use lib.ListN.{length}
use lib.Seq.{sets}
use lib.Dec.{eqb, leb, ltb}
use borrow.Author.Tests.{lt-ltb, le-ltb, ltb-false, not-true, not-false, eqb-true}
use Rattle.answer.specs.Seen.{answered, refused, refused_by}
use Rattle.answer.specs.declared.Refusal.{Refusal}
use Rattle.answer.specs.declared.Refusal.TheVariants.{Lengths, TooMany, Range, Order}
use Rattle.lists.specs.Lists.{every, rows}
use Rattle.lists.proofs.Cases.{impossible, and_both, or_neither}
use Rattle.lists.proofs.Rows.{length_rows}
use Rattle.exclusions.specs.Table.{is_table}
use Rattle.frame.specs.declared.Frame.{Frame}
use Rattle.frame.specs.Build.{ranges_ok}
use Rattle.sheet_lines.specs.declared.Head.{Head}
use Rattle.sheet_lines.specs.declared.Line.TheVariants.{Header}
use Rattle.sheet_lines.specs.Grammar.{line_text, sheet_text}
use Rattle.sheet_written.specs.Written.{head_of, atom_lines, row_line, written_lines, written_text}
use Rattle.sheet_written.specs.Write.{uneven_rows, table_fits, write_asked, laid_in, write_of}
use Rattle.sheet_written.proofs.OneAfterAnother.{long_written, written_put}

-- ---- the exclusion table
module _ (table : List ℕ) where
  pub too_long : 1024 < length table / 2 → false ≡ table_fits table
  unfolding table_fits
  too_long h = rw (lt-ltb 1024 (length table / 2) h)

  pub as_tested : length table / 2 ≤ 1024 → {a b : Bool} → a ≡ is_table (rows table) → b ≡ every (λ k. leb k 65535) table → a && b ≡ table_fits table
  unfolding table_fits
  as_tested h p q = rw (le-ltb 1024 (length table / 2) h, ← p, ← q)

  pub record Fitting : Type 0 where
    pub few : length table / 2 ≤ 1024
    pub ascending : is_table (rows table) ≡ true
    pub short : every (λ k. leb k 65535) table ≡ true

  pub fitting : table_fits table ≡ true → Fitting
  unfolding table_fits
  fitting h =
      let p = and_both (not (ltb 1024 (length table / 2))) (is_table (rows table) && every (λ k. leb k 65535) table) h in
      let q = and_both (is_table (rows table)) (every (λ k. leb k 65535) table) p.1 in
      record { few = ltb-false 1024 (length table / 2) (not-true (ltb 1024 (length table / 2)) p.0); ascending = q.0; short = q.1 }

  pub fits_by : Fitting → table_fits table ≡ true
  unfolding table_fits
  fits_by f = rw (le-ltb 1024 (length table / 2) f.few, f.ascending, f.short)

-- ---- the tests in turn
module _ (f : Frame) (xs table : List ℕ) where
  pub ask_lengths : uneven_rows (length xs) (length table) ≡ true → Err Lengths ≡ write_asked f xs table
  unfolding write_asked
  ask_lengths h = rw h

  module _ (h : uneven_rows (length xs) (length table) ≡ false) where
    pub ask_many : 1024 < length xs / 3 → Err (TooMany (length xs / 3)) ≡ write_asked f xs table
    unfolding write_asked
    ask_many k = rw (h, lt-ltb 1024 (length xs / 3) k)

    module _ (k : length xs / 3 ≤ 1024) where
      pub ask_range : ranges_ok f xs ≡ false → Err Range ≡ write_asked f xs table
      unfolding write_asked
      ask_range l = rw (h, le-ltb 1024 (length xs / 3) k, l)

      module _ (l : ranges_ok f xs ≡ true) where
        pub ask_table : table_fits table ≡ false → Err Order ≡ write_asked f xs table
        unfolding write_asked
        ask_table m = rw (h, le-ltb 1024 (length xs / 3) k, l, m)

        pub ask_fine : table_fits table ≡ true → Ok tt ≡ write_asked f xs table
        unfolding write_asked
        ask_fine m = rw (h, le-ltb 1024 (length xs / 3) k, l, m)

-- what passed
pub record Fine (f : Frame) (xs table : List ℕ) : Type 0 where
  pub threes : length xs % 3 ≡ 0
  pub twos : length table % 2 ≡ 0
  pub few : length xs / 3 ≤ 1024
  pub ranges : ranges_ok f xs ≡ true
  pub exclusions : Fitting table

all_passed : (a b p q : Bool) (n : ℕ)
    → ◌≡◌ {A = Result (Unit {0}) Refusal} (Ok tt) (cond a (Err Lengths) (cond b (Err (TooMany n)) (cond (not p) (Err Range) (cond (not q) (Err Order) (Ok tt)))))
    → (a ≡ false) × (b ≡ false) × (p ≡ true) × (q ≡ true)
all_passed true b p q n e = impossible (cc)
all_passed false true p q n e = impossible (cc)
all_passed false false false q n e = impossible (cc)
all_passed false false true false n e = impossible (cc)
all_passed false false true true n e = (refl, refl, refl, refl)

even_rows : (a b : ℕ) → uneven_rows a b ≡ false → (a % 3 ≡ 0) × (b % 2 ≡ 0)
unfolding uneven_rows
even_rows a b h =
    let p = or_neither (not (eqb (a % 3) 0)) (not (eqb (b % 2) 0)) h in
    (eqb-true (a % 3) 0 (not-false (eqb (a % 3) 0) p.0), eqb-true (b % 2) 0 (not-false (eqb (b % 2) 0) p.1))

pub fine : (f : Frame) (xs table : List ℕ) → Ok tt ≡ write_asked f xs table → Fine f xs table
unfolding write_asked
fine f xs table e =
    let p = all_passed (uneven_rows (length xs) (length table)) (ltb 1024 (length xs / 3)) (ranges_ok f xs) (table_fits table) (length xs / 3) e in
    let r = even_rows (length xs) (length table) p.0 in
    record { threes = r.0; twos = r.1; few = ltb-false 1024 (length xs / 3) p.1; ranges = p.2; exclusions = fitting table p.3 }

-- ---- the outcome
pub bytes_are : (f : Frame) (xs table : List ℕ) → length (written_text f xs table) ≡ 41 + 31 * (length xs / 3) + 11 * (length table / 2)
unfolding written_text
bytes_are f xs table = long_written (head_of f (length xs / 3)) xs (rows table) ∙ ap (λ (k : ℕ). 41 + 31 * (length xs / 3) + 11 * k) (length_rows table)

module _ (f : Frame) (xs table out : List ℕ) (d : Result (Unit {0}) Refusal) (is : d ≡ write_asked f xs table) where
  pub write_refused : {r : Refusal} → d ≡ Err r → record { shown = refused_by r; out = out } ≡ write_of f xs table out
  unfolding write_of
  write_refused e = rw (← is, e)

  module _ (e : d ≡ Ok tt) where
    abbrev bytes : ℕ
    bytes = 41 + 31 * (length xs / 3) + 11 * (length table / 2)

    pub write_fine : Fine f xs table
    write_fine = fine f xs table (sym e ∙ is)

    pub write_full : length out < bytes → record { shown = refused 8 bytes; out = out } ≡ write_of f xs table out
    unfolding write_of laid_in
    write_full h = rw (← is, e, bytes_are f xs table, lt-ltb (length out) bytes h)

    pub write_done : (h : Head) (m₁ m₂ m₃ : List ℕ) → bytes ≤ length out → h ≡ head_of f (length xs / 3) → m₁ ≡ sets out 0 (line_text (Header h)) → m₂ ≡ sets m₁ 41 (sheet_text (atom_lines xs)) → m₃ ≡ sets m₂ (41 + 31 * (length xs / 3)) (sheet_text (map row_line (rows table))) → record { shown = answered bytes; out = m₃ } ≡ write_of f xs table out
    unfolding write_of laid_in written_text
    write_done h m₁ m₂ m₃ k p q r s =
        let t : m₃ ≡ sets out 0 (written_text f xs table) = written_put h xs (rows table) out m₁ m₂ m₃ q r s ∙ ap (λ (g : Head). sets out 0 (sheet_text (written_lines g xs (rows table)))) p in
        rw (← is, e, bytes_are f xs table, le-ltb (length out) bytes k, t)
