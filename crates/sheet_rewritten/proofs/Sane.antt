-- A sound sheet's header has a mask below 8, and its exclusions are a table whose numbers have four digits. Assumes nothing.
use Prim.Native.Nat.{ℕ, ◌+◌, ◌<◌, ◌^◌}
use mathlib.Core.Path.{◌≡◌, refl, ap}
use mathlib.Core.Bool.{Bool, true, false, cond}
use mathlib.Core.Option.{Option, none, some}
use mathlib.Core.List.{List, [], ◌∷◌}
use native.Mathlib.Omega.{arith}
use lib.ListN.{length, set}
use lib.Dec.{ltb, leb, eqb}
use borrow.Author.Tests.{le-leb}
use Rattle.answer.specs.Seen.{Seen, answered, refused}
use Rattle.lists.specs.Lists.{every, flat, ordered}
use Rattle.lists.proofs.Cases.{by_test, impossible}
use Rattle.lists.proofs.Exactness.{ordered_low, ordered_high}
use Rattle.exclusions.specs.Table.{before, same_pair, is_table, insert, added}
use Rattle.exclusions.proofs.Insertion.{added_table}
use Rattle.sheet_lines.specs.Grammar.{Valid, AllValid}
use Rattle.sheet_lines.specs.Reading.{lines_of}
use Rattle.sheet_lines.specs.declared.Head.{Head}
use Rattle.sheet_lines.specs.declared.Line.{Line}
use Rattle.sheet_lines.specs.declared.Line.TheVariants.{Header, Atom, Exclusion, Malformed, End}
use Rattle.sheet_lines.proofs.Texts.{text_of_lines}
use Rattle.sheet.specs.Meaning.{Meaning, and_then, acted, act_of, headed, seated, excluding, fresh, placed}
use Rattle.sheet.specs.Reading.{refusal_for, onward, run, blank, stray_of, unmarked_of, counted, tested, Sound, sound_with, then_tested, sheet_of}
use Rattle.sheet.proofs.Order.{ReadWhole, read_well}

-- two numbers of four digits each
abbrev Short : ℕ × ℕ → Type 0
Short p = (p.0 < 2 ^ 16) × (p.1 < 2 ^ 16)

abbrev AllShort : List (ℕ × ℕ) → Type 0
AllShort [] = Unit {0}
AllShort (p ∷ l) = Short p × AllShort l

abbrev Masked : Option Head → Type 0
Masked none = Unit {0}
Masked (some h) = h.mask < 8

record Sane (m : Meaning) : Type 0 where
  pub masked : Masked m.header
  pub sorted : is_table m.rows ≡ true
  pub short : AllShort m.rows

abbrev SaneIf : Option Meaning → Type 0
SaneIf none = Unit {0}
SaneIf (some m) = Sane m

abbrev SaneSeen : Seen Meaning → Type 0
SaneSeen (answered m) = Sane m
SaneSeen (refused n p) = Unit {0}

-- ---- one line
short_insert : (p : ℕ × ℕ) (l : List (ℕ × ℕ)) → Short p → AllShort l → AllShort (insert p l)
unfolding insert
short_insert p [] h k = (h, tt)
short_insert p (q ∷ l) h k =
    by_test (λ b. AllShort (cond b (q ∷ insert p l) (cond (same_pair q p) (q ∷ l) (p ∷ q ∷ l)))) (before q p)
    (λ _. (k.0, short_insert p l h k.1))
    (λ _. by_test (λ b. AllShort (cond b (q ∷ l) (p ∷ q ∷ l))) (same_pair q p) (λ _. k) (λ _. (h, k)))

short_ordered : (a b : ℕ) → a < 2 ^ 16 → b < 2 ^ 16 → Short (ordered a b)
short_ordered a b h k = (omega (arith, ordered_low a b), omega (arith, ordered_high a b))

short_added : (a b : ℕ) (l : List (ℕ × ℕ)) → a < 2 ^ 16 → b < 2 ^ 16 → AllShort l → AllShort (added a b l)
unfolding added
short_added a b l h k s = by_test (λ t. AllShort (cond t l (insert (ordered a b) l))) (eqb a b) (λ _. s) (λ _. short_insert (ordered a b) l (short_ordered a b h k) s)

header_sane : (m : Meaning) (h : Head) (x : Option Head) → h.mask < 8 → Sane m → SaneIf (and_then (headed h x) (λ g. some (record { header = g; atoms = m.atoms; rows = m.rows })))
unfolding headed
header_sane m h none v s = record { masked = v; sorted = s.sorted; short = s.short }
header_sane m h (some g) v s = tt

act_sane : (l : Line) (m : Meaning) → Valid l → Sane m → SaneIf (acted (act_of l) m)
unfolding seated excluding
act_sane (Header h) m v s = header_sane m h m.header v.4 s
act_sane (Atom n x y z) m v s =
    by_test
    (λ b. SaneIf (and_then (cond b (some (record { coords = placed m.atoms.coords n x y z; marks = set m.atoms.marks n 1 })) none) (λ a. some (record { header = m.header; atoms = a; rows = m.rows }))))
    (fresh m.atoms.marks n)
    (λ _. record { masked = s.masked; sorted = s.sorted; short = s.short })
    (λ _. tt)
act_sane (Exclusion a b) m v s =
    by_test
    (λ t. SaneIf (and_then (cond t (some (added a b m.rows)) none) (λ l. some (record { header = m.header; atoms = m.atoms; rows = l }))))
    (leb (length (added a b m.rows)) 1024)
    (λ _. record { masked = s.masked; sorted = added_table a b m.rows s.sorted; short = short_added a b m.rows v.0 v.1 s.short })
    (λ _. tt)
act_sane Malformed m v s = tt
act_sane End m v s = tt

-- ---- the lines in turn
step_sane : (o : Option Meaning) (l : Line) (n : ℕ) (f : Meaning → Seen Meaning) → ((m : Meaning) → Sane m → SaneSeen (f m)) → SaneIf o → SaneSeen (onward o (refusal_for l n) f)
step_sane none l n f h s = tt
step_sane (some m) l n f h s = h m s

run_sane : (ls : List Line) (n : ℕ) (m : Meaning) → AllValid ls → Sane m → SaneSeen (run ls n m)
run_sane [] n m v s = s
run_sane (l ∷ ls) n m v s =
    step_sane (acted (act_of l) m) l (n + 1) (λ m'. run ls (n + 1) m') (λ k t. run_sane ls (n + 1) k v.1 t) (act_sane l m v.0 s)

none_read : Sane blank
unfolding is_table
none_read = record { masked = tt; sorted = refl; short = tt }

-- ---- a sound sheet
pub record SoundSane (a : Sound) : Type 0 where
  pub masked : a.head.mask < 8
  pub sorted : is_table a.rows ≡ true
  pub short : every (λ k. leb k 65535) (flat a.rows) ≡ true

flat_short : (l : List (ℕ × ℕ)) → AllShort l → every (λ k. leb k 65535) (flat l) ≡ true
unfolding every flat
flat_short [] s = refl
flat_short (p ∷ l) s = simp (le-leb p.0 65535 (omega (arith, s.0.0)), le-leb p.1 65535 (omega (arith, s.0.1)), flat_short l s.1)

counted_by : (h k : Head) (a b c : Bool) (x y z : ℕ) → answered k ≡ cond a (refused 2 x) (cond b (refused 4 y) (cond c (refused 11 z) (answered h))) → k ≡ h
counted_by h k true b c x y z e = impossible (cc)
counted_by h k false true c x y z e = impossible (cc)
counted_by h k false false true x y z e = impossible (cc)
counted_by h k false false false x y z e = cc

tested_masked : (h : Option Head) (marks : List ℕ) (k : Head) → answered k ≡ tested h marks → Masked h → k.mask < 8
unfolding counted
tested_masked none marks k e v = impossible (cc)
tested_masked (some h) marks k e v =
    let same : k ≡ h = counted_by h k (ltb 1024 h.atoms) (ltb (stray_of h.atoms marks) 1024) (ltb (unmarked_of marks) h.atoms) h.atoms (stray_of h.atoms marks) (unmarked_of marks) e in
    rw same v

with_sane : (m : Meaning) (t : Seen Head) (a : Sound) → t ≡ tested m.header m.atoms.marks → Sane m → sound_with t m ≡ answered a → SoundSane a
with_sane m (refused n p) a e s q = impossible (cc)
with_sane m (answered h) a e s q =
    let rs : m.rows ≡ a.rows = ap (λ (x : Seen Sound). rows_in x) q in
    let hs : h ≡ a.head = ap (λ (x : Seen Sound). head_in h x) q in
    record {
      masked = rw (← hs) (tested_masked m.header m.atoms.marks h e s.masked);
      sorted = rw (← rs) s.sorted;
      short = rw (← rs) (flat_short m.rows s.short);
    }
  where
    rows_in : Seen Sound → List (ℕ × ℕ)
    rows_in (answered x) = x.rows
    rows_in (refused n p) = []

    head_in : Head → Seen Sound → Head
    head_in d (answered x) = x.head
    head_in d (refused n p) = d

read_sane : (s : List ℕ) (x : Seen Meaning) (a : Sound) → run (lines_of s) 0 blank ≡ x → then_tested x ≡ answered a → SoundSane a
read_sane s (refused n p) a e q = impossible (cc)
read_sane s (answered m) a e q =
    let r : ReadWhole s = record { meaning = m; read = e } in
    let v = text_of_lines s (read_well s r) in
    let z : Sane m = rw e at (run_sane (lines_of s) 0 blank v.0 none_read) in
    with_sane m (tested m.header m.atoms.marks) a refl z q

pub sound_sane : (s : List ℕ) (a : Sound) → sheet_of s ≡ answered a → SoundSane a
unfolding sheet_of
sound_sane s a e = read_sane s (run (lines_of s) 0 blank) a refl e
