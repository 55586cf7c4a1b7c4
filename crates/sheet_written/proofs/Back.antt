-- The written lines of a header, atoms and exclusions come to just these. Assumes nothing.
use Rattle.std.specs.Prelude.{Err, Ok, Result}
use Rattle.answer.specs.declared.Refusal.{Refusal}
use Prim.Native.Nat.{ℕ, zero, suc, ◌+◌, ◌*◌, ◌-◌, ◌/◌, ◌≤◌, ◌<◌}
use mathlib.Core.Path.{◌≡◌, refl, sym, ap, ap₂, ◌∙◌}
use mathlib.Core.Bool.{Bool, true, false, cond, ◌&&◌}
use mathlib.Core.Option.{Option, some}
use mathlib.Core.List.{List, [], ◌∷◌, ◌++◌, map, append_assoc, append-nil}
use native.Mathlib.Nat.{add-zero, zero-add, suc-add}
use native.Mathlib.Numerals.{add-one}
use native.Mathlib.Omega.{arith}
use lib.ListN.{length, get_or, set, take, drop, replicate, length-append, length-replicate, get_or-replicate, replicate-append-replicate}
use lib.Seq.{sets, sets-eq, take_at, drop_at, take_all, take-suc, get_or_at, length-take-le, drop-cons}
use lib.Dec.{ltb, leb}
use borrow.Author.Tests.{le-ltb, le-leb, leb-true, ltb-true, ltb-false, ne_eqb}
use Rattle.answer.specs.Seen.{Seen, answered, refused}
use Rattle.lists.specs.Lists.{numbers, up_to, ordered, every, rows, flat}
use Rattle.lists.proofs.Cases.{and_both, by_test, impossible}
use Rattle.lists.proofs.Rows.{length_rows, flat_rows}
use Rattle.lists.proofs.Exactness.{ordered_rising}
use Rattle.frame.specs.declared.Frame.{Frame}
use Rattle.frame.specs.Distance.{spot_of}
use Rattle.frame.specs.Steps.{Framed}
use Rattle.frame.proofs.Ranges.{ranges_framed}
use Rattle.exclusions.specs.Table.{before, is_table, insert, added}
use Rattle.exclusions.proofs.Search.{tail_table, ascending}
use Rattle.hexadecimal.proofs.Writing.{sets_append}
use Rattle.sheet_lines.specs.declared.Head.{Head}
use Rattle.sheet_lines.specs.declared.Line.{Line}
use Rattle.sheet_lines.specs.declared.Line.TheVariants.{Header, Atom, Exclusion, Malformed, End}
use Rattle.sheet_lines.specs.Grammar.{Valid, AllValid}
use Rattle.sheet_lines.proofs.AnyForm.{Each}
use Rattle.sheet_lines.proofs.Texts.{lines_of_text}
use Rattle.sheet_lines_two.specs.declared.TwoLine.{TwoLine}
use Rattle.sheet_lines_two.specs.Twos.{plain_two, ruled_head, told_of, twos_of}
use Rattle.sheet_lines_two.specs.Grammar.{ValidWith, ValidTwo, text_two}
use Rattle.sheet_lines_two.proofs.WholeTwos.{twos_of_text}
use Rattle.sheet.specs.Meaning.{Meaning, Atoms, acted, act_of, headed, seated, excluding, placed}
use Rattle.sheet.specs.Reading.{refusal_for, onward, run, blank, lead_of, stray_of, unmarked_of, counted, Sound, sound_with, then_tested, sheet_of}
use Rattle.sheet.specs.Read.{job_for, read_of}
use Rattle.sheet.specs.ReadTwo.{species_in, with_species, paired, ran_two, sheet_two}
use Rattle.sheet_written.specs.Written.{head_of, atom_line, atom_lines, row_line, written_lines, written_text}
use Rattle.sheet_written.specs.Write.{write_asked, Outcome, laid_in, write_after, write_of}
use Rattle.sheet_written.specs.WrittenTwo.{two_lines, written_two}
use Rattle.sheet_written.specs.Theorems.{job_with, WriteReads}
use Rattle.sheet_written.proofs.Flags.{flags_back}
use Rattle.sheet_written.proofs.Cases.{Fine, fine, bytes_are}
use Rattle.sheet_written.proofs.TwoAfterAnother.{bytes_two}

-- ---- a line that acts
goes : (l : Line) (ls : List Line) (n : ℕ) (m m' : Meaning) → acted (act_of l) m ≡ some m' → run (l ∷ ls) n m ≡ run ls (n + 1) m'
goes l ls n m m' e = ap (λ (o : Option Meaning). onward o (refusal_for l (n + 1)) (λ k. run ls (n + 1) k)) e

-- ---- the exclusions: each row comes after those before it
row_low : (p : ℕ × ℕ) (l : List (ℕ × ℕ)) → is_table (p ∷ l) ≡ true → p.0 < p.1
unfolding is_table
row_low p l h = ltb-true p.0 p.1 (and_both (ltb p.0 p.1) _ h).0

table_end : (l r : List (ℕ × ℕ)) → is_table (l ++ r) ≡ true → is_table r ≡ true
table_end [] r h = h
table_end (q ∷ l) r h = table_end l r (tail_table q (l ++ r) h)

insert_last : (p : ℕ × ℕ) (l r : List (ℕ × ℕ)) → is_table (l ++ (p ∷ r)) ≡ true → insert p l ≡ l ++ (p ∷ [])
unfolding insert
insert_last p [] r h = refl
insert_last p (q ∷ l) r h =
    let b : before q (get_or (q ∷ (l ++ (p ∷ r))) (suc (length l)) (0, 0)) ≡ true =
    ascending (q ∷ (l ++ (p ∷ r))) h 0 (suc (length l)) (omega arith) (omega (arith, length-append l (p ∷ r))) in
    let e : get_or (l ++ (p ∷ r)) (length l) (0, 0) ≡ p = get_or_at l p r (0, 0) (length l) refl in
    let c : before q p ≡ true = rw e at b in
    simp c (ap (λ (k : List (ℕ × ℕ)). q ∷ k) (insert_last p l r (tail_table q (l ++ (p ∷ r)) h)))

added_last : (p : ℕ × ℕ) (l r : List (ℕ × ℕ)) → is_table (l ++ (p ∷ r)) ≡ true → added p.0 p.1 l ≡ l ++ (p ∷ [])
unfolding added
added_last p l r h =
    let low : p.0 < p.1 = row_low p r (table_end l (p ∷ r) h) in
    let o : ordered p.0 p.1 ≡ p = ordered_rising p.0 p.1 (omega arith) in
    simp (ne_eqb p.0 p.1 (λ e. absurd (omega arith)), o) (insert_last p l r h)

module _ (h : Option Head) (a : Atoms) where
  abbrev holds : List (ℕ × ℕ) → Meaning
  holds l = record { header = h; atoms = a; rows = l }

  run_rows : (r l : List (ℕ × ℕ)) (n : ℕ) → is_table (l ++ r) ≡ true → length (l ++ r) ≤ 1024 → run (map row_line r) n (holds l) ≡ answered (holds (l ++ r))
  unfolding excluding
  run_rows [] l n t k = ap (λ (x : List (ℕ × ℕ)). answered (holds x)) (sym (append-nil l))
  run_rows (p ∷ r) l n t k =
      let e : added p.0 p.1 l ≡ l ++ (p ∷ []) = added_last p l r t in
      let s : (l ++ (p ∷ [])) ++ r ≡ l ++ (p ∷ r) = append_assoc l (p ∷ []) r in
      let f : length (l ++ (p ∷ [])) ≤ 1024 = omega (arith, length-append l (p ∷ []), length-append l (p ∷ r)) in
      let one : acted (act_of (row_line p)) (holds l) ≡ some (holds (l ++ (p ∷ []))) = simp (e, le-leb (length (l ++ (p ∷ []))) 1024 f) in
      goes (row_line p) (map row_line r) n (holds l) (holds (l ++ (p ∷ []))) one
      ∙ (run_rows r (l ++ (p ∷ [])) (n + 1) (rw s t) (rw s k) ∙ ap (λ (x : List (ℕ × ℕ)). answered (holds x)) s)

-- ---- the atoms: each at its own number
abbrev ones : ℕ → List ℕ
ones k = replicate k 1

abbrev noughts : ℕ → List ℕ
noughts k = replicate k 0

module _ (xs z m₀ : List ℕ) (h : Option Head) (l : List (ℕ × ℕ)) where
  -- after the first k
  abbrev seats : ℕ → Atoms
  seats k = record { coords = sets z 0 (take (3 * k) xs); marks = sets m₀ 0 (ones k) }

  abbrev seen : ℕ → Meaning
  seen k = record { header = h; atoms = seats k; rows = l }

  module _ (k : ℕ) (inside : 3 * k + 3 ≤ length xs) (few : suc k ≤ length m₀) (bare : get_or m₀ k 1 ≡ 0) where
    three_more : take (3 * k) xs ++ (get_or xs (3 * k) 0 ∷ get_or xs (3 * k + 1) 0 ∷ get_or xs (3 * k + 2) 0 ∷ []) ≡ take (3 * (k + 1)) xs
    three_more =
        let a = take-suc xs (3 * k) 0 (omega arith) in
        let b = take-suc xs (suc (3 * k)) 0 (omega arith) in
        let d = take-suc xs (suc (suc (3 * k))) 0 (omega arith) in
        let i : suc (3 * k) ≡ 3 * k + 1 = omega arith in
        let j : suc (suc (3 * k)) ≡ 3 * k + 2 = omega arith in
        let e : suc (suc (suc (3 * k))) ≡ 3 * (k + 1) = omega arith in
        sym (ap (λ (n : ℕ). take n xs) (sym e) ∙ (d ∙ (ap (λ (t : List ℕ). t ++ (get_or xs (suc (suc (3 * k))) 0 ∷ [])) (b ∙ ap (λ (t : List ℕ). t ++ (get_or xs (suc (3 * k)) 0 ∷ [])) a)
        ∙ (append_assoc (take (3 * k) xs ++ (get_or xs (3 * k) 0 ∷ [])) (get_or xs (suc (3 * k)) 0 ∷ []) (get_or xs (suc (suc (3 * k))) 0 ∷ [])
        ∙ (append_assoc (take (3 * k) xs) (get_or xs (3 * k) 0 ∷ []) (get_or xs (suc (3 * k)) 0 ∷ get_or xs (suc (suc (3 * k))) 0 ∷ [])
        ∙ ap₂ (λ (u v : ℕ). take (3 * k) xs ++ (get_or xs (3 * k) 0 ∷ get_or xs u 0 ∷ get_or xs v 0 ∷ [])) i j)))))

    coords_next : placed (sets z 0 (take (3 * k) xs)) k (get_or xs (3 * k) 0) (get_or xs (3 * k + 1) 0) (get_or xs (3 * k + 2) 0) ≡ sets z 0 (take (3 * (k + 1)) xs)
    unfolding placed
    coords_next =
        let long : length (take (3 * k) xs) ≡ 3 * k = length-take-le (3 * k) xs (omega arith) in
        let i : 3 * k + 1 ≡ suc (3 * k) = omega arith in
        let j : 3 * k + 2 ≡ suc (suc (3 * k)) = omega arith in
        ap₂ (λ (u v : ℕ). set (set (set (sets z 0 (take (3 * k) xs)) (3 * k) (get_or xs (3 * k) 0)) u (get_or xs (3 * k + 1) 0)) v (get_or xs (3 * k + 2) 0)) i j
        ∙ (ap (λ (n : ℕ). sets (sets z 0 (take (3 * k) xs)) n (get_or xs (3 * k) 0 ∷ get_or xs (3 * k + 1) 0 ∷ get_or xs (3 * k + 2) 0 ∷ [])) (sym long ∙ sym (zero-add (length (take (3 * k) xs))))
        ∙ (sets_append (take (3 * k) xs) (get_or xs (3 * k) 0 ∷ get_or xs (3 * k + 1) 0 ∷ get_or xs (3 * k + 2) 0 ∷ []) z 0
        ∙ ap (λ (t : List ℕ). sets z 0 t) three_more))

    marks_next : set (sets m₀ 0 (ones k)) k 1 ≡ sets m₀ 0 (ones (k + 1))
    marks_next =
        let long : length (ones k) ≡ k = length-replicate {A = ℕ} k 1 in
        ap (λ (n : ℕ). sets (sets m₀ 0 (ones k)) n (1 ∷ [])) (sym long ∙ sym (zero-add (length (ones k))))
        ∙ (sets_append (ones k) (1 ∷ []) m₀ 0 ∙ ap (λ (t : List ℕ). sets m₀ 0 t) (replicate-append-replicate k 1 1))

    mark_bare : get_or (sets m₀ 0 (ones k)) k 1 ≡ 0
    mark_bare =
        let long : length (ones k) ≡ k = length-replicate {A = ℕ} k 1 in
        let e : sets m₀ 0 (ones k) ≡ ones k ++ drop k m₀ = sets-eq (ones k) m₀ 0 (omega arith) ∙ ap (λ (n : ℕ). ones k ++ drop n m₀) (ap (λ (n : ℕ). 0 + n) long ∙ zero-add k) in
        let d : drop k m₀ ≡ get_or m₀ k 1 ∷ drop (suc k) m₀ = drop-cons m₀ k 1 few in
        ap (λ (t : List ℕ). get_or t k 1) (e ∙ ap (λ (t : List ℕ). ones k ++ t) d) ∙ (get_or_at (ones k) (get_or m₀ k 1) (drop (suc k) m₀) 1 k long ∙ bare)

    atom_acts : acted (act_of (atom_line xs k)) (seen k) ≡ some (seen (k + 1))
    unfolding atom_line seated
    atom_acts = simp (mark_bare, coords_next, marks_next)

  run_atoms : (ks : List Line) (j k n : ℕ) → 3 * (k + j) ≤ length xs → k + j ≤ length m₀ → ((i : ℕ) → i < k + j → get_or m₀ i 1 ≡ 0) → run (map (atom_line xs) (numbers k j) ++ ks) n (seen k) ≡ run ks (n + j) (seen (k + j))
  unfolding numbers
  run_atoms ks zero k n a b c = ap₂ (λ (u v : ℕ). run ks u (seen v)) (sym (add-zero n)) (sym (add-zero k))
  run_atoms ks (suc j) k n a b c =
      let e : k + 1 + j ≡ k + suc j = omega arith in
      let f : n + 1 + j ≡ n + suc j = omega arith in
      goes (atom_line xs k) (map (atom_line xs) (numbers (k + 1) j) ++ ks) n (seen k) (seen (k + 1)) (atom_acts k (omega arith) (omega arith) (c k (omega arith)))
      ∙ (run_atoms ks j (k + 1) (n + 1) (omega arith) (omega arith) (λ i q. c i (omega arith)) ∙ ap₂ (λ (u v : ℕ). run ks u (seen v)) f e)

-- ---- the tests after the lines
lead_ones : (n j : ℕ) → lead_of 1 (ones n ++ noughts j) ≡ n
lead_ones zero zero = refl
lead_ones zero (suc j) = refl
lead_ones (suc n) j = ap suc (lead_ones n j)

lead_noughts : (j : ℕ) → lead_of 0 (noughts j) ≡ j
lead_noughts zero = refl
lead_noughts (suc j) = ap suc (lead_noughts j)

all_there : (h : Head) (j : ℕ) (marks : List ℕ) → h.atoms + j ≡ 1024 → marks ≡ ones h.atoms ++ noughts j → counted h marks ≡ answered h
unfolding counted stray_of unmarked_of
all_there h j marks e m =
    let a : lead_of 1 marks ≡ h.atoms = ap (lead_of 1) m ∙ lead_ones h.atoms j in
    let d : drop h.atoms marks ≡ noughts j = ap (λ (l : List ℕ). drop h.atoms l) m ∙ drop_at (ones h.atoms) (noughts j) h.atoms (length-replicate {A = ℕ} h.atoms 1) in
    let s : h.atoms + lead_of 0 (drop h.atoms marks) ≡ 1024 = ap (λ (l : List ℕ). h.atoms + lead_of 0 l) d ∙ (ap (λ (k : ℕ). h.atoms + k) (lead_noughts j) ∙ e) in
    simp (le-ltb 1024 h.atoms (omega arith), a, s, le-ltb h.atoms h.atoms (omega arith))

-- the numbers at the front of a room
front : (xs room : List ℕ) → length xs ≤ length room → sets room 0 xs ≡ xs ++ drop (length xs) room
front xs room h = sets-eq xs room 0 (omega arith) ∙ ap (λ (n : ℕ). xs ++ drop n room) (zero-add (length xs))

drop_noughts : (n j : ℕ) → drop n (noughts (n + j)) ≡ noughts j
drop_noughts zero j = ap (λ (k : ℕ). noughts k) (zero-add j)
drop_noughts (suc n) j = ap (λ (k : ℕ). drop (suc n) (noughts k)) (suc-add n j) ∙ drop_noughts n j

-- ---- the whole
module _ (h : Head) (xs : List ℕ) (l : List (ℕ × ℕ)) (size : length xs ≡ 3 * h.atoms) (few : h.atoms ≤ 1024) (t : is_table l ≡ true) (k : length l ≤ 1024) where
  z : List ℕ
  z = replicate 3072 0

  m₀ : List ℕ
  m₀ = replicate 1024 0

  long_z : length z ≡ 3072
  unfolding z
  long_z = length-replicate {A = ℕ} 3072 0

  long_m : length m₀ ≡ 1024
  unfolding m₀
  long_m = length-replicate {A = ℕ} 1024 0

  bare_m : (i : ℕ) → i < 1024 → get_or m₀ i 1 ≡ 0
  unfolding m₀
  bare_m i q = get_or-replicate {A = ℕ} 1024 i 0 1 q

  -- what the lines come to
  come : Meaning
  come = record { header = some h; atoms = record { coords = sets z 0 xs; marks = sets m₀ 0 (ones h.atoms) }; rows = l }

  atoms_are : atom_lines xs ≡ map (atom_line xs) (numbers 0 h.atoms)
  unfolding atom_lines
  atoms_are = let e : length xs / 3 ≡ h.atoms = omega arith in ap (λ (n : ℕ). map (atom_line xs) (numbers 0 n)) e

  begun : run (written_lines h xs l) 0 blank ≡ run (atom_lines xs ++ map row_line l) 1 (seen xs z m₀ (some h) [] 0)
  unfolding written_lines headed z m₀
  begun = refl

  run_written : run (written_lines h xs l) 0 blank ≡ answered come
  unfolding come
  run_written =
      let a : 0 + h.atoms ≡ h.atoms = zero-add h.atoms in
      begun
      ∙ (ap (λ (ls : List Line). run (ls ++ map row_line l) 1 (seen xs z m₀ (some h) [] 0)) atoms_are
      ∙ (run_atoms xs z m₀ (some h) [] (map row_line l) h.atoms 0 1 (omega arith) (omega (arith, long_m)) (λ i q. bare_m i (omega arith))
      ∙ (ap (λ (n : ℕ). run (map row_line l) (1 + h.atoms) (seen xs z m₀ (some h) [] n)) a
      ∙ (run_rows (some h) (seats xs z m₀ (some h) [] h.atoms) l [] (1 + h.atoms) t k
      ∙ ap (λ (c : List ℕ). answered (record { header = some h; atoms = record { coords = sets z 0 c; marks = sets m₀ 0 (ones h.atoms) }; rows = l })) (take_all (3 * h.atoms) xs (omega arith))))))

  marks_are : sets m₀ 0 (ones h.atoms) ≡ ones h.atoms ++ noughts (1024 - h.atoms)
  unfolding m₀
  marks_are =
      let n : length (ones h.atoms) ≡ h.atoms = length-replicate {A = ℕ} h.atoms 1 in
      let e : 1024 ≡ h.atoms + (1024 - h.atoms) = omega arith in
      front (ones h.atoms) m₀ (omega (arith, long_m))
      ∙ ap (λ (r : List ℕ). ones h.atoms ++ r) (ap (λ (i : ℕ). drop i m₀) n ∙ (ap (λ (i : ℕ). drop h.atoms (noughts i)) e ∙ drop_noughts h.atoms (1024 - h.atoms)))

  pub sound_written : then_tested (run (written_lines h xs l) 0 blank) ≡ answered (record { head = h; coords = xs; rows = l })
  unfolding come
  sound_written =
      let f : counted h (sets m₀ 0 (ones h.atoms)) ≡ answered h = all_there h (1024 - h.atoms) (sets m₀ 0 (ones h.atoms)) (omega arith) marks_are in
      let c : take (3 * h.atoms) (sets z 0 xs) ≡ xs = ap (λ (r : List ℕ). take (3 * h.atoms) r) (front xs z (omega (arith, long_z))) ∙ take_at xs (drop (length xs) z) (3 * h.atoms) size in
      ap then_tested run_written
      ∙ (ap (λ (x : Seen Head). sound_with x come) f ∙ ap (λ (r : List ℕ). answered (record { head = h; coords = r; rows = l })) c)

-- ---- in bytes

-- rows whose numbers have four digits
valid_rows : (table : List ℕ) → every (λ k. leb k 65535) table ≡ true → AllValid (map row_line (rows table))
unfolding every rows
valid_rows [] e = tt
valid_rows (a ∷ []) e = tt
valid_rows (a ∷ b ∷ table) e =
    let p = and_both (leb a 65535) (leb b 65535 && every (λ k. leb k 65535) table) e in
    let q = and_both (leb b 65535) (every (λ k. leb k 65535) table) p.1 in
    ((omega (arith, leb-true a 65535 p.0), omega (arith, leb-true b 65535 q.0)), valid_rows table q.1)

valid_append : (ls ks : List Line) → AllValid ls → AllValid ks → AllValid (ls ++ ks)
valid_append [] ks a b = b
valid_append (l ∷ ls) ks a b = (a.0, valid_append ls ks a.1 b)

-- atoms in a frame that is accepted
module _ (f : Frame) (xs : List ℕ) (r : Framed f xs) (few : length xs / 3 ≤ 1024) where
  valid_atom : (i : ℕ) → i < length xs / 3 → Valid (atom_line xs i)
  unfolding atom_line spot_of
  valid_atom i h =
      let s = r.inside i h in
      (omega arith, omega (arith, s.x, r.sized.x), omega (arith, s.y, r.sized.y), omega (arith, s.z, r.sized.z))

  valid_atoms : (j k : ℕ) → k + j ≤ length xs / 3 → AllValid (map (atom_line xs) (numbers k j))
  unfolding numbers
  valid_atoms zero k h = tt
  valid_atoms (suc j) k h = (valid_atom k (omega arith), valid_atoms j (k + 1) (omega arith))

  valid_header : Valid (Header (head_of f (length xs / 3)))
  unfolding head_of
  valid_header =
      (omega arith, omega (arith, r.sized.x), omega (arith, r.sized.y), omega (arith, r.sized.z), (flags_back f.x.round f.y.round f.z.round).0, omega (arith, r.sized.radius))

-- what `write` writes is read as that header, those coordinates and those rows
module _ (f : Frame) (xs table : List ℕ) (g : Fine f xs table) where
  valid_written : AllValid (written_lines (head_of f (length xs / 3)) xs (rows table))
  unfolding written_lines atom_lines
  valid_written =
      let r = ranges_framed f xs g.ranges in
      (valid_header f xs r g.few, valid_append (map (atom_line xs) (up_to (length xs / 3))) (map row_line (rows table)) (valid_atoms f xs r g.few (length xs / 3) 0 (omega arith)) (valid_rows table g.exclusions.short))

  head_atoms : (head_of f (length xs / 3)).atoms ≡ length xs / 3
  unfolding head_of
  head_atoms = refl

  pub reads_written : sheet_of (written_text f xs table) ≡ answered (record { head = head_of f (length xs / 3); coords = xs; rows = rows table })
  unfolding sheet_of written_text
  reads_written =
      ap (λ (ls : List Line). then_tested (run ls 0 blank)) (lines_of_text (written_lines (head_of f (length xs / 3)) xs (rows table)) valid_written)
      ∙ sound_written (head_of f (length xs / 3)) xs (rows table) (omega (arith, head_atoms, g.threes)) (omega (arith, head_atoms, g.few)) g.exclusions.ascending (omega (arith, length_rows table, g.exclusions.few))

  pub bytes_few : length (written_text f xs table) ≤ 43049
  bytes_few = omega (arith, bytes_are f xs table, g.few, g.exclusions.few)

  -- the header's numbers as `read` answers them
  job_is : (n : ℕ) → job_for (head_of f (length xs / 3)) n ≡ job_with f (length xs / 3) n
  unfolding job_for head_of job_with
  job_is n = let b = flags_back f.x.round f.y.round f.z.round in simp (b.1, b.2, b.3)

  pub read_written : (co ex : List ℕ) → 3072 ≤ length co → 2048 ≤ length ex → read_of (written_text f xs table) co ex ≡ record { shown = answered (job_with f (length xs / 3) (length table / 2)); coordinates = sets co 0 xs; exclusions = sets ex 0 table }
  unfolding read_of
  read_written co ex a b =
      let w : flat (rows table) ≡ table = flat_rows table ∙ take_all (2 * (length table / 2)) table (omega (arith, g.twos)) in
      simp (le-ltb 65536 (length (written_text f xs table)) (omega (arith, bytes_few)), le-ltb (length co) 3072 a, le-ltb (length ex) 2048 b, reads_written, w, length_rows table, job_is (length table / 2))

-- ---- THEOREM: reading what was written
abbrev laid_by : Bool → List ℕ → List ℕ → Outcome
laid_by full text out = cond full (record { shown = refused 8 (length text); out = out }) (record { shown = answered (length text); out = sets out 0 text })

pub laid_front : (text out : List ℕ) (n : ℕ) → (laid_in text out).shown ≡ answered n → take n (laid_in text out).out ≡ text
unfolding laid_in
laid_front text out n =
    by_test (λ x. (laid_by x text out).shown ≡ answered n → take n (laid_by x text out).out ≡ text) (ltb (length out) (length text))
    (λ q p. impossible (cc))
    (λ q p.
    let k : length text ≡ n = cc in
    ap (λ (r : List ℕ). take n r) (front text out (ltb-false (length out) (length text) q)) ∙ take_at text (drop (length text) out) n k)

-- an answered `write` has passed its tests, and its bytes are the text
read_of_lem : (f : Frame) (xs table out : List ℕ) (n : ℕ) (d : Result (Unit {0}) Refusal) → d ≡ write_asked f xs table → (write_after d (written_text f xs table) out).shown ≡ answered n → (take n (write_after d (written_text f xs table) out).out ≡ written_text f xs table) × Fine f xs table
read_of_lem f xs table out n (Err r) e s = impossible (cc)
read_of_lem f xs table out n (Ok tt) e s = (laid_front (written_text f xs table) out n s, fine f xs table e)

pub write_reads : (f : Frame) (xs table out : List ℕ) → WriteReads f xs table out
unfolding write_of
write_reads f xs table out n e co ex a b =
    let p = read_of_lem f xs table out n (write_asked f xs table) refl e in
    ap (λ (s : List ℕ). read_of s co ex) p.0 ∙ read_written f xs table p.1 co ex a b

-- ---- in the second form, rule 1, each species 0

valid_plain : (l : Line) → Valid l → ValidWith l 0
valid_plain (Header h) v = (v, omega arith)
valid_plain (Atom n x y z) v = (v, omega arith)
valid_plain (Exclusion a b) v = (v, refl)
valid_plain Malformed v = absurd v
valid_plain End v = absurd v

each_plain : (ls : List Line) → AllValid ls → Each ValidTwo (map plain_two ls)
each_plain [] v = tt
each_plain (l ∷ ls) v = (valid_plain l v.0, each_plain ls v.1)

-- told with their coordinates they are the lines themselves
told_core : (ls : List Line) → map (told_of false) (map plain_two ls) ≡ ls
told_core [] = refl
told_core (l ∷ ls) = ap (λ (r : List Line). l ∷ r) (told_core ls)

-- told with their species they are the lines of atoms that all stand at 0
told_append : (ls ks : List Line) → map (told_of true) (map plain_two (ls ++ ks)) ≡ map (told_of true) (map plain_two ls) ++ map (told_of true) (map plain_two ks)
told_append [] ks = refl
told_append (l ∷ ls) ks = ap (λ (r : List Line). told_of true (plain_two l) ∷ r) (told_append ls ks)

nought_at : (m i : ℕ) → get_or (noughts m) i 0 ≡ 0
nought_at zero i = refl
nought_at (suc m) zero = refl
nought_at (suc m) (suc i) = nought_at m i

told_atoms : (xs : List ℕ) (m : ℕ) (l : List ℕ) → map (told_of true) (map plain_two (map (atom_line xs) l)) ≡ map (atom_line (noughts m)) l
unfolding atom_line
told_atoms xs m [] = refl
told_atoms xs m (k ∷ l) =
    let e : atom_line (noughts m) k ≡ Atom k 0 0 0 = rw (nought_at m (3 * k), nought_at m (3 * k + 1), nought_at m (3 * k + 2)) in
    ap₂ (λ (u : Line) (r : List Line). u ∷ r) (sym e) (told_atoms xs m l)

told_rows : (l : List (ℕ × ℕ)) → map (told_of true) (map plain_two (map row_line l)) ≡ map row_line l
told_rows [] = refl
told_rows (p ∷ l) = ap (λ (r : List Line). row_line p ∷ r) (told_rows l)

long_noughts : (n : ℕ) → length (noughts n) ≡ n
long_noughts n = length-replicate {A = ℕ} n 0

-- the header has its rule where its radius stands
told_written : (h : Head) (xs : List ℕ) (l : List (ℕ × ℕ)) → map (told_of true) (two_lines h xs l) ≡ written_lines (ruled_head h 1) (noughts (3 * (length xs / 3))) l
unfolding two_lines written_lines atom_lines
told_written h xs l =
    let e : length xs / 3 ≡ length (noughts (3 * (length xs / 3))) / 3 = omega (arith, long_noughts (3 * (length xs / 3))) in
    ap (λ (r : List Line). Header (ruled_head h 1) ∷ r)
    (told_append (map (atom_line xs) (up_to (length xs / 3))) (map row_line l)
    ∙ ap₂ (λ (u v : List Line). u ++ v) (told_atoms xs (3 * (length xs / 3)) (up_to (length xs / 3)) ∙ ap (λ (n : ℕ). map (atom_line (noughts (3 * (length xs / 3)))) (up_to n)) e) (told_rows l))

told_places : (h : Head) (xs : List ℕ) (l : List (ℕ × ℕ)) → map (told_of false) (two_lines h xs l) ≡ written_lines h xs l
unfolding two_lines written_lines
told_places h xs l = ap (λ (r : List Line). Header h ∷ r) (told_core (atom_lines xs ++ map row_line l))

-- noughts put over noughts
noughts_put : (n j : ℕ) → sets (noughts (n + j)) 0 (noughts n) ≡ noughts (n + j)
noughts_put n j =
    front (noughts n) (noughts (n + j)) (omega (arith, long_noughts n, long_noughts (n + j)))
    ∙ (ap (λ (i : ℕ). noughts n ++ drop i (noughts (n + j))) (long_noughts n) ∙ (ap (λ (r : List ℕ). noughts n ++ r) (drop_noughts n j) ∙ replicate-append-replicate n j 0))

species_noughts : (n m : ℕ) → species_in n (noughts m) ≡ noughts n
species_noughts zero m = refl
species_noughts (suc n) m =
    ap₂ (λ (r : List ℕ) (i : ℕ). r ++ (i ∷ [])) (species_noughts n m) (nought_at m (3 * n)) ∙ (replicate-append-replicate n 1 0 ∙ ap (λ (i : ℕ). noughts i) (add-one n))

module _ (h : Head) (xs : List ℕ) (l : List (ℕ × ℕ)) (size : length xs ≡ 3 * h.atoms) (few : h.atoms ≤ 1024) (t : is_table l ≡ true) (k : length l ≤ 1024) where
  kinds_written : (n : ℕ) → n ≡ 3 * h.atoms → run (written_lines h (noughts n) l) 0 blank ≡ answered (record { header = some h; atoms = record { coords = noughts 3072; marks = sets (noughts 1024) 0 (ones h.atoms) }; rows = l })
  unfolding come z m₀
  kinds_written n e =
      let j : 3072 ≡ n + (3072 - n) = omega arith in
      run_written h (noughts n) l (long_noughts n ∙ e) few t k
      ∙ ap (λ (c : List ℕ). answered (record { header = some h; atoms = record { coords = c; marks = sets (noughts 1024) 0 (ones h.atoms) }; rows = l }))
      (ap (λ (i : ℕ). sets (noughts i) 0 (noughts n)) j ∙ (noughts_put n (3072 - n) ∙ ap (λ (i : ℕ). noughts i) (sym j)))

-- such lines are read as the header, the coordinates and the rows, rule 1, with species 0
module _ (h : Head) (xs : List ℕ) (l : List (ℕ × ℕ)) (size : length xs ≡ 3 * h.atoms) (few : h.atoms ≤ 1024) (t : is_table l ≡ true) (k : length l ≤ 1024) where
  pub two_written : (s : List ℕ) → twos_of s ≡ two_lines h xs l → sheet_two s ≡ answered (record { sound = record { head = h; coords = xs; rows = l }; rule = 1; species = replicate h.atoms 0 })
  unfolding sheet_two ran_two
  two_written s e =
      let n : 3 * (length xs / 3) ≡ 3 * h.atoms = omega arith in
      let a : run (map (told_of true) (twos_of s)) 0 blank ≡ answered (record { header = some (ruled_head h 1); atoms = record { coords = noughts 3072; marks = sets (noughts 1024) 0 (ones h.atoms) }; rows = l }) =
      ap (λ (ls : List TwoLine). run (map (told_of true) ls) 0 blank) e ∙ (ap (λ (ls : List Line). run ls 0 blank) (told_written h xs l) ∙ kinds_written (ruled_head h 1) xs l size few t k (3 * (length xs / 3)) n) in
      let b : run (map (told_of false) (twos_of s)) 0 blank ≡ run (written_lines h xs l) 0 blank = ap (λ (ls : List TwoLine). run (map (told_of false) ls) 0 blank) e ∙ ap (λ (ls : List Line). run ls 0 blank) (told_places h xs l) in
      ap₂ paired a b
      ∙ (ap (λ (x : Seen Sound). with_species x 1 (noughts 3072)) (sound_written h xs l size few t k)
      ∙ ap (λ (r : List ℕ). answered (record { sound = record { head = h; coords = xs; rows = l }; rule = 1; species = r })) (species_noughts h.atoms 3072))

-- what `write_two` writes is read as that header, those coordinates and those rows, rule 1, with species 0
module _ (f : Frame) (xs table : List ℕ) (g : Fine f xs table) where
  valid_two : Each ValidTwo (two_lines (head_of f (length xs / 3)) xs (rows table))
  unfolding two_lines written_lines
  valid_two =
      let v = valid_written f xs table g in
      ((v.0, omega arith), each_plain (atom_lines xs ++ map row_line (rows table)) v.1)

  pub reads_two : sheet_two (written_two f xs table) ≡ answered (record { sound = record { head = head_of f (length xs / 3); coords = xs; rows = rows table }; rule = 1; species = replicate (length xs / 3) 0 })
  unfolding written_two
  reads_two =
      two_written (head_of f (length xs / 3)) xs (rows table) (omega (arith, head_atoms f xs table g, g.threes)) (omega (arith, head_atoms f xs table g, g.few)) g.exclusions.ascending (omega (arith, length_rows table, g.exclusions.few))
      (text_two (two_lines (head_of f (length xs / 3)) xs (rows table)))
      (twos_of_text (two_lines (head_of f (length xs / 3)) xs (rows table)) valid_two)
      ∙ ap (λ (n : ℕ). answered (record { sound = record { head = head_of f (length xs / 3); coords = xs; rows = rows table }; rule = 1; species = replicate n 0 })) (head_atoms f xs table g)

  pub two_few : length (written_two f xs table) ≤ 51243
  two_few = omega (arith, bytes_two f xs table, g.few, g.exclusions.few)
