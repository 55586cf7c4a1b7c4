-- THEOREMS. Moving there and back is the written first form; what is written in the second form reads back; going back is possible exactly when the rule is 1 and every species is 0; whole lines
-- in another order are moved alike. Assumes nothing.
use Rattle.std.specs.Prelude.{Err, Ok, Result}
use Rattle.answer.specs.declared.Refusal.{Refusal}
use Prim.Native.Nat.{ℕ, zero, suc, ◌/◌, ◌≤◌, ◌<◌}
use mathlib.Core.Path.{◌≡◌, refl, sym, ap, ◌∙◌}
use mathlib.Core.Bool.{Bool, true, false, cond}
use mathlib.Core.List.{List, [], ◌∷◌}
use native.Mathlib.Nat.{le_of_suc-le-suc}
use native.Mathlib.Omega.{arith}
use lib.ListN.{length, get_or, take, replicate}
use lib.Seq.{sets, length-sets}
use lib.Dec.{ltb, eqb}
use borrow.Author.Tests.{lt-ltb, le-ltb, ltb-false, eq-eqb, ne_eqb, eqb-true}
use Rattle.answer.specs.Seen.{Seen, answered, refused, refused_by, seen}
use Rattle.answer.specs.declared.Refusal.TheVariants.{Lengths, Range}
use Rattle.lists.specs.Lists.{rows, flat}
use Rattle.lists.proofs.Cases.{by_test, impossible}
use Rattle.frame.specs.Build.{ranges_ok}
use Rattle.hexadecimal.proofs.Choice.{cases}
use Rattle.sheet.specs.Reading.{lead_of, Sound, sheet_of}
use Rattle.sheet.specs.Read as reading
use Rattle.sheet.specs.ReadTwo.{SoundTwo, sheet_two, OutcomeTwo, handed_two, read_two_of}
use Rattle.sheet.proofs.AnyOrder.{one_order}
use Rattle.sheet.proofs.OrderTwo.{two_order}
use Rattle.sheet_either.specs.Either.{zeroed, as_two, either_of}
use Rattle.sheet_either.proofs.Forms.{second_form}
use Rattle.sheet_answer.proofs.TellingEither.{full_two}
use Rattle.sheet_written.specs.Written.{head_of, written_text}
use Rattle.sheet_written.specs.Write.{write_asked, Outcome, laid_in, write_after, write_of}
use Rattle.sheet_written.specs.WrittenTwo.{written_two, write_two_of}
use Rattle.sheet_written.proofs.Cases.{Fine, fine}
use Rattle.sheet_written.proofs.Back.{reads_written, reads_two, two_few, laid_front}
use Rattle.sheet_rewritten.specs.Rewrite.{box_of, form_of, rewritten}
use Rattle.sheet_rewritten.proofs.Forms.{asked_is, form_reads}
use Rattle.sheet_rewritten.proofs.OneForm.{form_is}
use Rattle.sheet_moved.specs.Moved.{at_rule, untyped_back, back, to_one_of, forth, to_two_of, seen_moved, ToOneSays, ToTwoSays}
use Rattle.sheet_moved.specs.Theorems.{ThereAndBack, formed_there, TwoReads, BackExactly, ToOneInAnyOrder, ToTwoInAnyOrder}
use Rattle.sheet_moved.specs.declared.MoveError.{MoveError}

-- ---- the lowest that is not 0
lead_all : (l : List ℕ) → ((k : ℕ) → get_or l k 0 ≡ 0) → lead_of 0 l ≡ length l
lead_all [] h = refl
lead_all (x ∷ l) h = simp (eq-eqb x 0 (h 0)) (ap suc (lead_all l (λ k. h (suc k))))

lead_lowest : (l : List ℕ) (k : ℕ) → k < length l → (get_or l k 0 ≡ 0 → ⊥) → ((i : ℕ) → i < k → get_or l i 0 ≡ 0) → lead_of 0 l ≡ k
lead_lowest [] k h n z = absurd (omega arith)
lead_lowest (x ∷ l) zero h n z = simp (ne_eqb x 0 n)
lead_lowest (x ∷ l) (suc k) h n z = simp (eq-eqb x 0 (z 0 (omega arith))) (ap suc (lead_lowest l k (le_of_suc-le-suc h) n (λ i q. z (suc i) (omega arith))))

only_each : (x : ℕ) (l : List ℕ) → eqb x 0 ≡ true → ((k : ℕ) → get_or l k 0 ≡ 0) → (k : ℕ) → get_or (x ∷ l) k 0 ≡ 0
only_each x l p f zero = eqb-true x 0 p
only_each x l p f (suc k) = f k

lead_only : (l : List ℕ) → length l ≤ lead_of 0 l → (k : ℕ) → get_or l k 0 ≡ 0
lead_only [] = λ h k. refl
lead_only (x ∷ l) =
    cases (eqb x 0) (λ p. simp p (λ h k. only_each x l p (lead_only l (le_of_suc-le-suc h)) k)) (λ p. simp p (λ h k. absurd (omega arith)))

-- ---- going back
module _ (s out : List ℕ) (h : length s ≤ 65536) (a : SoundTwo) (e : sheet_two s ≡ answered a) where
  opened : to_one_of s out ≡ back (answered a) out
  unfolding to_one_of
  opened = rw (le-ltb 65536 (length s) h, e)

  long : length a.species ≡ a.sound.head.atoms
  long = (full_two s a e).species

  untyped : a.rule ≡ 1 → to_one_of s out ≡ untyped_back a out
  untyped r = opened ∙ rw (eq-eqb a.rule 1 r)

  possible : a.rule ≡ 1 → ((k : ℕ) → get_or a.species k 0 ≡ 0) → to_one_of s out ≡ write_of (box_of a.sound) a.sound.coords (flat a.sound.rows) out
  possible r z = untyped r ∙ rw (le-ltb (lead_of 0 a.species) a.sound.head.atoms (omega (arith, lead_all a.species z, long)))

  second_rule : a.rule ≡ 2 → to_one_of s out ≡ record { shown = refused 12 at_rule; out = out }
  second_rule r = opened ∙ rw r

  typed : a.rule ≡ 1 → (k : ℕ) → k < a.sound.head.atoms → (get_or a.species k 0 ≡ 0 → ⊥) → ((i : ℕ) → i < k → get_or a.species i 0 ≡ 0) → to_one_of s out ≡ record { shown = refused 12 k; out = out }
  typed r k q n z =
      let l : lead_of 0 a.species ≡ k = lead_lowest a.species k (omega (arith, long)) n z in
      untyped r ∙ rw (l, lt-ltb k a.sound.head.atoms q)

  back_by_lem : (t : Bool) (n : ℕ) → ltb (lead_of 0 a.species) a.sound.head.atoms ≡ t → (cond t (record { shown = refused 12 (lead_of 0 a.species); out = out }) (write_of (box_of a.sound) a.sound.coords (flat a.sound.rows) out)).shown ≡ answered n → a.sound.head.atoms ≤ lead_of 0 a.species
  back_by_lem true n p q = impossible (cc)
  back_by_lem false n p q = ltb-false (lead_of 0 a.species) a.sound.head.atoms p

  ruled_by : (t : Bool) (n : ℕ) → (cond t (untyped_back a out) (record { shown = refused 12 at_rule; out = out })).shown ≡ answered n → t ≡ true
  ruled_by true n q = refl
  ruled_by false n q = impossible (cc)

  only : (n : ℕ) → (to_one_of s out).shown ≡ answered n → (a.rule ≡ 1) × ((k : ℕ) → get_or a.species k 0 ≡ 0)
  only n q =
      let r : a.rule ≡ 1 = eqb-true a.rule 1 (ruled_by (eqb a.rule 1) n (sym (ap (λ (o : Outcome). o.shown) opened) ∙ q)) in
      let m = back_by_lem (ltb (lead_of 0 a.species) a.sound.head.atoms) n refl (sym (ap (λ (o : Outcome). o.shown) (untyped r)) ∙ q) in
      (r, λ k. lead_only a.species (omega (arith, long, m)) k)

pub back_exactly : (s out : List ℕ) → BackExactly s out
back_exactly s out h a e = record { possible = possible s out h a e; second_rule = second_rule s out h a e; typed = typed s out h a e; only = only s out h a e }

-- ---- an answered `to_two`
pub record Moved (s : List ℕ) (out : List ℕ) (n : ℕ) : Type 0 where
  pub short : length s ≤ 65536
  pub sound : Sound
  pub is : sheet_of s ≡ answered sound
  pub ranged : ranges_ok (box_of sound) sound.coords ≡ true
  pub text : take n (to_two_of s out).out ≡ written_two (box_of sound) sound.coords (flat sound.rows)

peel : (b : Bool) (x : Outcome) (out : List ℕ) (n : ℕ) → (cond b (record { shown = refused_by Lengths; out = out }) x).shown ≡ answered n → b ≡ false
peel true x out n e = impossible (cc)
peel false x out n e = refl

ranged_by : (b : Bool) (text out : List ℕ) (n : ℕ) → (write_after (cond b (Ok tt) (Err Range)) text out).shown ≡ answered n → (b ≡ true) × (take n (write_after (cond b (Ok tt) (Err Range)) text out).out ≡ text)
ranged_by true text out n e = (refl, laid_front text out n e)
ranged_by false text out n e = impossible (cc)

wrote_two : (s out : List ℕ) (n : ℕ) (a : Sound) → sheet_of s ≡ answered a → (write_two_of (box_of a) a.coords (flat a.rows) out).shown ≡ answered n → (ranges_ok (box_of a) a.coords ≡ true) × (take n (write_two_of (box_of a) a.coords (flat a.rows) out).out ≡ written_two (box_of a) a.coords (flat a.rows))
unfolding write_two_of
wrote_two s out n a e q =
    let p = asked_is s a e in
    let r = ranged_by (ranges_ok (box_of a) a.coords) (written_two (box_of a) a.coords (flat a.rows)) out n (sym (ap (λ (d : Result (Unit {0}) Refusal). (write_after d (written_two (box_of a) a.coords (flat a.rows)) out).shown) p) ∙ q) in
    (r.0, ap (λ (d : Result (Unit {0}) Refusal). take n (write_after d (written_two (box_of a) a.coords (flat a.rows)) out).out) p ∙ r.1)

forth_by : (s out : List ℕ) (n : ℕ) (x : Seen Sound) → length s ≤ 65536 → sheet_of s ≡ x → to_two_of s out ≡ forth x out → (forth x out).shown ≡ answered n → Moved s out n
forth_by s out n (answered a) h e o q =
    let r = wrote_two s out n a e q in
    record { short = h; sound = a; is = e; ranged = r.0; text = ap (λ (x : Outcome). take n x.out) o ∙ r.1 }
forth_by s out n (refused k p) h e o q = impossible (cc)

to_two_is : (s out : List ℕ) → ltb 65536 (length s) ≡ false → to_two_of s out ≡ forth (sheet_of s) out
unfolding to_two_of
to_two_is s out t = rw t

to_two_short : (s out : List ℕ) (n : ℕ) → (to_two_of s out).shown ≡ answered n → ltb 65536 (length s) ≡ false
unfolding to_two_of
to_two_short s out n q = peel (ltb 65536 (length s)) (forth (sheet_of s) out) out n q

pub moved_two : (s out : List ℕ) (n : ℕ) → (to_two_of s out).shown ≡ answered n → Moved s out n
moved_two s out n q =
    let t = to_two_short s out n q in
    let o = to_two_is s out t in
    forth_by s out n (sheet_of s) (ltb-false 65536 (length s) t) refl o (sym (ap (λ (x : Outcome). x.shown) o) ∙ q)

module _ (s out : List ℕ) (n : ℕ) (m : Moved s out n) where
  abbrev a : Sound
  a = m.sound

  passed : Fine (box_of a) a.coords (flat a.rows)
  passed = fine (box_of a) a.coords (flat a.rows) (sym (asked_is s a m.is ∙ ap (λ (b : Bool). cond b (Ok tt) (Err Range)) m.ranged))

  -- the sound sheet is the one that is read back
  same : record { head = head_of (box_of a) (length a.coords / 3); coords = a.coords; rows = rows (flat a.rows) } ≡ a
  unfolding form_of
  same =
      let p : answered (record { head = head_of (box_of a) (length a.coords / 3); coords = a.coords; rows = rows (flat a.rows) }) ≡ answered a = sym (reads_written (box_of a) a.coords (flat a.rows) passed) ∙ form_reads s a m.is m.ranged in
      cc

  atoms : length a.coords / 3 ≡ a.head.atoms
  unfolding head_of
  atoms = ap (λ (x : Sound). x.head.atoms) same

  abbrev text : List ℕ
  text = take n (to_two_of s out).out

  sheet_two_lem : sheet_two (take n (to_two_of s out).out) ≡ answered (record { sound = a; rule = 1; species = replicate a.head.atoms 0 })
  sheet_two_lem =
      ap sheet_two m.text
      ∙ (reads_two (box_of a) a.coords (flat a.rows) passed
      ∙ (ap (λ (x : Sound). answered (record { sound = x; rule = 1; species = replicate (length a.coords / 3) 0 })) same ∙ ap (λ (k : ℕ). answered (record { sound = a; rule = 1; species = replicate k 0 })) atoms))

  few : length (take n (to_two_of s out).out) ≤ 65536
  few = omega (arith, ap length m.text, two_few (box_of a) a.coords (flat a.rows) passed)

  nought : (k i : ℕ) → get_or (replicate {A = ℕ} k 0) i 0 ≡ 0
  nought zero i = refl
  nought (suc k) zero = refl
  nought (suc k) (suc i) = nought k i

  written : (to : List ℕ) → write_of (box_of a) a.coords (flat a.rows) to ≡ laid_in (rewritten s) to
  unfolding write_of form_of
  written to =
      ap (λ (d : Result (Unit {0}) Refusal). write_after d (written_text (box_of a) a.coords (flat a.rows)) to) (asked_is s a m.is ∙ ap (λ (b : Bool). cond b (Ok tt) (Err Range)) m.ranged)
      ∙ ap (λ (t : List ℕ). laid_in t to) (sym (form_is s (record { short = m.short; sound = a; is = m.is; ranged = m.ranged })))

  one_back : (to : List ℕ) → to_one_of (take n (to_two_of s out).out) to ≡ laid_in (rewritten s) to
  one_back to = possible (take n (to_two_of s out).out) to few (record { sound = a; rule = 1; species = replicate a.head.atoms 0 }) sheet_two_lem refl (nought a.head.atoms) ∙ written to

  module _ (co sp ex : List ℕ) (x : 3072 ≤ length co) (y : 1024 ≤ length sp) (z : 2048 ≤ length ex) where
    read_one : reading.read_of s co ex ≡ reading.handed (answered a) co ex
    unfolding reading.read_of
    read_one = rw (le-ltb 65536 (length s) m.short, le-ltb (length co) 3072 x, le-ltb (length ex) 2048 z, m.is)

    read_two : read_two_of (take n (to_two_of s out).out) co sp ex ≡ handed_two (answered (record { sound = a; rule = 1; species = replicate a.head.atoms 0 })) co sp ex
    unfolding read_two_of
    read_two = rw (le-ltb 65536 (length (take n (to_two_of s out).out)) few, le-ltb (length co) 3072 x, le-ltb (length sp) 1024 y, le-ltb (length ex) 2048 z, sheet_two_lem)

    two_reads_by : either_of (take n (to_two_of s out).out) co sp ex ≡ record { shown = formed_there (reading.read_of s co ex).shown; coordinates = (reading.read_of s co ex).coordinates; species = zeroed (reading.read_of s co ex).shown sp; exclusions = (reading.read_of s co ex).exclusions }
    unfolding reading.job_for
    two_reads_by =
        second_form (take n (to_two_of s out).out) co sp ex (record { job = reading.job_for a.head (length a.rows); rule = 1 }) (ap (λ (o : OutcomeTwo). o.shown) read_two)
        ∙ (ap as_two read_two
        ∙ sym (ap (λ (o : reading.Outcome). record { shown = formed_there o.shown; coordinates = o.coordinates; species = zeroed o.shown sp; exclusions = o.exclusions }) read_one))

pub there_and_back : (s out : List ℕ) → ThereAndBack s out
there_and_back s out n q to = one_back s out n (moved_two s out n q) to

pub two_reads : (s out : List ℕ) → TwoReads s out
two_reads s out n q co sp ex x y z = two_reads_by s out n (moved_two s out n q) co sp ex x y z

-- ---- in another order
pub to_one_in_any_order : (s out : List ℕ) → ToOneInAnyOrder s out
unfolding to_one_of
to_one_in_any_order s out a e cs ds w g p = let q = two_order s a e cs ds w g p in rw (q.0, q.1)

pub to_two_in_any_order : (s out : List ℕ) → ToTwoInAnyOrder s out
unfolding to_two_of
to_two_in_any_order s out a e cs ds w g p = let q = one_order s a e cs ds w g p in rw (q.0, q.1)

-- ---- what is answered fits
abbrev laid_by : Bool → List ℕ → List ℕ → Outcome
laid_by t text out = cond t (record { shown = refused 8 (length text); out = out }) (record { shown = answered (length text); out = sets out 0 text })

laid_fits : (text out : List ℕ) (n : ℕ) → (laid_in text out).shown ≡ answered n → n ≤ length (laid_in text out).out
unfolding laid_in
laid_fits text out n =
    by_test (λ t. (laid_by t text out).shown ≡ answered n → n ≤ length (laid_by t text out).out) (ltb (length out) (length text))
    (λ _ q. impossible (cc))
    (λ p q. let k : length text ≡ n = cc in omega (arith, ltb-false (length out) (length text) p, length-sets out 0 text))

after_fits : (d : Result (Unit {0}) Refusal) (text out : List ℕ) (n : ℕ) → (write_after d text out).shown ≡ answered n → n ≤ length (write_after d text out).out
after_fits (Err r) text out n q = impossible (cc)
after_fits (Ok tt) text out n q = laid_fits text out n q

abbrev back_by : Bool → ℕ → Result (Unit {0}) Refusal → List ℕ → List ℕ → Outcome
back_by t k d text out = cond t (record { shown = refused 12 k; out = out }) (write_after d text out)

type_fits : (t : Bool) (k : ℕ) (d : Result (Unit {0}) Refusal) (text out : List ℕ) (n : ℕ) → (back_by t k d text out).shown ≡ answered n → n ≤ length (back_by t k d text out).out
type_fits true k d text out n q = impossible (cc)
type_fits false k d text out n q = after_fits d text out n q

rule_fits : (t : Bool) (x : Outcome) (out : List ℕ) (n : ℕ) → (x.shown ≡ answered n → n ≤ length x.out) → (cond t x (record { shown = refused 12 at_rule; out = out })).shown ≡ answered n → n ≤ length (cond t x (record { shown = refused 12 at_rule; out = out })).out
rule_fits true x out n f q = f q
rule_fits false x out n f q = impossible (cc)

back_fits : (x : Seen SoundTwo) (out : List ℕ) (n : ℕ) → (back x out).shown ≡ answered n → n ≤ length (back x out).out
unfolding write_of
back_fits (refused k p) out n = λ q. impossible (cc)
back_fits (answered a) out n =
    rule_fits (eqb a.rule 1) (untyped_back a out) out n
    (type_fits (ltb (lead_of 0 a.species) a.sound.head.atoms) (lead_of 0 a.species) (write_asked (box_of a.sound) a.sound.coords (flat a.sound.rows)) (written_text (box_of a.sound) a.sound.coords (flat a.sound.rows)) out n)

forth_fits : (x : Seen Sound) (out : List ℕ) (n : ℕ) → (forth x out).shown ≡ answered n → n ≤ length (forth x out).out
unfolding write_two_of
forth_fits (refused k p) out n q = impossible (cc)
forth_fits (answered a) out n q = after_fits (write_asked (box_of a) a.coords (flat a.rows)) (written_two (box_of a) a.coords (flat a.rows)) out n q

if_fits : (t : Bool) (x : Outcome) (out : List ℕ) (n : ℕ) → (x.shown ≡ answered n → n ≤ length x.out) → (cond t (record { shown = refused_by Lengths; out = out }) x).shown ≡ answered n → n ≤ length (cond t (record { shown = refused_by Lengths; out = out }) x).out
if_fits true x out n f q = impossible (cc)
if_fits false x out n f q = f q

one_fits : (s out : List ℕ) (n : ℕ) → (to_one_of s out).shown ≡ answered n → n ≤ length (to_one_of s out).out
unfolding to_one_of
one_fits s out n q = if_fits (ltb 65536 (length s)) (back (sheet_two s) out) out n (back_fits (sheet_two s) out n) q

two_fits : (s out : List ℕ) (n : ℕ) → (to_two_of s out).shown ≡ answered n → n ≤ length (to_two_of s out).out
unfolding to_two_of
two_fits s out n q = if_fits (ltb 65536 (length s)) (forth (sheet_of s) out) out n (forth_fits (sheet_of s) out n) q

-- the bytes that a move answers stand in what it left
pub to_one_fits : (s out : List ℕ) (r : Result ℕ MoveError) (out' : List ℕ) (n : ℕ) → ToOneSays s out r out' → seen_moved r ≡ answered n → n ≤ length out'
to_one_fits s out r out' n says e = rw (ap (λ (o : Outcome). o.out) says) (one_fits s out n (sym (ap (λ (o : Outcome). o.shown) says) ∙ e))

pub to_two_fits : (s out : List ℕ) (r : Result ℕ Refusal) (out' : List ℕ) (n : ℕ) → ToTwoSays s out r out' → seen r ≡ answered n → n ≤ length out'
to_two_fits s out r out' n says e = rw (ap (λ (o : Outcome). o.out) says) (two_fits s out n (sym (ap (λ (o : Outcome). o.shown) says) ∙ e))
