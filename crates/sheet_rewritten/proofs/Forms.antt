-- What `read` answers and leaves passes the writer's tests but 3, and what `write` then leaves is the sheet's written form. Assumes nothing.
use Rattle.std.specs.Prelude.{Err, Ok, Result}
use Prim.Native.Nat.{ℕ, ◌+◌, ◌*◌, ◌/◌, ◌%◌, ◌≤◌, ◌<◌}
use mathlib.Core.Path.{◌≡◌, refl, sym, ap, ap₂, ◌∙◌}
use mathlib.Core.Bool.{Bool, true, false, cond}
use mathlib.Core.List.{List}
use native.Mathlib.Omega.{arith}
use lib.ListN.{length, take, drop}
use lib.Seq.{sets, sets-eq, take_at}
use lib.Dec.{ltb}
use borrow.Author.Tests.{le-ltb, lt-ltb, ltb-false, eq-eqb}
use Rattle.answer.specs.Seen.{Seen, answered, refused, refused_by, number_of, place_of}
use Rattle.answer.specs.declared.Refusal.{Refusal}
use Rattle.answer.specs.declared.Refusal.TheVariants.{Lengths, Range}
use Rattle.lists.specs.Lists.{flat}
use Rattle.lists.proofs.Cases.{by_test, impossible}
use Rattle.lists.proofs.Rows.{length_flat, rows_flat}
use Rattle.frame.specs.declared.Frame.{Frame}
use Rattle.frame.specs.Build.{ranges_ok}
use Rattle.sheet_lines.specs.declared.Head.{Head}
use Rattle.sheet_printed.specs.Printed.{refusal_line}
use Rattle.sheet.specs.declared.Job.{Job}
use Rattle.sheet.specs.Reading.{Sound, sheet_of}
use Rattle.sheet.specs.Read as reading
use Rattle.sheet.proofs.Sizes.{Full, full}
use Rattle.sheet_answer.specs.Solve.{frame_for}
use Rattle.sheet_written.specs.Written.{head_of, written_text}
use Rattle.sheet_written.specs.Write as writing
use Rattle.sheet_written.proofs.Flags.{mask_back}
use Rattle.sheet_written.proofs.Cases.{Fitting, fits_by, ask_range, ask_fine, Fine, fine}
use Rattle.sheet_written.proofs.Back.{reads_written, bytes_few}
use Rattle.sheet_rewritten.specs.Rewrite.{box_of, form_of, form_text, rewritten, rewrite_of}
use Rattle.sheet_rewritten.specs.Steps.{done_text, frame_text}
use Rattle.sheet_rewritten.proofs.Sane.{SoundSane, sound_sane}

-- ---- the text of a frame
done_text_lem : (b : Bool) (text : List ℕ) → done_text (cond b (Ok tt) (Err Range)) text ≡ cond b text (refusal_line 3 0)
done_text_lem true text = refl
done_text_lem false text = refl

even_rows : (a b : ℕ) → a % 3 ≡ 0 → b % 2 ≡ 0 → writing.uneven_rows a b ≡ false
unfolding writing.uneven_rows
even_rows a b p q = rw (eq-eqb (a % 3) 0 p, eq-eqb (b % 2) 0 q)

-- ---- a sound sheet
module _ (s : List ℕ) (a : Sound) (is : sheet_of s ≡ answered a) where
  sizes : Full a
  sizes = full s a is

  sane : SoundSane a
  sane = sound_sane s a is

  atoms_are : length a.coords / 3 ≡ a.head.atoms
  atoms_are = omega (arith, sizes.size)

  twos : length (flat a.rows) ≡ 2 * length a.rows
  twos = length_flat a.rows

  fitting : Fitting (flat a.rows)
  fitting = record { few = omega (arith, twos, sizes.few); ascending = rw (rows_flat a.rows) sane.sorted; short = sane.short }

  asked_by : (b : Bool) → ranges_ok (box_of a) a.coords ≡ b → writing.write_asked (box_of a) a.coords (flat a.rows) ≡ cond b (Ok tt) (Err Range)
  asked_by b e =
      let u : writing.uneven_rows (length a.coords) (length (flat a.rows)) ≡ false = even_rows (length a.coords) (length (flat a.rows)) (omega (arith, sizes.size)) (omega (arith, twos)) in
      let f : length a.coords / 3 ≤ 1024 = omega (arith, atoms_are, sizes.atoms) in
      by_test (λ x. ranges_ok (box_of a) a.coords ≡ x → writing.write_asked (box_of a) a.coords (flat a.rows) ≡ cond x (Ok tt) (Err Range)) b
      (λ _ q. sym (ask_fine (box_of a) a.coords (flat a.rows) u f q (fits_by (flat a.rows) fitting)))
      (λ _ q. sym (ask_range (box_of a) a.coords (flat a.rows) u f q))
      e

  pub asked_is : writing.write_asked (box_of a) a.coords (flat a.rows) ≡ cond (ranges_ok (box_of a) a.coords) (Ok tt) (Err Range)
  asked_is = asked_by (ranges_ok (box_of a) a.coords) refl

  pub frame_form : frame_text (box_of a) a.coords (flat a.rows) ≡ form_text (answered a)
  unfolding frame_text form_of
  frame_form = ap (λ (d : Result (Unit {0}) Refusal). done_text d (written_text (box_of a) a.coords (flat a.rows))) asked_is ∙ done_text_lem (ranges_ok (box_of a) a.coords) (written_text (box_of a) a.coords (flat a.rows))

  -- the header that is written is the header that was read
  head_is : head_of (box_of a) (length a.coords / 3) ≡ a.head
  unfolding head_of box_of frame_for reading.job_for
  head_is =
      ap₂ (λ (n m : ℕ). record { atoms = n; ex = a.head.ex; ey = a.head.ey; ez = a.head.ez; mask = m; radius = a.head.radius })
      atoms_are (mask_back a.head.mask sane.masked)

  module _ (r : ranges_ok (box_of a) a.coords ≡ true) where
    passed : Fine (box_of a) a.coords (flat a.rows)
    passed = fine (box_of a) a.coords (flat a.rows) (sym (asked_is ∙ ap (λ (b : Bool). cond b (Ok tt) (Err Range)) r))

    pub form_reads : sheet_of (form_of a) ≡ answered a
    unfolding form_of
    form_reads =
        reads_written (box_of a) a.coords (flat a.rows) passed
        ∙ ap₂ (λ (h : Head) (l : List (ℕ × ℕ)). answered (record { head = h; coords = a.coords; rows = l })) head_is (rows_flat a.rows)

    pub form_few : length (form_of a) ≤ 43049
    unfolding form_of
    form_few = bytes_few (box_of a) a.coords (flat a.rows) passed

-- ---- `write` with room for the longest text
module _ (f : Frame) (xs table out out' : List ℕ) (room : 43049 ≤ length out) where
  laid : (d : Result (Unit {0}) Refusal) → d ≡ writing.write_asked f xs table → d ≡ Ok tt → writing.laid_in (written_text f xs table) out ≡ record { shown = answered (length (written_text f xs table)); out = sets out 0 (written_text f xs table) }
  unfolding writing.laid_in
  laid d e q =
      let few = bytes_few f xs table (fine f xs table (sym q ∙ e)) in
      rw (le-ltb (length out) (length (written_text f xs table)) (omega arith))

  answered_by : (n : ℕ) (d : Result (Unit {0}) Refusal) → d ≡ writing.write_asked f xs table → ◌≡◌ {A = writing.Outcome} (record { shown = answered n; out = out' }) (writing.write_after d (written_text f xs table) out) → (n ≡ length (done_text d (written_text f xs table))) × (out' ≡ sets out 0 (done_text d (written_text f xs table)))
  answered_by n (Err r) e q = let h : answered n ≡ refused_by r = ap (λ (o : writing.Outcome). o.shown) q in impossible (cc)
  answered_by n (Ok tt) e q =
      let p = q ∙ laid (Ok tt) e refl in
      let h : answered n ≡ answered (length (written_text f xs table)) = ap (λ (o : writing.Outcome). o.shown) p in
      (cc, ap (λ (o : writing.Outcome). o.out) p)

  pub write_answered : (w : Result ℕ Refusal) (n : ℕ) → w ≡ Ok n → writing.WriteSays f xs table out w out' → (n ≡ length (frame_text f xs table)) × (out' ≡ sets out 0 (frame_text f xs table))
  unfolding writing.write_of frame_text
  write_answered w n e says = answered_by n (writing.write_asked f xs table) refl (rw e at says)

  refused_by_lem : (r : Refusal) (d : Result (Unit {0}) Refusal) → d ≡ writing.write_asked f xs table → ◌≡◌ {A = writing.Outcome} (record { shown = refused_by r; out = out' }) (writing.write_after d (written_text f xs table) out) → (out' ≡ out) × (refusal_line (number_of r) (place_of r) ≡ done_text d (written_text f xs table))
  refused_by_lem r (Err t) e q =
      let h : ◌≡◌ {A = Seen ℕ} (refused (number_of r) (place_of r)) (refused (number_of t) (place_of t)) = ap (λ (o : writing.Outcome). o.shown) q in
      let a : number_of r ≡ number_of t = cc in
      let b : place_of r ≡ place_of t = cc in
      (ap (λ (o : writing.Outcome). o.out) q, ap₂ refusal_line a b)
  refused_by_lem r (Ok tt) e q =
      let h : refused_by r ≡ answered (length (written_text f xs table)) = ap (λ (o : writing.Outcome). o.shown) (q ∙ laid (Ok tt) e refl) in
      impossible (cc)

  pub write_refused : (w : Result ℕ Refusal) (r : Refusal) → w ≡ Err r → writing.WriteSays f xs table out w out' → (out' ≡ out) × (refusal_line (number_of r) (place_of r) ≡ frame_text f xs table)
  unfolding writing.write_of frame_text
  write_refused w r e says = refused_by_lem r (writing.write_asked f xs table) refl (rw e at says)

-- the refusal's line stands where the text would
pub line_put : (f : Frame) (xs table out mid out' t : List ℕ) (n : ℕ) → (mid ≡ out) × (t ≡ frame_text f xs table) → n ≡ length t → out' ≡ sets mid 0 t → (n ≡ length (frame_text f xs table)) × (out' ≡ sets out 0 (frame_text f xs table))
line_put f xs table out mid out' t n p q r = (q ∙ ap length p.1, r ∙ ap₂ (λ (o u : List ℕ). sets o 0 u) p.0 p.1)

-- ---- what `read` told
abbrev told : Seen Job → List ℕ → List ℕ → reading.Outcome
told s co ex = record { shown = s; coordinates = co; exclusions = ex }

pub front : (xs room : List ℕ) (n : ℕ) → length xs ≡ n → n ≤ length room → take n (sets room 0 xs) ≡ xs
front xs room n e h = ap (λ (l : List ℕ). take n l) (sets-eq xs room 0 (omega arith)) ∙ take_at xs (drop (0 + length xs) room) n e

module _ (s co ex : List ℕ) (a : 3072 ≤ length co) (b : 2048 ≤ length ex) where
  read_is : reading.read_of s co ex ≡ cond (ltb 65536 (length s)) (reading.handed (refused_by Lengths) co ex) (reading.handed (sheet_of s) co ex)
  unfolding reading.read_of
  read_is = rw (le-ltb (length co) 3072 a, le-ltb (length ex) 2048 b)

  -- an answered sheet: short, sound, and what was handed out
  pub record Handed (j : Job) (co' ex' : List ℕ) : Type 0 where
    pub short : length s ≤ 65536
    pub sound : Sound
    pub is : sheet_of s ≡ answered sound
    pub atoms : 3 * j.atoms ≤ 3072
    pub count : 2 * j.count ≤ 2048
    pub frame : frame_for j ≡ box_of sound
    pub coords : take (3 * j.atoms) co' ≡ sound.coords
    pub pairs : take (2 * j.count) ex' ≡ flat sound.rows

  handed_by : (j : Job) (co' ex' : List ℕ) (x : Seen Sound) → length s ≤ 65536 → sheet_of s ≡ x → told (answered j) co' ex' ≡ reading.handed x co ex → Handed j co' ex'
  unfolding reading.job_for box_of
  handed_by j co' ex' (answered w) sh e p =
      let f = full s w e in
      let h : answered j ≡ answered (reading.job_for w.head (length w.rows)) = ap (λ (o : reading.Outcome). o.shown) p in
      let ji : j ≡ reading.job_for w.head (length w.rows) = cc in
      let ja : j.atoms ≡ w.head.atoms = ap (λ (k : Job). k.atoms) ji in
      let jc : j.count ≡ length w.rows = ap (λ (k : Job). k.count) ji in
      record {
        short = sh;
        sound = w;
        is = e;
        atoms = omega (arith, f.atoms);
        count = omega (arith, f.few);
        frame = ap frame_for ji;
        coords = ap (λ (l : List ℕ). take (3 * j.atoms) l) (ap (λ (o : reading.Outcome). o.coordinates) p) ∙ front w.coords co (3 * j.atoms) (omega (arith, f.size)) (omega (arith, f.atoms));
        pairs = ap (λ (l : List ℕ). take (2 * j.count) l) (ap (λ (o : reading.Outcome). o.exclusions) p) ∙ front (flat w.rows) ex (2 * j.count) (omega (arith, length_flat w.rows)) (omega (arith, f.few));
      }
  handed_by j co' ex' (refused n p) sh e q = let h : answered j ≡ refused n p = ap (λ (o : reading.Outcome). o.shown) q in impossible (cc)

  pub read_told : (j : Job) (co' ex' : List ℕ) → told (answered j) co' ex' ≡ reading.read_of s co ex → Handed j co' ex'
  read_told j co' ex' says =
      by_test
      (λ t. ltb 65536 (length s) ≡ t → told (answered j) co' ex' ≡ cond t (reading.handed (refused_by Lengths) co ex) (reading.handed (sheet_of s) co ex) → Handed j co' ex')
      (ltb 65536 (length s))
      (λ _ e q. let h : answered j ≡ refused 1 0 = ap (λ (o : reading.Outcome). o.shown) q in impossible (cc))
      (λ _ e q. handed_by j co' ex' (sheet_of s) (ltb-false 65536 (length s) e) refl q)
      refl
      (says ∙ read_is)

  pub read_answered : (r : Result Job Refusal) (j : Job) (co' ex' : List ℕ) → r ≡ Ok j → reading.ReadSays s co ex r co' ex' → Handed j co' ex'
  read_answered r j co' ex' e says = read_told j co' ex' (rw e at says)

  line_by : (n p : ℕ) (co' ex' : List ℕ) (x : Seen Sound) → told (refused n p) co' ex' ≡ reading.handed x co ex → refusal_line n p ≡ form_text x
  line_by n p co' ex' (answered w) q =
      let h : refused n p ≡ answered (reading.job_for w.head (length w.rows)) = ap (λ (o : reading.Outcome). o.shown) q in
      impossible (cc)
  line_by n p co' ex' (refused k l) q =
      let h : ◌≡◌ {A = Seen Job} (refused n p) (refused k l) = ap (λ (o : reading.Outcome). o.shown) q in
      let u : n ≡ k = cc in
      let v : p ≡ l = cc in
      ap₂ refusal_line u v

  pub read_refused : (r : Result Job Refusal) (w : Refusal) (co' ex' : List ℕ) → r ≡ Err w → reading.ReadSays s co ex r co' ex' → refusal_line (number_of w) (place_of w) ≡ rewritten s
  unfolding rewritten
  read_refused r w co' ex' e says =
      by_test
      (λ t. told (refused_by w) co' ex' ≡ cond t (reading.handed (refused_by Lengths) co ex) (reading.handed (sheet_of s) co ex) → refusal_line (number_of w) (place_of w) ≡ cond t (refusal_line 1 0) (form_text (sheet_of s)))
      (ltb 65536 (length s))
      (λ _ q. line_by (number_of w) (place_of w) co' ex' (refused 1 0) q)
      (λ _ q. line_by (number_of w) (place_of w) co' ex' (sheet_of s) q)
      ((rw e at says) ∙ read_is)

-- the text of what was handed out
pub sound_form : (s : List ℕ) (a : Sound) → length s ≤ 65536 → sheet_of s ≡ answered a → form_text (answered a) ≡ rewritten s
unfolding rewritten
sound_form s a sh e = sym (rw (le-ltb 65536 (length s) sh, e))

pub handed_form : (s co ex : List ℕ) (a : 3072 ≤ length co) (b : 2048 ≤ length ex) (j : Job) (co' ex' : List ℕ) (f : Frame) (n m : ℕ) → Handed s co ex a b j co' ex' → f ≡ frame_for j → n ≡ 3 * j.atoms → m ≡ 2 * j.count → frame_text f (take n co') (take m ex') ≡ rewritten s
handed_form s co ex a b j co' ex' f n m h p q r =
    ap (λ (g : Frame). frame_text g (take n co') (take m ex')) (p ∙ h.frame)
    ∙ (ap₂ (λ (u v : List ℕ). frame_text (box_of h.sound) u v) (ap (λ (k : ℕ). take k co') q ∙ h.coords) (ap (λ (k : ℕ). take k ex') r ∙ h.pairs)
    ∙ (frame_form s h.sound h.is ∙ sound_form s h.sound h.short h.is))

-- ---- `rewrite` by its cases
pub too_small : (s out : List ℕ) → length out < 43049 → record { shown = refused_by Lengths; out = out } ≡ rewrite_of s out
unfolding rewrite_of
too_small s out h = simp (lt-ltb (length out) 43049 h)

pub rewrote : (s out out' t : List ℕ) (n : ℕ) → 43049 ≤ length out → t ≡ rewritten s → n ≡ length t → out' ≡ sets out 0 t → record { shown = answered n; out = out' } ≡ rewrite_of s out
unfolding rewrite_of
rewrote s out out' t n h e p q = simp (le-ltb (length out) 43049 h) (rw (p, q, e))
