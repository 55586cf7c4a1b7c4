-- What `read` and `build` told is the list of a sheet, and its text is what is printed. Assumes nothing.
use Rattle.std.specs.Prelude.{Err, Ok, Result}
use Rattle.frame.specs.declared.Built.{Built}
use Rattle.sheet_answer.specs.declared.SheetList.{SheetList}
use Prim.Native.Nat.{ℕ, ◌+◌, ◌*◌, ◌/◌, ◌≤◌, ◌<◌}
use mathlib.Core.Path.{◌≡◌, refl, sym, ap, ◌∙◌}
use mathlib.Core.Bool.{Bool, true, false, cond}
use mathlib.Core.List.{List, ◌++◌}
use native.Mathlib.Omega.{arith}
use lib.ListN.{length, take, drop, replicate}
use lib.Seq.{sets, sets-eq, take_at}
use lib.Dec.{ltb, leb}
use borrow.Author.Tests.{le-ltb, lt-ltb, leb-true}
use Rattle.answer.specs.Seen.{Seen, answered, refused, refused_by, number_of, place_of, seen}
use Rattle.answer.specs.declared.Refusal.{Refusal}
use Rattle.answer.specs.declared.Refusal.TheVariants.{Lengths, Room, Cells}
use Rattle.lists.specs.Atoms.{atoms_of}
use Rattle.lists.specs.Lists.{flat}
use Rattle.lists.proofs.Cases.{by_test, impossible}
use Rattle.lists.proofs.Rows.{length_flat}
use Rattle.frame.specs.declared.Frame.{Frame}
use Rattle.frame.specs.Laying.{plain_of, crowded}
use Rattle.frame.specs.Listed.{BuildLists}
use Rattle.frame.specs.Build.{Given, Outcome, stays, near_pairs, checks_of, shown_of, run_of, starts_laid, items_laid, frame_asked, after_of, build_of, BuildSays}
use Rattle.frame.proofs.Outcomes.{pairs_kept}
use Rattle.sheet_printed.specs.Printed.{refusal_line}
use Rattle.sheet.specs.declared.Job.{Job}
use Rattle.sheet.specs.Reading.{Sound, sheet_of}
use Rattle.sheet.specs.Read as reading
use Rattle.sheet.proofs.Sizes.{Full, full}
use Rattle.sheet_answer.specs.Solve.{frame_for, given_for, shown_text, job_text, printed, solve_of, answer_text}
use Rattle.sheet_answer.specs.List.{ListOutcome, given_by_job, with_atoms, job_list, list_for, sheet_list_of, ListSays, Sheeted}
use Rattle.sheet_answer.specs.Steps.{list_text}

-- ---- what `build` told: the list of what was read
with_answered : (n : ℕ) (a : Seen Built) (c : SheetList) → with_atoms n a ≡ answered c → (c.atoms ≡ n) × (a ≡ answered c.built)
with_answered n (answered b) c e =
    let h : record { atoms = n; built = b } ≡ c = cc in (sym (ap (λ (x : SheetList). x.atoms) h), ap (λ (x : SheetList). answered x.built) h)
with_answered n (refused k p) c e = impossible (cc)

shown_room : (n k room : ℕ) (t : Bool) (c : Built) → shown_of n k room t ≡ answered c → c.pairs ≤ room
unfolding shown_of
shown_room n k room t c =
    by_test (λ b. cond b (answered (record { pairs = n; checks = k; fallback = t })) (refused_by (Room n)) ≡ answered c → c.pairs ≤ room) (leb n room)
    (λ e q. let h : record { pairs = n; checks = k; fallback = t } ≡ c = cc in let g : n ≡ c.pairs = ap (λ (x : Built). x.pairs) h in omega (arith, leb-true n room e))
    (λ _ q. impossible (cc))

module _ (i : Given) where
  abbrev few : Outcome
  few = stays i (answered (record { pairs = 0; checks = 0; fallback = false }))

  abbrev plain : Outcome
  plain = run_of i i.starts i.items true

  abbrev crowd : Outcome
  crowd = stays i (refused_by Cells)

  abbrev grid : Outcome
  grid = run_of i (starts_laid i.frame i.coordinates i.starts) (items_laid i.frame i.coordinates i.items) false

  run_room : (ss it : List ℕ) (t : Bool) (c : Built) → (run_of i ss it t).answer ≡ answered c → c.pairs ≤ length i.pairs / 2
  unfolding run_of
  run_room ss it t c q =
      shown_room (length (near_pairs i.frame i.coordinates i.exclusions)) (checks_of i.frame i.coordinates i.exclusions)
      (length i.pairs / 2) t c q

  after_room : (a : Result (Unit {0}) Refusal) (c : Built) → (after_of i a).answer ≡ answered c → c.pairs ≤ length i.pairs / 2
  unfolding after_of
  after_room (Err r) c q = impossible (cc)
  after_room (Ok tt) c q =
      by_test
      (λ t. (cond t few (cond (plain_of i.frame) plain (cond (crowded i.frame (length i.starts)) crowd grid))).answer ≡ answered c → c.pairs ≤ length i.pairs / 2)
      (ltb (atoms_of i.coordinates) 2)
      (λ _ z. let h : record { pairs = 0; checks = 0; fallback = false } ≡ c = cc in let g : 0 ≡ c.pairs = ap (λ (x : Built). x.pairs) h in omega arith)
      (λ _.
      by_test (λ t. (cond t plain (cond (crowded i.frame (length i.starts)) crowd grid)).answer ≡ answered c → c.pairs ≤ length i.pairs / 2) (plain_of i.frame)
      (λ _. run_room i.starts i.items true c)
      (λ _.
      by_test (λ t. (cond t crowd grid).answer ≡ answered c → c.pairs ≤ length i.pairs / 2) (crowded i.frame (length i.starts))
      (λ _ z. impossible (cc))
      (λ _. run_room (starts_laid i.frame i.coordinates i.starts) (items_laid i.frame i.coordinates i.items) false c)))
      q

module _ (j : Job) (co ex pairs : List ℕ) (f : Frame) (is : f ≡ frame_for j) (r : Result Built Refusal) (ps ss it : List ℕ)
    (says : BuildSays (record { frame = f; coordinates = co; exclusions = ex; pairs = pairs; starts = replicate 16384 0; items = replicate 1024 0 }) r ps ss it) where
  outcome : Outcome
  outcome = record { answer = seen r; pairs = ps; starts = ss; items = it }

  built_is : outcome ≡ build_of (given_by_job j co ex pairs)
  unfolding given_by_job outcome
  built_is = rw is at says

  module _ (b : Result Built Refusal) (e : r ≡ b) where
    pub job_listed : record { shown = with_atoms j.atoms (seen b); pairs = ps } ≡ job_list j co ex pairs
    unfolding job_list outcome
    job_listed =
        ap (λ (y : Result Built Refusal). record { shown = with_atoms j.atoms (seen y); pairs = ps }) (sym e)
        ∙ ap (λ (o : Outcome). record { shown = with_atoms j.atoms o.answer; pairs = o.pairs }) built_is

    pub job_fits : BuildLists (record { frame = f; coordinates = co; exclusions = ex; pairs = pairs; starts = replicate 16384 0; items = replicate 1024 0 }) r ps → length co ≡ 3 * j.atoms → j.atoms ≤ 1024 → (c : SheetList) → with_atoms j.atoms (seen b) ≡ answered c → Sheeted c ps
    unfolding outcome build_of given_by_job
    job_fits lists long few c a =
        let w = with_answered j.atoms (seen b) c a in
        let shown : seen r ≡ answered c.built = ap seen e ∙ w.1 in
        let fit = after_room (given_by_job j co ex pairs) (frame_asked (frame_for j) co ex (length (replicate {A = ℕ} 1024 0))) c.built (sym (ap (λ (o : Outcome). o.answer) built_is) ∙ shown) in
        let kept : length ps ≡ length pairs = ap (λ (o : Outcome). length o.pairs) built_is ∙ pairs_kept (given_by_job j co ex pairs) in
        record {
          few = omega (arith, w.0);
          room = omega (arith, fit, kept);
          two = λ p m. let t = ((lists c.built shown).exactly.sound p m).0 in let n : length co / 3 ≡ c.atoms = omega (arith, w.0) in (t.0, omega (arith, t.1, n));
        }

-- ---- what `read` told
abbrev pub told : Seen Job → List ℕ → List ℕ → reading.Outcome
told s co ex = record { shown = s; coordinates = co; exclusions = ex }

-- the numbers handed out stand at the front of the room
pub front : (xs room : List ℕ) (n : ℕ) → length xs ≡ n → n ≤ length room → take n (sets room 0 xs) ≡ xs
front xs room n e h =
    let s : sets room 0 xs ≡ take 0 room ++ xs ++ drop (0 + length xs) room = sets-eq xs room 0 (omega arith) in
    ap (λ (l : List ℕ). take n l) s ∙ take_at xs (drop (0 + length xs) room) n e

-- of a sheet that comes to x
module _ (co ex : List ℕ) (a : 3072 ≤ length co) (b : 2048 ≤ length ex) (x : Seen Sound) (sized : (w : Sound) → x ≡ answered w → Full w) where
  abbrev handed_if : Bool → reading.Outcome
  handed_if t = cond t (reading.handed (refused_by Lengths) co ex) (reading.handed x co ex)

  abbrev list_if : Bool → List ℕ → ListOutcome
  list_if t pairs = cond t (record { shown = refused_by Lengths; pairs = pairs }) (list_for x pairs)

  module _ (co' ex' : List ℕ) where
    -- a sheet that is answered: its sizes, and its list
    pub record Handed (j : Job) : Type 0 where
      pub atoms : 3 * j.atoms ≤ 3072
      pub count : 2 * j.count ≤ 2048
      pub few : j.atoms ≤ 1024
      pub list : (pairs : List ℕ) → job_list j (take (3 * j.atoms) co') (take (2 * j.count) ex') pairs ≡ list_for x pairs

    handed_by : (j : Job) (y : Seen Sound) → x ≡ y → told (answered j) co' ex' ≡ reading.handed y co ex → Handed j
    unfolding reading.job_for
    handed_by j (answered w) e p =
        let f = sized w e in
        let h : answered j ≡ answered (reading.job_for w.head (length w.rows)) = ap (λ (o : reading.Outcome). o.shown) p in
        let ji : j ≡ reading.job_for w.head (length w.rows) = cc in
        let ja : j.atoms ≡ w.head.atoms = ap (λ (k : Job). k.atoms) ji in
        let jc : j.count ≡ length w.rows = ap (λ (k : Job). k.count) ji in
        let ci : take (3 * j.atoms) co' ≡ w.coords = ap (λ (l : List ℕ). take (3 * j.atoms) l) (ap (λ (o : reading.Outcome). o.coordinates) p) ∙ front w.coords co (3 * j.atoms) (omega (arith, f.size)) (omega (arith, f.atoms)) in
        let xi : take (2 * j.count) ex' ≡ flat w.rows = ap (λ (l : List ℕ). take (2 * j.count) l) (ap (λ (o : reading.Outcome). o.exclusions) p) ∙ front (flat w.rows) ex (2 * j.count) (omega (arith, length_flat w.rows)) (omega (arith, f.few)) in
        record {
          atoms = omega (arith, f.atoms);
          count = omega (arith, f.few);
          few = omega (arith, f.atoms);
          list = λ pairs. rw (ci, xi, e) (ap (λ (k : Job). job_list k w.coords (flat w.rows) pairs) ji);
        }
    handed_by j (refused n p) e q =
        let h : answered j ≡ refused n p = ap (λ (o : reading.Outcome). o.shown) q in
        impossible (cc)

    pub handed_answered : (t : Bool) (j : Job) → told (answered j) co' ex' ≡ handed_if t → Handed j × ((pairs : List ℕ) → list_for x pairs ≡ list_if t pairs)
    handed_answered true j q = let h : answered j ≡ refused 1 0 = ap (λ (o : reading.Outcome). o.shown) q in impossible (cc)
    handed_answered false j q = (handed_by j x refl q, λ pairs. refl)

    refused_by_lem : (n p : ℕ) (y : Seen Sound) → told (refused n p) co' ex' ≡ reading.handed y co ex → (pairs : List ℕ) → record { shown = refused n p; pairs = pairs } ≡ list_for y pairs
    refused_by_lem n p (answered w) q pairs =
        let h : refused n p ≡ answered (reading.job_for w.head (length w.rows)) = ap (λ (o : reading.Outcome). o.shown) q in
        impossible (cc)
    refused_by_lem n p (refused k l) q pairs =
        let h : ◌≡◌ {A = Seen Job} (refused n p) (refused k l) = ap (λ (o : reading.Outcome). o.shown) q in
        let u : n ≡ k = cc in
        let v : p ≡ l = cc in
        rw (u, v)

    pub handed_refused : (t : Bool) (n p : ℕ) → told (refused n p) co' ex' ≡ handed_if t → (pairs : List ℕ) → record { shown = refused n p; pairs = pairs } ≡ list_if t pairs
    handed_refused true n p q pairs = refused_by_lem n p (refused 1 0) q pairs
    handed_refused false n p q pairs = refused_by_lem n p x q pairs

module _ (s co ex : List ℕ) (a : 3072 ≤ length co) (b : 2048 ≤ length ex) where
  -- `read` by the one test that is left
  read_is : reading.read_of s co ex ≡ cond (ltb 65536 (length s)) (reading.handed (refused_by Lengths) co ex) (reading.handed (sheet_of s) co ex)
  unfolding reading.read_of
  read_is = rw (le-ltb (length co) 3072 a, le-ltb (length ex) 2048 b)

  pub read_answered : (r : Result Job Refusal) (j : Job) (co' ex' : List ℕ) → r ≡ Ok j → reading.ReadSays s co ex r co' ex' → Handed co ex a b (sheet_of s) (full s) co' ex' j × ((pairs : List ℕ) → list_for (sheet_of s) pairs ≡ sheet_list_of s pairs)
  unfolding sheet_list_of
  read_answered r j co' ex' e says = handed_answered co ex a b (sheet_of s) (full s) co' ex' (ltb 65536 (length s)) j ((rw e at says) ∙ read_is)

  pub read_refused : (r : Result Job Refusal) (w : Refusal) (co' ex' : List ℕ) → r ≡ Err w → reading.ReadSays s co ex r co' ex' → (pairs : List ℕ) → record { shown = refused_by w; pairs = pairs } ≡ sheet_list_of s pairs
  unfolding sheet_list_of
  read_refused r w co' ex' e says pairs = handed_refused co ex a b (sheet_of s) (full s) co' ex' (ltb 65536 (length s)) (number_of w) (place_of w) ((rw e at says) ∙ read_is) pairs

-- ---- the text of a sheet is that of its list
with_text : (n : ℕ) (a : Seen Built) (pairs : List ℕ) → list_text (with_atoms n a) pairs ≡ shown_text a pairs
with_text n (answered c) pairs = refl
with_text n (refused k p) pairs = refl

abbrev pub text_of : ListOutcome → List ℕ
text_of o = list_text o.shown o.pairs

pub sheet_text : (x : Seen Sound) → text_of (list_for x (replicate 16384 0)) ≡ answer_text x
unfolding job_list job_text given_by_job given_for
sheet_text (answered a) =
    let j = reading.job_for a.head (length a.rows) in
    let o = build_of (given_for j a.coords (flat a.rows)) in with_text j.atoms o.answer o.pairs
sheet_text (refused n p) = refl

list_text_lem : (s : List ℕ) → text_of (sheet_list_of s (replicate 16384 0)) ≡ printed s
unfolding sheet_list_of printed
list_text_lem s =
    by_test (λ t. text_of (cond t (record { shown = refused_by Lengths; pairs = replicate 16384 0 }) (list_for (sheet_of s) (replicate 16384 0))) ≡ cond t (refusal_line 1 0) (answer_text (sheet_of s)))
    (ltb 65536 (length s)) (λ _. refl) (λ _. sheet_text (sheet_of s))

pub listed_text : (s : List ℕ) (x : Result SheetList Refusal) (ps : List ℕ) → ListSays s (replicate 16384 0) x ps → list_text (seen x) ps ≡ printed s
listed_text s x ps says = ap text_of says ∙ list_text_lem s

-- ---- `solve` by its cases
pub too_small : (s out : List ℕ) → length out < 90133 → record { shown = refused_by Lengths; out = out } ≡ solve_of s out
unfolding solve_of
too_small s out h = simp (lt-ltb (length out) 90133 h)

pub solved : (s out out' t : List ℕ) (n : ℕ) → 90133 ≤ length out → t ≡ printed s → n ≡ length t → out' ≡ sets out 0 t → record { shown = answered n; out = out' } ≡ solve_of s out
unfolding solve_of
solved s out out' t n h e p q = simp (le-ltb (length out) 90133 h) (rw (p, q, e))
