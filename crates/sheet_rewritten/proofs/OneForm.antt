-- THEOREMS. Sheets of equal meaning, and these alone, have one written form; it is a sheet of that meaning, and rewritten it is itself. Assumes nothing.
use Rattle.std.specs.Prelude.{Err, Ok, Result}
use Rattle.answer.specs.declared.Refusal.{Refusal}
use Prim.Native.Nat.{ℕ, ◌≤◌}
use mathlib.Core.Path.{◌≡◌, refl, sym, ap, ap₂, ◌∙◌, subst}
use mathlib.Core.Bool.{Bool, true, false, cond}
use mathlib.Core.Logic.{∥∥₁_elim}
use mathlib.Core.List.{List, is_set, Permᴰ}
use native.Mathlib.Nat.{ℕ_set}
use native.Mathlib.Omega.{arith}
use lib.ListN.{length}
use borrow.Author.Tests.{le-ltb}
use Rattle.answer.specs.Seen.{Seen, answered, refused}
use Rattle.answer.specs.declared.Refusal.TheVariants.{Range}
use Rattle.lists.specs.Lists.{flat}
use Rattle.exclusions.specs.Table.{is_row}
use Rattle.frame.specs.Build.{ranges_ok}
use Rattle.sheet_lines.specs.Grammar.{AllWhole, join_all}
use Rattle.sheet_printed.specs.Printed.{refusal_line}
use Rattle.sheet.specs.declared.Job.{Job}
use Rattle.sheet.specs.Reading.{Sound, sheet_of}
use Rattle.sheet.specs.Read as reading
use Rattle.sheet.proofs.Order.{ReadWhole, same_sheet}
use Rattle.sheet.proofs.AnyOrder.{one_kept}
use Rattle.sheet_answer.specs.Solve.{answer_text, printed, solve_of}
use Rattle.sheet_written.specs.Written.{written_text}
use Rattle.sheet_written.specs.Write as writing
use Rattle.sheet_rewritten.specs.Rewrite.{box_of, form_of, form_text, rewritten, rewrite_of}
use Rattle.sheet_rewritten.specs.Theorems.{Written, Alike, OneForm, RewriteSettles, WritesRead, AnyOrder}
use Rattle.sheet_rewritten.proofs.Sane.{sound_sane}
use Rattle.sheet_rewritten.proofs.RowsOnly.{table_only}
use Rattle.sheet_rewritten.proofs.Forms.{asked_is, form_reads, form_few, sound_form, Handed, read_told}

-- ---- one sheet
module _ (s : List ℕ) (v : Written s) where
  pub form_is : rewritten s ≡ form_of v.sound
  form_is = sym (sound_form s v.sound v.short v.is) ∙ ap (λ (b : Bool). cond b (form_of v.sound) (refusal_line 3 0)) v.ranged

  means : sheet_of (rewritten s) ≡ answered v.sound
  means = ap sheet_of form_is ∙ form_reads s v.sound v.is v.ranged

  few : length (rewritten s) ≤ 65536
  few = omega (arith, ap length form_is, form_few s v.sound v.is v.ranged)

  -- the written form is a sheet that has a written form
  pub again : Written (rewritten s)
  again = record { short = few; sound = v.sound; is = means; ranged = v.ranged }

  twice : rewritten (rewritten s) ≡ rewritten s
  twice = sym (sound_form (rewritten s) v.sound few means) ∙ sound_form s v.sound v.short v.is

  prints : printed (rewritten s) ≡ printed s
  unfolding printed
  prints = simp (le-ltb 65536 (length (rewritten s)) few, le-ltb 65536 (length s) v.short) (ap answer_text (means ∙ sym v.is))

  solves : (out : List ℕ) → solve_of (rewritten s) out ≡ solve_of s out
  unfolding solve_of
  solves out = rw prints

  pub settled : RewriteSettles s v
  settled = record { means = means; twice = twice; prints = prints; solves = solves }

-- ---- two sheets
module _ (s t : List ℕ) (v : Written s) (w : Written t) where
  same_sound : Alike v.sound w.sound → v.sound ≡ w.sound
  same_sound e =
      let l = table_only v.sound.rows w.sound.rows (sound_sane s v.sound v.is).sorted (sound_sane t w.sound w.is).sorted e.pairs in
      ap (λ h. record { head = h; coords = v.sound.coords; rows = v.sound.rows }) e.head
      ∙ ap₂ (λ (c : List ℕ) (r : List (ℕ × ℕ)). record { head = w.sound.head; coords = c; rows = r }) e.coords l

  same : Alike v.sound w.sound → rewritten s ≡ rewritten t
  same e = form_is s v ∙ (ap form_of (same_sound e) ∙ sym (form_is t w))

  calls : Alike v.sound w.sound → (out : List ℕ) → rewrite_of s out ≡ rewrite_of t out
  unfolding rewrite_of
  calls e out = rw (same e)

  only : rewritten s ≡ rewritten t → Alike v.sound w.sound
  only e =
      let p : answered v.sound ≡ answered w.sound = sym (means s v) ∙ (ap sheet_of e ∙ means t w) in
      let q : v.sound ≡ w.sound = cc in
      record { head = ap (λ (a : Sound). a.head) q; coords = ap (λ (a : Sound). a.coords) q; pairs = λ x. ap (λ (a : Sound). is_row x a.rows) q }

  pub one_form : OneForm s t v w
  one_form = record { same = same; calls = calls; only = only }

-- ---- `write` of what `read` answered and left
after_by : (b : Bool) (text out : List ℕ) → writing.write_after (cond b (Ok tt) (Err Range)) text out ≡ cond b (writing.laid_in text out) (record { shown = refused 3 0; out = out })
after_by true text out = refl
after_by false text out = refl

laid_by : (b : Bool) (t u out : List ℕ) → (b ≡ true → t ≡ u) → cond b (writing.laid_in t out) (record { shown = refused 3 0; out = out }) ≡ cond b (writing.laid_in u out) (record { shown = refused 3 0; out = out })
laid_by true t u out h = ap (λ (x : List ℕ). writing.laid_in x out) (h refl)
laid_by false t u out h = refl

text_is : (a : Sound) → written_text (box_of a) a.coords (flat a.rows) ≡ form_of a
unfolding form_of
text_is a = refl

pub writes_read : (s co ex out : List ℕ) → WritesRead s co ex out
unfolding writing.write_of
writes_read s co ex out a b j e =
    let h : Handed s co ex a b j (reading.read_of s co ex).coordinates (reading.read_of s co ex).exclusions =
    read_told s co ex a b j (reading.read_of s co ex).coordinates (reading.read_of s co ex).exclusions (ap (λ (x : Seen Job). record { shown = x; coordinates = (reading.read_of s co ex).coordinates; exclusions = (reading.read_of s co ex).exclusions }) (sym e)) in
    rw (h.frame, h.coords, h.pairs)
    (ap (λ (d : Result (Unit {0}) Refusal). writing.write_after d (written_text (box_of h.sound) h.sound.coords (flat h.sound.rows)) out) (asked_is s h.sound h.is)
    ∙ (after_by (ranges_ok (box_of h.sound) h.sound.coords) (written_text (box_of h.sound) h.sound.coords (flat h.sound.rows)) out
    ∙ laid_by (ranges_ok (box_of h.sound) h.sound.coords) (written_text (box_of h.sound) h.sound.coords (flat h.sound.rows)) (rewritten s) out
    (λ r. text_is h.sound ∙ sym (form_is s (record { short = h.short; sound = h.sound; is = h.is; ranged = r })))))

-- ---- in another order
in_order_lem : (cs ds : List (List ℕ)) → AllWhole cs → Permᴰ cs ds → length (join_all cs) ≤ 65536 → ReadWhole (join_all cs) → rewritten (join_all ds) ≡ rewritten (join_all cs)
unfolding rewritten
in_order_lem cs ds w p h r =
    let q = same_sheet cs ds w p r in
    simp (le-ltb 65536 (length (join_all cs)) h, le-ltb 65536 (length (join_all ds)) (omega (arith, q.1))) (ap form_text q.0)

pub any_order : (s : List ℕ) → AnyOrder s
any_order s v cs ds w e p =
    ∥∥₁_elim p (is_set ℕ_set (rewritten (join_all ds)) (rewritten s))
    (λ d. in_order_lem cs ds w d (subst (λ (z : List ℕ). length z ≤ 65536) e v.short) (subst ReadWhole e (one_kept s v.sound v.is)) ∙ ap rewritten (sym e))
