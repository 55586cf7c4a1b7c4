-- No rewritten text is longer than 43,049 bytes, so an answered buffer holds it whole. Assumes nothing.
use Rattle.std.specs.Prelude.{Result}
use Rattle.answer.specs.declared.Refusal.{Refusal}
use Prim.Native.Nat.{ℕ, ◌≤◌}
use mathlib.Core.Path.{◌≡◌, refl, sym, ap, ◌∙◌}
use mathlib.Core.Bool.{cond}
use mathlib.Core.List.{List}
use native.Mathlib.Omega.{arith}
use lib.ListN.{length, take}
use lib.Seq.{sets, length-sets}
use lib.Dec.{ltb}
use borrow.Author.Tests.{ltb-false}
use Rattle.answer.specs.Seen.{Seen, answered, refused, refused_by, seen}
use Rattle.answer.specs.declared.Refusal.TheVariants.{Lengths}
use Rattle.lists.proofs.Cases.{by_test, impossible}
use Rattle.frame.specs.Build.{ranges_ok}
use Rattle.sheet_printed.specs.Printed.{refusal_line}
use Rattle.sheet_printed.proofs.Parts.{length_refusal}
use Rattle.sheet.specs.Reading.{Sound, sheet_of}
use Rattle.sheet_rewritten.specs.Rewrite.{box_of, form_of, form_text, rewritten, Outcome, rewrite_of, RewriteSays}
use Rattle.sheet_rewritten.specs.Theorems.{WholeForm, RewriteFits}
use Rattle.sheet_rewritten.proofs.Forms.{form_few, front}

form_fits : (s : List ℕ) (x : Seen Sound) → sheet_of s ≡ x → length (form_text x) ≤ 43049
form_fits s (answered a) e =
    by_test (λ b. ranges_ok (box_of a) a.coords ≡ b → length (cond b (form_of a) (refusal_line 3 0)) ≤ 43049) (ranges_ok (box_of a) a.coords)
    (λ _ r. form_few s a e r)
    (λ _ r. omega (arith, length_refusal 3 0))
    refl
form_fits s (refused n p) e = omega (arith, length_refusal n p)

pub rewritten_fits : (s : List ℕ) → length (rewritten s) ≤ 43049
unfolding rewritten
rewritten_fits s =
    by_test (λ t. length (cond t (refusal_line 1 0) (form_text (sheet_of s))) ≤ 43049) (ltb 65536 (length s))
    (λ _. omega (arith, length_refusal 1 0))
    (λ _. form_fits s (sheet_of s) refl)

fits_by : (s out out' : List ℕ) (n : ℕ) → 43049 ≤ length out → n ≡ length (rewritten s) → out' ≡ sets out 0 (rewritten s) → WholeForm s n out'
fits_by s out out' n h e q =
    let m = rewritten_fits s in
    let long : length out' ≡ length out = ap length q ∙ length-sets out 0 (rewritten s) in
    record {
      most = omega arith;
      room = omega arith;
      text = ap (λ (l : List ℕ). take n l) q ∙ front (rewritten s) out n (sym e) (omega arith);
    }

pub rewrite_fits : (s out : List ℕ) (r : Result ℕ Refusal) (out' : List ℕ) → RewriteSays s out r out' → RewriteFits s r out'
unfolding rewrite_of
rewrite_fits s out r out' says n a =
    by_test
    (λ t. ◌≡◌ {A = Outcome} (record { shown = seen r; out = out' }) (cond t (record { shown = refused_by Lengths; out = out }) (record { shown = answered (length (rewritten s)); out = sets out 0 (rewritten s) })) → WholeForm s n out')
    (ltb (length out) 43049)
    (λ _ q. let h : answered n ≡ refused 1 0 = sym a ∙ ap (λ (o : Outcome). o.shown) q in impossible (cc))
    (λ e q. let h : answered n ≡ answered (length (rewritten s)) = sym a ∙ ap (λ (o : Outcome). o.shown) q in
    let k : n ≡ length (rewritten s) = cc in
    fits_by s out out' n (ltb-false (length out) 43049 e) k (ap (λ (o : Outcome). o.out) q))
    says
