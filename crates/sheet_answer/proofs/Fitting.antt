-- No printed text is longer than 90,133 bytes, so an answered buffer holds it whole. Assumes nothing.
use Rattle.std.specs.Prelude.{Result}
use Rattle.answer.specs.declared.Refusal.{Refusal}
use Prim.Native.Nat.{ℕ, ◌≤◌}
use mathlib.Core.Path.{◌≡◌, sym, ap, ◌∙◌}
use mathlib.Core.Bool.{cond}
use mathlib.Core.List.{List}
use native.Mathlib.Omega.{arith}
use lib.ListN.{length, take, length-replicate, length-take}
use lib.Seq.{sets, length-sets}
use lib.Dec.{ltb}
use borrow.Author.Tests.{ltb-false}
use Rattle.answer.specs.Seen.{Seen, answered, refused, refused_by, seen}
use Rattle.answer.specs.declared.Refusal.TheVariants.{Lengths}
use Rattle.lists.specs.Lists.{rows, flat}
use Rattle.lists.proofs.Cases.{by_test, impossible}
use Rattle.lists.proofs.Rows.{length_rows}
use Rattle.frame.specs.declared.Built.{Built}
use Rattle.frame.specs.Build.{build_of}
use Rattle.frame.proofs.Outcomes.{pairs_kept}
use Rattle.sheet_printed.specs.Printed.{refusal_line}
use Rattle.sheet_printed.proofs.Parts.{length_refusal, length_built}
use Rattle.sheet.specs.declared.Job.{Job}
use Rattle.sheet.specs.Reading.{Sound, sheet_of}
use Rattle.sheet.specs.Read.{job_for}
use Rattle.sheet_answer.specs.Solve.{given_for, shown_text, job_text, printed, Outcome, solve_of, SolveSays, Fits, SolveFits, answer_text}
use Rattle.sheet_answer.proofs.Telling.{front}

-- a build with room for 8,192 pairs
shown_fits : (a : Seen Built) (pairs : List ℕ) → length pairs ≡ 16384 → length (shown_text a pairs) ≤ 90133
shown_fits (answered c) pairs e =
    omega (arith, length_built c.pairs c.checks c.fallback (take c.pairs (rows pairs)), length-take c.pairs (rows pairs), length_rows pairs)
shown_fits (refused n p) pairs e = omega (arith, length_refusal n p)

given_room : (j : Job) (co ex : List ℕ) → length (given_for j co ex).pairs ≡ 16384
unfolding given_for
given_room j co ex = length-replicate {A = ℕ} 16384 0

job_fits : (j : Job) (co ex : List ℕ) → length (job_text j co ex) ≤ 90133
unfolding job_text
job_fits j co ex =
    shown_fits (build_of (given_for j co ex)).answer (build_of (given_for j co ex)).pairs (pairs_kept (given_for j co ex) ∙ given_room j co ex)

pub sheet_fits : (x : Seen Sound) → length (answer_text x) ≤ 90133
sheet_fits (answered a) = job_fits (job_for a.head (length a.rows)) a.coords (flat a.rows)
sheet_fits (refused n p) = omega (arith, length_refusal n p)

pub printed_fits : (s : List ℕ) → length (printed s) ≤ 90133
unfolding printed
printed_fits s =
    by_test (λ t. length (cond t (refusal_line 1 0) (answer_text (sheet_of s))) ≤ 90133) (ltb 65536 (length s))
    (λ _. omega (arith, length_refusal 1 0))
    (λ _. sheet_fits (sheet_of s))

-- what `solve` says, read off: an answered buffer has the text at its front
fits_by : (s out out' : List ℕ) (n : ℕ) → 90133 ≤ length out → n ≡ length (printed s) → out' ≡ sets out 0 (printed s) → Fits s n out'
fits_by s out out' n h e q =
    let m = printed_fits s in
    let long : length out' ≡ length out = ap length q ∙ simp length-sets in
    record {
      most = omega arith;
      room = omega arith;
      text = ap (λ (l : List ℕ). take n l) q ∙ front (printed s) out n (sym e) (omega arith);
    }

pub solve_fits : (s out : List ℕ) (r : Result ℕ Refusal) (out' : List ℕ) → SolveSays s out r out' → SolveFits s r out'
unfolding solve_of
solve_fits s out r out' says n a =
    by_test
    (λ t. ◌≡◌ {A = Outcome} (record { shown = seen r; out = out' }) (cond t (record { shown = refused_by Lengths; out = out }) (record { shown = answered (length (printed s)); out = sets out 0 (printed s) })) → Fits s n out')
    (ltb (length out) 90133)
    (λ _ q. let h : answered n ≡ refused 1 0 = sym a ∙ ap (λ (o : Outcome). o.shown) q in impossible (cc))
    (λ e q. let h : answered n ≡ answered (length (printed s)) = sym a ∙ ap (λ (o : Outcome). o.shown) q in
    let k : n ≡ length (printed s) = cc in
    fits_by s out out' n (ltb-false (length out) 90133 e) k (ap (λ (o : Outcome). o.out) q))
    says
