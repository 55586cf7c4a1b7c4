-- An accepted sheet with its lines in another order comes to the same, and what stands after a refused line is never looked at. Assumes nothing.
use Prim.Native.Nat.{ℕ, ◌+◌}
use mathlib.Core.Path.{◌≡◌, refl, sym, ap, ◌∙◌}
use mathlib.Core.Option.{Option, none, some}
use mathlib.Core.List.{List, [], ◌∷◌, ◌++◌, Permᴰ}
use native.Mathlib.Omega.{arith}
use lib.ListN.{length, length-append}
use Rattle.lists.proofs.Cases.{impossible}
use Rattle.answer.specs.Seen.{answered, refused}
use Rattle.sheet_lines.specs.Reading.{lines_of}
use Rattle.sheet_lines.specs.Grammar.{WellFormed, AllWellFormed, AllWhole, join_all}
use Rattle.sheet_lines.proofs.Unread.{Begins, begins}
use Rattle.sheet_lines.proofs.WholeLines.{reordered}
use Rattle.sheet_lines.specs.declared.Line.{Line}
use Rattle.sheet_lines.specs.declared.Line.TheVariants.{Header, Atom, Exclusion, Malformed, End}
use Rattle.sheet.specs.Meaning.{Meaning, and_then, acted, act_of}
use Rattle.sheet.specs.Reading.{refusal_for, onward, run, blank, then_tested, sheet_of}
use Rattle.sheet.proofs.Acts.{swaps}

-- the lines' acts one after the other; none where one is refused
abbrev pub acts : List Line → Meaning → Option Meaning
acts [] m = some m
acts (l ∷ ls) m = and_then (acted (act_of l) m) (λ m'. acts ls m')

-- ---- the acts in another order

and_and : (o : Option Meaning) (f g : Meaning → Option Meaning) → and_then (and_then o f) g ≡ and_then o (λ m. and_then (f m) g)
and_and none f g = refl
and_and (some m) f g = refl

and_same : (o : Option Meaning) (f g : Meaning → Option Meaning) → ((m : Meaning) → f m ≡ g m) → and_then o f ≡ and_then o g
and_same none f g h = refl
and_same (some m) f g h = h m

pub order : {ls ms : List Line} → Permᴰ ls ms → (m : Meaning) → acts ls m ≡ acts ms m
order Permᴰ.nil m = refl
order (Permᴰ.cons {a = a} {b = b} {l₁ = l₁} {l₂ = l₂} e p) m =
    ap (λ (x : Line). and_then (acted (act_of x) m) (λ m'. acts l₁ m')) e
    ∙ and_same (acted (act_of b) m) (λ m'. acts l₁ m') (λ m'. acts l₂ m') (λ m'. order p m')
order (Permᴰ.swap {a = a} {b = b} {a' = a'} {b' = b'} {l = l} e f) m =
    sym (and_and (acted (act_of a) m) (λ m'. acted (act_of b) m') (λ m'. acts l m'))
    ∙ (ap (λ (o : Option Meaning). and_then o (λ m'. acts l m')) (swaps a b m)
    ∙ (and_and (acted (act_of b) m) (λ m'. acted (act_of a) m') (λ m'. acts l m')
    ∙ (ap (λ (x : Line). and_then (acted (act_of x) m) (λ m'. and_then (acted (act_of a) m') (λ m''. acts l m''))) f
    ∙ ap (λ (x : Line). and_then (acted (act_of a') m) (λ m'. and_then (acted (act_of x) m') (λ m''. acts l m''))) e)))
order (Permᴰ.trans p q) m = order p m ∙ order q m

-- ---- a run that answers is its acts

step_acts : (o : Option Meaning) (l : Line) (ls : List Line) (n : ℕ) (r : Meaning) → ((m : Meaning) → run ls n m ≡ answered r → acts ls m ≡ some r) → onward o (refusal_for l n) (λ m'. run ls n m') ≡ answered r → and_then o (λ m'. acts ls m') ≡ some r
step_acts none l ls n r h e = impossible (cc)
step_acts (some m) l ls n r h e = h m e

run_acts : (ls : List Line) (n : ℕ) (m r : Meaning) → run ls n m ≡ answered r → acts ls m ≡ some r
run_acts [] n m r e = let h : m ≡ r = cc in ap some h
run_acts (l ∷ ls) n m r e = step_acts (acted (act_of l) m) l ls (n + 1) r (λ k p. run_acts ls (n + 1) k r p) e

step_run : (o : Option Meaning) (l : Line) (ls : List Line) (n : ℕ) (r : Meaning) → ((m : Meaning) → acts ls m ≡ some r → run ls n m ≡ answered r) → and_then o (λ m'. acts ls m') ≡ some r → onward o (refusal_for l n) (λ m'. run ls n m') ≡ answered r
step_run none l ls n r h e = impossible (cc)
step_run (some m) l ls n r h e = h m e

acts_run : (ls : List Line) (n : ℕ) (m r : Meaning) → acts ls m ≡ some r → run ls n m ≡ answered r
acts_run [] n m r e = let h : m ≡ r = cc in ap answered h
acts_run (l ∷ ls) n m r e = step_run (acted (act_of l) m) l ls (n + 1) r (λ k p. acts_run ls (n + 1) k r p) e

-- all lines are kept, and in another order they are kept and come to the same
pub run_order : {ls ms : List Line} (m r : Meaning) → Permᴰ ls ms → run ls 0 m ≡ answered r → run ms 0 m ≡ answered r
run_order {ls} {ms} m r p e = acts_run ms 0 m r (sym (order p m) ∙ run_acts ls 0 m r e)

-- ---- in bytes

well_line : (l : Line) (m : Meaning) (ls : List Line) (r : Meaning) → acts (l ∷ ls) m ≡ some r → WellFormed l
well_line (Header h) m ls r e = tt
well_line (Atom n x y z) m ls r e = tt
well_line (Exclusion a b) m ls r e = tt
well_line Malformed m ls r e = impossible (cc)
well_line End m ls r e = impossible (cc)

well_rest : (o : Option Meaning) (ls : List Line) (r : Meaning) → ((m : Meaning) → acts ls m ≡ some r → AllWellFormed ls) → and_then o (λ m'. acts ls m') ≡ some r → AllWellFormed ls
well_rest none ls r h e = impossible (cc)
well_rest (some m) ls r h e = h m e

well_formed : (ls : List Line) (m r : Meaning) → acts ls m ≡ some r → AllWellFormed ls
well_formed [] m r e = tt
well_formed (l ∷ ls) m r e = (well_line l m ls r e, well_rest (acted (act_of l) m) ls r (λ k p. well_formed ls k r p) e)

-- the lines are all kept: no refusal 9, 10, 8
pub record ReadWhole (s : List ℕ) : Type 0 where
  pub meaning : Meaning
  pub read : run (lines_of s) 0 blank ≡ answered meaning

pub run_well : (ls : List Line) (m : Meaning) → run ls 0 blank ≡ answered m → AllWellFormed ls
run_well ls m e = well_formed ls blank m (run_acts ls 0 blank m e)

pub read_well : (s : List ℕ) → ReadWhole s → AllWellFormed (lines_of s)
read_well s r = run_well (lines_of s) r.meaning r.read

-- Whole lines that are all kept come, in any other order, to the same sheet, of as many bytes.
pub same_sheet : (cs ds : List (List ℕ)) → AllWhole cs → Permᴰ cs ds → ReadWhole (join_all cs) → (sheet_of (join_all ds) ≡ sheet_of (join_all cs)) × (length (join_all cs) ≡ length (join_all ds))
unfolding sheet_of
same_sheet cs ds w p r =
    let q = reordered cs ds w p (read_well (join_all cs) r) in
    (ap then_tested (run_order blank r.meaning q.0 r.read ∙ sym r.read), q.1)

-- ---- after a refused line

good_act : (l : Line) (m m' : Meaning) → acted (act_of l) m ≡ some m' → WellFormed l
good_act (Header h) m m' e = tt
good_act (Atom n x y z) m m' e = tt
good_act (Exclusion a b) m m' e = tt
good_act Malformed m m' e = impossible (cc)
good_act End m m' e = impossible (cc)

step_stop : (o : Option Meaning) (l : Line) (ls ks : List Line) (n a b : ℕ) → ((m : Meaning) → o ≡ some m → run ls n m ≡ refused a b → run ks n m ≡ refused a b) → onward o (refusal_for l n) (λ m'. run ls n m') ≡ refused a b → onward o (refusal_for l n) (λ m'. run ks n m') ≡ refused a b
step_stop none l ls ks n a b h e = e
step_stop (some m) l ls ks n a b h e = h m refl e

-- lines that begin with refused ones are refused in the same way
pub stops : (ls ks : List Line) (n : ℕ) (m : Meaning) (a b : ℕ) → Begins ls ks → run ls n m ≡ refused a b → run ks n m ≡ refused a b
stops [] ks n m a b h e = impossible (cc)
stops (l ∷ ls) [] n m a b h e = absurd h
stops (l ∷ ls) (k ∷ ks) n m a b h e =
    rw (← h.0) (step_stop (acted (act_of l) m) l ls ks (n + 1) a b (λ m' p q. stops ls ks (n + 1) m' a b (h.1 (good_act l m m' p)) q) e)

-- Whole lines of which one is refused are refused in the same way whatever bytes stand after them.
pub after_refused : (cs : List (List ℕ)) (t : List ℕ) (a b : ℕ) → AllWhole cs → run (lines_of (join_all cs)) 0 blank ≡ refused a b → sheet_of (join_all cs ++ t) ≡ refused a b
unfolding sheet_of lines_of
after_refused cs t a b w e =
    let h = begins cs [] t (length (join_all cs)) (length (join_all cs ++ t)) w (omega arith) (omega (arith, length-append (join_all cs) t)) in
    ap then_tested (stops (lines_of (join_all cs)) (lines_of (join_all cs ++ t)) 0 blank a b h e)
