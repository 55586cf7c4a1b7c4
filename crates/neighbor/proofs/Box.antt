-- What a state remembers after an update, and that the second question keeps a list only in the remembered cell. Assumes nothing.
use Rattle.std.specs.Prelude.{None, Option, Some}
use Rattle.std.proofs.Common.{◌≡◌, ℕ, Bool, true, false, cond, not, ◌||◌, ltb, List, length, sym, refl, arith, eqb-true}
use mathlib.Core.Bool.{false≢true}
use lib.Ieee.{Float, to_bits, binary64}
use borrow.Author.Tests.{not-true, not-false}
use Rattle.answer.specs.declared.Refusal.TheVariants.{Lengths}
use Rattle.answer.specs.Seen.{Seen, answered, refused}
use Rattle.lists.specs.Atoms.{atoms_of}
use Rattle.lists.proofs.Cases.{by_test, and_both, or_neither}
use Rattle.cell.specs.declared.Vec3.{Vec3}
use Rattle.cell.specs.declared.Lattice.{Lattice}
use Rattle.neighbor_listing.specs.declared.Listed.{Listed}
use Rattle.neighbor_listing.specs.declared.Listed.TheVariants.{Found, Full, Crowded, Unfit}
use Rattle.neighbor_listing.specs.Listed.{listing_of}
use Rattle.neighbor.specs.declared.Question.{Question}
use Rattle.neighbor.specs.declared.Question.TheVariants.{Outdated}
use Rattle.neighbor.specs.State.{radius_of, kept_of, built_of, emptied_of}
use Rattle.neighbor.specs.Rebuild.{needs_of, same_number, same_vector, same_flag, same_lattice, same_box, outdated_of}
use Rattle.neighbor.specs.Update.{Given, stays, kept_all, built_all, full_all, listed_all, listed_by, rebuilt_all, unfit, keeps_of, update_of}
use Rattle.neighbor.specs.Box.{vector_bits, box_bits, SameBits, Remembered, UpdateRemembers, KeptInBox, UpdateKeeps}

never : {A : Type 0} {n p : ℕ} → ◌≡◌ {A = Seen (Unit {0})} (answered tt) (refused n p) → A
never e = let z : ◌≡◌ {A = ℕ} 0 1 = cc in absurd (omega arith)

unlike : {A : Type 0} {m n p q : ℕ} → ◌≡◌ {A = Seen (Unit {0})} (refused m p) (refused n q) → (m ≡ n → ⊥) → A
unlike e h = absurd (h cc)

-- ---- what is the same is the same by its bits
same_number_lem : (x y : Float) → same_number x y ≡ true → to_bits binary64 x ≡ to_bits binary64 y
unfolding same_number
same_number_lem x y h = eqb-true _ _ h

same_vector_lem : (a b : Vec3) → same_vector a b ≡ true → vector_bits a ≡ vector_bits b
unfolding same_vector vector_bits
same_vector_lem a b h =
    let p = and_both _ _ h in
    let q = and_both _ _ p.0 in
    rw (same_number_lem a.x b.x q.0, same_number_lem a.y b.y q.1, same_number_lem a.z b.z p.1)

same_flag_lem : (a b : Bool) → same_flag a b ≡ true → a ≡ b
unfolding same_flag
same_flag_lem true b h = sym h
same_flag_lem false b h = sym (not-true b h)

same_lattice_lem : (l m : Lattice) → same_lattice l m ≡ true → box_bits (Some l) ≡ box_bits (Some m)
unfolding same_lattice box_bits
same_lattice_lem l m h =
    let p = and_both _ _ h in
    let q = and_both _ _ p.0 in
    let r = and_both _ _ q.0 in
    let s = and_both _ _ r.0 in
    let t = and_both _ _ s.0 in
    rw (
      same_vector_lem l.a m.a t.0,
      same_vector_lem l.b m.b t.1,
      same_vector_lem l.c m.c s.1,
      same_flag_lem l.px m.px r.1,
      same_flag_lem l.py m.py q.1,
      same_flag_lem l.pz m.pz p.1,
    )

pub same_box_lem : (a b : Option Lattice) → same_box a b ≡ true → SameBits a b
unfolding same_box
same_box_lem None None h = refl
same_box_lem None (Some m) h = absurd (false≢true h)
same_box_lem (Some l) None h = absurd (false≢true h)
same_box_lem (Some l) (Some m) h = same_lattice_lem l m h

-- ---- what a state remembers
module _ (i : Given) where
  built_remembers : (count checks : ℕ) (fallback : Bool) (pairs starts items : List ℕ) → Remembered i (built_all i count checks fallback pairs starts items)
  unfolding built_all built_of
  built_remembers count checks fallback pairs starts items =
      record { built = λ _. refl; full = λ count e. never e; other = λ e _. absurd (false≢true (sym e)) }

  kept_remembers : Remembered i (kept_all i)
  unfolding kept_all kept_of
  kept_remembers = record { built = λ e. absurd (false≢true e); full = λ count e. never e; other = λ _ _. refl }

  -- 1, which the tests leave no case of
  stays_remembers : Remembered i (stays i Lengths)
  stays_remembers = record { built = λ e. absurd (false≢true e); full = λ count e. unlike e (λ z. omega arith); other = λ _ _. refl }

  listed_remembers : (a : Listed) (pairs starts items : List ℕ) → Remembered i (listed_all i a pairs starts items)
  unfolding listed_all full_all emptied_of
  listed_remembers (Found count checks fallback) pairs starts items = built_remembers count checks fallback pairs starts items
  listed_remembers (Full n) pairs starts items =
      record { built = λ e. absurd (false≢true e); full = λ _ _. refl; other = λ _ none. absurd (none n refl) }
  listed_remembers Crowded pairs starts items =
      record { built = λ e. absurd (false≢true e); full = λ count e. unlike e (λ z. omega arith); other = λ _ _. refl }
  listed_remembers Unfit pairs starts items =
      record { built = λ e. absurd (false≢true e); full = λ count e. unlike e (λ z. omega arith); other = λ _ _. refl }

  rebuilt_remembers : Remembered i (rebuilt_all i)
  unfolding rebuilt_all
  rebuilt_remembers =
      by_test (λ t. Remembered i (cond t (built_all i 0 0 false i.pairs i.starts i.items) (listed_by i (listing_of i.cell (radius_of i.state) i.positions i.exclusions i.pairs i.starts i.items))))
      (ltb (atoms_of i.positions) 2)
      (λ _. built_remembers 0 0 false i.pairs i.starts i.items)
      (λ _. listed_remembers _ _ _ _)

  pub update_remembers : (question : Question) → UpdateRemembers question i
  unfolding update_of
  update_remembers question =
      let keeps = keeps_of question i.state i.cell i.positions i.references in
      by_test (λ t. Remembered i (cond t (stays i Lengths) (cond keeps (kept_all i) (rebuilt_all i)))) (unfit (length i.positions) (length i.references)) (λ _. stays_remembers)
      (λ _. by_test (λ t. Remembered i (cond t (kept_all i) (rebuilt_all i))) keeps (λ _. kept_remembers) (λ _. rebuilt_remembers))

  -- ---- a list that was kept
  listed_kept : (a : Listed) (pairs starts items : List ℕ) → KeptInBox i (listed_all i a pairs starts items)
  unfolding listed_all built_all full_all
  listed_kept (Found count checks fallback) pairs starts items _ e = absurd (false≢true (sym e))
  listed_kept (Full n) pairs starts items h _ = never (sym h)
  listed_kept Crowded pairs starts items h _ = never (sym h)
  listed_kept Unfit pairs starts items h _ = never (sym h)

  rebuilt_kept : KeptInBox i (rebuilt_all i)
  unfolding rebuilt_all built_all
  rebuilt_kept =
      by_test (λ t. KeptInBox i (cond t (built_all i 0 0 false i.pairs i.starts i.items) (listed_by i (listing_of i.cell (radius_of i.state) i.positions i.exclusions i.pairs i.starts i.items))))
      (ltb (atoms_of i.positions) 2)
      (λ _ _ e. absurd (false≢true (sym e)))
      (λ _. listed_kept _ _ _ _)

  -- the second question said no
  same_kept : keeps_of Outdated i.state i.cell i.positions i.references ≡ true → SameBits i.state.built_in i.cell
  unfolding keeps_of outdated_of
  same_kept h =
      let same = same_box i.state.built_in i.cell in
      let needs = needs_of i.state i.cell i.positions i.references in
      same_box_lem i.state.built_in i.cell (not-false same (or_neither (not same) needs (not-true (not same || needs) h)).0)

  pub update_keeps : UpdateKeeps i
  unfolding update_of
  update_keeps =
      let keeps = keeps_of Outdated i.state i.cell i.positions i.references in
      by_test (λ t. KeptInBox i (cond t (stays i Lengths) (cond keeps (kept_all i) (rebuilt_all i)))) (unfit (length i.positions) (length i.references)) (λ _ h _. never (sym h))
      (λ _. by_test (λ t. KeptInBox i (cond t (kept_all i) (rebuilt_all i))) keeps (λ e _ _. same_kept e) (λ _. rebuilt_kept))
