-- What stands where after a strike: specs/Theorems. Assumes nothing.
use Rattle.std.specs.Prelude.{Ok}
use Prim.Native.Nat.{ℕ, zero, suc, ◌+◌, ◌*◌, ◌-◌, ◌/◌, ◌≤◌, ◌<◌}
use mathlib.Core.Path.{◌≡◌, refl, sym, ap, ◌∙◌}
use mathlib.Core.Logic.{⊎_elim}
use mathlib.Core.Bool.{Bool, true, false}
use mathlib.Core.List.{List, [], ◌∷◌, ◌++◌, map}
use native.Mathlib.Nat.{zero-add}
use native.Mathlib.Omega.{arith}
use lib.Ieee.{nan}
use lib.ListN.{length, get_or, length-append, get_or-append}
use lib.Seq.{sets, length-sets, get_or-append-add}
use Rattle.lists.specs.Lists.{numbers, up_to, each, keep, how_many}
use Rattle.lists.proofs.Cases.{true_or_false, below_or}
use Rattle.lists.proofs.Exactness.{length_up_to, many_keep, each_append, numbers_at, mem_up_to}
use Rattle.lists.proofs.Nested.{numbers_append, keep_agree}
use Rattle.lists.proofs.Walks.{numbers_next}
use Rattle.strike.specs.Closed.{survives, new_number, row_from, row_survives, link_survives, closed_up}
use Rattle.strike.specs.Calls.{LentAtoms, Links, strike_asked, atoms_left, names_left, beside_left, links_left, names_many}
use Rattle.strike.specs.Steps.{Fitting}
use Rattle.strike.proofs.Passed.{fit_of}
use Rattle.strike.proofs.Turns.{link_there, row_there_at, survivor_below}
use Rattle.strike.specs.Theorems.{Keeps, Stays, AtomsKept, LinksKept, StrikeKeeps, RowsGoWith, NamesThere}
use Rattle.strike.proofs.Rows.{sets_at, sets_past, rows_long, row_long, row_below, row_there, keep_append, many_more, many_same, many_few}

-- ---- the rows that stay: row o stands where as many stay before it
module _ (q : ℕ → Bool) where
  -- in front of o, o, behind it
  split : (o m : ℕ) → o < m → q o ≡ true → keep q (up_to m) ≡ keep q (up_to o) ++ (o ∷ keep q (numbers (o + 1) (m - (o + 1))))
  split o m h e =
      ap (λ (n : ℕ). keep q (up_to n)) (omega arith)
      ∙ ap (keep q) (numbers_append 0 o (m - o) ∙ ap (λ (l : List ℕ). up_to o ++ l) (ap (λ (n : ℕ). numbers n (m - o)) (zero-add o) ∙ numbers_next m o h))
      ∙ keep_append q (up_to o) (o ∷ numbers (o + 1) (m - (o + 1)))
      ∙ ap (λ (l : List ℕ). keep q (up_to o) ++ l) (unfold keep in rw e)

  pub order : (o m : ℕ) → o < m → q o ≡ true → how_many q (up_to o) < how_many q (up_to m)
  order o m h e =
      omega (arith, many_keep q (up_to o), many_keep q (up_to m), ap length (split o m h e), length-append (keep q (up_to o)) (o ∷ keep q (numbers (o + 1) (m - (o + 1)))))

  -- more rows, no fewer that stay
  pub many_rises : (m n : ℕ) → m ≤ n → how_many q (up_to m) ≤ how_many q (up_to n)
  many_rises m n h =
      omega (arith, many_keep q (up_to m), many_keep q (up_to n), ap length (ap (λ (k : ℕ). keep q (up_to k)) whole ∙ ap (keep q) (numbers_append 0 m (n - m)) ∙ keep_append q (up_to m) (numbers (0 + m) (n - m))), length-append (keep q (up_to m)) (keep q (numbers (0 + m) (n - m))))
    where
      whole : n ≡ m + (n - m)
      whole = omega arith

  pub from : (m k : ℕ) → k < how_many q (up_to m) → (o : ℕ) × (o < m) × (q o ≡ true) × (how_many q (up_to o) ≡ k)
  from zero k h = absurd (omega (arith, many_few q 0))
  from (suc m) k h =
      ⊎_elim
      (λ t.
      ⊎_elim
      (λ (l : k < how_many q (up_to m)). let r = from m k l in (r.0, omega (arith, r.1), r.2, r.3))
      (λ (l : how_many q (up_to m) ≤ k). (m, omega arith, t, omega (arith, more t)))
      (below_or k (how_many q (up_to m))))
      (λ f. let r = from m k (omega (arith, same f)) in (r.0, omega (arith, r.1), r.2, r.3))
      (true_or_false (q m))
    where
      up : how_many q (up_to (suc m)) ≡ how_many q (up_to (m + 1))
      up = ap (λ (n : ℕ). how_many q (up_to n)) (omega arith)

      more : q m ≡ true → how_many q (up_to (suc m)) ≡ how_many q (up_to m) + 1
      more t = up ∙ many_more q m t

      same : q m ≡ false → how_many q (up_to (suc m)) ≡ how_many q (up_to m)
      same f = up ∙ many_same q m f

  pub stays : (m : ℕ) → Stays q m
  stays m = record { from = from m; order = order }

-- ---- a table closed up
map_at : {A : Type 0} (d : A) (g : ℕ → A) (l : List ℕ) (c : ℕ) → c < length l → get_or (map g l) c d ≡ g (get_or l c 0)
map_at d g [] c h = absurd (omega arith)
map_at d g (x ∷ l) zero h = refl
map_at d g (x ∷ l) (suc c) h = map_at d g l c (omega arith)

row_at : {A : Type 0} (d : A) (f : ℕ → A) (w k c : ℕ) → c < w → get_or (row_from f w k) c d ≡ f (w * k + c)
unfolding row_from
row_at d f w k c h = map_at d (λ j. f (w * k + j)) (up_to w) c (omega (arith, length_up_to w)) ∙ ap (λ (n : ℕ). f (w * k + n)) (numbers_at 0 w c h ∙ zero-add c)

module _ {A : Type 0} (d : A) (f : A → A) (w m : ℕ) (q : ℕ → Bool) (xs : List A) (room : w * m ≤ length xs) where
  abbrev read : ℕ → A
  read e = f (get_or xs e d)

  abbrev front : List A
  front = each (row_from read w) (keep q (up_to m))

  front_long : length front ≡ w * how_many q (up_to m)
  front_long = rows_long read w (keep q (up_to m)) ∙ ap (λ (n : ℕ). w * n) (sym (many_keep q (up_to m)))

  -- the front, at the row where o stands
  at_row : (o c : ℕ) → o < m → q o ≡ true → c < w → get_or front (w * how_many q (up_to o) + c) d ≡ f (get_or xs (w * o + c) d)
  unfolding each
  at_row o c h e l =
      ap (λ (t : List A). get_or t (w * how_many q (up_to o) + c) d) (ap (each (row_from read w)) (split q o m h e) ∙ each_append (row_from read w) (keep q (up_to o)) (o ∷ rest))
      ∙ ap (λ (n : ℕ). get_or (before ++ each (row_from read w) (o ∷ rest)) (n + c) d) (sym (rows_long read w (keep q (up_to o)) ∙ ap (λ (n : ℕ). w * n) (sym (many_keep q (up_to o)))))
      ∙ get_or-append-add before (each (row_from read w) (o ∷ rest)) c d
      ∙ get_or-append (row_from read w o) (each (row_from read w) rest) d c (omega (arith, row_long read w o))
      ∙ row_at d read w o c l
    where
      rest : List ℕ
      rest = keep q (numbers (o + 1) (m - (o + 1)))

      before : List A
      before = each (row_from read w) (keep q (up_to o))

  pub kept : Keeps d f w m q xs (closed_up read w q m xs)
  unfolding closed_up
  kept =
      record {
        long = length-sets xs 0 front;
        same = λ o c h e l. let p = order q o m h e in ap (λ (n : ℕ). get_or (sets xs 0 front) n d) (sym (zero-add (w * how_many q (up_to o) + c))) ∙ sets_at d front xs 0 (w * how_many q (up_to o) + c) (omega (arith, front_long, row_there w (how_many q (up_to o)) (how_many q (up_to m)) (w * how_many q (up_to m)) p (omega arith))) (omega (arith, front_long, row_below w (how_many q (up_to m)) m (many_few q m))) ∙ at_row o c h e l;
        past = λ e h. sets_past d front xs 0 e (omega (arith, front_long));
      }

-- ---- what the calls leave
module _ (marks : List ℕ) (a : LentAtoms) (l : Links) (h : strike_asked marks a l ≡ Ok tt) where
  abbrev fit : Fitting marks a
  fit = fit_of marks a l h

  atoms_kept : AtomsKept marks a (atoms_left marks a)
  unfolding atoms_left
  atoms_kept =
      record {
        positions = kept nan (λ x. x) 3 (length marks) (survives marks) a.positions (omega (arith, fit.positions));
        velocities = kept nan (λ x. x) 3 (length marks) (survives marks) a.velocities (omega (arith, fit.velocities));
        masses = kept nan (λ x. x) 1 (length marks) (survives marks) a.masses (omega (arith, fit.masses));
        charges = kept nan (λ x. x) 1 (length marks) (survives marks) a.charges (omega (arith, fit.charges));
        species = kept 0 (λ x. x) 1 (length marks) (survives marks) a.species (omega (arith, fit.species));
      }

  links_kept : LinksKept marks l (links_left marks l)
  unfolding links_left names_left beside_left
  links_kept =
      record {
        bonds = kept 0 (new_number marks) 2 (length l.bonds / 2) (row_survives marks 2 l.bonds) l.bonds (omega arith);
        lengths = kept nan (λ x. x) 1 (length l.lengths / 1) (link_survives marks 2 (length l.bonds / 2) l.bonds) l.lengths (omega arith);
        ks = kept nan (λ x. x) 1 (length l.ks / 1) (link_survives marks 2 (length l.bonds / 2) l.bonds) l.ks (omega arith);
        angles = kept 0 (new_number marks) 3 (length l.angles / 3) (row_survives marks 3 l.angles) l.angles (omega arith);
        per_angle = kept nan (λ x. x) 2 (length l.per_angle / 2) (link_survives marks 3 (length l.angles / 3) l.angles) l.per_angle (omega arith);
        exclusions = kept 0 (new_number marks) 2 (length l.exclusions / 2) (row_survives marks 2 l.exclusions) l.exclusions (omega arith);
      }

pub strike_keeps : (marks : List ℕ) (a : LentAtoms) (l : Links) → StrikeKeeps marks a l
strike_keeps marks a l h = (atoms_kept marks a l h, links_kept marks a l h)

-- two tests that agree below o
many_agree : (p q : ℕ → Bool) (o : ℕ) → ((k : ℕ) → k < o → p k ≡ q k) → how_many p (up_to o) ≡ how_many q (up_to o)
many_agree p q o h = many_keep p (up_to o) ∙ ap length (keep_agree p q (up_to o) (λ k m. h k (mem_up_to o m))) ∙ sym (many_keep q (up_to o))

pub rows_go_with : (marks : List ℕ) (w : ℕ) (names : List ℕ) → RowsGoWith marks w names
rows_go_with marks w names o h = many_agree (link_survives marks w (length names / w) names) (row_survives marks w names) o (λ k l. link_there marks w (length names / w) names k (omega arith))

-- an atom that survives is numbered below the number of survivors, and survivors keep their order
pub new_below : (marks : List ℕ) (i : ℕ) → survives marks i ≡ true → new_number marks i < new_number marks (length marks)
unfolding new_number
new_below marks i e = order (survives marks) i (length marks) (survivor_below marks i e) e

pub names_there : (marks : List ℕ) (w : ℕ) (names : List ℕ) → NamesThere marks w names
unfolding names_left names_many
names_there marks w names room k c h l =
    let r = from (row_survives marks w names) (length names / w) k h in
    let same = (kept 0 (new_number marks) w (length names / w) (row_survives marks w names) names room).same r.0 c r.1 r.2 l in
    let s = row_there_at marks w names r.0 r.2 c l in
    let low = new_below marks (get_or names (w * r.0 + c) 0) s in
    omega (arith, ap (λ (n : ℕ). get_or (closed_up (λ e. new_number marks (get_or names e 0)) w (row_survives marks w names) (length names / w) names) (w * n + c) 0) r.3, same, low)
