-- A block of Lennard-Jones: what its kept places add is what its rows add, what these add is what their pairs add, and the numbers of the places' species
-- are found for all of them before the formula. Assumes nothing.
use mathlib.Core.Bool.{Bool, true, false, cond}
use mathlib.Core.Path.{◌≡◌, refl, sym, ap, ap₂, ◌∙◌, subst}
use mathlib.Core.Logic.{⊎_elim}
use mathlib.Core.List.{List, foldl}
use Prim.Native.Nat.{ℕ, ◌+◌, ◌*◌, ◌/◌, ◌<◌, ◌≤◌}
use native.Mathlib.Omega.{arith}
use lib.Ieee.{Float, nan}
use lib.ListN.{length, get_or, set, length-set}
use lib.Seq.{get_or-set_same, get_or-set_other}
use Rattle.lists.specs.Atoms.{atoms_of}
use Rattle.lists.specs.Lists.{up_to}
use Rattle.lists.proofs.Cases.{same_or}
use Rattle.float.specs.Arith.{at}
use Rattle.ranges.specs.Rows.{is_absent}
use Rattle.cell.specs.declared.Vec3.{Vec3}
use Rattle.cell.specs.Vec.{norm2_of}
use Rattle.cell_prepared.specs.declared.Prepared.{Prepared}
use Rattle.cell_prepared.specs.Facts.{image_in}
use Rattle.potentials_pair.specs.declared.Lj.{Lj}
use Rattle.potentials_pair.specs.declared.Numbers.{Numbers}
use Rattle.potentials_pair.specs.Lj.{lj_pull}
use Rattle.potentials_pair.specs.Once.{near_by}
use Rattle.potentials_pair.specs.Pull.{Total, after, skips}
use Rattle.potentials_pair.specs.Species.{Tables}
use Rattle.potentials.proofs.Laid.{upto, picked_begin, picked_turn, kept_sum, absent_skipped, there_way}
use Rattle.potentials.proofs.Places.{skip_one}
use Rattle.potentials.proofs.Table.{near_for, kept_as}
use Rattle.potentials.specs.Terms.{step, displaced, lj_pair}
use Rattle.potentials.specs.Steps.{lj_step, numbers_for, NearBlock, Kept, Renewed}
use Rattle.potentials.specs.Blocks.{scaled_pull, lj_with, numbers_on, numbers_with, lj_energy_on, lj_slope_on, Pulled, NearRest, NumberedAt, Recalled}
use Rattle.potentials.specs.Rows.{ends_of, way_on, square_on, Rowed, is_far, NearPicked, RowsThere, kept_step, lj_row, lj_rowed}

-- ---- the rows that are kept
module _ {cutoff : Float} {ways : List Float} {atoms : List ℕ} {room : List Float} where
  pub near_begin : NearPicked cutoff ways 0 atoms atoms room room 0
  near_begin =
      record { picked = picked_begin (is_far cutoff ways) atoms; squares = λ m h. absurd (omega arith); others = record { keys = λ k l. refl; rest = λ k l. refl } }

  module _ {now : List ℕ} {mem : List Float} {k c : ℕ} (u : NearPicked cutoff ways k atoms now room mem c) (l : c < 128) (b : NearBlock now mem) {r2 : Float} (er : r2 ≡ square_on ways k) {far : Bool} (ef : far ≡ skips cutoff r2) where
    abbrev now' : List ℕ
    now' = set now c k

    abbrev mem' : List Float
    mem' = set mem c r2

    far_is : far ≡ is_far cutoff ways k
    unfolding is_far
    far_is = ef ∙ ap (skips cutoff) er

    square_below : (m : ℕ) → m < c → at mem' m ≡ square_on ways (get_or now' m 0)
    square_below m h =
        get_or-set_other mem c m r2 nan (λ q. omega (arith, q)) ∙ u.squares m h
        ∙ ap (square_on ways) (sym (get_or-set_other now c m k 0 (λ q. omega (arith, q))))

    square_upto : (m : ℕ) → m < c + 1 → at mem' m ≡ square_on ways (get_or now' m 0)
    square_upto =
        upto {P = λ (m : ℕ). at mem' m ≡ square_on ways (get_or now' m 0)} c
        (get_or-set_same mem c r2 nan (omega (arith, b.room561)) ∙ er ∙ ap (square_on ways) (sym (get_or-set_same now c k 0 (omega (arith, b.atoms144))))) square_below

    most : (x : Bool) {c' : ℕ} → c' ≡ cond x c (c + 1) → c' ≤ c + 1
    most true e = omega (arith, e)
    most false e = omega (arith, e)

    pub near_turn : {c' : ℕ} → c' ≡ cond far c (c + 1) → NearPicked cutoff ways (k + 1) atoms now' room mem' c'
    near_turn e =
        record {
          picked = picked_turn (is_far cutoff ways) u.picked (omega (arith, b.atoms144)) far far_is e;
          squares = λ m h. square_upto m (omega (arith, most far e));
          others =
              record {
                keys = λ j h. get_or-set_other now c j k 0 (λ q. omega (arith, q)) ∙ u.others.keys j h;
                rest = λ j h. get_or-set_other mem c j r2 nan (λ q. omega (arith, q)) ∙ u.others.rest j h;
              };
        }

  pub near_end : {now : List ℕ} {mem : List Float} {k n c : ℕ} → n ≤ k → k ≤ n → NearPicked cutoff ways k atoms now room mem c → NearPicked cutoff ways n atoms now room mem c
  near_end {now} {mem} {c = c} x y u = subst (λ (z : ℕ). NearPicked cutoff ways z atoms now room mem c) (omega arith) u

-- ---- a room stays as long as it was, and what is remembered stays right
pub near_kept : {atoms atoms' : List ℕ} {room room' : List Float} → NearBlock atoms room → length atoms' ≡ length atoms → length room' ≡ length room → NearBlock atoms' room'
near_kept b x y = record { atoms144 = x ∙ b.atoms144; room561 = y ∙ b.room561 }

pub kept_rest : {lj : Lj} {tab : Tables} {atoms atoms' : List ℕ} {room room' : List Float} → Kept lj tab atoms room → NearRest atoms atoms' room room' → length atoms' ≡ length atoms → length room' ≡ length room
    → Kept lj tab atoms' room'
kept_rest {lj} {tab} K r x y = kept_as lj tab K x y r.keys (λ k l. r.rest k (omega (arith, l)))

-- ---- the numbers of the places' species
module _ (l : List Float) (m : ℕ) (n : Numbers) where
  abbrev one : List Float
  one = set l (128 + m) n.depth

  abbrev two : List Float
  two = set one (256 + m) n.square

  abbrev written : List Float
  written = set two (384 + m) n.shift

  written_long : length written ≡ length l
  written_long = simp length-set

  written_other : (k : ℕ) → (k ≡ 128 + m → ⊥) → (k ≡ 256 + m → ⊥) → (k ≡ 384 + m → ⊥) → at written k ≡ at l k
  written_other k p q r =
      get_or-set_other two (384 + m) k n.shift nan r ∙ get_or-set_other one (256 + m) k n.square nan q ∙ get_or-set_other l (128 + m) k n.depth nan p

  written_here : m < 128 → length l ≡ 561 → numbers_on written m ≡ n
  written_here h e =
      rw (
        get_or-set_other two (384 + m) (128 + m) n.shift nan (λ q. omega (arith, q)),
        get_or-set_other one (256 + m) (128 + m) n.square nan (λ q. omega (arith, q)),
        get_or-set_same l (128 + m) n.depth nan (omega (arith, e)),
        get_or-set_other two (384 + m) (256 + m) n.shift nan (λ q. omega (arith, q)),
        get_or-set_same one (256 + m) n.square nan (simp length-set (omega (arith, e))),
        get_or-set_same two (384 + m) n.shift nan (simp length-set (omega (arith, e))),
      )

module _ (lj : Lj) (tab : Tables) (species table : List ℕ) (from : ℕ) where
  numbers_with_lem : (atoms : List ℕ) {y z i j : ℕ} {n : Numbers} (m : ℕ) → i ≡ get_or table (2 * (from + get_or atoms m 0)) 0 → j ≡ get_or table (2 * (from + get_or atoms m 0) + 1) 0 → y ≡ get_or species i 0 → z ≡ get_or species j 0
      → n ≡ numbers_for lj tab y z → n ≡ numbers_with lj tab species table from atoms m
  unfolding numbers_with
  numbers_with_lem atoms m ei ej ey ez e = e ∙ ap₂ (λ (a b : ℕ). numbers_for lj tab a b) (ey ∙ ap (λ (i : ℕ). get_or species i 0) ei) (ez ∙ ap (λ (i : ℕ). get_or species i 0) ej)

  pub numbered_at : {atoms atoms' : List ℕ} {room room' : List Float} {y z i j : ℕ} {n : Numbers} (m : ℕ) → m < 128 → i ≡ get_or table (2 * (from + get_or atoms m 0)) 0 → j ≡ get_or table (2 * (from + get_or atoms m 0) + 1) 0
      → y ≡ get_or species i 0 → z ≡ get_or species j 0
      → n ≡ numbers_for lj tab y z → Renewed lj tab atoms atoms' room room' → NumberedAt lj tab species table from atoms atoms' room (written room' m n) m
  numbered_at {atoms} {atoms'} {room} {room'} {n = n} m h ei ej ey ez e R =
      record {
        kept = kept_as lj tab R.kept refl (written_long room' m n) (λ k l. refl) (λ k l. written_other room' m n k (λ q. omega (arith, q, l)) (λ q. omega (arith, q, l)) (λ q. omega (arith, q, l)));
        same_atoms = R.same_atoms;
        same_room = λ k l p q r. written_other room' m n k p q r ∙ R.same_room k l;
        here = written_here room' m n h R.kept.block.room561 ∙ numbers_with_lem atoms m ei ej ey ez e;
      }

  pub recalled_none : {atoms : List ℕ} {room : List Float} → Kept lj tab atoms room → Recalled lj tab species table from atoms atoms room room 0
  recalled_none K = record { kept = K; same_atoms = λ k l. refl; same_room = λ k l. refl; right = λ m h. absurd (omega arith) }

  pub recalled_turn : {atoms atoms' atoms'' : List ℕ} {room room' room'' : List Float} {n : ℕ} → n < 128 → Recalled lj tab species table from atoms atoms' room room' n
      → NumberedAt lj tab species table from atoms' atoms'' room' room'' n → Recalled lj tab species table from atoms atoms'' room room'' (n + 1)
  recalled_turn {atoms} {atoms'} {room'' = room''} {n = n} l R N =
      let agree : numbers_with lj tab species table from atoms' n ≡ numbers_with lj tab species table from atoms n = unfold numbers_with in rw (R.same_atoms n (omega (arith, l))) in
      record {
        kept = N.kept;
        same_atoms = λ k h. N.same_atoms k h ∙ R.same_atoms k h;
        same_room = λ k h. N.same_room k (omega (arith, h)) (λ q. omega (arith, q, h)) (λ q. omega (arith, q, h)) (λ q. omega (arith, q, h)) ∙ R.same_room k h;
        right =
            λ m h. ⊎_elim
            (λ (q : m ≡ n). rw q (N.here ∙ agree))
            (λ (q : m ≡ n → ⊥).
            rw (
              N.same_room (128 + m) (omega (arith, l, h)) (λ w. q (omega (arith, w))) (λ w. omega (arith, w, l, h)) (λ w. omega (arith, w, l, h)),
              N.same_room (256 + m) (omega (arith, l, h)) (λ w. omega (arith, w, l, h)) (λ w. q (omega (arith, w))) (λ w. omega (arith, w, l, h)),
              N.same_room (384 + m) (omega (arith, l, h)) (λ w. omega (arith, w, l, h)) (λ w. omega (arith, w, l, h)) (λ w. q (omega (arith, w))),
            )
            (R.right m (omega (arith, q, h))))
            (same_or m n);
      }

  pub recalled_end : {atoms atoms' : List ℕ} {room room' : List Float} {m n : ℕ} → n ≤ m → Recalled lj tab species table from atoms atoms' room room' m → Recalled lj tab species table from atoms atoms' room room' n
  recalled_end h R = record { kept = R.kept; same_atoms = R.same_atoms; same_room = R.same_room; right = λ k l. R.right k (omega (arith, h, l)) }

  -- what the places add by their two floats
  at_place : (now atoms' : List ℕ) (room' ways pulls : List Float) (m : ℕ) → m < 128 → get_or atoms' m 0 ≡ get_or now m 0 → at pulls (2 * m) ≡ lj_energy_on lj.shift room' m → at pulls (2 * m + 1) ≡ lj_slope_on room' m
      → numbers_on room' m ≡ numbers_with lj tab species table from now m → at room' m ≡ square_on ways (get_or now m 0) → (x : Total)
      → kept_step table from atoms' ways pulls x m ≡ lj_row lj tab species table from ways x (get_or now m 0)
  unfolding kept_step scaled_pull lj_row lj_with near_by
  at_place now atoms' room' ways pulls m h ea ee es en er x = rw (ea, ee, es) (unfold lj_energy_on in unfold lj_slope_on in rw (en, er) (unfold numbers_with in refl))

  pub near_sum : {atoms now atoms' : List ℕ} {room mem room' ways pulls : List Float} {n c : ℕ} → n ≤ 128 → NearPicked lj.cutoff ways n atoms now room mem c → Recalled lj tab species table from now atoms' mem room' c
      → Pulled (lj_energy_on lj.shift room') (lj_slope_on room') pulls c → (t : Total) {t' : Total}
      → t' ≡ foldl (kept_step table from atoms' ways pulls) t (up_to c) → t' ≡ foldl (lj_rowed lj tab species table from ways) t (up_to n)
  near_sum {now = now} {atoms'} {mem = mem} {room'} {ways} {pulls} {n} {c} w u R p t e =
      kept_sum (kept_step table from atoms' ways pulls) (is_far lj.cutoff ways) (lj_row lj tab species table from ways) u.picked place t e
      ∙ (unfold lj_rowed in refl)
    where
      place : (m : ℕ) → m < c → (x : Total) → kept_step table from atoms' ways pulls x m ≡ lj_row lj tab species table from ways x (get_or now m 0)
      place m h x = at_place now atoms' room' ways pulls m (omega (arith, w, h, u.picked.few)) (R.same_atoms m (omega (arith, w, h, u.picked.few))) (p.energy m h) (p.slope m h) (R.right m h) (R.same_room m (omega (arith, w, h, u.picked.few)) ∙ u.squares m h) x

-- ---- what a row adds is what its pair adds
module _ (lj : Lj) (p : Prepared) (xs : List Float) (i j : ℕ) where
  lj_absent : is_absent (atoms_of xs) (i, j) ≡ true → (tab : Tables) (species : List ℕ) (t : Total) → t ≡ lj_step lj p tab species xs t (i, j)
  unfolding lj_step step
  lj_absent h tab species t = rw h

  lj_there : is_absent (atoms_of xs) (i, j) ≡ false → {d : Vec3} → d ≡ displaced (λ d. image_in p d) xs (i, j) → {r2 : Float} → r2 ≡ norm2_of d → {k : Bool} → k ≡ skips lj.cutoff r2
      → (tab : Tables) (species : List ℕ) (t : Total) → lj_step lj p tab species xs t (i, j) ≡ cond k t (after t (i, j) (lj_with lj tab species i j d r2))
  lj_there h {d} ed {r2} er {k} ek tab species t =
      unfold lj_step in unfold step in unfold lj_pair in unfold lj_pull in
      rw (h, ← ed, ← er, ← ek, ← near_for lj tab (get_or species i 0) (get_or species j 0) {n = numbers_for lj tab (get_or species i 0) (get_or species j 0)} refl d r2 {r = lj_with lj tab species i j d r2} (unfold lj_with in refl))
      (skip_one k t (i, j) (lj_with lj tab species i j d r2))

module _ (lj : Lj) (tab : Tables) (species table : List ℕ) (from : ℕ) (ways : List Float) (k : ℕ) (t : Total) where
  far_none : skips lj.cutoff (square_on ways k) ≡ true → lj_rowed lj tab species table from ways t k ≡ t
  unfolding lj_rowed is_far
  far_none h = rw h

  busy : cond (skips lj.cutoff (square_on ways k)) t (after t (ends_of table (from + k)) (lj_with lj tab species (get_or table (2 * (from + k)) 0) (get_or table (2 * (from + k) + 1) 0) (way_on ways k) (square_on ways k))) ≡ lj_rowed lj tab species table from ways t k
  unfolding lj_rowed is_far lj_row
  busy = refl

module _ (lj : Lj) (tab : Tables) (species : List ℕ) {p : Prepared} {xs : List Float} {table : List ℕ} {from n : ℕ} {ways : List Float} (u : Rowed p xs table from n ways) where
  pub lj_row_lem : (k : ℕ) → k < n → (t : Total) → lj_rowed lj tab species table from ways t k ≡ lj_step lj p tab species xs t (ends_of table (from + k))
  lj_row_lem k l t = go (is_absent (atoms_of xs) (ends_of table (from + k))) refl
    where
      go : (b : Bool) → is_absent (atoms_of xs) (ends_of table (from + k)) ≡ b → lj_rowed lj tab species table from ways t k ≡ lj_step lj p tab species xs t (ends_of table (from + k))
      go true h =
          far_none lj tab species table from ways k t (absent_skipped u k l h lj.cutoff)
          ∙ lj_absent lj p xs (get_or table (2 * (from + k)) 0) (get_or table (2 * (from + k) + 1) 0) h tab species t
      go false h =
          sym (lj_there lj p xs (get_or table (2 * (from + k)) 0) (get_or table (2 * (from + k) + 1) 0) h (there_way u k l h) (u.square k l) refl tab species t
          ∙ busy lj tab species table from ways k t)

-- ---- the places are those of before
pub rows_same : {table : List ℕ} {from : ℕ} {atoms atoms' : List ℕ} {c : ℕ} → RowsThere table from atoms c → length atoms' ≡ length atoms → ((k : ℕ) → k < 128 → get_or atoms' k 0 ≡ get_or atoms k 0) → RowsThere table from atoms' c
rows_same {table} {from} u e s =
    record {
      few = u.few;
      room = omega (arith, u.room, e);
      small = λ m h. subst (λ (z : ℕ). z < 128) (sym (s m (omega (arith, h, u.few)))) (u.small m h);
      there = λ m h. subst (λ (z : ℕ). from + z < length table / 2) (sym (s m (omega (arith, h, u.few)))) (u.there m h);
    }
