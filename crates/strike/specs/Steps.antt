-- What the private functions say of themselves. Nobody has to believe it.
use Rattle.std.specs.Prelude.{ℕ, ◌+◌, ◌*◌, ◌-◌, ◌≤◌, ◌<◌, ◌≡◌, Bool, cond, List, map, length, get_or}
use Rattle.std.proofs.lemmas.List.Edits.{sets}
use Rattle.lists.specs.Lists.{numbers, up_to, how_many}
use Rattle.strike.specs.Closed.{new_number, row_from, closed_up}
use Rattle.strike.specs.Calls.{LentAtoms}

-- the new numbers of all atoms
pub record Numbered (marks fresh : List ℕ) : Type 0 where
  pub room : length marks ≤ length fresh
  pub right : (i : ℕ) → i < length marks → get_or fresh i 0 ≡ new_number marks i

-- row `from` stands in row `to`, if it stays, and r is the row after
pub record Carried {A : Type 0} (f : ℕ → A) (w to from : ℕ) (stays : Bool) (before : List A) (r : ℕ) (after : List A) : Type 0 where
  pub held : after ≡ cond stays (sets before (w * to) (row_from f w from)) before
  pub next : r ≡ cond stays (to + 1) to

-- while a row is carried to a: what is left from c gives what all gives
pub record Carrying {A : Type 0} (d : A) (f : ℕ → A) (a w c : ℕ) (before mid : List A) : Type 0 where
  pub few : c ≤ w
  pub left : sets mid (a + c) (map f (numbers c (w - c))) ≡ sets before a (map f (up_to w))
  pub rest : (j : ℕ) → a + c ≤ j → get_or mid j d ≡ get_or before j d
  pub long : length mid ≡ length before

-- the first k rows are closed up, to r of them
pub record Closed {A : Type 0} (f : ℕ → A) (w : ℕ) (q : ℕ → Bool) (k : ℕ) (before : List A) (r : ℕ) (after : List A) : Type 0 where
  pub held : after ≡ closed_up f w q k before
  pub count : r ≡ how_many q (up_to k)

-- the first k atoms have their new numbers, and r survive
pub record CountedTo (marks : List ℕ) (k r : ℕ) (fresh : List ℕ) : Type 0 where
  pub room : length marks ≤ length fresh
  pub count : r ≡ new_number marks k
  pub right : (i : ℕ) → i < k → get_or fresh i 0 ≡ new_number marks i

-- what the tests have shown: every table is as long as the marks say, and there are not too many
pub record Fitting (marks : List ℕ) (a : LentAtoms) : Type 0 where
  pub few : length marks ≤ 16384
  pub positions : length a.positions ≡ 3 * length marks
  pub velocities : length a.velocities ≡ 3 * length marks
  pub masses : length a.masses ≡ length marks
  pub charges : length a.charges ≡ length marks
  pub species : length a.species ≡ length marks

-- .. and that one atom more has room
pub record Roomy (count : ℕ) (a : LentAtoms) : Type 0 where
  pub few : count < 16384
  pub positions : 3 * count + 2 < length a.positions
  pub velocities : 3 * count + 2 < length a.velocities
  pub masses : count < length a.masses
  pub charges : count < length a.charges
  pub species : count < length a.species
