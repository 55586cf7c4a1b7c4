-- What listing does: a state (the tally and the lent pair memory), one step for a candidate pair, and the run over candidates in their order.
-- The scene says which pairs are excluded and which are near, so both frames share all of it. Definitions only.
use Rattle.std.specs.Prelude.{ℕ, ◌+◌, ◌*◌, ◌/◌, ◌≤◌, ◌<◌, ◌≡◌, Bool, true, false, cond, not, length, get_or, set, take, drop, ltb}
use mathlib.Core.List.{List, ◌++◌, foldl}
use Rattle.lists.specs.Lists.{keep, flat}
use Rattle.bins.specs.declared.Tally.{Tally}

-- the two tests of neighbor.rs's `consider`, of a low and a high atom
pub record Scene : Type 0 where
  pub excluded : ℕ → ℕ → Bool
  pub near : ℕ → ℕ → Bool

pub record Listing : Type 0 where
  pub tally : Tally
  pub mem : List ℕ

-- the pair at its place, where there is room for it
unfoldable pub pushed : List ℕ → ℕ → ℕ → ℕ → List ℕ
pushed mem count low high = cond (ltb count (length mem / 2)) (set (set mem (2 * count) low) (2 * count + 1) high) mem

-- neighbor.rs, `consider`: an excluded pair leaves all as it is; any other is a check, and a near one is counted and stored
unfoldable pub consider_of : Scene → Listing → ℕ × ℕ → Listing
unfolding pushed
consider_of e s p =
    cond (e.excluded p.0 p.1) s
    (cond (e.near p.0 p.1)
    (record {
      tally = record { count = s.tally.count + 1; checks = s.tally.checks + 1 };
      mem = pushed s.mem s.tally.count p.0 p.1;
    })
    (record { tally = record { count = s.tally.count; checks = s.tally.checks + 1 }; mem = s.mem }))

-- the run over candidates
abbrev pub list_of : Scene → Listing → List (ℕ × ℕ) → Listing
list_of e = foldl (consider_of e)

-- nothing listed yet
abbrev pub empty_listing : List ℕ → Listing
empty_listing mem = record { tally = record { count = 0; checks = 0 }; mem = mem }

-- ---- the same, read off as lists: the pairs whose distance is evaluated, those that are near, and the lent memory with the first that fit
abbrev pub free : Scene → ℕ × ℕ → Bool
free e p = not (e.excluded p.0 p.1)

abbrev pub close : Scene → ℕ × ℕ → Bool
close e p = e.near p.0 p.1

abbrev pub checked_of : Scene → List (ℕ × ℕ) → List (ℕ × ℕ)
checked_of e ps = keep (free e) ps

abbrev pub found_of : Scene → List (ℕ × ℕ) → List (ℕ × ℕ)
found_of e ps = keep (close e) (checked_of e ps)

-- two numbers a pair from the start, as many pairs as there is room for; the rest as it was
unfoldable pub laid_of : List ℕ → List (ℕ × ℕ) → List ℕ
laid_of old found = flat (take (length old / 2) found) ++ drop (2 * length (take (length old / 2) found)) old

-- a pair that is not excluded, and near
abbrev pub Chosen : Scene → ℕ × ℕ → Type 0
Chosen e p = (e.excluded p.0 p.1 ≡ false) × (e.near p.0 p.1 ≡ true)

-- ---- what a run over so many candidates asks: the counters have room for them
pub record Ready (t : Tally) (more : ℕ) : Type 0 where
  pub count : t.count ≤ t.checks
  pub checks : t.checks + more < 4294967296

-- each number of a part is below n
abbrev pub Below : ℕ → List ℕ → Type 0
Below n part = (k : ℕ) → k < length part → get_or part k 0 < n
