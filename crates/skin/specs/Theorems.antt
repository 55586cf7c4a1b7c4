-- Why the skin is enough: 02, No. 14, "each unexcluded pair now within the cutoff stands in the old list", said of the memory that an answered build
-- left. Definitions only.
use Rattle.std.specs.Prelude.{Result}
use Rattle.answer.specs.declared.Refusal.{Refusal}
use Rattle.frame.specs.declared.Built.{Built}
use Rattle.std.specs.Prelude.{ℕ, ◌+◌, ◌*◌, ◌≤◌, ◌<◌, ◌≡◌, Bool, true, List, length, take}
use Rattle.answer.specs.Seen.{answered, seen}
use Rattle.lists.specs.Exact.{◌∈◌, Exactly}
use Rattle.lists.specs.Lists.{rows, keep, how_many}
use Rattle.frame.specs.declared.Side.{Side}
use Rattle.frame.specs.declared.Frame.{Frame}
use Rattle.frame.specs.Distance.{spot_of, along, near_of}
use Rattle.frame.specs.Build.{Given, given}
use Rattle.frame.specs.Listed.{Close}
use Rattle.skin.specs.Skin.{widened, skin_seen}

-- what a build at the cutoff would be given now: new coordinates, "same box, same atoms, same exclusions"
abbrev pub now_given : Frame → Given → List ℕ → Given
now_given f i new = given f new i.exclusions i.pairs i.starts i.items

-- the rows of the kept list, and whether one is now within the cutoff
abbrev pub kept_rows : Built → List ℕ → List (ℕ × ℕ)
kept_rows c pairs = rows (take (2 * c.pairs) pairs)

abbrev pub near_now : Frame → List ℕ → ℕ × ℕ → Bool
near_now f new p = near_of f (spot_of new p.0) (spot_of new p.1)

pub record Enough (f : Frame) (i : Given) (c : Built) (pairs new : List ℕ) : Type 0 where
  -- each unexcluded pair now within the cutoff stands in the old list
  pub listed : (p : ℕ × ℕ) → Close (now_given f i new) p → p ∈ kept_rows c pairs
  -- so the old rows that are now within the cutoff are these pairs, once each,
  pub exactly : Exactly (Close (now_given f i new)) (keep (near_now f new) (kept_rows c pairs))
  -- and as many as any list of them has, a new build's among them
  pub counted : (l : List (ℕ × ℕ)) → Exactly (Close (now_given f i new)) l → length l ≡ how_many (near_now f new) (kept_rows c pairs)

-- of a build at cutoff plus skin that was answered, and of coordinates for which `within_skin` said yes
abbrev pub SkinEnough : Frame → ℕ → Given → Result Built Refusal → List ℕ → List ℕ → Result Bool Refusal → Type 0
SkinEnough f skin i r pairs new a =
    i.frame ≡ widened f skin → (c : Built) → seen r ≡ answered c → seen a ≡ answered true → Enough f i c pairs new

-- of a whole run: each frame held against the build's coordinates
abbrev pub RunEnough : Frame → ℕ → Given → Result Built Refusal → List ℕ → List (List ℕ) → Type 0
RunEnough f skin i r pairs run =
    i.frame ≡ widened f skin → (c : Built) → seen r ≡ answered c
    → ((new : List ℕ) → new ∈ run → skin_seen f skin i.coordinates new ≡ answered true)
    → (new : List ℕ) → new ∈ run → Enough f i c pairs new

-- The condition is tight. A move of which four times the square is past the squared skin, made by two atoms towards each other along an axis: now they
-- are within the cutoff, and they were past cutoff plus skin.
pub record Missed (e : Side) (cutoff skin move : ℕ) : Type 0 where
  pub here : ℕ
  pub there : ℕ
  pub here_now : ℕ
  pub there_now : ℕ
  pub inside : (here < e.edge) × (there < e.edge) × (here_now < e.edge) × (there_now < e.edge)
  pub moves : (along e here here_now ≡ move) × (along e there there_now ≡ move)
  pub before : cutoff + skin < along e here there
  pub after : along e here_now there_now ≤ cutoff
