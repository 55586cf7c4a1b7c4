-- The question whether a kept list is still enough: 02, No. 14. The frame's radius is the cutoff. Definitions only.
use Rattle.std.specs.Prelude.{Result}
use Rattle.answer.specs.declared.Refusal.{Refusal}
use Rattle.std.specs.Prelude.{ℕ, ◌+◌, ◌*◌, ◌/◌, ◌%◌, ◌≡◌, Bool, cond, not, ◌&&◌, ◌||◌, List, length, eqb, ltb, leb}
use Rattle.answer.specs.Seen.{Seen, answered, refused, seen}
use Rattle.lists.specs.Atoms.{atoms_of, most_atoms}
use Rattle.lists.specs.Lists.{up_to, every}
use Rattle.frame.specs.declared.Frame.{Frame}
use Rattle.frame.specs.declared.Spot.{Spot}
use Rattle.frame.specs.Distance.{spot_of, square_of, squared_of}
use Rattle.frame.specs.Build.{ranges_ok}

-- the frame of the kept list: the same box, "cutoff plus skin", the exact sum
abbrev pub widened : Frame → ℕ → Frame
widened f skin = record { x = f.x; y = f.y; z = f.z; radius = f.radius + skin }

-- "four times its squared displacement is at most the squared skin", "by nearest image"
unfoldable pub moved_little : Frame → ℕ → Spot → Spot → Bool
moved_little f skin a b = leb (4 * squared_of f a b) (square_of skin)

-- "each atom"
unfoldable pub all_moved_little : Frame → ℕ → List ℕ → List ℕ → Bool
all_moved_little f skin old new = every (λ k. moved_little f skin (spot_of old k) (spot_of new k)) (up_to (atoms_of old))

-- 1: "when the counts differ", and where either is no multiple of 3
unfoldable pub counts_differ : ℕ → ℕ → Bool
counts_differ old new = not (eqb (old % 3) 0) || not (eqb (new % 3) 0) || not (eqb (old / 3) (new / 3))

-- What `within_skin` answers: 1; "2 and 3 as for a build of either frame at cutoff plus skin"; or whether each atom moved little.
unfoldable pub skin_seen : Frame → ℕ → List ℕ → List ℕ → Seen Bool
skin_seen f skin old new =
    cond (counts_differ (length old) (length new)) (refused 1 0)
    (cond (ltb most_atoms (atoms_of old)) (refused 2 (atoms_of old))
    (cond (ranges_ok (widened f skin) old && ranges_ok (widened f skin) new) (answered (all_moved_little f skin old new)) (refused 3 0)))

abbrev pub WithinSkinSays : Frame → ℕ → List ℕ → List ℕ → Result Bool Refusal → Type 0
WithinSkinSays f skin old new r = seen r ≡ skin_seen f skin old new
