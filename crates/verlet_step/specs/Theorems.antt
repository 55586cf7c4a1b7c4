-- THEOREMS over the outcomes of calls that a 7 or 8 stopped: a finishing call with other rooms makes them whole. This is what to read of it: it adds nothing to what the
-- outcomes are, and proofs/Resumed.antt proves it of every thermostat and every motion. Definitions only.
use Rattle.std.specs.Prelude.{Ok, Option}
use Rattle.verlet.specs.declared.Thermostat.{Thermostat}
use Rattle.std.specs.Prelude.{ℕ, ◌*◌, ◌≤◌, ◌≡◌, true, ◌⊎◌, List, Float, length, take}
use Rattle.lists.specs.Atoms.{atoms_of}
use Rattle.answer.specs.Seen.{Seen, answered, refused}
use Rattle.lists.specs.Lists.{every}
use Rattle.ranges.specs.Ranged.{within}
use Rattle.neighbor.specs.declared.State.{State}
use Rattle.neighbor.specs.Update.{Given, given}
use Rattle.evaluate.specs.Calls.{job}
use Rattle.verlet_step.specs.Asked.{finish_limit}
use Rattle.verlet_step.specs.declared.Stepped.{Stepped}
use Rattle.verlet_step.specs.Calls.{Motion, motion, Outcome, stepped_of, finished_of, shown, StepSays, FinishSays}

-- the list's memory, lent to be written
pub record Rooms : Type 0 where
  pub pairs : List ℕ
  pub references : List Float
  pub starts : List ℕ
  pub items : List ℕ

abbrev pub rooms_of : Motion → Rooms
rooms_of m = record { pairs = m.job.given.pairs; references = m.job.given.references; starts = m.job.given.starts; items = m.job.given.items }

-- what a call left in them
abbrev pub left_in : Outcome → Rooms
left_in o = record { pairs = o.list.pairs; references = o.list.references; starts = o.list.starts; items = o.list.items }

abbrev pub given_in : Given → State → Rooms → Given
given_in g s r = given s g.cell g.positions g.exclusions r.pairs r.references r.starts r.items

-- the same step, lent other rooms
abbrev pub lent_to : Motion → Rooms → Motion
lent_to m r = motion m.dt (job m.job.terms (given_in m.job.given m.job.given.state r) m.job.forces) m.masses m.potential m.velocities

-- what `finish` is handed after an outcome: its state, potential, positions, velocities and forces, other rooms, and the rest as the step had it
abbrev pub resumed : Motion → Outcome → Rooms → Motion
resumed m o r =
    motion m.dt
    (job m.job.terms
    (given o.list.state m.job.given.cell o.positions m.job.given.exclusions r.pairs r.references r.starts r.items)
    o.forces)
    m.masses o.potential o.velocities

-- new rooms have what the state claims of the old ones: its pairs and its references
pub record Carries (s : State) (old new : Rooms) : Type 0 where
  pub pairs : take (2 * s.pairs) new.pairs ≡ take (2 * s.pairs) old.pairs
  pub references : take (3 * s.references) new.references ≡ take (3 * s.references) old.references

-- the rooms r have what the state before the call claims of the old list, as it stood before the call or as the outcome o left it
pub data Holds (m : Motion) (o : Outcome) (r : Rooms) : Type 0 where
  before : Carries m.job.given.state (rooms_of m) r → Holds m o r
  after : Carries m.job.given.state (left_in o) r → Holds m o r

-- a 7, or an 8 with the full count
abbrev pub Stops : Seen (Unit {0}) → Type 0
Stops a = (a ≡ refused 7 0) ⊎ ((count : ℕ) × (a ≡ refused 8 count))

-- What holds of a call that was stopped, with the outcome o; `whole r` is the outcome of the same call lent rooms r from the start.
pub record Resumable (t : Option Thermostat) (m : Motion) (o : Outcome) (whole : Rooms → Outcome) : Type 0 where
  -- nothing else stops it
  pub why : Stops o.list.answer
  -- A finishing call with rooms r that answers makes it whole: answer, `rebuilt`, `stopped`, State, potential, positions, velocities, forces, pairs, references,
  -- starts and items. Where the stop left the state as it came (a 7) nothing is asked of r, since `finish` then tests r by that state.
  pub resumes : (r : Rooms) → (o.list.state ≡ m.job.given.state) ⊎ Holds m o r → (finished_of t (resumed m o r)).list.answer ≡ answered tt
      → finished_of t (resumed m o r) ≡ whole r
  -- no velocity is left that `finish` refuses
  pub speeds : every (within finish_limit) o.velocities ≡ true
  -- and with such rooms, and references and items for the atoms, it refuses nothing: it answers, or is stopped again
  pub finishes : (r : Rooms) → Holds m o r → length m.job.given.positions ≤ length r.references → atoms_of m.job.given.positions ≤ length r.items
      → ((finished_of t (resumed m o r)).list.answer ≡ answered tt) ⊎ ((finished_of t (resumed m o r)).stopped ≡ true)

-- THEOREM, for a stopped step, and for a finishing call that was stopped again. Both chain over any number of stops (`chained`).
abbrev pub StepResumes : Option Thermostat → Motion → Type 0
StepResumes t m = (stepped_of t m).stopped ≡ true → Resumable t m (stepped_of t m) (λ r. stepped_of t (lent_to m r))

abbrev pub FinishResumes : Option Thermostat → Motion → Type 0
FinishResumes t m = (finished_of t m).stopped ≡ true → Resumable t m (finished_of t m) (λ r. finished_of t (lent_to m r))

-- The first said of the calls: after a `step` that answered a, stopped, and a `finish` that answered b, done, b and what they left fit the contract of `step`
-- with rooms r; proofs/Only.antt has that nothing else does. As above, where a has the state as it came (a 7) nothing is asked of r.
abbrev pub CallsResume :
    (Option Thermostat) → Motion → Rooms → (a b : Stepped) (positions velocities velocities' : List Float) (pairs pairs' : List ℕ) (references references' : List Float)
    (starts starts' items items' : List ℕ) (forces forces' : List Float) → Type 0
CallsResume t m r a b positions velocities velocities' pairs pairs' references references' starts starts' items items' forces forces' =
    StepSays t m a positions velocities pairs references starts items forces → a.stopped ≡ true
    → (a.state ≡ m.job.given.state) ⊎ Holds m (shown a positions velocities pairs references starts items forces) r
    → FinishSays t (resumed m (shown a positions velocities pairs references starts items forces) r) b velocities' pairs' references' starts' items' forces'
    → b.done ≡ Ok tt
    → StepSays t (lent_to m r) b positions velocities' pairs' references' starts' items' forces'
