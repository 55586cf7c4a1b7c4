-- THEOREMS: what an outcome of `fire` tells, beside what it is. proofs/Promises.antt proves them of all options and every motion. Definitions only.
use Rattle.std.specs.Prelude.{ℕ, ◌≤◌, ◌<◌, ◌≡◌, true, false, length}
use Rattle.std.specs.Float.Ieee.{lt}
use Rattle.answer.specs.Seen.{answered}
use Rattle.float.specs.Arith.{at}
use Rattle.float.specs.Def.{abs_of}
use Rattle.evaluate.specs.Calls.{Job, settled_of}
use Rattle.verlet_step.specs.Calls.{Motion}
use Rattle.fire.specs.declared.FireOptions.{FireOptions}
use Rattle.fire.specs.Calls.{Outcome, fired_of}

-- the iterations never pass the limit, in a refusal too
abbrev pub FireEnds : FireOptions → Motion → Type 0
FireEnds o m = (fired_of o m).iteration ≤ o.max_iters

-- where it answers `converged`, no component of the forces that it left passes the tolerance in magnitude. A not-a-number passes nothing: the source's max
-- passes over it too
abbrev pub FireConverges : FireOptions → Motion → Type 0
FireConverges o m = (fired_of o m).converged ≡ true → (k : ℕ) → k < length (fired_of o m).forces → lt o.force_tol (abs_of (at (fired_of o m).forces k)) ≡ false

-- r was left by the evaluation of one job: the call's terms, cell and exclusions, at the positions that r has, over the list as that evaluation found it
pub record LeftBy (m : Motion) (r : Outcome) : Type 0 where
  pub last : Job
  pub terms : last.terms ≡ m.job.terms
  pub cell : last.given.cell ≡ m.job.given.cell
  pub exclusions : last.given.exclusions ≡ m.job.given.exclusions
  pub positions : r.positions ≡ last.given.positions
  pub energy : r.energy ≡ (settled_of last).total.sum.energy
  pub forces : r.forces ≡ (settled_of last).total.forces
  pub state : r.state ≡ (settled_of last).list.state
  pub pairs : r.pairs ≡ (settled_of last).list.pairs

-- where it answers, the energy is that of the evaluation at the positions that it left, and so are forces, state and pairs
abbrev pub FireEvaluates : FireOptions → Motion → Type 0
FireEvaluates o m = (fired_of o m).answer ≡ answered tt → LeftBy m (fired_of o m)
