-- What comes of each work: an evaluation, a step of a step and of its finish, or a settling.
use Rattle.replay_melts.specs.declared.works.Work.{Work}
use Rattle.replay_melts.specs.declared.works.Work.TheVariants.{Evaluate, Step, Finish, Settle}
use Rattle.replay_melts.specs.declared.works.Came.{Came}
use Rattle.replay_melts.specs.declared.works.Came.TheVariants.{Evaluated, Stepped, Settled}

abbrev pub ComesOf : Work → Came → Type 0
ComesOf Evaluate (Evaluated _) = Unit {0}
ComesOf (Step _) (Stepped _) = Unit {0}
ComesOf (Finish _) (Stepped _) = Unit {0}
ComesOf (Settle _) (Settled _) = Unit {0}
ComesOf _ _ = ⊥
