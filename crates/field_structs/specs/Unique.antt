-- That a contract leaves one outcome. Definitions only.
use Rattle.std.specs.Prelude.{◌≡◌}
use contract.Lifetimes.{Lfts}
use denote.Triple.Clauses.{Ended, Lasts, AtExit, at_exit}
use denote.Triple.Entry.{Args, Res}

-- "one possible result and one possible lent memory": for any arguments no second result r with contents m of everything lent to be written fits.
-- T and `post` are a function's `ended` and `Post`, which the prover reads off its signature and its `ensures`; m is a tuple in the parameters' order, of the
-- contents at exit where the parameter is a `&mut`, and of nothing elsewhere
abbrev pub OneOutcome : (T : Ended) → ((l : Lfts T.signature.lifetimes) → Args T.signature l → Res T.signature l → AtExit T l → Type 0) → Type 0
OneOutcome T post =
    (l : Lfts T.signature.lifetimes) (a : Args T.signature l) (r s : Res T.signature l) (m n : Lasts T l a)
    → post l a r (at_exit T l a m) → post l a s (at_exit T l a n) → (r ≡ s) × (m ≡ n)
