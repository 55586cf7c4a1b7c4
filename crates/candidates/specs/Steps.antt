-- What the frames' private functions say of themselves: nobody has to believe it. Definitions only.
use Rattle.std.specs.Prelude.{ℕ, Bool, List}
use Rattle.bins.specs.Listing.{Scene}
use Rattle.exclusions.specs.Table.{looked_up}
use Rattle.candidates.specs.Checks.{lazy}

-- the scene of one pair, of which it is known whether it is near
unfoldable pub judged : List ℕ → Bool → Scene
unfolding lazy
judged table near = lazy (record { excluded = looked_up table; near = λ low high. near })
