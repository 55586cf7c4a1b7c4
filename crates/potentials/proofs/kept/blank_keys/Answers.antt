use Prim.Native.Nat.{ℕ}
use lib.ListN.{length-replicate, get_or-replicate}
use Rattle.potentials.proofs.kept.blank_keys.Goals as goal

pub returns : goal.returns
returns c = record { atoms144 = length-replicate {A = ℕ} 144 0; zero = λ k h. get_or-replicate {A = ℕ} 144 k 0 0 h }
