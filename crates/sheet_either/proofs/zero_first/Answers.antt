use Rattle.sheet.proofs.Copying.{sets_front}
use Rattle.std.proofs.Common.{rules}
use lib.ListN.{length-replicate, replicate}
use Prim.Native.Nat.{ℕ}
use Rattle.sheet_either.proofs.zero_first.Goals as goal

pub returns : goal.returns
returns c = rw (sets_front c.args.n (replicate c.args.n 0) c.args.to.now (length-replicate {A = ℕ} c.args.n 0) c.requires) (search rules)
