use Rattle.float.proofs.Branches.{yes}
use Rattle.float.proofs.Finite.{normal_told, no_bits}
use lib.Ieee.{of_bits, div}
use Rattle.float.proofs.quick_bits.Goals as goal

pub normal_bits-requires : goal.normal_bits-requires
unfolding of_bits div
normal_bits-requires c = let h = normal_told _ c.args.guess (yes c.well_formed.0.1) c.if-x-guess.true in record { x_normal = h.0; guess_number = h.1 }

pub returns-else-x-guess : goal.returns-else-x-guess
returns-else-x-guess c = no_bits _
