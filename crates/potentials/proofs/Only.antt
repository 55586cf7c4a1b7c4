-- Each public call has one answer and leaves one memory: no second pair of these fits what the call says. Assumes nothing.
use Rattle.std.specs.Prelude.{Option, Result}
use Rattle.answer.specs.declared.Refusal.{Refusal}
use Rattle.cell.specs.declared.Lattice.{Lattice}
use Rattle.virial.specs.declared.Sum.{Sum}
use mathlib.Core.Path.{◌≡◌, sym, ap, ◌∙◌}
use mathlib.Core.List.{List}
use Prim.Native.Nat.{ℕ}
use lib.Ieee.{Float}
use Rattle.answer.proofs.Only.{seen_only}
use Rattle.virial.specs.declared.Units.{Units}
use Rattle.potentials_pair.specs.declared.Lj.{Lj}
use Rattle.potentials_pair.specs.Species.{Tables}
use Rattle.potentials.specs.declared.Bond.{Bond}
use Rattle.potentials.specs.Calls.{Outcome, left, argon_of, MonatomicSays, UniformSays, SpeciesRowSays, SpeciesRowAskedSays, LjPairsSays, LjAllSays, CoulombPairsSays, CoulombAllSays, BondsAllSays}

pub monatomic_only : (epsilon sigma cutoff : Float) (r s : Result Lj Refusal) → MonatomicSays epsilon sigma cutoff r → MonatomicSays epsilon sigma cutoff s → r ≡ s
monatomic_only epsilon sigma cutoff r s p q = seen_only r s (p ∙ sym q)

pub argon_only : (r s : Lj) → r ≡ argon_of → s ≡ argon_of → r ≡ s
argon_only r s p q = p ∙ sym q

pub uniform_only : (k r0 : Float) (r s : Result Bond Refusal) → UniformSays k r0 r → UniformSays k r0 s → r ≡ s
uniform_only k r0 r s p q = seen_only r s (p ∙ sym q)

pub species_row_only : (tab : Tables) (species : ℕ) (r s : List Float) → SpeciesRowSays tab species r → SpeciesRowSays tab species s → r ≡ s
species_row_only tab species r s p q = p ∙ sym q

pub species_row_asked_only : (tab : Tables) (r s : Result (Unit {0}) Refusal) → SpeciesRowAskedSays tab r → SpeciesRowAskedSays tab s → r ≡ s
species_row_asked_only tab r s p q = p ∙ sym q

-- what is seen and what is left, as one outcome, tell both
module _ (r s : Result Sum Refusal) (m n : List Float) where
  both : {o : Outcome} → left r m ≡ o → left s n ≡ o → (r ≡ s) × (m ≡ n)
  both p q = (seen_only r s (ap (λ (x : Outcome). x.answer) (p ∙ sym q)), ap (λ (x : Outcome). x.forces) (p ∙ sym q))

  module _ (xs forces : List Float) (cell : Option Lattice) where
    module _ (lj : Lj) (tab : Tables) (species : List ℕ) where
      pub lj_pairs_only : (pairs : List ℕ) → LjPairsSays lj cell tab species xs pairs forces r m → LjPairsSays lj cell tab species xs pairs forces s n → (r ≡ s) × (m ≡ n)
      lj_pairs_only pairs = both

      pub lj_all_only : LjAllSays lj cell tab species xs forces r m → LjAllSays lj cell tab species xs forces s n → (r ≡ s) × (m ≡ n)
      lj_all_only = both

    module _ (units : Units) (cutoff : Float) (charges : List Float) where
      pub coulomb_pairs_only : (pairs : List ℕ) → CoulombPairsSays units cutoff cell charges xs pairs forces r m → CoulombPairsSays units cutoff cell charges xs pairs forces s n → (r ≡ s) × (m ≡ n)
      coulomb_pairs_only pairs = both

      pub coulomb_all_only : CoulombAllSays units cutoff cell charges xs forces r m → CoulombAllSays units cutoff cell charges xs forces s n → (r ≡ s) × (m ≡ n)
      coulomb_all_only = both

    pub bonds_all_only : (bond : Bond) (bonds : List ℕ) (perBond perBondK : List Float) → BondsAllSays bond cell bonds perBond perBondK xs forces r m → BondsAllSays bond cell bonds perBond perBondK xs forces s n → (r ≡ s) × (m ≡ n)
    bonds_all_only bond bonds perBond perBondK = both
