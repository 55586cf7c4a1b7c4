-- What `build` and `maybe_build` are after passed tests: the Rust's own branches with 01's 7 and 8, and no refusal 1. proofs/Source.antt proves it of every input.
-- Definitions only.
use Rattle.std.specs.Prelude.{Ok}
use Rattle.std.specs.Prelude.{◌≡◌, ℕ, true, false, cond, ◌⊎◌, length}
use Rattle.answer.specs.Seen.{refused}
use Rattle.neighbor_grid.specs.Grid.{plain_of, crowded}
use Rattle.neighbor_grid.specs.Layout.{starts_laid, items_laid}
use Rattle.neighbor_listing.specs.declared.Listed.TheVariants.{Crowded}
use Rattle.neighbor_listing.specs.Found.{near_pairs}
use Rattle.neighbor_listing.specs.Listed as ListSpecs
use Rattle.neighbor.specs.declared.Question.{Question}
use Rattle.neighbor.specs.State.{radius_of}
use Rattle.neighbor.specs.Update.{Given, kept_all, rebuilt_all, keeps_of, update_asked, may_keep, updated_of}

pub record SourceUpdate (question : Question) (i : Given) : Type 0 where
  -- lines 149 to 154 (`maybe_build`); without a question `build`
  pub updates : updated_of question i ≡ cond (keeps_of question i.state i.cell i.positions i.references) (kept_all i) (rebuilt_all i)
  -- lines 173 to 182: all pairs, or a grid; 7 where it has too many cells
  pub lists : ListSpecs.listing_of i.cell (radius_of i.state) i.positions i.exclusions i.pairs i.starts i.items
      ≡ cond (plain_of i.cell (radius_of i.state) i.positions)
      (ListSpecs.run_of i.cell (radius_of i.state) i.positions i.exclusions i.pairs i.starts i.items true)
      (cond (crowded i.cell (radius_of i.state) i.positions (length i.starts))
      (ListSpecs.outcome Crowded i.pairs i.starts i.items)
      (ListSpecs.run_of i.cell (radius_of i.state) i.positions i.exclusions i.pairs
      (starts_laid i.cell (radius_of i.state) i.positions i.starts)
      (items_laid i.cell (radius_of i.state) i.positions i.items)
      false))
  -- what is refused is a 7, or an 8 with the full count
  pub refuses : (n p : ℕ) → (updated_of question i).answer ≡ refused n p
      → ((n ≡ 7) × (p ≡ 0)) ⊎ ((n ≡ 8) × (p ≡ length (near_pairs i.cell (radius_of i.state) i.positions i.exclusions)))

abbrev pub UpdatesBySource : Question → Given → Type 0
UpdatesBySource question i = update_asked (may_keep question) i ≡ Ok tt → SourceUpdate question i
