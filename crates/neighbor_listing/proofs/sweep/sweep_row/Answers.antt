use Prim.Native.Nat.{ℕ}
use Rattle.bins.proofs.Sweeps.{row_none, row_other, row_home, row_cross}
use Rattle.bins.specs.declared.Cell.{Cell}
use Rattle.neighbor_listing.proofs.Considered.{part_is, part_below}
use Rattle.neighbor_listing.specs.Steps.{atoms_by}
use mathlib.Core.List.{List}
use Rattle.neighbor_listing.proofs.sweep.sweep_row.Goals as goal

pub returns-in_default : goal.returns-in_default
returns-in_default c = rw (row_none c.args.g (atoms_by c.args.g c.args.starts.now c.args.items.now) c.args.home c.args.row c.offset_index-o.ensures c.in_default.is)

pub consider_home-requires : goal.consider_home-requires
consider_home-requires c = let g = c.args.g in let atoms : Cell → List ℕ = atoms_by c.args.g c.args.starts.now c.args.items.now in let mine = part_is c.requires.swept c.requires.in_grid c.index.ensures c.atoms_in-mine.ensures in
    (part_below c.requires.swept c.requires.in_grid c.index.ensures c.atoms_in-mine.ensures, rw (row_home g atoms c.args.home c.args.row c.offset_index-o.ensures c.in-Some.is c.if-row-eq0.true mine) at c.requires.ready)

pub returns-then-row-eq0 : goal.returns-then-row-eq0
returns-then-row-eq0 c = let g = c.args.g in let atoms : Cell → List ℕ = atoms_by c.args.g c.args.starts.now c.args.items.now in let mine = part_is c.requires.swept c.requires.in_grid c.index.ensures c.atoms_in-mine.ensures in rw (row_home g atoms c.args.home c.args.row c.offset_index-o.ensures c.in-Some.is c.if-row-eq0.true mine) c.consider_home.ensures

pub consider_cross-requires : goal.consider_cross-requires
consider_cross-requires c = let g = c.args.g in let atoms : Cell → List ℕ = atoms_by c.args.g c.args.starts.now c.args.items.now in let mine = part_is c.requires.swept c.requires.in_grid c.index.ensures c.atoms_in-mine.ensures in let there = row_other g atoms c.args.home c.args.row c.offset_index-o.ensures c.in-Some.is in let theirs = part_is c.requires.swept there c.index-2.ensures c.atoms_in-theirs.ensures in
    (part_below c.requires.swept c.requires.in_grid c.index.ensures c.atoms_in-mine.ensures, part_below c.requires.swept there c.index-2.ensures c.atoms_in-theirs.ensures, rw (row_cross g atoms c.args.home c.args.row c.offset_index-o.ensures c.in-Some.is c.if-row-eq0.false mine theirs) at c.requires.ready, rw mine c.requires.framed)

pub returns : goal.returns
returns c = let g = c.args.g in let atoms : Cell → List ℕ = atoms_by c.args.g c.args.starts.now c.args.items.now in let mine = part_is c.requires.swept c.requires.in_grid c.index.ensures c.atoms_in-mine.ensures in let there = row_other g atoms c.args.home c.args.row c.offset_index-o.ensures c.in-Some.is in let theirs = part_is c.requires.swept there c.index-2.ensures c.atoms_in-theirs.ensures in rw (row_cross g atoms c.args.home c.args.row c.offset_index-o.ensures c.in-Some.is c.if-row-eq0.false mine theirs) c.consider_cross.ensures
