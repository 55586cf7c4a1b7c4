use Rattle.neighbor_grid.proofs.Layouts.{lay_unfit, lay_plain, lay_crowded, lay_laid, laid_small, laid_room, Planned, atoms_few, atoms_room}
use Rattle.neighbor_grid.proofs.lay.Goals as goal

pub returns-then-n-items : goal.returns-then-n-items
returns-then-n-items c = let all = lay_unfit _ _ _ _ _ _ c.if-n-items.true in record { value = all.0; starts_after = all.1.0; after = all.1.1 }

pub place-touching-requires : goal.place-touching-requires
place-touching-requires c = let x = c.args in let h : Planned x.cell x.radius x.positions.now x.starts.now x.items.now _ _ = record { fit = c.if-n-items.false; measured = c.measure_of-m.ensures; is = c.plan_of-p.ensures } in record { small = laid_small h c.in-Laid.is; xs_len_bound = (atoms_few h, laid_room h c.in-Laid.is, atoms_room h) }

pub returns-in-AllPairs : goal.returns-in-AllPairs
returns-in-AllPairs c = let x = c.args in let h : Planned x.cell x.radius x.positions.now x.starts.now x.items.now _ _ = record { fit = c.if-n-items.false; measured = c.measure_of-m.ensures; is = c.plan_of-p.ensures } in let all = lay_plain h _ c.in-AllPairs.is in record { value = all.0; starts_after = all.1.0; after = all.1.1 }

pub returns-in-TooMany : goal.returns-in-TooMany
returns-in-TooMany c = let x = c.args in let h : Planned x.cell x.radius x.positions.now x.starts.now x.items.now _ _ = record { fit = c.if-n-items.false; measured = c.measure_of-m.ensures; is = c.plan_of-p.ensures } in let all = lay_crowded h _ c.in-TooMany.is in record { value = all.0; starts_after = all.1.0; after = all.1.1 }

pub returns-in-Laid : goal.returns-in-Laid
returns-in-Laid c = let x = c.args in let h : Planned x.cell x.radius x.positions.now x.starts.now x.items.now _ _ = record { fit = c.if-n-items.false; measured = c.measure_of-m.ensures; is = c.plan_of-p.ensures } in let all = lay_laid h c.in-Laid.is _ c.place-touching.ensures.value c.place-touching.ensures.starts_after c.place-touching.ensures.after in record { value = all.0; starts_after = all.1.0; after = all.1.1 }
