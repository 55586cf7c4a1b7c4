use Rattle.sheet.proofs.Leads.{stray_is, absent_is}
use Rattle.sheet.specs.Reading.{counted}
use borrow.Author.Tests.{lt-ltb, le-ltb}
use Rattle.sheet.proofs.judge.count_of.Goals as goal

pub returns-then-atoms-gt1024 : goal.returns-then-atoms-gt1024
unfolding counted
returns-then-atoms-gt1024 c = simp (lt-ltb _ _ c.if-atoms-gt1024.true)

pub returns-then-stray-lt1024 : goal.returns-then-stray-lt1024
unfolding counted
returns-then-stray-lt1024 c = simp (le-ltb _ _ c.if-atoms-gt1024.false, stray_is c.args.head.atoms c.args.seen.now c.lead-stray.result c.lead-stray.ensures, lt-ltb _ _ c.if-stray-lt1024.true)

pub returns-then-absent-atoms : goal.returns-then-absent-atoms
unfolding counted
returns-then-absent-atoms c = simp (le-ltb _ _ c.if-atoms-gt1024.false, stray_is c.args.head.atoms c.args.seen.now c.lead-stray.result c.lead-stray.ensures, le-ltb _ _ c.if-stray-lt1024.false, absent_is c.args.seen.now c.lead-absent.result c.lead-absent.ensures, lt-ltb _ _ c.if-absent-atoms.true)

pub returns : goal.returns
unfolding counted
returns c = simp (le-ltb _ _ c.if-atoms-gt1024.false, stray_is c.args.head.atoms c.args.seen.now c.lead-stray.result c.lead-stray.ensures, le-ltb _ _ c.if-stray-lt1024.false, absent_is c.args.seen.now c.lead-absent.result c.lead-absent.ensures, le-ltb _ _ c.if-absent-atoms.false)
