-- `apply::apply`: the page at the end of the way, split or not, takes the entry, and all is as the rules' insert leaves it.
-- Assumes nothing.
use mathlib.Core.Path.{ap, ◌∙◌}
use native.Mathlib.Omega.{arith}
use Rattle.rules.specs.declared.Session.{Session}
use Rattle.plan.specs.Plan.{splits_by, heads_of}
use Rattle.apply.specs.Leads.{step_on, marks_by, done}
use Rattle.apply.proofs.Handed.{some_page}
use Rattle.apply.proofs.Down.{leaf-stays}
use Rattle.apply.proofs.Marks.{leaf-marks}
use Rattle.apply.proofs.Done.{put-asks, pages-done}
use Rattle.apply.proofs.apply.Goals as goal

pub bounds-way-0 : goal.bounds-way-0
bounds-way-0 c = omega (arith, some_page c.requires.ready)

pub put_cert-requires : goal.put_cert-requires
put_cert-requires c =
    let pre = c.requires in
    let at = (step_on c.args.way.now 0).place.child in
    let asks = put-asks pre.ready.ready c.args.table.now pre.session at (leaf-stays pre.ready c.is_full.ensures c.if-not-is_full.true) in
    record { page_size_in_bounds = asks.0; takes_cert = asks.1 }

pub returns-then-not-is_full : goal.returns-then-not-is_full
returns-then-not-is_full c =
    let args = c.args in
    let at = (step_on args.way.now 0).place.child in
    let room = c.if-not-is_full.true in
    λ y stable.
    ap (λ (u : Session). done u c.put_cert.new.table stable) (leaf-marks y.ready c.is_full.ensures room)
    ∙ pages-done y args.table.now y.session at (leaf-stays y.ready c.is_full.ensures room) args.value c.put_cert.new.table c.put_cert.ensures stable

pub put_cert-requires-2 : goal.put_cert-requires-2
put_cert-requires-2 c =
    let args = c.args in
    let pre = c.requires in
    let split-way = c.split_way-at in
    let asks = put-asks pre.ready.ready split-way.new.table (marks_by args.way.now args.chosen.now (splits_by (heads_of args.way.now)) pre.session) split-way.result (split-way.ensures pre) in
    record { page_size_in_bounds = asks.0; takes_cert = asks.1 }

pub returns : goal.returns
returns c =
    let args = c.args in
    let split-way = c.split_way-at in
    λ y stable.
    pages-done y split-way.new.table (marks_by args.way.now args.chosen.now (splits_by (heads_of args.way.now)) y.session) split-way.result (split-way.ensures y) args.value c.put_cert-2.new.table c.put_cert-2.ensures stable
