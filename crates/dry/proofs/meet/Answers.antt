-- `dry::meet`: passed, damaged, a leaf, or entries. Assumes nothing.
use native.Mathlib.Omega.{arith}
use mathlib.Core.Path.{sym, ap, ◌∙◌}
use Rattle.head.specs.Head.{head_in}
use mathlib.Core.List.{[], ◌∷◌}
use Rattle.dry.proofs.Goes.{sourced, source_runs}
use Rattle.dry.proofs.Turns.{met-passed, met-damaged, met-leaf, met-entries}
use Rattle.dry.proofs.meet.Goals as goal

pub returns-then-not-in_reach : goal.returns-then-not-in_reach
returns-then-not-in_reach g c =
    let args = c.args in
    met-passed args.table.pages args.a _ args.table.bytes.now args.marks.now args.s.place (sym c.in_reach.ensures ∙ c.if-not-in_reach.true)

pub source_at-requires : goal.source_at-requires
source_at-requires g c =
    let pre = c.requires in
    let in_reach = c.in_reach in
    (λ k. pre k (sym in_reach.ensures ∙ c.if-not-in_reach.false))

pub returns-in_default : goal.returns-in_default
returns-in_default g c =
    let args = c.args in
    let in_reach = c.in_reach in
    let if1 = c.if-not-in_reach in
    met-damaged args.table.pages args.a _ args.table.bytes.now args.marks.now args.s.place (sym in_reach.ensures ∙ if1.false) (sym c.source_at.ensures ∙ c.in_default.is)

pub page-requires : goal.page-requires
page-requires g c =
    let args = c.args in
    (sourced args.table.pages args.table.bytes.now args.table.whole (args.s.parent ∷ args.s.top ∷ []) args.marks.now args.s.place c.in-Some.page (sym c.source_at.ensures ∙ c.in-Some.is)).inside

pub read_head-head-requires : goal.read_head-head-requires
read_head-head-requires g c = omega (arith, c.page.ensures.size)

pub returns-then-head-eq-LEAF : goal.returns-then-head-eq-LEAF
returns-then-head-eq-LEAF g c =
    let args = c.args in
    let in_reach = c.in_reach in
    let if1 = c.if-not-in_reach in
    let source-at = c.source_at in
    let mark-by = c.mark_by in
    let head_at = c.read_head-head in
    met-leaf args.table.pages args.a _ args.table.bytes.now args.marks.now args.s.place (sym in_reach.ensures ∙ if1.false) c.in-Some.page (sym source-at.ensures ∙ c.in-Some.is) mark-by.new.marks mark-by.ensures head_at.result (head_at.ensures ∙ ap head_in c.page.ensures.bytes) c.if-head-eq-LEAF.true

pub run_in-requires : goal.run_in-requires
run_in-requires g c =
    let args = c.args in
    let pre = c.requires in
    let source-at = c.source_at in
    source_runs args.table.pages args.table.bytes.now args.table.whole c.in-Some.page (sourced args.table.pages args.table.bytes.now args.table.whole (args.s.parent ∷ args.s.top ∷ []) args.marks.now args.s.place c.in-Some.page (sym source-at.ensures ∙ c.in-Some.is))

pub returns : goal.returns
returns g c =
    let args = c.args in
    let in_reach = c.in_reach in
    let if1 = c.if-not-in_reach in
    let source-at = c.source_at in
    let mark-by = c.mark_by in
    let head_at = c.read_head-head in
    met-entries args.table.pages args.a _ args.table.bytes.now args.marks.now args.s.place (sym in_reach.ensures ∙ if1.false) c.in-Some.page (sym source-at.ensures ∙ c.in-Some.is) mark-by.new.marks mark-by.ensures head_at.result (head_at.ensures ∙ ap head_in c.page.ensures.bytes) c.if-head-eq-LEAF.false c.run_in.result c.run_in.ensures
