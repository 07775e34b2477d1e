-- `seen::walk_page` and `seen::walk_entries`, which call each other: the level falls, and within a level the entries left.
-- Assumes nothing.
use Rattle.std.proofs.Common.{ℕ, sym, ap, ◌∙◌, arith}
use Rattle.rules.specs.Tree.{tree}
use Rattle.seen.specs.declared.Run.{Run}
use Rattle.seen.specs.declared.Tally.{Tally}
use Rattle.seen.specs.Note.{tally, seen_of, note}
use Rattle.seen.proofs.Noting.{note-broken}
use Rattle.seen.proofs.Shows.{showing}
use Rattle.seen.proofs.Trees.{run_none, run_step, lies-rest, page-deep, page-damaged, certs_of, page-walk}
use Rattle.seen.proofs.+walk_entries_walk_page.Goals as goal

pub walk_entries-returns-then-r-eq0 : goal.walk_entries-returns-then-r-eq0
walk_entries-returns-then-r-eq0 t c =
    let args = c.args in
    run_none (tree args.level args.table.now.pages args.table.now.bytes.now) args.table.now.bytes.now args.high args.r
    (seen_of args.sum args.children.now args.spared.now) c.if-r-eq0.true

pub walk_entries-walk_page-still-requires : goal.walk_entries-walk_page-still-requires
walk_entries-walk_page-still-requires t c = (omega (arith, c.decreases, c.if-r-eq0.false), tt)

pub walk_entries-walk_entries-requires : goal.walk_entries-walk_entries-requires
walk_entries-walk_entries-requires t c =
    let args = c.args in (
      omega (arith, c.decreases, ap (λ (x : Run). x.left) c.rest_of.ensures, c.if-r-eq0.false),
      lies-rest args.table.now.pages args.r c.rest_of.result c.rest_of.ensures (omega (arith, c.if-r-eq0.false)) c.requires,
    )

pub walk_entries-returns : goal.walk_entries-returns
walk_entries-returns t c =
    let args = c.args in
    run_step (tree args.level args.table.now.pages args.table.now.bytes.now) args.table.now.bytes.now args.high args.r
    (seen_of args.sum args.children.now args.spared.now) c.place_in-e.result c.rest_of.result
    (seen_of c.walk_page-still.result c.walk_page-still.new.children c.walk_page-still.new.spared)
    (seen_of c.walk_entries.result c.walk_entries.new.children c.walk_entries.new.spared)
    (omega (arith, c.if-r-eq0.false)) c.place_in-e.ensures c.rest_of.ensures c.walk_page-still.ensures c.walk_entries.ensures

pub walk_page-returns-then-level-eq0 : goal.walk_page-returns-then-level-eq0
walk_page-returns-then-level-eq0 t c =
    let args = c.args in
    ap (λ (x : Tally). seen_of x args.children.now args.spared.now) c.damaged.ensures
    ∙ note-broken (seen_of args.sum args.children.now args.spared.now)
    ∙ ap (note (seen_of args.sum args.children.now args.spared.now))
    (page-deep args.table.now.pages args.table.now.bytes.now args.e args.level c.if-level-eq0.true)

pub walk_page-returns-in_default : goal.walk_page-returns-in_default
walk_page-returns-in_default t c =
    let args = c.args in
    ap (λ (x : Tally). seen_of x args.children.now args.spared.now) c.damaged-in_default.ensures
    ∙ note-broken (seen_of args.sum args.children.now args.spared.now)
    ∙ ap (note (seen_of args.sum args.children.now args.spared.now))
    (page-damaged args.table.now.pages args.table.now.bytes.now args.e args.table.now.whole args.level c.if-level-eq0.false (sym c.shown_at.ensures ∙ c.in_default.is))

pub walk_page-count_at-total-requires : goal.walk_page-count_at-total-requires
walk_page-count_at-total-requires t c =
    (showing c.args.table.now.pages c.args.table.now.bytes.now c.args.e c.args.table.now.whole c.in-Some.r (sym c.shown_at.ensures ∙ c.in-Some.is)).counts

pub walk_page-walk_entries-requires : goal.walk_page-walk_entries-requires
walk_page-walk_entries-requires t c =
    let args = c.args in
    let w = showing args.table.now.pages args.table.now.bytes.now args.e args.table.now.whole c.in-Some.r
    (sym c.shown_at.ensures ∙ c.in-Some.is) in
    (omega (arith, c.decreases, w.lies.end, c.if-level-eq0.false), w.lies)

pub walk_page-returns : goal.walk_page-returns
walk_page-returns t c =
    let args = c.args in
    let name_place = c.name_place-whole in
    let certs = certs_of args.table.now.pages args.table.now.bytes.now args.e args.table.now.whole c.in-Some.r in
    page-walk args.table.now.pages args.table.now.bytes.now args.e args.table.now.whole args.level c.in-Some.r
    (seen_of args.sum args.children.now args.spared.now)
    (seen_of (tally name_place.result c.count_at-total.result) name_place.new.children name_place.new.spared)
    (seen_of c.walk_entries.result c.walk_entries.new.children c.walk_entries.new.spared)
    c.if-level-eq0.false (sym c.shown_at.ensures ∙ c.in-Some.is) (ap (λ (i : ℕ). seen_of (tally name_place.result i) name_place.new.children name_place.new.spared) c.count_at-total.ensures ∙ name_place.ensures args.sum.total certs) c.walk_entries.ensures
