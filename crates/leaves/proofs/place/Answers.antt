-- `leaves::place`: the root's, or the one that the deepest page leads to.
-- Assumes nothing.
use mathlib.Core.Path.{sym, ap, ◌∙◌, subst}
use mathlib.Core.Option.{some}
use borrow.Author.Tests.{eq-eqb, ne_eqb}
use Rattle.rules.specs.Table.{read}
use Rattle.rules.specs.Place.{pick}
use Rattle.head.specs.Head.{head_in}
use Rattle.head.specs.declared.Head.{Head}
use Rattle.way.specs.Ways.{places_below, Leads}
use Rattle.leaves.specs.Cursors.{place_in}
use Rattle.leaves.proofs.Heads.{head_read}
use Rattle.leaves.proofs.place.Goals as goal

pub returns-then-cursor-eq0 : goal.returns-then-cursor-eq0
unfolding place_in
returns-then-cursor-eq0 c =
    let args = c.args in
    rw (eq-eqb args.cursor.parent 0 c.if-cursor-eq0.true, place_in) (ap some (sym c.root_place.ensures))

pub page_at-requires : goal.page_at-requires
page_at-requires c =
    let pre = c.requires in
    pre.1 c.if-cursor-eq0.false

pub look_ahead-guess-requires : goal.look_ahead-guess-requires
look_ahead-guess-requires c =
    let pre = c.requires in
    let if1 = c.if-cursor-eq0 in
    pre.1 if1.false

pub place_below-requires : goal.place_below-requires
place_below-requires c =
    let pre = c.requires in
    let args = c.args in
    let if1 = c.if-cursor-eq0 in
    let q = head_read args.t.now args.cursor.parent c.read_head-head.result (c.read_head-head.ensures ∙ ap head_in c.page_at.ensures.bytes) in (
      pre.1 if1.false,
      subst (λ (h : Head). Leads args.key h (read args.t.now args.cursor.parent).view) (sym q)
          (pre.2 if1.false),
    )

pub returns : goal.returns
unfolding place_in
returns c =
    let args = c.args in
    let if1 = c.if-cursor-eq0 in
    let q = head_read args.t.now args.cursor.parent c.read_head-head.result (c.read_head-head.ensures ∙ ap head_in c.page_at.ensures.bytes) in
    rw (ne_eqb args.cursor.parent 0 if1.false, place_in)
    (ap (λ (h : Head). pick args.key (places_below h (read args.t.now args.cursor.parent).view)) (sym q)
    ∙ c.place_below.ensures)
