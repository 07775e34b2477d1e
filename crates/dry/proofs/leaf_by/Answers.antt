-- `dry::leaf_by`: at each turn the next leaf is the same. Assumes nothing.
use mathlib.Core.Path.{refl, ap, ◌∙◌}
use native.Mathlib.Omega.{arith}
use Rattle.std.specs.Prelude.{Option, Result, Ok}
use Rattle.dry.specs.Cursor.{reaching}
use Rattle.dry.specs.declared.Damaged.{Damaged}
use Rattle.dry.specs.declared.LeafAt.{LeafAt}
use Rattle.dry.proofs.Turns.{err-is}
use Rattle.dry.proofs.Reaches.{on_less, on_leads, on_reaches, on_sure, leaf_reaches, end_reaches, damage_reaches}
use Rattle.dry.proofs.leaf_by.Goals as goal

pub loop-on-init : goal.loop-on-init
loop-on-init g c = record { size = refl; leads = c.requires.0; sure = c.requires.1; same = refl }

pub next-requires : goal.next-requires
next-requires g c = (c.loop-on.invariant.leads, c.loop-on.invariant.sure)

pub returns-in_err-on : goal.returns-in_err-on
returns-in_err-on g c =
    let args = c.args in
    let loop = c.loop-on in
    ap (λ (v : Result (Option LeafAt) Damaged). reaching v c.next.new.marks) (err-is c.from_residual.result c.from_residual.ensures.0)
    ∙ damage_reaches args.table.pages args.a args.table.bytes.now args.table.whole loop.at loop.marks loop.invariant.leads c.next.result c.next.new.marks
    c.next.ensures c.in_err-on.field-0.0 c.in_err-on.was
    ∙ loop.invariant.same

pub loop-on-smaller : goal.loop-on-smaller
loop-on-smaller g c =
    let args = c.args in
    let loop = c.loop-on in
    on_less args.table.pages args.a args.table.bytes.now args.table.whole loop.at loop.marks loop.invariant.leads c.next.result c.next.new.marks
    c.next.ensures c.in-On.on (c.in_ok-on.was ∙ ap Ok c.in-On.is)

pub loop-on-preserved : goal.loop-on-preserved
loop-on-preserved g c =
    let args = c.args in
    let loop = c.loop-on in
    let q = c.in_ok-on.was ∙ ap Ok c.in-On.is in
    record {
      size = omega (arith, c.next.auto.marks, loop.invariant.size);
      leads = on_leads args.table.pages args.a args.table.bytes.now args.table.whole loop.at loop.marks loop.invariant.leads c.next.result c.next.new.marks c.next.ensures c.in-On.on q;
      sure = λ k. on_sure args.table.pages args.a args.table.bytes.now args.table.whole loop.at loop.marks loop.invariant.leads c.next.result c.next.new.marks c.next.ensures c.in-On.on q (loop.invariant.sure k) (omega (arith, c.next.auto.marks, (loop.invariant.sure k).marks));
      same = on_reaches args.table.pages args.a args.table.bytes.now args.table.whole loop.at loop.marks loop.invariant.leads c.next.result c.next.new.marks c.next.ensures c.in-On.on q ∙ loop.invariant.same;
    }

pub returns-in-Leaf : goal.returns-in-Leaf
returns-in-Leaf g c =
    let args = c.args in
    let loop = c.loop-on in
    leaf_reaches args.table.pages args.a args.table.bytes.now args.table.whole loop.at loop.marks loop.invariant.leads c.next.result c.next.new.marks
    c.next.ensures c.in-Leaf.leaf (c.in_ok-on.was ∙ ap Ok c.in-Leaf.is)
    ∙ loop.invariant.same

pub returns-in-End : goal.returns-in-End
returns-in-End g c =
    let args = c.args in
    let loop = c.loop-on in
    end_reaches args.table.pages args.a args.table.bytes.now args.table.whole loop.at loop.marks loop.invariant.leads c.next.result c.next.new.marks
    c.next.ensures (c.in_ok-on.was ∙ ap Ok c.in-End.is)
    ∙ loop.invariant.same
