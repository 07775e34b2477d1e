-- `apply::start`: all pages split and a new root grows, or the first that is not full stays.
-- Assumes nothing.
use Prim.Native.Nat.{◌*◌, ◌-◌}
use mathlib.Core.Path.{refl, ap, ◌∙◌}
use lib.ListN.{get_or}
use Rattle.rules.specs.Insert.{making}
use Rattle.rules.specs.Marks.{taken}
use Rattle.rules.specs.declared.Session.{Session}
use Rattle.apply.specs.Leads.{step_on}
use Rattle.apply.proofs.Down.{start-grows, start-grown, start-stays}
use Rattle.apply.proofs.Marks.{root-taken, root-stays}
use Rattle.apply.proofs.start.Goals as goal

pub bounds-pages-many : goal.bounds-pages-many
bounds-pages-many c = c.requires.root c.if-many-way.true

pub grow-requires : goal.grow-requires
grow-requires c = start-grows c.requires c.if-many-way.true (step_on c.args.way.now (c.args.many - 1)) refl

pub returns-then-many-way : goal.returns-then-many-way
returns-then-many-way c =
    let way = c.args.way.now in
    let pages = c.args.pages.now in
    let many = c.args.many in
    let new = get_or pages (2 * many) 0 in
    λ s.
    ap (λ (u : Session). making c.grow.new.table u new) (root-taken way pages many s c.if-many-way.true)
    ∙ start-grown c.args.c c.args.table.now way pages many s c.if-many-way.true (step_on way (many - 1)) refl (making c.grow.new.table (taken new s) new) (c.grow.ensures s)

pub returns : goal.returns
returns c =
    let way = c.args.way.now in
    let pages = c.args.pages.now in
    let many = c.args.many in
    let here = step_on way many in
    λ s.
    ap (λ (u : Session). making c.args.table.now u here.place.child) (root-stays way pages many s c.if-many-way.false)
    ∙ start-stays c.args.c c.args.table.now way pages many s c.if-many-way.false here refl
