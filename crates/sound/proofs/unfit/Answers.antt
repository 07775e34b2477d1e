-- `sound::unfit`: the tests before the one that fails have passed.
-- Assumes nothing.
use Rattle.std.proofs.Common.{sym, ◌∙◌, eq-eqb, ne_eqb}
use Rattle.sound.proofs.Fitting.{Passed, unfit_by, unfit-none}
use Rattle.sound.proofs.unfit.Goals as goal

pub returns-then-not-sound : goal.returns-then-not-sound
unfolding Passed
returns-then-not-sound c = unfit_by c.args.n c.args.e c.args.page.now c.read_head-head.result c.read_head-head.ensures 0 tt (sym c.sound.ensures ∙ c.if-not-sound.true)

pub returns-then-not-kind_asked : goal.returns-then-not-kind_asked
unfolding Passed
returns-then-not-kind_asked c =
    let s = sym c.sound.ensures ∙ c.if-not-sound.false in
    unfit_by c.args.n c.args.e c.args.page.now c.read_head-head.result c.read_head-head.ensures 1 (s, tt) (sym c.kind_asked.ensures ∙ c.if-not-kind_asked.true)

pub returns-then-head-e : goal.returns-then-head-e
unfolding Passed
returns-then-head-e c =
    let h = c.read_head-head.result in
    let s = sym c.sound.ensures ∙ c.if-not-sound.false in
    let k = sym c.kind_asked.ensures ∙ c.if-not-kind_asked.false in
    unfit_by c.args.n c.args.e c.args.page.now h c.read_head-head.ensures 2 (s, (k, tt)) (ne_eqb h.birth c.args.e.birth c.if-head-e.true)

pub returns-then-head-e-2 : goal.returns-then-head-e-2
unfolding Passed
returns-then-head-e-2 c =
    let h = c.read_head-head.result in
    let s = sym c.sound.ensures ∙ c.if-not-sound.false in
    let k = sym c.kind_asked.ensures ∙ c.if-not-kind_asked.false in
    let b = eq-eqb h.birth c.args.e.birth c.if-head-e.false in
    unfit_by c.args.n c.args.e c.args.page.now h c.read_head-head.ensures 3 (s, (k, (b, tt))) (ne_eqb h.low c.args.e.low c.if-head-e-2.true)

pub returns-then-head-e-3 : goal.returns-then-head-e-3
unfolding Passed
returns-then-head-e-3 c =
    let h = c.read_head-head.result in
    let s = sym c.sound.ensures ∙ c.if-not-sound.false in
    let k = sym c.kind_asked.ensures ∙ c.if-not-kind_asked.false in
    let b = eq-eqb h.birth c.args.e.birth c.if-head-e.false in
    let l = eq-eqb h.low c.args.e.low c.if-head-e-2.false in
    unfit_by c.args.n c.args.e c.args.page.now h c.read_head-head.ensures 4 (s, (k, (b, (l, tt)))) (ne_eqb h.high c.args.e.high c.if-head-e-3.true)

pub returns : goal.returns
unfolding Passed
returns c =
    let h = c.read_head-head.result in
    let s = sym c.sound.ensures ∙ c.if-not-sound.false in
    let k = sym c.kind_asked.ensures ∙ c.if-not-kind_asked.false in
    let b = eq-eqb h.birth c.args.e.birth c.if-head-e.false in
    let l = eq-eqb h.low c.args.e.low c.if-head-e-2.false in
    let u = eq-eqb h.high c.args.e.high c.if-head-e-3.false in
    unfit-none c.args.n c.args.e c.args.page.now h c.read_head-head.ensures (s, (k, (b, (l, (u, tt)))))
