-- `sound::rises`: before each round the answer is what is left to test after the last key.
-- Assumes nothing.
use Rattle.std.proofs.Common.{◌+◌, refl, arith}
use Rattle.sound.proofs.Rising.{lies, stops, goes_on, ends}
use Rattle.sound.proofs.rises.Goals as goal

pub key-key-requires : goal.key-key-requires
key-key-requires g c =
    lies g.K.Kind.header g.K.Kind.size c.loop-j.j c.args.count _ (omega (arith, c.loop-j-test.true)) c.requires.1

pub follows-requires : goal.follows-requires
follows-requires g c =
    (lies g.K.Kind.header g.K.Kind.size c.loop-j.j c.args.count _ (omega (arith, c.loop-j-test.true)) c.requires.1, c.key-key.ensures)

pub returns-then-not-follows : goal.returns-then-not-follows
returns-then-not-follows g c =
    let a = c.args in
    let l = c.loop-j in
    stops (g.K.Kind.key_at a.page.now) (g.K.Kind.good_at a.kind a.page.now) a.high a.count l.last l.j c.key-key.result
    (omega (arith, c.loop-j-test.true)) c.key-key.ensures c.follows.ensures l.invariant.2 c.if-not-follows.true-raw

pub key-last-requires : goal.key-last-requires
key-last-requires g c =
    lies g.K.Kind.header g.K.Kind.size (c.loop-j.j + 1) c.args.count _ (omega (arith, c.loop-j-test.true)) c.requires.1

pub follows-requires-in-loop-j : goal.follows-requires-in-loop-j
follows-requires-in-loop-j g c =
    (lies g.K.Kind.header g.K.Kind.size (c.loop-j.j + 1) c.args.count _ (omega (arith, c.loop-j-test.true)) c.requires.1, c.key-last.ensures)

pub returns-then-not-follows-2 : goal.returns-then-not-follows-2
returns-then-not-follows-2 g c =
    let a = c.args in
    let l = c.loop-j in
    let on = goes_on (g.K.Kind.key_at a.page.now) (g.K.Kind.good_at a.kind a.page.now) a.high a.count l.last l.j c.key-key.result
    (omega (arith, c.loop-j-test.true)) c.key-key.ensures c.follows.ensures l.invariant.2 (l.j + 1) refl c.if-not-follows.false-raw in
    stops (g.K.Kind.key_at a.page.now) (g.K.Kind.good_at a.kind a.page.now) a.high a.count c.key-key.result (l.j + 1) c.key-last.result
    (omega (arith, c.loop-j-test.true)) c.key-last.ensures c.follows-in-loop-j.ensures on c.if-not-follows-2.true-raw

pub loop-j-preserved : goal.loop-j-preserved
loop-j-preserved g c =
    let a = c.args in
    let l = c.loop-j in
    let on = goes_on (g.K.Kind.key_at a.page.now) (g.K.Kind.good_at a.kind a.page.now) a.high a.count l.last l.j c.key-key.result
    (omega (arith, c.loop-j-test.true)) c.key-key.ensures c.follows.ensures l.invariant.2 (l.j + 1) refl c.if-not-follows.false-raw in (
      omega arith,
      omega (arith, c.loop-j-test.true),
      goes_on (g.K.Kind.key_at a.page.now) (g.K.Kind.good_at a.kind a.page.now) a.high a.count c.key-key.result (l.j + 1) c.key-last.result
          (omega (arith, c.loop-j-test.true)) c.key-last.ensures c.follows-in-loop-j.ensures on (l.j + 2) (omega arith) c.if-not-follows-2.false-raw,
    )

pub returns-then-j-count : goal.returns-then-j-count
returns-then-j-count g c =
    let a = c.args in
    let l = c.loop-j in
    ends (g.K.Kind.key_at a.page.now) (g.K.Kind.good_at a.kind a.page.now) a.high a.count l.last l.j
    (omega (arith, c.if-j-count.true)) l.invariant.2

pub key-key-requires-2 : goal.key-key-requires-2
key-key-requires-2 g c =
    lies g.K.Kind.header g.K.Kind.size c.loop-j.j c.args.count _ (omega (arith, c.if-j-count.false, c.loop-j.invariant)) c.requires.1

pub follows-requires-2 : goal.follows-requires-2
follows-requires-2 g c =
    (lies g.K.Kind.header g.K.Kind.size c.loop-j.j c.args.count _ (omega (arith, c.if-j-count.false, c.loop-j.invariant)) c.requires.1, c.key-key-2.ensures)

pub returns-then-not-follows-3 : goal.returns-then-not-follows-3
returns-then-not-follows-3 g c =
    let a = c.args in
    let l = c.loop-j in
    stops (g.K.Kind.key_at a.page.now) (g.K.Kind.good_at a.kind a.page.now) a.high a.count l.last l.j c.key-key-2.result
    (omega (arith, c.if-j-count.false, l.invariant)) c.key-key-2.ensures c.follows-2.ensures l.invariant.2 c.if-not-follows-3.true-raw

pub returns : goal.returns
returns g c =
    let a = c.args in
    let l = c.loop-j in
    ends (g.K.Kind.key_at a.page.now) (g.K.Kind.good_at a.kind a.page.now) a.high a.count c.key-key-2.result (l.j + 1)
    (omega (arith, c.loop-j-test.false))
    (goes_on (g.K.Kind.key_at a.page.now) (g.K.Kind.good_at a.kind a.page.now) a.high a.count l.last l.j c.key-key-2.result
    (omega (arith, c.if-j-count.false, l.invariant)) c.key-key-2.ensures c.follows-2.ensures l.invariant.2 (l.j + 1) refl c.if-not-follows-3.false-raw)
