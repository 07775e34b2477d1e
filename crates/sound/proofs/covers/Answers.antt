-- `sound::covers`: a test that fails decides, and if all others pass the start of the range does.
-- Assumes nothing.
use Rattle.std.proofs.Common.{sym, ◌∙◌, arith}
use borrow.Author.Tests.{lt-leb}
use Rattle.sound.proofs.ByKind.{inner_room_lem}
use Rattle.sound.proofs.Mending.{covers_fails, covers-last, starts-leaf, starts-inner}
use Rattle.sound.proofs.covers.Goals as goal

pub returns-then-not-kind_asked : goal.returns-then-not-kind_asked
returns-then-not-kind_asked c =
    let read_head = c.read_head-head in
    let kind-asked = c.kind_asked in
    let a = c.args in
    covers_fails a.n a.e a.page.now read_head.result read_head.ensures 1
    (sym kind-asked.ensures ∙ c.if-not-kind_asked.true)

pub returns-then-head-e : goal.returns-then-head-e
returns-then-head-e c =
    let read_head = c.read_head-head in
    let a = c.args in
    let h = read_head.result in
    covers_fails a.n a.e a.page.now h read_head.ensures 2 (lt-leb h.low a.e.low c.if-head-e.true)

pub returns-then-head-e-2 : goal.returns-then-head-e-2
returns-then-head-e-2 c =
    let read_head = c.read_head-head in
    let a = c.args in
    let h = read_head.result in
    covers_fails a.n a.e a.page.now h read_head.ensures 3 (lt-leb a.e.high h.high c.if-head-e-2.true)

pub returns-then-not-sound : goal.returns-then-not-sound
returns-then-not-sound c =
    let read_head = c.read_head-head in
    let sound = c.sound in
    let a = c.args in
    covers_fails a.n a.e a.page.now read_head.result read_head.ensures 0
    (sym sound.ensures ∙ c.if-not-sound.true)

pub returns-then-head-eq-LEAF : goal.returns-then-head-eq-LEAF
returns-then-head-eq-LEAF c =
    let read_head = c.read_head-head in
    let kind-asked = c.kind_asked in
    let if1 = c.if-not-kind_asked in
    let if2 = c.if-head-e in
    let if3 = c.if-head-e-2 in
    let sound = c.sound in
    let a = c.args in
    let h = read_head.result in
    let q = read_head.ensures in
    covers-last a.n a.e a.page.now h q (starts-leaf a.n a.e a.page.now h q c.if-head-eq-LEAF.true)
    (sym sound.ensures ∙ c.if-not-sound.false)
    (sym kind-asked.ensures ∙ if1.false) if2.false if3.false

pub has_key-requires : goal.has_key-requires
has_key-requires c =
    let pre = c.requires in
    let read_head = c.read_head-head in
    let sound = c.sound in
    let a = c.args in
    omega
    (arith, inner_room_lem a.n a.page.now read_head.result read_head.ensures c.if-head-eq-LEAF.false (sym sound.ensures ∙ c.if-not-sound.false), pre)

pub returns : goal.returns
returns c =
    let read_head = c.read_head-head in
    let kind-asked = c.kind_asked in
    let if1 = c.if-not-kind_asked in
    let if2 = c.if-head-e in
    let if3 = c.if-head-e-2 in
    let sound = c.sound in
    let if4 = c.if-not-sound in
    let a = c.args in
    let h = read_head.result in
    let q = read_head.ensures in
    covers-last a.n a.e a.page.now h q
    (c.has_key.ensures ∙ starts-inner a.n a.e a.page.now h q c.if-head-eq-LEAF.false)
    (sym sound.ensures ∙ if4.false)
    (sym kind-asked.ensures ∙ if1.false) if2.false if3.false
