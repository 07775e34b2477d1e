-- `sound::names_pages`: the child by one comparison, then its previous.
-- Assumes nothing.
use Rattle.head.specs.Head.{child_at}
use Rattle.sound.proofs.Children.{names_outside, names_by_previous}
use Rattle.sound.proofs.names_pages.Goals as goal

pub returns-then-wrapping_sub_usize : goal.returns-then-wrapping_sub_usize
returns-then-wrapping_sub_usize c =
    let wrapping-sub-usize = c.wrapping_sub_usize in
    let wrapping-sub-usize2 = c.wrapping_sub_usize-2 in
    let a = c.args in
    names_outside a.n (child_at a.page.now a.j) c.child_number-child.ensures
    wrapping-sub-usize.ensures.value wrapping-sub-usize2.ensures.value wrapping-sub-usize.type_inv wrapping-sub-usize2.type_inv
    c.if-wrapping_sub_usize.true

pub returns : goal.returns
returns c =
    let child-number = c.child_number-child in
    let wrapping-sub-usize = c.wrapping_sub_usize in
    let wrapping-sub-usize2 = c.wrapping_sub_usize-2 in
    let a = c.args in
    names_by_previous a.n (child_at a.page.now a.j) child-number.ensures wrapping-sub-usize.ensures.value
    wrapping-sub-usize2.ensures.value wrapping-sub-usize.type_inv wrapping-sub-usize2.type_inv c.child_previous.ensures
    c.if-wrapping_sub_usize.false
