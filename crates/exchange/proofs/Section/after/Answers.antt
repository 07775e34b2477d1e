-- `exchange::Section::after`: the byte of the item behind the last one.
-- Assumes nothing.
use Prim.Native.Nat.{◌*◌}
use mathlib.Core.Path.{◌≡◌, sym}
use Rattle.fields.specs.Field.{le_at}
use Rattle.exchange.specs.Item.{size}
use Rattle.exchange.proofs.Steps.{after_is}
use native.Mathlib.Omega.{arith}
use Rattle.exchange.proofs.Section.after.Goals as goal

pub get32-requires : goal.get32-requires
get32-requires c =
    let a = c.args in
    omega (arith, c.requires, after_is a.self a.f.now a.at)

pub item_from-requires : goal.item_from-requires
item_from-requires c =
    let a = c.args in
    let e : size a.self * c.get32.result ≡ size a.self * le_at a.f.now a.at 4 = rw c.get32.ensures in
    omega (arith, e, c.requires, after_is a.self a.f.now a.at)

pub returns : goal.returns
returns c =
    let a = c.args in
    rw (c.item_from.ensures, c.get32.ensures) (sym (after_is a.self a.f.now a.at))
