-- The widths of each section's items, and where their fields stand. Assumes nothing.
use mathlib.Core.Path.{◌≡◌, refl}
use mathlib.Core.List.{List}
use Prim.Native.Nat.{ℕ, ◌+◌, ◌^◌}
use native.Mathlib.Nat.{add-zero}
use native.Mathlib.Omega.{arith}
use Rattle.fields.specs.Field.{number, le_at}
use Rattle.exchange.specs.Item.{place_width, number_width, value_width, size, span, item_at}
use Rattle.exchange.specs.declared.Section.{Section}

pub size-models : size Section.Models ≡ 2
unfolding size place_width number_width value_width
size-models = refl

pub size-meters : size Section.Meters ≡ 6
unfolding size place_width number_width value_width
size-meters = refl

pub size-certs : size Section.Certificates ≡ 10
unfolding size place_width number_width value_width
size-certs = refl

-- a number of its width is one of those under a place
pub span_width : (s : Section) → span s ≡ 256 ^ number_width s
unfolding span number_width
span_width Section.Models = refl
span_width Section.Meters = refl
span_width Section.Certificates = refl

module _ (f : List ℕ) (at : ℕ) where
  pub place-models : (item_at Section.Models f at).place ≡ 0
  unfolding item_at place_width le_at number
  place-models = refl

  pub place-meters : (item_at Section.Meters f at).place ≡ le_at f at 2
  unfolding item_at place_width
  place-meters = refl

  pub place-certs : (item_at Section.Certificates f at).place ≡ le_at f at 4
  unfolding item_at place_width
  place-certs = refl

  pub number-models : (item_at Section.Models f at).number ≡ le_at f at 2
  unfolding item_at place_width number_width
  number-models = rw add-zero

  pub number-meters : (item_at Section.Meters f at).number ≡ le_at f (at + 2) 4
  unfolding item_at place_width number_width
  number-meters = refl

  pub number-certs : (item_at Section.Certificates f at).number ≡ le_at f (at + 4) 2
  unfolding item_at place_width number_width
  number-certs = refl

  pub value-certs : (item_at Section.Certificates f at).value ≡ le_at f (at + 6) 4
  unfolding item_at place_width number_width value_width
  value-certs =
      let e : at + 4 + 2 ≡ at + 6 = omega arith in
      rw e
