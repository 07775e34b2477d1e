-- What a page must be to be changed where it stands, and the two entries that one becomes.
use Rattle.std.specs.Prelude.{ℕ, ◌≤◌, ◌<◌, ◌≡◌, true, false, length}
use Rattle.rules.specs.Layout.{leaf_room, inner_room}
use Rattle.rules.specs.Test.{mem}
use Rattle.rules.specs.Entry.{keys, rising}
use Rattle.rules.specs.Page.{View, is_leaf}
use Rattle.rules.specs.Insert.{new_child, put_child}

-- a leaf with room for a key that it doesn't have
pub record TakesCert (key : ℕ) (v : View) : Type 0 where
  pub leaf : is_leaf v ≡ true
  pub room : length v.certs < leaf_room
  pub absent : mem key (keys v.certs) ≡ false

-- a leaf with a certificate under a key
pub record HasCert (key : ℕ) (v : View) : Type 0 where
  pub leaf : is_leaf v ≡ true
  pub room : length v.certs ≤ leaf_room
  pub rises : rising (keys v.certs) ≡ true
  pub present : mem key (keys v.certs) ≡ true

-- an inner page with room for a key that it doesn't have
pub record TakesChild (key : ℕ) (v : View) : Type 0 where
  pub inner : is_leaf v ≡ false
  pub room : length v.children < inner_room
  pub absent : mem key (keys v.children) ≡ false

-- an inner page with an entry under a key
pub record HasChild (key : ℕ) (v : View) : Type 0 where
  pub inner : is_leaf v ≡ false
  pub room : length v.children < inner_room
  pub rises : rising (keys v.children) ≡ true
  pub present : mem key (keys v.children) ≡ true

-- an inner page whose entry under low can become two, the second one under middle
pub record TakesTwins (low middle : ℕ) (v : View) : Type 0 where
  pub has : HasChild low v
  pub absent : mem middle (keys v.children) ≡ false

-- the entry under low becomes two, at low and at middle, for two pages born now with one previous page
unfoldable pub twins_of : ℕ → ℕ → ℕ → ℕ → ℕ → ℕ → View → View
twins_of c low lower middle upper previous v =
    put_child (new_child c middle upper previous) (put_child (new_child c low lower previous) v)
