-- Where halving ends on a page that nobody has tested, by the page's kind and count. Assumes nothing.
use mathlib.Core.Path.{◌≡◌, sym, ap, ◌∙◌}
use mathlib.Core.List.{List}
use Prim.Native.Nat.{ℕ, ◌≤◌, ◌<◌}
use native.Mathlib.Omega.{arith}
use borrow.Author.Tests.{eq-eqb, ne_eqb, lt-ltb, le-ltb}
use Rattle.fields.specs.Field.{le_at}
use Rattle.rules.specs.Layout.{leaf_kind, leaf_header, inner_header, cert_size, child_size, leaf_room, inner_room}
use Rattle.entries.specs.Spot.{keys_in}
use Rattle.seek.specs.Guess.{guess_of}
use Rattle.way.specs.Ahead.{ahead_in, ahead_of}

module _ (b : List ℕ) (count : ℕ) (n : count ≡ le_at b 2 2) (room header size k : ℕ) where
  ahead-many : room < count → 0 ≡ ahead_in room header size k b
  unfolding ahead_in
  ahead-many h = rw (lt-ltb room (le_at b 2 2) (omega (arith, n)), ahead_in)

  ahead-few : count ≤ room → guess_of k (keys_in header size count b) ≡ ahead_in room header size k b
  unfolding ahead_in
  ahead-few h = rw (le-ltb room (le_at b 2 2) (omega (arith, n)), ahead_in) (ap (λ (x : ℕ). guess_of k (keys_in header size x b)) n)

module _ (key upto : ℕ) (b : List ℕ) (kind count : ℕ) (m : kind ≡ le_at b 0 2) (n : count ≡ le_at b 2 2) where
  as_leaf : kind ≡ leaf_kind → ahead_in leaf_room leaf_header cert_size upto b ≡ ahead_of key upto b
  unfolding ahead_of
  as_leaf h = rw (eq-eqb (le_at b 0 2) leaf_kind (sym m ∙ h), ahead_of)

  as_inner : (kind ≡ leaf_kind → ⊥) → ahead_in inner_room inner_header child_size key b ≡ ahead_of key upto b
  unfolding ahead_of
  as_inner h = rw (ne_eqb (le_at b 0 2) leaf_kind (λ q. h (m ∙ q)), ahead_of)

  pub leaf-many : kind ≡ leaf_kind → leaf_room < count → 0 ≡ ahead_of key upto b
  leaf-many h o = ahead-many b count n leaf_room leaf_header cert_size upto o ∙ as_leaf h

  pub leaf-few : kind ≡ leaf_kind → count ≤ leaf_room → guess_of upto (keys_in leaf_header cert_size count b) ≡ ahead_of key upto b
  leaf-few h o = ahead-few b count n leaf_room leaf_header cert_size upto o ∙ as_leaf h

  pub inner-many : (kind ≡ leaf_kind → ⊥) → inner_room < count → 0 ≡ ahead_of key upto b
  inner-many h o = ahead-many b count n inner_room inner_header child_size key o ∙ as_inner h

  pub inner-few : (kind ≡ leaf_kind → ⊥) → count ≤ inner_room → guess_of key (keys_in inner_header child_size count b) ≡ ahead_of key upto b
  inner-few h o = ahead-few b count n inner_room inner_header child_size key o ∙ as_inner h
