-- Lists of entries in key order: a leaf's certificates and an inner page's children alike.
use Rattle.std.specs.Prelude.{ℕ, Bool, true, false, ◌&&◌, List, [], ◌∷◌, ◌==◌, nat_lt}
use Rattle.std.proofs.Math.Option.{Option, some, none}
use Rattle.rules.specs.Test.{between}

pub record Entry (B : Type 0) : Type 0 where
  pub key : ℕ
  pub value : B

-- what an inner page's entry says beside its key, which is the child's low
pub record Below : Type 0 where
  pub child : ℕ
  pub previous : ℕ
  pub birth : ℕ

-- an entry of a leaf: a key and its record number
abbrev pub Cert : Type 0
Cert = Entry ℕ

-- an entry of an inner page
abbrev pub Child : Type 0
Child = Entry Below

unfoldable pub keys : {B : Type 0} → List (Entry B) → List ℕ
keys [] = []
keys (x ∷ xs) = x.key ∷ keys xs

-- what stands under a key
unfoldable pub find : {B : Type 0} → ℕ → List (Entry B) → Option B
find k [] = none
find k (x ∷ xs) = elim (k == x.key) [ true ↦ some x.value | false ↦ find k xs ]

-- the entries with keys in a range
unfoldable pub cut : {B : Type 0} → ℕ → ℕ → List (Entry B) → List (Entry B)
cut low high [] = []
cut low high (x ∷ xs) =
    elim (between low high x.key) [ true ↦ x ∷ cut low high xs | false ↦ cut low high xs ]

-- an entry put in key order; one of the same key gives way
unfoldable pub put : {B : Type 0} → Entry B → List (Entry B) → List (Entry B)
put x [] = x ∷ []
put x (y ∷ ys) =
    elim (nat_lt x.key y.key) [
      | true ↦ x ∷ (y ∷ ys)
      | false ↦ elim (x.key == y.key) [ true ↦ x ∷ ys | false ↦ y ∷ put x ys ]
    ]

-- the entries but the one under a key
unfoldable pub without : {B : Type 0} → ℕ → List (Entry B) → List (Entry B)
without k [] = []
without k (x ∷ xs) = elim (k == x.key) [ true ↦ xs | false ↦ x ∷ without k xs ]

-- numbers that rise strictly, from one below them and by themselves
unfoldable pub rises_from : ℕ → List ℕ → Bool
rises_from k [] = true
rises_from k (x ∷ xs) = nat_lt k x && rises_from x xs

unfoldable pub rising : List ℕ → Bool
rising [] = true
rising (x ∷ xs) = rises_from x xs
