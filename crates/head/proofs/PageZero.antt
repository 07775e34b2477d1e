-- Page 0's test as code makes it, on the fields one by one. Assumes nothing.
use Prim.Native.Nat.{ℕ, ◌-◌, ◌≤◌, ◌<◌}
use mathlib.Core.Path.{◌≡◌, sym, ◌∙◌}
use mathlib.Core.Bool.{Bool, true, false}
use mathlib.Core.List.{List, [], ◌∷◌}
use native.Mathlib.Omega.{arith}
use lib.Dec.{ltb, eqb}
use lib.ListN.{get_or}
use borrow.Author.Tests.{eq-eqb}
use Rattle.rules.specs.Layout.{zero_kind}
use Rattle.rules.specs.Test.{between, every}
use Rattle.rules.specs.Table.{fit0}
use Rattle.rules.proofs.Entries.Tests.{between-of}
use Rattle.head.specs.declared.Zero.{Zero}
use Rattle.head.specs.Head.{zero_in}
use Rattle.head.proofs.Chain.{every_fails, every-last}

abbrev pub tests0 : ℕ → Zero → List Bool
tests0 n z = eqb z.kind zero_kind ∷ eqb z.n n ∷ between 1 (n - 1) z.root ∷ ltb z.previous n ∷ []

module _ (n : ℕ) (t : List ℕ) (z : Zero) (e : z ≡ zero_in t) where
  fit0-tests : every (tests0 n z) ≡ fit0 n t
  unfolding zero_in fit0
  fit0-tests = rw e

  pub fit0_fails : (i : ℕ) → get_or (tests0 n z) i true ≡ false → false ≡ fit0 n t
  fit0_fails i h = sym (every_fails (tests0 n z) i h) ∙ fit0-tests

  pub fit0-last : z.kind ≡ zero_kind → z.n ≡ n → 1 ≤ z.root → z.root < n → ltb z.previous n ≡ fit0 n t
  fit0-last k m p q =
      sym
      (every-last (eqb z.kind zero_kind ∷ eqb z.n n ∷ between 1 (n - 1) z.root ∷ []) (ltb z.previous n)
      (eq-eqb z.kind zero_kind k, (eq-eqb z.n n m, (between-of 1 (n - 1) z.root p (omega arith), tt))))
      ∙ fit0-tests
