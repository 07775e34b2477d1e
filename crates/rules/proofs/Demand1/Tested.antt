-- What a call reports by the tests that come before its walk. Assumes nothing.
use Rattle.std.proofs.Common.{◌≡◌, ℕ, Bool, true, false, List}
use Rattle.rules.specs.Test.{every}
use Rattle.rules.specs.Table.{fit0}
use Rattle.rules.specs.Report.{nothing}
use Rattle.rules.specs.Call.{lengths_for}
use Rattle.rules.specs.Reports.{once_tested}
use Rattle.rules.specs.declared.Session.{Session}
use Rattle.rules.specs.declared.Report.{Report}

module _ (s : Session) (w t : List ℕ) (good : Bool) (x : Report) where
  pub tested-length : lengths_for s w t ≡ false → once_tested s w t good x ≡ nothing
  unfolding once_tested every
  tested-length l = rw (once_tested, l)

  module _ (l : lengths_for s w t ≡ true) where
    pub tested-key : good ≡ false → once_tested s w t good x ≡ nothing
    unfolding once_tested every
    tested-key g = rw (once_tested, l, g)

    module _ (g : good ≡ true) where
      pub tested-zero : fit0 s.n w ≡ false → once_tested s w t good x ≡ nothing
      unfolding once_tested every
      tested-zero f = rw (once_tested, l, g, f)

      pub tested-done : fit0 s.n w ≡ true → once_tested s w t good x ≡ x
      unfolding once_tested every
      tested-done f = rw (once_tested, l, g, f)
