-- What the test of lengths tells where a session's number of pages is at hand, and no session. Assumes nothing.
use mathlib.Core.Path.{◌≡◌, refl, sym, ◌∙◌}
use mathlib.Core.Bool.{Bool, true}
use mathlib.Core.List.{List, []}
use Prim.Native.Nat.{ℕ}
use Rattle.rules.specs.Table.{Tables}
use Rattle.rules.specs.Call.{lengths_for}
use Rattle.rules.specs.Marks.{begun}
use Rattle.rules.specs.declared.Session.{Session}
use Rattle.rules.proofs.Bytes.Lengths.{lengths_for_true}

pub sized : (n : ℕ) (w t : List ℕ) (b : Bool) → ((s : Session) → s.n ≡ n → b ≡ lengths_for s w t) → b ≡ true → Tables n w t
sized n w t b tells h =
    let s : Session = begun n 0 0 [] [] in
    lengths_for_true s w t (sym (tells s refl) ∙ h)
