-- What newest makes of provisional certificates, those with an issue above 32,767.
use Rattle.std.specs.Prelude.{ℕ, ◌^◌, ◌≤◌, ◌<◌, ◌≡◌, true, ◌&&◌, List, ltb, Err, Ok}
use Rattle.std.proofs.Math.Option.{none}
use Rattle.rules.specs.Key.{key_of}
use Rattle.rules.specs.Entry.{find}
use Rattle.rules.specs.Newest.{newest}
use Rattle.rules.specs.declared.Session.{Session}
use Rattle.rules.specs.Answer.{newest_is}
use Rattle.rules.specs.declared.FindError.{FindError}
use Rattle.reading.specs.Agreeing.{held, Passes}

pub record Provisional : Type 0 where
  -- in tables of any bytes, with any session: no provisional issue is ever handed out
  pub never : (w t : List ℕ) (s : Session) (model serial i x : ℕ) → serial < 2 ^ 32 → (newest w t s model serial).answer ≡ Ok (newest_is i x)
      → i ≤ 32767
  -- in every table that passes opening's tests: a meter with provisional certificates only has none
  pub only : (w t : List ℕ) (s : Session) → Passes w t s → (model serial : ℕ) → serial < 2 ^ 32 → (ltb 0 model && ltb 0 serial) ≡ true
      → ((i : ℕ) → 1 ≤ i → i ≤ 32767 → find (key_of model serial i) (held s w) ≡ none)
      → (newest w t s model serial).answer ≡ Err FindError.Missing
