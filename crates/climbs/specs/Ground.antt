-- What a climb needs.
use Rattle.std.specs.Prelude.{ℕ, ◌*◌, ◌^◌, ◌≤◌, ◌<◌, ◌≡◌, true, List, length}
use Rattle.fields.specs.Field.{Bytes}
use Rattle.rules.specs.Layout.{page_size, last_key}
use Rattle.rules.specs.Table.{fit0}
use Rattle.rules.specs.Walk.{Walked}
use Rattle.rules.specs.declared.Asked.{Asked}

-- a table in which a key's way can be climbed
pub record Ground (n c : ℕ) (t : List ℕ) : Type 0 where
  pub long : length t ≡ n * page_size
  pub bytes : Bytes t
  pub fit : fit0 n t ≡ true
  pub counter : c < 256 ^ 4

-- something is asked for still: there is a range, no damage was met, and there is room
pub record Asks (a : Asked) (w : Walked) : Type 0 where
  pub low : a.low ≤ a.high
  pub high : a.high ≤ last_key
  pub whole : w.whole ≡ true
  pub room : length w.found < a.room
