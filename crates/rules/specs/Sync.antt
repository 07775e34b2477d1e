-- Sync: the working table becomes stable, with a number of its own.
use Rattle.std.specs.Prelude.{ℕ, ◌+◌, true, false, List, nat_le, Ok, Err}
use Rattle.rules.specs.Layout.{last_number}
use Rattle.rules.specs.Table.{set_number}
use Rattle.rules.specs.Marks.{turned}
use Rattle.rules.specs.Call.{Left, lengths_for}
use Rattle.rules.specs.declared.Session.{Session}
use Rattle.rules.specs.Answer.{Synced}
use Rattle.rules.specs.declared.SyncError.{SyncError}

unfoldable pub sync_refused : Synced → Session → List ℕ → List ℕ → Left Synced
sync_refused answer s w t = record { answer = answer; session = s; working = w; stable = t }

unfoldable pub sync_done : Session → List ℕ → Left Synced
sync_done s w =
    let numbered = set_number w (s.c + 2) in
    record { answer = Ok tt; session = turned s; working = numbered; stable = numbered }

unfoldable pub sync : List ℕ → List ℕ → Session → Left Synced
sync w t s =
    elim (lengths_for s w t) [
      | false ↦ sync_refused (Err SyncError.Length) s w t
      | true ↦ elim (nat_le s.c last_number)
          [ false ↦ sync_refused (Err SyncError.Spent) s w t | true ↦ sync_done s w ]
    ]
