-- The three ways through a sync, and what the lengths say. Assumes nothing.
use Rattle.std.specs.Prelude.{Ok, Err}
use mathlib.Core.Path.{◌≡◌, sym, ◌∙◌}
use mathlib.Core.Bool.{true, false}
use mathlib.Core.List.{List}
use Prim.Native.Nat.{ℕ, ◌+◌, ◌≤◌, ◌<◌}
use native.Mathlib.Omega.{arith}
use borrow.Author.Tests.{le-leb, lt-leb}
use lib.ListN.{length}
use Rattle.rules.specs.Layout.{page_size, last_number}
use Rattle.rules.specs.Table.{set_number}
use Rattle.rules.specs.Marks.{turned}
use Rattle.rules.specs.Call.{lengths_for}
use Rattle.rules.specs.Sync.{sync_refused, sync_done, sync}
use Rattle.rules.specs.declared.Session.{Session}
use Rattle.rules.specs.declared.SyncError.{SyncError}
use Rattle.rules.proofs.Bytes.Lengths.{lengths_for_true}
use Rattle.rules.specs.Handing.{left}

module _ (w t : List ℕ) (s : Session) where
  pub refused : lengths_for s w t ≡ false → left (record { answer = Err SyncError.Length; session = s }) w t ≡ sync w t s
  unfolding sync sync_refused
  refused e = rw (e, sync)

  module _ (e : lengths_for s w t ≡ true) where
    pub spent : last_number < s.c → left (record { answer = Err SyncError.Spent; session = s }) w t ≡ sync w t s
    unfolding sync sync_refused
    spent h = rw (e, lt-leb s.c last_number h, sync)

    pub done : s.c ≤ last_number → left (record { answer = Ok tt; session = turned s }) (set_number w (s.c + 2)) (set_number w (s.c + 2)) ≡ sync w t s
    unfolding sync sync_done
    done h = rw (e, le-leb s.c last_number h, sync)

    pub same : length w ≡ length t
    same = let l = lengths_for_true s w t e in l.working ∙ sym l.stable

    pub long : page_size ≤ length w
    long = let l = lengths_for_true s w t e in omega (arith, l.least, l.working)
