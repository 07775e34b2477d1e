-- Every store of a history passes opening's tests while it is open, so lookup, newest, has-any and list agree in it.
use Prim.Native.Nat.{ℕ}
use native.Mathlib.Omega.{arith}
use Rattle.rules.specs.History.{State, run, start}
use Rattle.rules.proofs.Demand3.Epochs.Epochs.{working-good}
use Rattle.rules.proofs.Demand3.Epochs.Opens.{good_tree_lem}
use Rattle.rules.proofs.Demand3.Epochs.Syncs.{lengths_for_lem}
use Rattle.rules.proofs.Demand3.Histories.Fates.{Alive, Fate, alive, over}
use Rattle.rules.proofs.Demand3.Histories.Ended.{no_pages}
use Rattle.rules.proofs.Demand3.Histories.Histories.{fate_start, fate_run}
use Rattle.reading.specs.Agreeing.{Passes, AgreeIn, ReadersAgree, HistoriesAgree}
use Rattle.reading.proofs.Agrees.{readers_agree}

alive-passes : {n : ℕ} {m : State} → Alive n m → Passes m.working m.stable m.session
alive-passes a = record {
  bytes = a.safe.working.bytes;
  counter = omega (arith, a.safe.small);
  lengths = lengths_for_lem a.safe;
  fit = a.safe.working.fit;
  good = good_tree_lem (working-good a.safe.inv);
}

pub histories_agree : HistoriesAgree
unfolding HistoriesAgree ReadersAgree
histories_agree n w s l h t z = go (fate_run (start w s) (fate_start n w s l) h t)
  where
    go : Fate n (run h (start w s)) → AgreeIn (run h (start w s))
    go (alive a) =
        let p = alive-passes a in
        record { passes = p; agree = readers_agree (run h (start w s)).working (run h (start w s)).stable (run h (start w s)).session p }
    go (over o) = absurd (omega (arith, no_pages o, z, l.few))
