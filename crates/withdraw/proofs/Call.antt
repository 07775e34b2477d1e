-- What a withdrawal answers, test after test. Assumes nothing.
use Rattle.std.specs.Prelude.{Err}
use mathlib.Core.Path.{◌≡◌, sym, ap, ◌∙◌}
use mathlib.Core.Bool.{true, false}
use mathlib.Core.List.{List}
use Prim.Native.Nat.{ℕ}
use Rattle.rules.specs.Key.{key_of, good_parts}
use Rattle.rules.specs.Table.{fit0}
use Rattle.rules.specs.Report.{Reported, nothing}
use Rattle.rules.specs.Walk.{way_report}
use Rattle.rules.specs.Call.{Left, lengths_for}
use Rattle.rules.specs.Withdraw.{withdraw, withdraw_key, withdraw_refused}
use Rattle.rules.specs.Reports.{key_report, withdraw_reported}
use Rattle.rules.specs.declared.Session.{Session}
use Rattle.rules.specs.declared.Report.{Report}
use Rattle.rules.specs.Answer.{Withdrawn}
use Rattle.rules.specs.declared.FindError.{FindError}
use Rattle.rules.specs.Handing.{Withdrawing}
use Rattle.rules.proofs.Demand1.Tested.{tested-length, tested-key, tested-zero, tested-done}
use Rattle.way.specs.Ways.{reported}
use Rattle.rules.specs.Handing.{leaving}

module _ (w t : List ℕ) (s : Session) (model serial issue : ℕ) where
  along : Report
  along = way_report s.n s.c (key_of model serial issue) w nothing

  -- what is left and what is reported, together
  both : {l : Left Withdrawn} {x : Report} → l ≡ withdraw w t s model serial issue → x ≡ key_report w t s model serial issue
      → reported l x ≡ withdraw_reported w t s model serial issue
  unfolding withdraw_reported
  both p q = cc

  pub bad_length_lem : {x : Report} → lengths_for s w t ≡ false → x ≡ nothing
      → leaving (record { answer = Err FindError.Length; report = x; session = s }) w t ≡ withdraw_reported w t s model serial issue
  unfolding withdraw withdraw_refused key_report along
  bad_length_lem l q = both (rw (withdraw, l)) (q ∙ sym (tested-length s w t (good_parts model serial issue) along l))

  module _ (l : lengths_for s w t ≡ true) where
    pub bad_key : {x : Report} → good_parts model serial issue ≡ false → x ≡ nothing
        → leaving (record { answer = Err FindError.BadKey; report = x; session = s }) w t ≡ withdraw_reported w t s model serial issue
    unfolding withdraw withdraw_refused key_report along
    bad_key g q = both (rw (withdraw, l, g)) (q ∙ sym (tested-key s w t (good_parts model serial issue) along l g))

    module _ (g : good_parts model serial issue ≡ true) where
      pub bad_zero : {x : Report} → fit0 s.n w ≡ false → x ≡ nothing
          → leaving (record { answer = Err FindError.Damaged; report = x; session = s }) w t ≡ withdraw_reported w t s model serial issue
      unfolding withdraw withdraw_refused key_report along
      bad_zero f q = both (rw (withdraw, l, g, f)) (q ∙ sym (tested-zero s w t (good_parts model serial issue) along l g f))

      module _ (f : fit0 s.n w ≡ true) where
        as_key : withdraw w t s model serial issue ≡ withdraw_key (key_of model serial issue) s w t
        unfolding withdraw
        as_key = rw (withdraw, l, g, f)

        pub by_key : (u : List ℕ) (r : Withdrawing) (k : ℕ) → k ≡ key_of model serial issue
            → leaving r u t ≡ reported (withdraw_key k s w t) (way_report s.n s.c k w nothing)
            → leaving r u t ≡ withdraw_reported w t s model serial issue
        unfolding key_report along
        by_key u r k e h =
            both
            (ap (λ (y : Reported (Left Withdrawn)). y.left) h ∙ (ap (λ (j : ℕ). withdraw_key j s w t) e ∙ sym as_key))
            (ap (λ (y : Reported (Left Withdrawn)). y.report) h
            ∙ (ap (λ (j : ℕ). way_report s.n s.c j w nothing) e
            ∙ sym (tested-done s w t (good_parts model serial issue) along l g f)))
