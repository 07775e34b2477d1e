-- What each call that walks reports beside what it leaves, refused calls too.
use Rattle.std.specs.Prelude.{ℕ, Bool, true, false, ◌&&◌, List, [], ◌∷◌, nat_lt}
use Rattle.rules.specs.Test.{every}
use Rattle.rules.specs.Key.{key_of, good_parts}
use Rattle.rules.specs.Table.{fit0}
use Rattle.rules.specs.Report.{Reported, nothing}
use Rattle.rules.specs.Walk.{way_report, walk_of}
use Rattle.rules.specs.Call.{Left, lengths_for}
use Rattle.rules.specs.Insert.{insert}
use Rattle.rules.specs.Withdraw.{withdraw}
use Rattle.rules.specs.Lookup.{lookup}
use Rattle.rules.specs.Newest.{meter, newest}
use Rattle.rules.specs.HasAny.{first_of, has_any}
use Rattle.rules.specs.List.{ListLeft, up_from, list}
use Rattle.rules.specs.declared.Session.{Session}
use Rattle.rules.specs.declared.Report.{Report}
use Rattle.rules.specs.Answer.{Inserted, Withdrawn, Looked, Newest, Any}

-- lengths, key and page 0 are tested before a page is entered: a call that they refuse has nothing to report
unfoldable pub once_tested : Session → List ℕ → List ℕ → Bool → Report → Report
once_tested s w t good x =
    elim (every (lengths_for s w t ∷ good ∷ fit0 s.n w ∷ [])) [ true ↦ x | false ↦ nothing ]

-- insert, withdraw and lookup go the way of one key
unfoldable pub key_report : List ℕ → List ℕ → Session → ℕ → ℕ → ℕ → Report
key_report w t s model serial issue =
    once_tested s w t (good_parts model serial issue) (way_report s.n s.c (key_of model serial issue) w nothing)

unfoldable pub insert_reported : List ℕ → List ℕ → Session → ℕ → ℕ → ℕ → ℕ → Reported (Left Inserted)
insert_reported w t s model serial issue x = record {
  left = insert w t s model serial issue x;
  report = key_report w t s model serial issue;
}

unfoldable pub withdraw_reported : List ℕ → List ℕ → Session → ℕ → ℕ → ℕ → Reported (Left Withdrawn)
withdraw_reported w t s model serial issue = record {
  left = withdraw w t s model serial issue;
  report = key_report w t s model serial issue;
}

unfoldable pub lookup_reported : List ℕ → List ℕ → Session → ℕ → ℕ → ℕ → Reported (Left Looked)
lookup_reported w t s model serial issue = record {
  left = lookup w t s model serial issue;
  report = key_report w t s model serial issue;
}

unfoldable pub newest_reported : List ℕ → List ℕ → Session → ℕ → ℕ → Reported (Left Newest)
newest_reported w t s model serial = record {
  left = newest w t s model serial;
  report = once_tested s w t (nat_lt 0 model && nat_lt 0 serial) (walk_of s.n s.c (meter model serial) w).report;
}

unfoldable pub has_any_reported : List ℕ → List ℕ → Session → ℕ → ℕ → Reported (Left Any)
has_any_reported w t s model serial = record {
  left = has_any w t s model serial;
  report = once_tested s w t (nat_lt 0 model && nat_lt 0 serial) (walk_of s.n s.c (first_of model serial) w).report;
}

unfoldable pub list_reported : List ℕ → List ℕ → Session → ℕ → List ℕ → List ℕ → Reported ListLeft
list_reported w t s start ks xs = record {
  left = list w t s start ks xs;
  report = once_tested s w t true (walk_of s.n s.c (up_from start ks xs) w).report;
}
