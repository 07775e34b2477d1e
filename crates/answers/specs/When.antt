-- Document 01's table of answers as statements: each number is given exactly when the table says.
use Rattle.std.specs.Prelude.{ℕ, ◌≡◌, ◌↔◌, true, List, [], ◌∷◌, length, Ok}
use Rattle.std.proofs.Math.Option.{some}
use Rattle.fields.specs.Field.{Bytes}
use Rattle.rules.specs.Test.{every}
use Rattle.rules.specs.Key.{key_of}
use Rattle.rules.specs.Entry.{rising}
use Rattle.rules.specs.Walk.{walk_of}
use Rattle.rules.specs.Call.{batched_no, formatted_no, opened_no, inserted_no, withdrawn_no, looked_no, newest_no, any_no, listed_no, synced_no}
use Rattle.rules.specs.Format.{format}
use Rattle.rules.specs.Open.{opening}
use Rattle.rules.specs.Insert.{insert}
use Rattle.rules.specs.Withdraw.{withdraw}
use Rattle.rules.specs.Batch.{Between, item_no, batch}
use Rattle.rules.specs.Lookup.{lookup}
use Rattle.rules.specs.Newest.{newest, newest_in, meter}
use Rattle.rules.specs.HasAny.{has_any, any_in, first_of}
use Rattle.rules.specs.List.{list, up_from}
use Rattle.rules.specs.Sync.{sync}
use Rattle.rules.specs.declared.Session.{Session}
use Rattle.rules.specs.declared.Item.{Item}
use Rattle.exchange.specs.ReadFile.{read_no, read_file}
use Rattle.rules.specs.Answer.{Any, newest_is}
use Rattle.answers.specs.Given.{Given, numbers_in}
use Rattle.answers.specs.Causes.{under, format_causes, open_causes, insert_causes, withdraw_causes, batch_causes, read_causes, lookup_causes, newest_causes, any_causes, list_causes, sync_causes}

-- for any page bytes, length, session and key
pub record When : Type 0 where
  -- lower number first
  pub lower_first : (w t : List ℕ) (s : Session) (model serial issue start : ℕ) (ks xs : List ℕ)
      → every
      (rising (numbers_in (format_causes w t))
      ∷ rising (numbers_in (open_causes w t))
      ∷ rising (numbers_in (insert_causes w t s model serial issue))
      ∷ rising (numbers_in (withdraw_causes w t s model serial issue))
      ∷ rising (numbers_in (read_causes w t s ks))
      ∷ rising (numbers_in (lookup_causes w t s model serial issue))
      ∷ rising (numbers_in (newest_causes w t s model serial))
      ∷ rising (numbers_in (any_causes w t s model serial))
      ∷ rising (numbers_in (list_causes w t s start ks xs))
      ∷ rising (numbers_in (sync_causes w t s))
      ∷ [])
      ≡ true
  -- the table
  pub format_when : (w s : List ℕ) (k : ℕ) → (formatted_no (format w s).answer ≡ k) ↔ Given (format_causes w s) k
  pub open_when : (w s : List ℕ) (k : ℕ) → (opened_no (opening w s).answer ≡ k) ↔ Given (open_causes w s) k
  pub insert_when : (w t : List ℕ) (s : Session) (model serial issue x k : ℕ)
      → (inserted_no (insert w t s model serial issue x).answer ≡ k) ↔ Given (insert_causes w t s model serial issue) k
  pub withdraw_when : (w t : List ℕ) (s : Session) (model serial issue k : ℕ)
      → (withdrawn_no (withdraw w t s model serial issue).answer ≡ k) ↔ Given (withdraw_causes w t s model serial issue) k
  pub batch_when : (w t : List ℕ) (s : Session) (xs : List Item) (k : ℕ)
      → (batched_no (batch w t s xs).left.answer ≡ k) ↔ Given (batch_causes w t s) k
  pub item_when : (t : List ℕ) (m : Between) (x : Item) (k : ℕ)
      → (item_no t m x ≡ k) ↔ Given (insert_causes m.working t m.session x.model x.serial x.issue) k
  pub read_when : (w t : List ℕ) (s : Session) (f : List ℕ) → Bytes f → (k : ℕ)
      → (read_no (read_file w t s f).left.answer ≡ k) ↔ Given (read_causes w t s f) k
  pub lookup_when : (w t : List ℕ) (s : Session) (model serial issue k : ℕ)
      → (looked_no (lookup w t s model serial issue).answer ≡ k) ↔ Given (lookup_causes w t s model serial issue) k
  pub newest_when : (w t : List ℕ) (s : Session) (model serial k : ℕ)
      → (newest_no (newest w t s model serial).answer ≡ k) ↔ Given (newest_causes w t s model serial) k
  pub any_when : (w t : List ℕ) (s : Session) (model serial k : ℕ)
      → (any_no (has_any w t s model serial).answer ≡ k) ↔ Given (any_causes w t s model serial) k
  pub list_when : (w t : List ℕ) (s : Session) (start : ℕ) (ks xs : List ℕ) (k : ℕ)
      → (listed_no (list w t s start ks xs).answer ≡ k) ↔ Given (list_causes w t s start ks xs) k
  pub sync_when : (w t : List ℕ) (s : Session) (k : ℕ) → (synced_no (sync w t s).answer ≡ k) ↔ Given (sync_causes w t s) k
  -- and with 0, what is answered beside it
  pub found_when : (w t : List ℕ) (s : Session) (model serial issue x : ℕ)
      → ((lookup w t s model serial issue).answer ≡ Ok x)
      ↔ (Given (lookup_causes w t s model serial issue) 0 × (under s (key_of model serial issue) w ≡ some x))
  pub newest_found_when : (w t : List ℕ) (s : Session) (model serial i x : ℕ)
      → ((newest w t s model serial).answer ≡ Ok (newest_is i x))
      ↔ (Given (newest_causes w t s model serial) 0
      × (newest_in (walk_of s.n s.c (meter model serial) w).found ≡ Ok (newest_is i x)))
  pub any_told_when : (w t : List ℕ) (s : Session) (model serial : ℕ) (yes_or_no : Any) → any_no yes_or_no ≡ 0
      → ((has_any w t s model serial).answer ≡ yes_or_no)
      ↔ (Given (any_causes w t s model serial) 0
      × (any_in (walk_of s.n s.c (first_of model serial) w).found ≡ yes_or_no))
  pub filled_when : (w t : List ℕ) (s : Session) (start : ℕ) (ks xs : List ℕ) (k : ℕ)
      → ((list w t s start ks xs).answer ≡ Ok k)
      ↔ (Given (list_causes w t s start ks xs) 0
      × (length (walk_of s.n s.c (up_from start ks xs) w).found ≡ k))
