-- What the rule of the call comes to.
use Rattle.std.specs.Prelude.{ℕ, ◌^◌, ◌≤◌, ◌<◌, ◌≡◌, true, false, List, length, take, Ok, Err}
use Rattle.fields.specs.Field.{Bytes}
use Rattle.rules.specs.Table.{fit0}
use Rattle.rules.specs.Walk.{walk_of}
use Rattle.rules.specs.Call.{lengths_for}
use Rattle.rules.specs.Reports.{list_reported}
use Rattle.rules.specs.List.{list}
use Rattle.rules.specs.declared.Session.{Session}
use Rattle.exchange.specs.Written.{file_of}
use Rattle.exchange.specs.Judged.{judged}
use Rattle.counts.specs.Tally.{everything}
use Rattle.write.specs.WriteFile.{Written, write_file, write_reported, written_no, written_length}
use Rattle.write.specs.declared.WriteError.{WriteError}

-- session and tables are as a listing leaves them, and what it reports is reported
pub record AsListed (w t : List ℕ) (s : Session) (out ks xs : List ℕ) : Type 0 where
  pub session : (write_file w t s out).session ≡ (list w t s 0 ks xs).session
  pub working : (write_file w t s out).working ≡ (list w t s 0 ks xs).working
  pub stable : (write_file w t s out).stable ≡ (list w t s 0 ks xs).stable
  pub report : (write_reported w t s out).report ≡ (list_reported w t s 0 ks xs).report

-- which answer is given: 1, 3, then 9
pub record Answers (w t : List ℕ) (s : Session) (out : List ℕ) : Type 0 where
  pub length_when : lengths_for s w t ≡ false → (write_file w t s out).answer ≡ Err WriteError.Length
  pub zero_when : lengths_for s w t ≡ true → fit0 s.n w ≡ false → (write_file w t s out).answer ≡ Err WriteError.Damaged
  pub damaged_when : lengths_for s w t ≡ true → fit0 s.n w ≡ true → (walk_of s.n s.c everything w).whole ≡ false
      → (write_file w t s out).answer ≡ Err WriteError.Damaged
  pub short_when : lengths_for s w t ≡ true → fit0 s.n w ≡ true → (walk_of s.n s.c everything w).whole ≡ true
      → length out < length (file_of (walk_of s.n s.c everything w).found) → (write_file w t s out).answer ≡ Err WriteError.Short
  pub done_when : lengths_for s w t ≡ true → fit0 s.n w ≡ true → (walk_of s.n s.c everything w).whole ≡ true
      → length (file_of (walk_of s.n s.c everything w).found) ≤ length out
      → (write_file w t s out).answer ≡ Ok (length (file_of (walk_of s.n s.c everything w).found))

pub record Promises : Type 0 where
  pub answers : (w t : List ℕ) (s : Session) (out : List ℕ) → Answers w t s out
  -- a listing from key 0 with room for all. No walk finds more than 37,240, so every such listing is one and the same; and
  -- in the histories of demand 3 the call is a listing.
  pub as_listed : (w t : List ℕ) (s : Session) (out ks xs : List ℕ) → 37240 < length ks → 37240 < length xs → AsListed w t s out ks xs
  -- whatever is written is accepted, from tables of any bytes: the output begins with it
  pub accepted : (w t : List ℕ) (s : Session) (out : List ℕ) (k : ℕ) → Bytes w → s.c < 256 ^ 4 → (write_file w t s out).answer ≡ Ok k
      → judged (take k (write_file w t s out).out) ≡ Ok tt
  -- the session comes back as it came
  pub session : (w t : List ℕ) (s : Session) (out : List ℕ) → (write_file w t s out).session ≡ s
  -- a refusal leaves the output untouched, and tells no length
  pub untouched : (w t : List ℕ) (s : Session) (out : List ℕ) → (written_no (write_file w t s out).answer ≡ 0 → ⊥) → (write_file w t s out).out ≡ out
  pub no_length : (a : Written) → (written_no a ≡ 0 → ⊥) → written_length a ≡ 0
