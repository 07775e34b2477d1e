-- A file is accepted exactly if it is the file of some set of certificates, to its last byte (K9); and that set is the one it
-- tells of.
use Rattle.std.specs.Prelude.{ℕ, ◌+◌, ◌*◌, ◌≡◌, true, List, length, Ok}
use Rattle.fields.specs.Field.{Bytes}
use Rattle.rules.specs.Entry.{Cert}
use Rattle.exchange.specs.Written.{is_set, meters_of, models_of, file_of}
use Rattle.exchange.specs.Judged.{judged, checked}
use Rattle.exchange.specs.Told.{certs_in}

pub record Exact : Type 0 where
  -- whatever is written is accepted, and tells of what was written
  pub written : (cs : List Cert) → is_set cs ≡ true → judged (file_of cs) ≡ Ok tt
  pub told : (cs : List Cert) → is_set cs ≡ true → certs_in (file_of cs) ≡ cs
  -- whatever is accepted is the file of the set that it tells of
  pub set : (f : List ℕ) → Bytes f → judged f ≡ Ok tt → is_set (certs_in f) ≡ true
  pub file : (f : List ℕ) → Bytes f → judged f ≡ Ok tt → f ≡ file_of (certs_in f)
  -- the check's count is the number of certificates, and a count is said of accepted files only
  pub accepts : (f : List ℕ) (n : ℕ) → checked f ≡ Ok n → judged f ≡ Ok tt
  pub counts : (f : List ℕ) (n : ℕ) → checked f ≡ Ok n → n ≡ length (certs_in f)
  -- a file is bytes, and so many
  pub bytes : (cs : List Cert) → Bytes (file_of cs)
  pub size : (cs : List Cert) → length (file_of cs) ≡ 12 + 2 * length (models_of (meters_of cs)) + 6 * length (meters_of cs) + 10 * length cs
