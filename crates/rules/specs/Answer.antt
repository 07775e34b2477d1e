-- What each call answers: the numbers of a call that is done, or why it is refused. src/lib.rt declares the refusals, an enum for
-- each set of them that a call can give.
use Rattle.std.specs.Prelude.{ℕ, Bool, Result, ⊤}
use Rattle.rules.specs.declared.LengthError.{LengthError}
use Rattle.rules.specs.declared.OpenError.{OpenError}
use Rattle.rules.specs.declared.InsertError.{InsertError}
use Rattle.rules.specs.declared.FindError.{FindError}
use Rattle.rules.specs.declared.Latest.{Latest}
use Rattle.rules.specs.declared.AnyError.{AnyError}
use Rattle.rules.specs.declared.ListError.{ListError}
use Rattle.rules.specs.declared.SyncError.{SyncError}

abbrev pub Formatted : Type 0
Formatted = Result ⊤ LengthError

abbrev pub Batched : Type 0
Batched = Result ⊤ LengthError

abbrev pub Opened : Type 0
Opened = Result ⊤ OpenError

abbrev pub Inserted : Type 0
Inserted = Result ⊤ InsertError

abbrev pub Withdrawn : Type 0
Withdrawn = Result ⊤ FindError

-- the record found
abbrev pub Looked : Type 0
Looked = Result ℕ FindError

-- the largest issue of a meter, with its record
abbrev pub Newest : Type 0
Newest = Result Latest FindError

abbrev pub newest_is : ℕ → ℕ → Latest
newest_is i x = record { issue = i; value = x }

-- whether a meter has a certificate
abbrev pub Any : Type 0
Any = Result Bool AnyError

-- how many places of the lists were filled
abbrev pub Listed : Type 0
Listed = Result ℕ ListError

abbrev pub Synced : Type 0
Synced = Result ⊤ SyncError
