-- What a caller that goes by the rules knows of a page, in the words of what these functions ask for.
-- Assumes nothing.
use mathlib.Core.Path.{◌≡◌}
use mathlib.Core.Bool.{true, false}
use mathlib.Core.Option.{some, none}
use Prim.Native.Nat.{ℕ, ◌≤◌}
use lib.ListN.{length}
use Rattle.rules.specs.Layout.{leaf_room}
use Rattle.rules.specs.Entry.{keys, find, rising}
use Rattle.rules.specs.Page.{View, is_leaf}
use Rattle.rules.specs.Insert.{full}
use Rattle.rules.proofs.Entries.Entries.{absent, mem-find}
use Rattle.rules.proofs.Entries.Halves.{room}
use Rattle.edit.specs.Takes.{TakesCert, HasCert}

-- a leaf that is not full and where nothing is found under a key takes it
pub takes_cert : (k : ℕ) (v : View) → is_leaf v ≡ true → full v ≡ false → find k v.certs ≡ none → TakesCert k v
takes_cert k v e f n = record { leaf = e; room = (room v f).0; absent = absent k v.certs n }

-- a sound leaf where a record is found under a key has it
pub has_cert : (k x : ℕ) (v : View) → is_leaf v ≡ true → length v.certs ≤ leaf_room → rising (keys v.certs) ≡ true
    → find k v.certs ≡ some x → HasCert k v
has_cert k x v e l r f = record { leaf = e; room = l; rises = r; present = mem-find k v.certs x f }
