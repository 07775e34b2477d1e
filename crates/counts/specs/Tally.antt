-- Models, meters and certificates counted in key order, from certificate to certificate.
use Rattle.std.specs.Prelude.{ℕ, ◌+◌, ◌/◌, ◌≤◌, true, false, Result, Ok, Err, List, [], ◌∷◌, eqb}
use Rattle.rules.specs.Layout.{last_key}
use Rattle.rules.specs.Test.{between}
use Rattle.rules.specs.Entry.{Cert}
use Rattle.rules.specs.declared.Asked.{Asked}
use Rattle.dry.specs.Walk.{Sighted, dry_over}
use Rattle.counts.specs.declared.Tally.{Tally}

-- a listing from key 0 with room for all: no walk finds as many as a count of four bytes can say
unfoldable pub everything : Asked
everything = record { low = 0; high = last_key; room = 4294967295 }

-- before the first certificate; 0 is no key
unfoldable pub no_tally : Tally
no_tally = record { models = 0; meters = 0; certs = 0; last = 0 }

-- one more, unless both keys stand under the same
unfoldable pub one_more : ℕ → ℕ → ℕ → ℕ → ℕ
one_more by last key count = elim (eqb (last / by) (key / by)) [ true ↦ count | false ↦ count + 1 ]

-- one certificate more, by its key: the first of its model or meter counts that too
unfoldable pub counted : Tally → ℕ → Tally
counted c key = record {
  models = one_more 281474976710656 c.last key c.models;
  meters = one_more 65536 c.last key c.meters;
  certs = c.certs + 1;
  last = key;
}

-- the same, if its key lies in a range
unfoldable pub counted_in : ℕ → ℕ → Tally → ℕ → Tally
counted_in low high c key = elim (between low high key) [ true ↦ counted c key | false ↦ c ]

unfoldable pub counted_all : Tally → List Cert → Tally
counted_all c [] = c
counted_all c (x ∷ xs) = counted_all (counted c x.key) xs

-- no more models or meters than certificates
pub record Few (c : Tally) : Type 0 where
  pub models : c.models ≤ c.certs
  pub meters : c.meters ≤ c.certs

-- what code keeps of the dry walk over all keys
unfoldable pub ahead_by : Sighted → Result Tally Tally
ahead_by d =
    elim d.whole [ true ↦ Ok (counted_all no_tally d.found) | false ↦ Err (counted_all no_tally d.found) ]

unfoldable pub ahead_of : ℕ → List ℕ → Result Tally Tally
ahead_of n t = ahead_by (dry_over n everything t)
