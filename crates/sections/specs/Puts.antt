-- The file as it is written, certificate by certificate: three sections, each behind what stands in it.
use Rattle.std.specs.Prelude.{ℕ, ◌+◌, ◌*◌, ◌-◌, ◌/◌, ◌%◌, ◌≤◌, true, false, List, [], ◌∷◌, eqb}
use Rattle.fields.specs.Field.{put_at}
use Rattle.rules.specs.Test.{between}
use Rattle.rules.specs.Entry.{Cert}
use Rattle.exchange.specs.Item.{item_for, put_item}
use Rattle.exchange.specs.declared.Section.{Section}
use Rattle.counts.specs.Tally.{counted}
use Rattle.counts.specs.declared.Tally.{Tally}
use Rattle.sections.specs.declared.Starts.{Starts}

-- where the items of a file with so many of each begin, and where it ends
unfoldable pub starts_of : Tally → Starts
starts_of c = record {
  meters = 8 + 2 * c.models;
  certs = 12 + 2 * c.models + 6 * c.meters;
  end = 12 + 2 * c.models + 6 * c.meters + 10 * c.certs;
}

-- the three counts
unfoldable pub put_counts : Tally → List ℕ → List ℕ
put_counts c out =
    put_at (put_at (put_at out 0 4 c.models) (4 + 2 * c.models) 4 c.meters) (8 + 2 * c.models + 6 * c.meters) 4
    c.certs

-- a model, if this certificate is its first: c is the tally before it, d the one after it
unfoldable pub put_model : Tally → Tally → ℕ → List ℕ → List ℕ
put_model c d key out =
    elim (eqb d.models c.models) [
      | true ↦ out
      | false ↦ put_item Section.Models out (4 + 2 * c.models) (item_for 0 (key / 281474976710656) 0)
    ]

-- a meter, if this certificate is its first
unfoldable pub put_meter : Starts → Tally → Tally → ℕ → List ℕ → List ℕ
put_meter s c d key out =
    elim (eqb d.meters c.meters) [
      | true ↦ out
      | false ↦
          put_item Section.Meters out (s.meters + 6 * c.meters) (item_for (d.models - 1) (key / 65536 % 4294967296) 0)
    ]

unfoldable pub put_cert : Starts → Tally → Tally → Cert → List ℕ → List ℕ
put_cert s c d e out =
    put_item Section.Certificates out (s.certs + 10 * c.certs) (item_for (d.meters - 1) (e.key % 65536) e.value)

-- one certificate, with its model and its meter
unfoldable pub put_next : Starts → Tally → Cert → List ℕ → List ℕ
put_next s c e out =
    let d = counted c e.key in
    put_cert s c d e (put_meter s c d e.key (put_model c d e.key out))

-- all of them
pub record Put : Type 0 where
  pub tally : Tally
  pub out : List ℕ

abbrev pub putting : Tally → List ℕ → Put
putting c out = record { tally = c; out = out }

unfoldable pub put_all : Starts → Tally → List Cert → List ℕ → Put
put_all s c [] out = putting c out
put_all s c (x ∷ xs) out = put_all s (counted c x.key) xs (put_next s c x out)

-- one of them, if its key lies in a range
unfoldable pub put_from : Starts → ℕ → ℕ → Tally → Cert → List ℕ → Put
put_from s low high c e out =
    elim (between low high e.key)
    [ true ↦ putting (counted c e.key) (put_next s c e out) | false ↦ putting c out ]

-- so many of each lie within an output, and can be named
pub record Lies (s : Starts) (d : Tally) (long : ℕ) : Type 0 where
  pub models : 4 + 2 * d.models ≤ long
  pub meters : s.meters + 6 * d.meters ≤ long
  pub certs : s.certs + 10 * d.certs ≤ long
  pub names : d.models ≤ 65536
  pub counts : d.certs ≤ 4294967295
