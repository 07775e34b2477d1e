-- One certificate more in the file, and the loop over a leaf. Assumes nothing.
use Prim.Native.Nat.{ℕ, ◌+◌, ◌*◌, ◌-◌, ◌/◌, ◌%◌, ◌≤◌, ◌<◌}
use native.Mathlib.Omega.{arith}
use mathlib.Core.Path.{◌≡◌, refl, ap, sym, subst, ◌∙◌}
use mathlib.Core.Bool.{Bool, true, false}
use mathlib.Core.List.{List, [], ◌∷◌, ◌++◌}
use lib.ListN.{drop}
use borrow.Author.Tests.{eq-eqb, ne_eqb}
use Rattle.rules.specs.Layout.{leaf_header, cert_size}
use Rattle.rules.specs.Test.{between}
use Rattle.rules.specs.Entry.{Cert, cut}
use Rattle.rules.specs.Page.{read_each, cert_in}
use Rattle.rules.proofs.Entries.Entries.{cut-nil, cut_in, cut_out}
use Rattle.head.specs.Head.{cert_at}
use Rattle.head.proofs.Left.{left, left-all, left-more, left-none}
use Rattle.exchange.specs.Item.{item_for, put_item}
use Rattle.exchange.specs.declared.Section.{Section}
use Rattle.counts.specs.Tally.{counted, counted_in, counted_all, Few}
use Rattle.counts.specs.declared.Tally.{Tally}
use Rattle.counts.proofs.Tallies.{more-up, few-counted, all-grows, Grows, counts, counts-turn}
use Rattle.fields.specs.Field.{put_at}
use Rattle.sections.specs.Puts.{starts_of, put_counts, put_model, put_meter, put_next, put_from, Put, putting, put_all, Lies}
use Rattle.sections.specs.declared.Starts.{Starts}

-- ── A model, a meter ────────────────────────────────────────────────────────────────────────────────────────────

module _ (c d : Tally) (key : ℕ) (out : List ℕ) where
  pub model-same : d.models ≡ c.models → put_model c d key out ≡ out
  unfolding put_model
  model-same e = rw (put_model, eq-eqb d.models c.models e)

  pub model-new : (d.models ≡ c.models → ⊥)
      → put_model c d key out ≡ put_item Section.Models out (4 + 2 * c.models) (item_for 0 (key / 281474976710656) 0)
  unfolding put_model
  model-new e = rw (put_model, ne_eqb d.models c.models e)

  module _ (s : Starts) where
    pub meter-same : d.meters ≡ c.meters → put_meter s c d key out ≡ out
    unfolding put_meter
    meter-same e = rw (put_meter, eq-eqb d.meters c.meters e)

    pub meter-new : (d.meters ≡ c.meters → ⊥)
        → put_meter s c d key out ≡ put_item Section.Meters out (s.meters + 6 * c.meters) (item_for (d.models - 1) (key / 65536 % 4294967296) 0)
    unfolding put_meter
    meter-new e = rw (put_meter, ne_eqb d.meters c.meters e)

pub counted-up : (c : Tally) (key : ℕ) → Grows c (counted c key)
unfolding counted
counted-up c key = record {
  models = more-up 281474976710656 c.last key c.models;
  meters = more-up 65536 c.last key c.meters;
  certs = omega arith;
}

pub counted-certs : (c : Tally) (key : ℕ) → (counted c key).certs ≡ c.certs + 1
unfolding counted
counted-certs c key = refl

-- ── Within an output ────────────────────────────────────────────────────────────────────────────────────────────

-- fewer of each lie there too
pub lies_fewer : {s : Starts} {c d : Tally} {long : ℕ} → Grows c d → Lies s d long → Lies s c long
lies_fewer g l = record {
  models = omega (arith, g.models, l.models);
  meters = omega (arith, g.meters, l.meters);
  certs = omega (arith, g.certs, l.certs);
  names = omega (arith, g.models, l.names);
  counts = omega (arith, g.certs, l.counts);
}

-- what putting one certificate asks for
pub record Room (c d : Tally) (s : Starts) (long : ℕ) : Type 0 where
  pub models : c.models ≤ d.models
  pub meters : c.meters ≤ d.meters
  pub certs : c.certs + 1 ≤ d.certs
  pub meters_few : d.meters ≤ 4294967295
  pub names : d.models ≤ 65536
  pub models_lie : 4 + 2 * d.models ≤ long
  pub meters_lie : s.meters + 6 * d.meters ≤ long
  pub certs_lie : s.certs + 10 * d.certs ≤ long

pub next-room : {s : Starts} {long : ℕ} (c : Tally) (key : ℕ) → Few c → Lies s (counted c key) long → (d : Tally) → d ≡ counted c key → Room c d s long
next-room {s} {long} c key f l d e = subst (λ (x : Tally). Room c x s long) (sym e) here
  where
    here : Room c (counted c key) s long
    here =
        let g = counted-up c key in
        record {
          models = g.models;
          meters = g.meters;
          certs = omega (arith, counted-certs c key);
          meters_few = omega (arith, (few-counted c key f).meters, l.counts);
          names = l.names;
          models_lie = l.models;
          meters_lie = l.meters;
          certs_lie = l.certs;
        }

-- ── Those in a range ────────────────────────────────────────────────────────────────────────────────────────────

module _ (s : Starts) (low high : ℕ) where
  module _ (c : Tally) (e : Cert) (out : List ℕ) where
    pub from_not : between low high e.key ≡ false → putting c out ≡ put_from s low high c e out
    unfolding put_from
    from_not h = rw (put_from, h)

    pub from-here : between low high e.key ≡ true → putting (counted c e.key) (put_next s c e out) ≡ put_from s low high c e out
    unfolding put_from
    from-here h = rw (put_from, h)

    pub from-tally : (put_from s low high c e out).tally ≡ counted_in low high c e.key
    unfolding put_from counted_in
    from-tally = go (between low high e.key) refl
      where
        go : (b : Bool) → between low high e.key ≡ b → (put_from s low high c e out).tally ≡ counted_in low high c e.key
        go true h = rw (put_from, counted_in, h)
        go false h = rw (put_from, counted_in, h)

    put-cons : (xs : List Cert)
        → put_all s (put_from s low high c e out).tally (cut low high xs) (put_from s low high c e out).out ≡ put_all s c (cut low high (e ∷ xs)) out
    unfolding put_all put_from
    put-cons xs = go (between low high e.key) refl
      where
        go : (b : Bool) → between low high e.key ≡ b
            → put_all s (put_from s low high c e out).tally (cut low high xs) (put_from s low high c e out).out ≡ put_all s c (cut low high (e ∷ xs)) out
        go true h = rw (put_from, h, cut_in low high e xs h)
        go false h = rw (put_from, h, cut_out low high e xs h)

  -- the loop over a leaf
  module _ (b : List ℕ) (entries : ℕ) where
    -- what is left to put
    abbrev pub puts : ℕ → Tally → List ℕ → Put
    puts j c out = put_all s c (cut low high (left cert_in leaf_header cert_size b entries j)) out

    pub puts-turn : (j key value : ℕ) (c d : Tally) (out next : List ℕ) → j < entries → key ≡ (cert_at b j).key → value ≡ (cert_at b j).value
        → putting d next ≡ put_from s low high c (record { key = key; value = value }) out → puts (j + 1) d next ≡ puts j c out
    unfolding cert_at
    puts-turn j key value c d out next h k v f =
        let x = cert_in (drop (leaf_header + cert_size * j) b) in
        let same : ◌≡◌ {A = Cert} (record { key = key; value = value }) x = λ i. record { key = k i; value = v i } in
        let g : putting d next ≡ put_from s low high c x out = f ∙ ap (λ (e : Cert). put_from s low high c e out) same in
        ap (λ (p : Put). put_all s p.tally (cut low high (left cert_in leaf_header cert_size b entries (j + 1))) p.out) g
        ∙ put-cons c x out (left cert_in leaf_header cert_size b entries (j + 1))
        ∙ ap (λ (xs : List Cert). put_all s c (cut low high xs) out) (sym (left-more cert_in leaf_header cert_size b entries j h))

    pub puts-end : (j : ℕ) (c : Tally) (out : List ℕ) → entries ≤ j → puts j c out ≡ putting c out
    unfolding put_all
    puts-end j c out h = rw (left-none cert_in leaf_header cert_size b entries j h, cut-nil low high)

    pub puts-start : (c : Tally) (out : List ℕ) → puts 0 c out ≡ put_all s c (cut low high (read_each cert_in cert_size entries (drop leaf_header b))) out
    puts-start c out = ap (λ (xs : List Cert). put_all s c (cut low high xs) out) (sym (left-all cert_in leaf_header cert_size b entries))

    -- the tally of what is left comes to the same at each turn, so each lies within the output
    pub turn-lies : (j key : ℕ) (c : Tally) (long : ℕ) → j < entries → key ≡ (cert_at b j).key
        → Lies s (counts low high b entries j c) long → Lies s (counted_in low high c key) long
    turn-lies j key c long h k l =
        lies_fewer (all-grows (counted_in low high c key) (cut low high (left cert_in leaf_header cert_size b entries (j + 1))))
        (subst (λ (d : Tally). Lies s d long) (sym (counts-turn low high b entries j key c (counted_in low high c key) h k refl)) l)

    pub left-lies : (j : ℕ) (c : Tally) {long : ℕ} → Lies s (counts low high b entries j c) long → Lies s c long
    left-lies j c l = lies_fewer (all-grows c (cut low high (left cert_in leaf_header cert_size b entries j))) l

  pub turn-tally : (c d : Tally) (e : Cert) (out next : List ℕ) → putting d next ≡ put_from s low high c e out → d ≡ counted_in low high c e.key
  turn-tally c d e out next f = ap (λ (p : Put). p.tally) f ∙ from-tally c e out

-- ── A list of them ──────────────────────────────────────────────────────────────────────────────────────────────

pub put-append : (s : Starts) (c : Tally) (xs ys : List Cert) (out : List ℕ)
    → put_all s c (xs ++ ys) out ≡ put_all s (put_all s c xs out).tally ys (put_all s c xs out).out
unfolding put_all
put-append s c [] ys out = refl
put-append s c (x ∷ xs) ys out = put-append s (counted c x.key) xs ys (put_next s c x out)

pub put-tally : (s : Starts) (c : Tally) (xs : List Cert) (out : List ℕ) → (put_all s c xs out).tally ≡ counted_all c xs
unfolding put_all counted_all
put-tally s c [] out = refl
put-tally s c (x ∷ xs) out = put-tally s (counted c x.key) xs (put_next s c x out)

-- ── Where the sections begin ────────────────────────────────────────────────────────────────────────────────────

pub record At (s : Starts) (c : Tally) : Type 0 where
  pub meters : s.meters ≡ 8 + 2 * c.models
  pub certs : s.certs ≡ 12 + 2 * c.models + 6 * c.meters
  pub end : s.end ≡ 12 + 2 * c.models + 6 * c.meters + 10 * c.certs

pub starts_at_lem : (c : Tally) → At (starts_of c) c
unfolding starts_of
starts_at_lem c = record { meters = refl; certs = refl; end = refl }

pub starts-are : {s : Starts} {c : Tally} → s ≡ starts_of c → At s c
starts-are {s} {c} e = subst (λ (x : Starts). At x c) (sym e) (starts_at_lem c)

pub counts-are : (s : Starts) (c : Tally) (out : List ℕ) → At s c
    → put_at (put_at (put_at out 0 4 c.models) (s.meters - 4) 4 c.meters) (s.certs - 4) 4 c.certs ≡ put_counts c out
unfolding put_counts
counts-are s c out a =
    let m : s.meters - 4 ≡ 4 + 2 * c.models = omega (arith, a.meters) in
    let k : s.certs - 4 ≡ 8 + 2 * c.models + 6 * c.meters = omega (arith, a.certs) in
    rw (m, k)

pub starts-made : (c : Tally)
    → ◌≡◌ {A = Starts}
    (record {
      meters = 8 + 2 * c.models;
      certs = 8 + 2 * c.models + 4 + 6 * c.meters;
      end = 8 + 2 * c.models + 4 + 6 * c.meters + 10 * c.certs;
    }) (starts_of c)
unfolding starts_of
starts-made c =
    let k : 8 + 2 * c.models + 4 + 6 * c.meters ≡ 12 + 2 * c.models + 6 * c.meters = omega arith in
    rw k
