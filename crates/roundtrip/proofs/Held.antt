-- What a store holds is a set of certificates: its keys rise and are good, and its records fit their width. And a listing with
-- room for all finds just that.
-- Assumes nothing.
use Prim.Native.Nat.{ℕ, zero, suc, ◌-◌, ◌^◌}
use native.Mathlib.Omega.{arith}
use mathlib.Core.Path.{◌≡◌, refl, sym, ap, ◌∙◌, subst}
use mathlib.Core.Bool.{true}
use mathlib.Core.List.{List, [], ◌∷◌}
use mathlib.Core.Option.{Option, some, none}
use borrow.Author.Tests.{lt-ltb}
use lib.Dec.{ltb}
use lib.ListN.{length, take}
use lib.Seq.{take_all}
use Rattle.fields.specs.Field.{Bytes}
use Rattle.rules.specs.Layout.{top_kind, last_key}
use Rattle.rules.specs.Test.{all, between}
use Rattle.rules.specs.Key.{good_key}
use Rattle.rules.specs.Entry.{Cert, keys, cut, rising}
use Rattle.rules.specs.Page.{View}
use Rattle.rules.specs.Place.{root_place, kids, show}
use Rattle.rules.specs.Tree.{Tree, broken, join, here, tree_each, tree, tree_of}
use Rattle.rules.specs.declared.Place.{Place}
use Rattle.rules.proofs.Entries.Tests.{every_of, all_nil, all_cons, all_head, all_tail, between-high}
use Rattle.rules.proofs.Entries.Entries.{cut_all}
use Rattle.rules.proofs.Entries.Places.{Shown, fitting, lost, show-some}
use Rattle.rules.proofs.Bytes.All.{All, nil, cons, all_append}
use Rattle.rules.proofs.Bytes.EntryBytes.{WideCert}
use Rattle.rules.proofs.Bytes.Tables.{wide_read}
use Rattle.rules.proofs.Bytes.Widths.{wide-cut_view}
use Rattle.rules.proofs.Demand3.Epochs.Opens.{tree-shown}
use Rattle.rules.proofs.Demand3.Reads.TreeCerts.{each_nil, each_cons, all_ordered, all-good}
use Rattle.rules.proofs.Demand3.Reads.Totals.{few-certs}
use Rattle.exchange.specs.Written.{good_cert, is_set}
use Rattle.reading.specs.Agreeing.{held}
use Rattle.reading.proofs.Agrees.{passing}
use Rattle.reading.proofs.Gathers.{walk_gathers}
use Rattle.roundtrip.specs.RoundTrip.{everything_in, ListingFinds, HeldIsSet}

-- ── Widths, in any table ────────────────────────────────────────────────────────────────────────────────────────

module _ (n : ℕ) (t : List ℕ) (b : Bytes t) where
  shown-wide : (e : Place) (v : View) → Shown n t e v → All WideCert v.certs
  shown-wide e v (fitting f w) = subst (λ (x : View). All WideCert x.certs) (sym w) (wide_read t e.child b).view.certs
  shown-wide e v (lost p s w) =
      subst (λ (x : View). All WideCert x.certs) (sym w) (wide-cut_view (wide_read t e.previous b).view e.low e.high).certs

  each_wide : (f : Place → Tree) → ((e : Place) → All WideCert (f e).certs) → (es : List Place) → All WideCert (tree_each f es).certs
  each_wide f h [] = subst (All WideCert) (sym (each_nil f)) nil
  each_wide f h (e ∷ es) = subst (All WideCert) (sym (each_cons f e es)) (all_append (h e) (each_wide f h es))

  tree-wide : (level : ℕ) (e : Place) → All WideCert (tree level n t e).certs
  unfolding tree broken join here
  tree-wide zero e = nil
  tree-wide (suc level) e = go (show n t e) refl (tree-wide level)
    where
      go : (o : Option View) → show n t e ≡ o → ((d : Place) → All WideCert (tree level n t d).certs) → All WideCert (tree (suc level) n t e).certs
      go none p ih = rw (tree, p) nil
      go (some v) p ih =
          subst (λ (y : Tree). All WideCert y.certs) (sym (tree-shown level n t e v p))
          (all_append (shown-wide e v (show-some n t e v p)) (each_wide (tree level n t) ih (kids e v)))

-- ── A set ───────────────────────────────────────────────────────────────────────────────────────────────────────

good_each : (cs : List Cert) → all (between 0 last_key) (keys cs) ≡ true → all (λ (x : Cert). good_key x.key) cs ≡ true → All WideCert cs
    → all good_cert cs ≡ true
unfolding keys good_cert
good_each [] r g nil = all_nil good_cert
good_each (c ∷ cs) r g (cons w ws) =
    all_cons good_cert c cs
    (every_of (ltb c.key (2 ^ 64) ∷ good_key c.key ∷ ltb c.value (2 ^ 32) ∷ []) (
      lt-ltb c.key (2 ^ 64) (omega (arith, between-high 0 last_key c.key (all_head (between 0 last_key) c.key (keys cs) r))),
      (all_head (λ (x : Cert). good_key x.key) c cs g, (lt-ltb c.value (2 ^ 32) (omega (arith, w.value)), tt)),
    ))
    (good_each cs (all_tail (between 0 last_key) c.key (keys cs) r) (all_tail (λ (x : Cert). good_key x.key) c cs g) ws)

pub held-set : HeldIsSet
unfolding HeldIsSet held is_set tree_of
held-set w t s p =
    let g = (passing p).good in
    let cs = (tree_of s.n w).certs in
    let o = all_ordered g in
    every_of (rising (keys cs) ∷ all good_cert cs ∷ ltb (length cs) (2 ^ 32) ∷ []) (
      o.rise,
      (
        good_each cs o.within (all-good g) (tree-wide s.n w p.bytes top_kind (root_place w)),
        (lt-ltb (length cs) (2 ^ 32) (omega (arith, few-certs s.n w)), tt),
      ),
    )

-- ── A listing with room for all ─────────────────────────────────────────────────────────────────────────────────

pub listing-finds : ListingFinds
unfolding ListingFinds held
listing-finds w t s p room h =
    let a = everything_in room in
    let cs = (tree_of s.n w).certs in
    let g = walk_gathers (passing p) a in
    let r : room - 0 ≡ room = omega arith in
    record {
      whole = g.whole;
      all =
          g.found
          ∙ (ap (λ (k : ℕ). take k (cut 0 last_key cs)) r
          ∙ (ap (take room) (cut_all 0 last_key cs (all_ordered (passing p).good).within) ∙ take_all room cs (omega (arith, h, few-certs s.n w))));
    }
