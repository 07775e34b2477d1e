-- What a listing finds is a set of certificates, in tables of any bytes: its keys rise and are keys, and there are few of
-- them. Leaf after leaf, each leaf's keys are above those found. Assumes nothing.
use Prim.Native.Nat.{ℕ, zero, suc, ◌+◌, ◌-◌, ◌^◌, ◌≤◌, ◌<◌}
use native.Mathlib.Omega.{arith}
use mathlib.Core.Path.{◌≡◌, refl, sym, ap, subst, ◌∙◌}
use mathlib.Core.Logic.{◌⊎◌, inl, inr}
use mathlib.Core.Bool.{Bool, true, false}
use mathlib.Core.List.{List, [], ◌∷◌, ◌++◌}
use mathlib.Core.Option.{Option, some, none}
use lib.Dec.{ltb}
use lib.ListN.{length, take, drop, take-append-drop}
use borrow.Author.Tests.{ltb-true, ltb-false, lt-ltb}
use Rattle.rules.specs.Layout.{last_key}
use Rattle.rules.specs.Test.{between, all, mem}
use Rattle.rules.specs.Key.{good_key}
use Rattle.rules.specs.Entry.{Cert, keys, cut, rising}
use Rattle.rules.specs.Walk.{Step, Way, way_of, Walked, unwalked, finds, stops, walk_of}
use Rattle.rules.specs.declared.Asked.{Asked}
use Rattle.rules.proofs.Entries.Tests as tests
use Rattle.rules.proofs.Entries.Tests.{every_of, between-low, between-high, all-mem}
use Rattle.rules.proofs.Entries.Rises.{rising-nil, rising-append, rising-take, keys-append, keys-take}
use Rattle.rules.proofs.Entries.Entries as entries
use Rattle.rules.proofs.Bytes.All.{All, nil, cons, all_append, all_take, all-cut}
use Rattle.rules.proofs.Bytes.EntryBytes.{WideCert}
use Rattle.rules.proofs.Bytes.Pages.{Wide}
use Rattle.rules.proofs.Bytes.Tables.{wide_read}
use Rattle.climbs.specs.Rest.{rest}
use Rattle.climbs.specs.After.{after}
use Rattle.climbs.specs.Ground.{Ground, Asks}
use Rattle.climbs.proofs.Ground.{way-ground, leaf-range, leaf-stood, no_way-empty}
use Rattle.climbs.proofs.Climb.{climb_leaf, climb_damaged}
use Rattle.climbs.proofs.Ends.{after_none, rest-begins, rest-full}
use Rattle.exchange.specs.Written.{good_cert, is_set}
use Rattle.counts.specs.Tally.{everything}
use Rattle.write.proofs.Extends.{walk-few}

-- ── Certificates below a key ────────────────────────────────────────────────────────────────────────────────────

abbrev has_key : Cert → Bool
has_key x = good_key x.key

record Listed (low : ℕ) (cs : List Cert) : Type 0 where
  rise : rising (keys cs) ≡ true
  below : (k : ℕ) → mem k (keys cs) ≡ true → k < low
  good : all has_key cs ≡ true
  wide : All WideCert cs

listed-none : (low : ℕ) → Listed low []
unfolding keys
listed-none low = record {
  rise = rising-nil;
  below = λ k m. absurd (tests.mem-nil k m);
  good = tests.all_nil has_key;
  wide = nil;
}

-- the certificates of a leaf
record Leafy (high : ℕ) (cs : List Cert) : Type 0 where
  rise : rising (keys cs) ≡ true
  within : (k : ℕ) → mem k (keys cs) ≡ true → k ≤ high
  good : all has_key cs ≡ true
  wide : All WideCert cs

module _ (low high end m : ℕ) (xs cs : List Cert) (f : Listed low xs) (g : Leafy end cs) where
  abbrev new : List Cert
  new = take m (cut low high cs)

  new-mem : (k : ℕ) → mem k (keys new) ≡ true → mem k (keys (cut low high cs)) ≡ true
  new-mem k h =
      let ks = keys (cut low high cs) in
      subst (λ (l : List ℕ). mem k l ≡ true) (take-append-drop m ks)
      (tests.mem-left k (take m ks) (drop m ks) (subst (λ (l : List ℕ). mem k l ≡ true) (keys-take m (cut low high cs)) h))

  new-from : (k : ℕ) → mem k (keys new) ≡ true → low ≤ k
  new-from k h =
      between-low low high k (all-mem (between low high) k (keys (cut low high cs)) (entries.cut-within low high cs) (new-mem k h))

  new-to : (k : ℕ) → mem k (keys new) ≡ true → k ≤ end
  new-to k h = g.within k (entries.mem-cut low high k cs (new-mem k h))

  listed_more : low ≤ end → Listed (end + 1) (xs ++ new)
  listed_more l = record {
    rise =
        ap rising (keys-append xs new)
        ∙ rising-append (keys xs) (keys new) f.rise
        (ap rising (keys-take m (cut low high cs)) ∙ rising-take m (keys (cut low high cs)) (entries.cut-rising low high cs g.rise))
        (λ i j p q. omega (arith, f.below i p, new-from j q));
    below = λ k h. under k (tests.mem-append_cases k (keys xs) (keys new) (subst (λ (ks : List ℕ). mem k ks ≡ true) (keys-append xs new) h));
    good = tests.all_append has_key xs new f.good (tests.all_take has_key m (cut low high cs) (entries.all-cut has_key low high cs g.good));
    wide = all_append f.wide (all_take m (all-cut low high g.wide));
  }
    where
      under : (k : ℕ) → (mem k (keys xs) ≡ true) ⊎ (mem k (keys new) ≡ true) → k < end + 1
      under k (inl h) = omega (arith, f.below k h, l)
      under k (inr h) = omega (arith, new-to k h)

-- ── Leaf after leaf ─────────────────────────────────────────────────────────────────────────────────────────────

abbrev Left : Asked → Type 0
Left a = (a.low ≤ a.high) ⊎ (a.room ≡ 0)

after-left : (end : ℕ) (a : Asked) → Left (after end a)
unfolding after
after-left end a = go (ltb end a.high) refl
  where
    go : (b : Bool) → ltb end a.high ≡ b → Left (after end a)
    go true h = inl (omega (arith, ltb-true end a.high h))
    go false h = inr (after_none end a (ltb-false end a.high h))

leaf-certs : {n c : ℕ} {t : List ℕ} → Ground n c t → (k : ℕ) → k ≤ last_key → (leaf : Step) (above : List Step)
    → (way_of n c k t).steps ≡ some (leaf ∷ above) → Leafy leaf.place.high leaf.page.view.certs
leaf-certs {n} {c} {t} g k h leaf above q =
    let s = leaf-stood g k h leaf above q in
    let d = s.fits.sound in
    let w : Wide leaf.page = subst Wide s.here (wide_read (way_of n c k t).table leaf.place.child (way-ground g k h).bytes) in
    record {
      rise = d.certs_rise;
      within = λ i m. between-high leaf.place.low leaf.place.high i (all-mem (between leaf.place.low leaf.place.high) i (keys leaf.page.view.certs) d.certs_within m);
      good = d.good;
      wide = w.view.certs;
    }

-- in order, and each a certificate
record Sorted (cs : List Cert) : Type 0 where
  rise : rising (keys cs) ≡ true
  good : all has_key cs ≡ true
  wide : All WideCert cs

sorted : {low : ℕ} {cs : List Cert} → Listed low cs → Sorted cs
sorted f = record { rise = f.rise; good = f.good; wide = f.wide }

rest_sorted : (turns n c : ℕ) (a : Asked) (w : Walked) → Ground n c w.table → w.whole ≡ true → a.high ≤ last_key → Left a
    → a.high + 1 ≤ a.low + turns → Listed a.low w.found → Sorted (rest n c a w).found
unfolding finds after stops
rest_sorted zero n c a w g x m l o f = subst (λ (v : Walked). Sorted v.found) (sym (rest-full n c a w (go l))) (sorted f)
  where
    go : Left a → a.room ≤ length w.found
    go (inl q) = absurd (omega arith)
    go (inr q) = omega arith
rest_sorted (suc turns) n c a w g x m l o f =
    turn (ltb (length w.found) a.room) refl (λ b v. rest_sorted turns n c b v)
  where
    way : Way
    way = way_of n c a.low w.table

    Rest : Type 0
    Rest = (b : Asked) (v : Walked) → Ground n c v.table → v.whole ≡ true → b.high ≤ last_key → Left b
        → b.high + 1 ≤ b.low + turns → Listed b.low v.found → Sorted (rest n c b v).found

    asks : ltb (length w.found) a.room ≡ true → Left a → Asks a w
    asks h (inl q) = record { low = q; high = m; whole = x; room = ltb-true (length w.found) a.room h }
    asks h (inr q) = absurd (let z = ltb-true (length w.found) a.room h in omega arith)

    climb : Asks a w → (i : Option (List Step)) → way.steps ≡ i → Rest → Sorted (rest n c a w).found
    climb y none q ih = subst (λ (v : Walked). Sorted v.found) (sym (climb_damaged g y q)) (sorted f)
    climb y (some []) q ih = absurd (no_way-empty g a.low (omega (arith, y.low)) q)
    climb y (some (leaf ∷ above)) q ih =
        let k : a.low ≤ last_key = omega (arith, y.low) in
        let z = leaf-range g a.low k leaf above q in
        subst (λ (v : Walked). Sorted v.found) (sym (climb_leaf g y leaf above q))
        (ih (after leaf.place.high a) _ (way-ground g a.low k) refl m (after-left leaf.place.high a) (omega (arith, z.1, o))
        (listed_more a.low a.high leaf.place.high (a.room - length w.found) w.found leaf.page.view.certs f
        (leaf-certs g a.low k leaf above q) z.1))

    turn : (b : Bool) → ltb (length w.found) a.room ≡ b → Rest → Sorted (rest n c a w).found
    turn false h ih = subst (λ (v : Walked). Sorted v.found) (sym (rest-full n c a w (ltb-false (length w.found) a.room h))) (sorted f)
    turn true h ih = climb (asks h l) way.steps refl ih

-- ── A set ───────────────────────────────────────────────────────────────────────────────────────────────────────

good-certs : (cs : List Cert) → all has_key cs ≡ true → All WideCert cs → all good_cert cs ≡ true
unfolding good_cert
good-certs [] g nil = tests.all_nil good_cert
good-certs (x ∷ xs) g (cons w ws) =
    tests.all_cons good_cert x xs
    (every_of (ltb x.key (2 ^ 64) ∷ good_key x.key ∷ ltb x.value (2 ^ 32) ∷ [])
    (lt-ltb x.key (2 ^ 64) (omega (arith, w.key)), (tests.all_head has_key x xs g, (lt-ltb x.value (2 ^ 32) (omega (arith, w.value)), tt))))
    (good-certs xs (tests.all_tail has_key x xs g) ws)

pub listing-set : {n c : ℕ} {t : List ℕ} → Ground n c t → is_set (walk_of n c everything t).found ≡ true
unfolding is_set everything
listing-set {n} {c} {t} g =
    let cs = (walk_of n c everything t).found in
    let f : Sorted cs = subst (λ (v : Walked). Sorted v.found) (sym (rest-begins n c everything t))
    (rest_sorted (last_key + 1) n c everything (unwalked t) g refl (omega arith) (inl (omega arith)) (omega arith) (listed-none 0)) in
    every_of (rising (keys cs) ∷ all good_cert cs ∷ ltb (length cs) (2 ^ 32) ∷ [])
    (f.rise, (good-certs cs f.good f.wide, (lt-ltb (length cs) (2 ^ 32) (omega (arith, walk-few n c everything t)), tt)))
