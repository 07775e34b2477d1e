-- Newest goes from leaf to leaf: what is left to do is the rules' walk behind the last leaf, and the answer so far is that of
-- the certificates found so far; the report is that of the ways so far. Assumes nothing.
use Prim.Native.Nat.{ℕ, ◌+◌, ◌-◌, ◌≤◌, ◌<◌}
use native.Mathlib.Omega.{arith}
use mathlib.Core.Path.{◌≡◌, refl, sym, ap, ◌∙◌}
use mathlib.Core.List.{List, [], ◌++◌}
use lib.ListN.{length, length-append, take}
use lib.Seq.{take_all}
use Rattle.std.specs.Prelude.{Option, Some, None, Result, Ok, Err}
use Rattle.rules.specs.Layout.{leaf_room, last_key}
use Rattle.rules.specs.Entry.{Cert, keys, cut}
use Rattle.rules.specs.Page.{Page}
use Rattle.rules.specs.Table.{page_at, read}
use Rattle.rules.specs.Walk.{stops, walk_of}
use Rattle.rules.specs.Newest.{newest_in}
use Rattle.rules.specs.Answer.{Newest}
use Rattle.rules.specs.declared.FindError.{FindError}
use Rattle.rules.specs.declared.Report.{Report}
use Rattle.rules.proofs.Entries.Rises.{length-keys}
use Rattle.entries.specs.Spot.{spot_of}
use Rattle.entries.proofs.KeysIn.{spot-bound}
use Rattle.climbs.specs.Ground.{Ground}
use Rattle.leaves.specs.Walks.{walk_over, stepping, step_of, keys_left}
use Rattle.leaves.specs.declared.Leaf.{Leaf}
use Rattle.leaves.specs.declared.Leaves.{Leaves}
use Rattle.leaves.proofs.Loops.{Reached}
use Rattle.leaves.proofs.Walks.{Walking, more, walking-begins, walking-done, walking-damaged, walking-reached, walking-from, walking-on, walking-key, walking-less}
use Rattle.newest.specs.Newests.{range, last_in, answer_of, seeing, seen}
use Rattle.newest.proofs.Last.{newest-append, newest_after, last_before, last-cut}
use Rattle.newest.proofs.Leaf.{last-read}
use Rattle.newest.proofs.Few.{few-asked, few-within}

abbrev no_cert_lem : Cert
no_cert_lem = record { key = 0; value = 0 }

-- the walk, and the newest of the certificates found so far; of these are no more than the keys passed
pub record Going (n c low high : ℕ) (t₀ t : List ℕ) (newest : Newest) (w : Leaves) : Type 0 where
  pub found : List Cert
  pub walking : Walking n c (range low high) t₀ t found w
  pub answer : newest ≡ newest_in found
  pub few : (k : ℕ) → w.key ≡ Some k → (low ≤ k) × (length found ≤ k - low)
  pub short : high < low + last_key

some_same : (i k : ℕ) → Some i ≡ Some k → i ≡ k
some_same i k e = cc

pub goes_first : {n c low high : ℕ} {t : List ℕ} {w : Leaves} → Ground n c t → low ≤ high → high < low + last_key → high ≤ last_key
    → w ≡ walk_over low high → Going n c low high t t (Err FindError.Missing) w
unfolding newest_in
goes_first {low = low} {w = w} g h s m q = record {
  found = [];
  walking = walking-begins g h m w q;
  answer = refl;
  few = λ k e.
      let i : low ≡ k = some_same low k (sym (ap (λ (x : Leaves). x.key) q) ∙ e) in
      (omega (arith, i), omega arith);
  short = s;
}

module _ {n c low high : ℕ} {t₀ t : List ℕ} {newest : Newest} {w : Leaves} (x : Going n c low high t₀ t newest w)
    {u : List ℕ} {r : Option (Result Leaf Report)} {v : Leaves} (f : stepping u r v ≡ step_of n c t w) where
  room : (k : ℕ) → w.key ≡ Some k → length x.found < last_key
  room k q = omega (arith, (x.few k q).0, (x.few k q).1, x.walking.ahead k q, x.short)

  -- the range has ended
  pub ends : r ≡ None → seeing u (record { answer = newest; report = v.report }) ≡ seen (walk_of n c (range low high) t₀)
  unfolding answer_of
  ends e =
      ap (λ (a : Newest). seeing u (record { answer = a; report = v.report })) x.answer
      ∙ ap seen (walking-done x.walking f e)

  -- damage ends the walk
  pub ends-damaged : (y : Report) → r ≡ Some (Err y)
      → seeing u (record { answer = Err FindError.Damaged; report = v.report }) ≡ seen (walk_of n c (range low high) t₀)
  unfolding answer_of stops
  ends-damaged y e = ap seen (walking-damaged x.walking f room y e)

  -- ── A leaf ──────────────────────────────────────────────────────────────────────────────────────────────────────

  module _ (l : Leaf) (e : r ≡ Some (Ok l)) where
    pub reached : Reached n c l.from w.high w.report t u l
    reached = walking-reached x.walking f room l e

    key-is : w.key ≡ Some l.from
    key-is = walking-from x.walking f room l e

    abbrev certs : List Cert
    certs = reached.leaf.page.view.certs

    spot-within : l.spot ≤ length (read u l.child).view.certs
    spot-within =
        omega (arith, reached.spot, spot-bound w.high (keys certs), length-keys certs, ap (λ (p : Page). length p.view.certs) reached.here)

    pub spot-room : l.spot ≤ leaf_room
    spot-room = omega (arith, spot-within, reached.holds.room)

    -- there is room for all that the leaf has
    more-is : more (range low high) u l x.found ≡ cut l.from high certs
    more-is =
        ap (λ (p : Page). take (last_key - length x.found) (cut l.from high p.view.certs)) reached.here
        ∙ take_all (last_key - length x.found) (cut l.from high certs)
        (omega (arith, few-asked l.from high certs reached.fits.sound.certs_rise, (x.few l.from key-is).0, (x.few l.from key-is).1, x.walking.ahead l.from key-is, x.short))

    -- each turn leaves fewer keys
    pub turns_less : keys_left v < keys_left w
    turns_less = walking-less x.walking f room l e

    module _ {next : Newest} (q : next ≡ last_in l.from l.spot (page_at u l.child) newest) where
      answered : next ≡ newest_in (x.found ++ more (range low high) u l x.found)
      answered =
          q
          ∙ (last-read l.from l.spot u l.child no_cert_lem newest reached.holds spot-within
          ∙ (ap (λ (p : Page). last_before l.from l.spot p.view.certs no_cert_lem newest) reached.here
          ∙ (ap (λ (i : ℕ). last_before l.from i certs no_cert_lem newest) (reached.spot ∙ ap (λ (i : ℕ). spot_of i (keys certs)) x.walking.high)
          ∙ (sym (last-cut l.from high no_cert_lem certs reached.fits.sound.certs_rise newest)
          ∙ (ap (λ (a : Newest). newest_after a (cut l.from high certs)) x.answer
          ∙ (sym (newest-append x.found (cut l.from high certs)) ∙ ap (λ (xs : List Cert). newest_in (x.found ++ xs)) (sym more-is)))))))

      pub goes-next : Going n c low high t₀ u next v
      goes-next =
          let s = reached.fits.sound in
          record {
            found = x.found ++ more (range low high) u l x.found;
            walking = walking-on x.walking f room l e;
            answer = answered;
            few = λ k d.
                let i = walking-key x.walking f room l e k d in
                let m = few-within l.from high certs s.certs_rise reached.leaf.place.low reached.leaf.place.high s.certs_within in (
                  omega (arith, i, (x.few l.from key-is).0, reached.high, reached.up),
                  omega
                      (arith, i, m, ap length more-is, length-append x.found (more (range low high) u l x.found), (x.few l.from key-is).0, (x.few l.from key-is).1, reached.high, reached.up),
                );
            short = x.short;
          }
