-- The two loops that climb from leaf to leaf: one fills the lists as it goes, one only mends. Assumes nothing.
use Prim.Native.Nat.{ℕ, ◌+◌, ◌-◌, ◌*◌, ◌≤◌, ◌<◌}
use native.Mathlib.Omega.{arith}
use mathlib.Core.Path.{◌≡◌, refl, sym, ap, ◌∙◌}
use mathlib.Core.Bool.{true}
use mathlib.Core.List.{List, [], ◌++◌}
use lib.ListN.{length, take}
use Rattle.std.specs.Prelude.{Option, Some, None, Result, Ok, Err}
use Rattle.rules.specs.Layout.{page_size, leaf_header, cert_size, leaf_kind, leaf_room, last_key}
use Rattle.rules.specs.Entry.{Cert, cut, rising}
use Rattle.rules.specs.Page.{Page, count}
use Rattle.rules.specs.Table.{page_at, read}
use Rattle.rules.specs.Walk.{Walked, way_of, way_report, stops, walk_of}
use Rattle.rules.specs.declared.Asked.{Asked}
use Rattle.rules.specs.declared.Report.{Report}
use Rattle.rules.proofs.Entries.Tests.{not_both}
use Rattle.rules.proofs.Entries.Views.{leaf_kind_lem}
use Rattle.head.specs.declared.Head.{Head}
use Rattle.head.proofs.Headers.{head_of}
use Rattle.entries.specs.Spot.{keys_in}
use Rattle.climbs.specs.Ground.{Ground}
use Rattle.leaves.specs.Cursors.{nexting, next_of}
use Rattle.leaves.specs.Walks.{walk_over, stepping, step_of, keys_left}
use Rattle.enter.specs.declared.Above.{Above}
use Rattle.leaves.specs.declared.Leaf.{Leaf}
use Rattle.leaves.specs.declared.Leaves.{Leaves}
use Rattle.leaves.proofs.Loops.{Reached}
use Rattle.leaves.proofs.Ranges.{walked_to, Climbing, climbing-room, climbing-ends}
use Rattle.leaves.proofs.Walks.{from, Walking, more, walking-begins, walking-full, walking-room, walking-done, walking-damaged, walking-reached, walking-on, walking-less}
use Rattle.fill.specs.Fills.{Lists, listing, lists_of, filling, filled_in, mending, mended_in, Roomy, HasRoom, certs_from, listed, asked, Sorted}
use Rattle.fill.proofs.Copies.{lists-none, lists-count, lists-more}
use Rattle.fill.proofs.Leaves as leaf

-- ── A leaf that was reached ─────────────────────────────────────────────────────────────────────────────────────

module _ {n c k upto : ℕ} {x : Report} {t u : List ℕ} {l : Leaf} (r : Reached n c k upto x t u l) where
  abbrev head : Head
  head = head_of (read u l.child)

  counted : l.count ≡ head.count
  unfolding head_of
  counted = r.count ∙ ap (λ (p : Page). count p.view) (sym r.here)

  kind : head.kind ≡ leaf_kind
  unfolding head_of
  kind = leaf_kind_lem (read u l.child).view r.holds.leaf

  sorted : Sorted (read u l.child).view.certs
  sorted = record { room = r.holds.room; rise = r.holds.rise }

  pub reached-inside : (l.child + 1) * page_size ≤ length u
  reached-inside = omega (arith, r.child_below, r.ground.long)

  pub reached-count : l.count ≤ leaf_room
  reached-count = omega (arith, counted, leaf.leaf_room_lem u l.child head refl kind sorted)

  pub reached-rises : rising (keys_in leaf_header cert_size l.count (page_at u l.child)) ≡ true
  reached-rises =
      ap (λ (j : ℕ). rising (keys_in leaf_header cert_size j (page_at u l.child))) counted ∙ leaf.leaf-rise u l.child head refl kind sorted

  pub reached-certs : certs_from (page_at u l.child) 0 l.count ≡ (read u l.child).view.certs
  reached-certs = ap (certs_from (page_at u l.child) 0) counted ∙ sym (leaf.leaf-certs u l.child head refl kind)

-- ── The loop that fills ─────────────────────────────────────────────────────────────────────────────────────────

pub roomy-from : {low : ℕ} {a : Asked} {us vs : List ℕ} → Roomy a us vs → Roomy (from low a) us vs
roomy-from r = record { keys = r.keys; records = r.records }

pub record Writing (n c : ℕ) (a : Asked) (o ks xs t : List ℕ) (w : Leaves) (filled : ℕ) (us vs : List ℕ) : Type 0 where
  pub found : List Cert
  pub walking : Walking n c a o t found w
  pub lists : listing filled us vs ≡ lists_of ks xs found
  pub roomy : Roomy a us vs

module _ {n c : ℕ} {a : Asked} {o ks xs : List ℕ} where
  pub writing_begins : Ground n c o → a.low ≤ a.high → a.high ≤ last_key → Roomy a ks xs → (w : Leaves) → w ≡ walk_over a.low a.high
      → Writing n c a o ks xs o w 0 ks xs
  writing_begins g l h r w q = record {
    found = [];
    walking = walking-begins g l h w q;
    lists = lists-none ks xs;
    roomy = r;
  }

  module _ {t : List ℕ} {w : Leaves} {filled : ℕ} {us vs : List ℕ} (y : Writing n c a o ks xs t w filled us vs) where
    count-is : filled ≡ length y.found
    count-is = lists-count ks xs y.found filled us vs y.lists

    written : (u : List ℕ) (r : Report) → walked_to u y.found r ≡ walk_of n c a o
        → filling u (record { count = filled; report = r }) us vs ≡ filled_in ks xs (walk_of n c a o)
    unfolding filled_in
    written u r q = ap (λ (v : Lists). record { table = u; lists = v; report = r }) y.lists ∙ ap (filled_in ks xs) q

    pub writing-full : a.room ≤ filled → filling t (record { count = filled; report = w.report }) us vs ≡ filled_in ks xs (walk_of n c a o)
    writing-full h = written t w.report (walking-full y.walking (omega (arith, h, count-is)))

    module _ {u : List ℕ} {r : Option (Result Leaf Report)} {v : Leaves} (f : stepping u r v ≡ step_of n c t w) where
      pub writing-done : r ≡ None → filling u (record { count = filled; report = v.report }) us vs ≡ filled_in ks xs (walk_of n c a o)
      writing-done e = written u v.report (walking-done y.walking f e)

      module _ (h : filled < a.room) where
        room : (k : ℕ) → w.key ≡ Some k → length y.found < a.room
        room k q = omega (arith, h, count-is)

        -- a walk that ends whole meets no damaged place
        pub writing-damaged : (walk_of n c a o).whole ≡ true → (x : Report) → r ≡ Some (Err x) → ⊥
        unfolding stops
        writing-damaged q x e = not_both q (sym (ap (λ (p : Walked). p.whole) (walking-damaged y.walking f room x e)))

        module _ (l : Leaf) (e : r ≡ Some (Ok l)) where
          pub writing-reached : Reached n c l.from w.high w.report t u l
          writing-reached = walking-reached y.walking f room l e

          pub writing-on : (k : ℕ) (ms ns : List ℕ)
              → listing k ms ns ≡ listed (asked (from l.from a) filled (certs_from (page_at u l.child) 0 l.count)) filled us vs
              → Roomy a ms ns → Writing n c a o ks xs u v k ms ns
          unfolding asked
          writing-on k ms ns g i =
              let same : asked (from l.from a) filled (certs_from (page_at u l.child) 0 l.count) ≡ more a u l y.found
              = ap (asked (from l.from a) filled) (reached-certs writing-reached)
              ∙ ap (λ (j : ℕ). take (a.room - j) (cut l.from a.high (read u l.child).view.certs)) count-is in
              record {
                found = y.found ++ more a u l y.found;
                walking = walking-on y.walking f room l e;
                lists = g
                    ∙ ap (λ (zs : List Cert). listed zs filled us vs) same
                    ∙ lists-more ks xs filled us vs y.found (more a u l y.found) y.lists;
                roomy = i;
              }

          pub writing_less : keys_left v < keys_left w
          writing_less = walking-less y.walking f room l e

-- ── The loop that only mends ────────────────────────────────────────────────────────────────────────────────────

pub record Mending (n c : ℕ) (a : Asked) (o t : List ℕ) (w : Leaves) : Type 0 where
  pub found : List Cert
  pub walking : Walking n c a o t found w

module _ {n c : ℕ} {a : Asked} {o : List ℕ} where
  pub mending-begins : Ground n c o → a.low ≤ a.high → a.high ≤ last_key → (w : Leaves) → w ≡ walk_over a.low a.high → Mending n c a o o w
  mending-begins g l h w q = record { found = []; walking = walking-begins g l h w q }

  module _ {t : List ℕ} {w : Leaves} (y : Mending n c a o t w) (has : HasRoom a (walk_of n c a o))
      {u : List ℕ} {r : Option (Result Leaf Report)} {v : Leaves} (f : stepping u r v ≡ step_of n c t w) where
    has_room_lem : (k : ℕ) → w.key ≡ Some k → length y.found < a.room
    has_room_lem k q = walking-room y.walking has

    pub mending-done : r ≡ None → mending u v.report ≡ mended_in (walk_of n c a o)
    mending-done e = ap mended_in (walking-done y.walking f e)

    pub mending-stops : (x : Report) → r ≡ Some (Err x) → mending u v.report ≡ mended_in (walk_of n c a o)
    unfolding stops
    mending-stops x e = ap mended_in (walking-damaged y.walking f has_room_lem x e)

    module _ (l : Leaf) (e : r ≡ Some (Ok l)) where
      pub mending_on : Mending n c a o u v
      mending_on = record { found = _; walking = walking-on y.walking f has_room_lem l e }

      pub mending_less : keys_left v < keys_left w
      mending_less = walking-less y.walking f has_room_lem l e

  -- the leaf at the end of the range is the last, whatever key the step to it was to look up to
  module _ {t : List ℕ} {found : List Cert} {low : ℕ} {x : Above} {z : Report} (y : Climbing n c a o t (from low a) found x z)
      (has : HasRoom a (walk_of n c a o)) (upto : ℕ) (u : List ℕ) (l : Leaf)
      (f : nexting u (Ok l) ≡ next_of low upto (way_of n c low t) (way_report n c low t z)) where
    pub mending-ends : a.high ≤ l.high → mending u l.report ≡ mended_in (walk_of n c a o)
    mending-ends h = ap mended_in (climbing-ends y (climbing-room y has) upto u l f h)
