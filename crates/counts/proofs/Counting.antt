-- The loop of the walk that counts: the tally of what was seen, and what is left to walk. Assumes nothing.
use Prim.Native.Nat.{ℕ, ◌+◌, ◌*◌, ◌-◌, ◌≤◌, ◌<◌}
use native.Mathlib.Omega.{arith}
use mathlib.Core.Path.{◌≡◌, refl, ap, sym, subst, ◌∙◌}
use mathlib.Core.Bool.{Bool, true, false}
use mathlib.Core.List.{List, [], ◌++◌}
use lib.ListN.{length, take, drop, replicate}
use lib.Seq.{take_all}
use Rattle.std.specs.Prelude.{Option, Some, None, Result, Ok, Err, is_ok}
use Rattle.rules.specs.Layout.{page_size, leaf_header, cert_size, leaf_room, most_pages, last_key}
use Rattle.rules.specs.Entry.{Cert, cut}
use Rattle.rules.specs.Page.{read_each, cert_in}
use Rattle.rules.specs.Table.{page_at, read, fit0}
use Rattle.rules.specs.Place.{cut_view}
use Rattle.rules.specs.declared.Asked.{Asked}
use Rattle.rules.proofs.Entries.Entries.{cut_wider, length_cut}
use Rattle.rules.proofs.Bytes.Each.{length-read_each}
use Rattle.head.specs.Head.{head_in}
use Rattle.head.specs.declared.Head.{Head}
use Rattle.head.proofs.Headers.{head_in-page, certs-leaf}
use Rattle.rules.proofs.Entries.Tests.{not_both}
use Rattle.dry.specs.Walk.{sighted, asks, dry_over}
use Rattle.dry.specs.Count.{Leaf}
use Rattle.dry.specs.Cursor.{no_run, at_root, reaching, leaf_of, root_left, way_left}
use Rattle.dry.specs.declared.Damaged.{Damaged}
use Rattle.dry.specs.declared.Cursor.{Cursor}
use Rattle.dry.specs.declared.LeafAt.{LeafAt}
use Rattle.dry.proofs.Tallies.{leaf_room_lem}
use Rattle.dry.proofs.Going.{Going, Taken, leaf_view, root-comes, root-leads, full_sees, end_sees, damage_sees, leaf_less, leaf-below, leaf-inside, leaf_there, leaf-comes, leaf-leads}
use Rattle.counts.specs.Tally.{everything, no_tally, counted_all, Few, ahead_by, ahead_of}
use Rattle.counts.specs.declared.Tally.{Tally}
use Rattle.counts.proofs.Tallies.{few-none, few-all, certs-all, certs-found, all_append}

-- what code keeps of the walk, read
module _ (n : ℕ) (t : List ℕ) where
  pub ahead-whole : is_ok (ahead_of n t) ≡ (dry_over n everything t).whole
  unfolding ahead_of ahead_by
  ahead-whole = go (dry_over n everything t).whole refl
    where
      go : (b : Bool) → (dry_over n everything t).whole ≡ b → is_ok (ahead_of n t) ≡ (dry_over n everything t).whole
      go true h = rw (ahead_of, ahead_by, h)
      go false h = rw (ahead_of, ahead_by, h)

  same : (x y : Tally) → ◌≡◌ {A = Result Tally Tally} (Ok x) (Ok y) → x ≡ y
  same x y h = cc

  pub ahead-tally : (d : Tally) → Ok d ≡ ahead_of n t → d ≡ counted_all no_tally (dry_over n everything t).found
  unfolding ahead_of ahead_by
  ahead-tally d e = go (dry_over n everything t).whole refl
    where
      go : (b : Bool) → (dry_over n everything t).whole ≡ b → d ≡ counted_all no_tally (dry_over n everything t).found
      go true h = same d _ (e ∙ rw (ahead_of, ahead_by, h))
      go false h =
          let k : is_ok (ahead_of n t) ≡ false = rw (ahead_of, ahead_by, h) in
          absurd (not_both (sym (ap is_ok e)) k)

-- What was seen so far. Each step takes from what is left of the way and sees one leaf at the most, so there is always room.
pub record Counting (n : ℕ) (a : Asked) (t : List ℕ) (c : Cursor) (tally : Tally) (m : List Bool) : Type 0 where
  pub going : Going n a t c tally.certs m
  pub tally_is : tally ≡ counted_all no_tally going.found
  pub few : tally.certs + leaf_room * way_left c ≤ leaf_room * 4096

module _ {n : ℕ} {a : Asked} {t : List ℕ} (ea : a ≡ everything) where
  pub counting_begins : (c : Cursor) → c ≡ at_root → (z : Tally) → z ≡ no_tally → fit0 n t ≡ true → Counting n a t c z (replicate most_pages false)
  unfolding no_tally counted_all way_left root_left at_root no_run
  counting_begins c e z q fit = record {
    going = record { found = []; counts = sym (ap (λ (x : Tally). x.certs) q); comes = root-comes n t c e a; leads = root-leads n t c e fit };
    tally_is = q;
    few = subst (λ (x : Cursor). z.certs + leaf_room * way_left x ≤ leaf_room * 4096) (sym e) (rw q (omega arith));
  }

  module _ {c : Cursor} {tally : Tally} {m : List Bool} (x : Counting n a t c tally m) where
    abbrev seen : List Cert
    seen = x.going.found

    pub counting_few : Few tally
    counting_few = subst Few (sym x.tally_is) (few-all no_tally seen few-none)

    pub counting_room : tally.certs + leaf_room ≤ 4294967295
    counting_room = omega (arith, x.few)

    ends : (marks : List Bool) → sighted true seen marks ≡ dry_over n a t → Ok tally ≡ ahead_of n t
    unfolding ahead_of ahead_by
    ends marks p = ap Ok x.tally_is ∙ ap ahead_by (p ∙ ap (λ (b : Asked). dry_over n b t) ea)

    breaks : (marks : List Bool) → sighted false seen marks ≡ dry_over n a t → Err tally ≡ ahead_of n t
    unfolding ahead_of ahead_by
    breaks marks p = ap Err x.tally_is ∙ ap ahead_by (p ∙ ap (λ (b : Asked). dry_over n b t) ea)

    pub counting_full : a.room ≤ tally.certs → Ok tally ≡ ahead_of n t
    counting_full h = ends m (full_sees x.going h)

    module _ (long : length t ≡ n * page_size) (room : tally.certs < a.room) {s : Result (Option LeafAt) Damaged} {marks : List Bool}
        (is : reaching s marks ≡ leaf_of n a t c m) where
      abbrev y : Taken n a t c tally.certs m s marks
      y = record { long = long; room = room; going = x.going; is = is }

      pub counting_ends : s ≡ Ok None → Ok tally ≡ ahead_of n t
      counting_ends q = ends marks (end_sees y q)

      pub counting_breaks : (d : Damaged) → s ≡ Err d → Err tally ≡ ahead_of n t
      counting_breaks d q = breaks marks (damage_sees y d q)

      module _ (l : LeafAt) (q : s ≡ Ok (Some l)) where
        pub counting_passes : way_left l.after < way_left c
        counting_passes = leaf_less y l q

        pub counting_below : l.page < n
        counting_below = leaf-below y l q

        pub counting_inside : (l.page + 1) * page_size ≤ length t
        counting_inside = leaf-inside y l q

        module _ (h : Head) (f : h ≡ head_in (page_at t l.page)) where
          there : Leaf t l.page h
          there = leaf_there y l q h f

          pub counting-count : h.count ≤ leaf_room
          counting-count = leaf_room_lem t l.page h f there.within there.kind

          -- the leaf's certificates in its place's range
          abbrev shown : List Cert
          shown = cut l.place.low l.place.high (read_each cert_in cert_size h.count (drop leaf_header (page_at t l.page)))

          shown-few : length shown ≤ leaf_room
          shown-few =
              let xs = read_each cert_in cert_size h.count (drop leaf_header (page_at t l.page)) in
              omega (arith, length_cut l.place.low l.place.high xs, length-read_each cert_in cert_size h.count (drop leaf_header (page_at t l.page)), counting-count)

          certs-are : (read t l.page).view.certs ≡ read_each cert_in cert_size h.count (drop leaf_header (page_at t l.page))
          unfolding read
          certs-are = certs-leaf t l.page h (f ∙ head_in-page (page_at t l.page)) there.kind

          -- all keys are asked for, and there is room for them
          view-is : l.place.high ≤ last_key → leaf_view t a l seen ≡ shown
          unfolding asks cut_view everything
          view-is w =
              ap (λ (b : Asked). leaf_view t b l seen) ea
              ∙ ap (λ (xs : List Cert). take (4294967295 - length seen) (cut 0 last_key (cut l.place.low l.place.high xs))) certs-are
              ∙ ap (take (4294967295 - length seen)) (cut_wider l.place.low l.place.high 0 last_key _ (omega arith) w)
              ∙ take_all (4294967295 - length seen) shown (omega (arith, shown-few, x.going.counts, x.few))

          pub counting-leaf : l.place.high ≤ last_key → (d : Tally) → d ≡ counted_all tally shown → Counting n a t l.after d marks
          counting-leaf w d e = record {
            going = record {
              found = seen ++ leaf_view t a l seen;
              counts = sym (ap (λ (z : Tally). z.certs) now ∙ certs-found (seen ++ leaf_view t a l seen));
              comes = leaf-comes y l q;
              leads = leaf-leads y l q;
            };
            tally_is = now;
            few = omega (arith, ap (λ (z : Tally). z.certs) e, certs-all tally shown, shown-few, x.few, leaf_less y l q);
          }
            where
              now : d ≡ counted_all no_tally (seen ++ leaf_view t a l seen)
              now =
                  e
                  ∙ ap (λ (xs : List Cert). counted_all tally xs) (sym (view-is w))
                  ∙ ap (λ (z : Tally). counted_all z (leaf_view t a l seen)) x.tally_is
                  ∙ sym (all_append no_tally seen (leaf_view t a l seen))
