-- The loop that fills where nothing is to be mended: the lists hold what the dry walk has seen so far. Assumes nothing.
use Prim.Native.Nat.{ℕ, ◌+◌, ◌-◌, ◌*◌, ◌≤◌, ◌<◌}
use native.Mathlib.Omega.{arith}
use mathlib.Core.Path.{◌≡◌, refl, sym, ap, ◌∙◌}
use mathlib.Core.Bool.{Bool, true, false}
use mathlib.Core.List.{List, [], ◌++◌}
use lib.ListN.{length, take, replicate}
use Rattle.std.specs.Prelude.{Option, Some, None, Ok}
use Rattle.rules.specs.Layout.{page_size, leaf_header, cert_size, leaf_kind, leaf_room, most_pages}
use Rattle.rules.specs.Entry.{Cert, cut, rising}
use Rattle.rules.specs.Table.{page_at, read}
use Rattle.rules.specs.declared.Asked.{Asked}
use Rattle.head.specs.Head.{head_in}
use Rattle.head.specs.declared.Head.{Head}
use Rattle.head.proofs.Headers.{head_of, head_in-page}
use Rattle.entries.specs.Spot.{keys_in}
use Rattle.seen.proofs.Looks.{head-kind}
use Rattle.dry.specs.Walk.{marked, Sighted, asks, dry_over}
use Rattle.dry.specs.Cursor.{at_root, reaching, leaf_of, way_left, Sure}
use Rattle.dry.specs.declared.Cursor.{Cursor}
use Rattle.dry.specs.declared.LeafAt.{LeafAt}
use Rattle.dry.proofs.Going.{Going, Taken, leaf_view, root-comes, root-leads, full_sees, end_sees, leaf_less, leaf-below, leaf-inside, leaf-shown, leaf-comes, leaf-leads}
use Rattle.dry.proofs.Sures.{leaf-fits, leaf-view}
use Rattle.fill.specs.Fills.{listing, lists_of, Roomy, Calm, certs_from, listed, asked, Sorted}
use Rattle.fill.proofs.Copies.{lists-none, lists-count, lists-more}
use Rattle.fill.proofs.Leaves as leaves

-- the lists as they came, what is in them now, and what is left to walk
pub record Filling (n : ℕ) (a : Asked) (t ks xs : List ℕ) (c : Cursor) (filled : ℕ) (m : List Bool) (us vs : List ℕ) : Type 0 where
  pub going : Going n a t c filled m
  pub lists : listing filled us vs ≡ lists_of ks xs going.found
  pub roomy : Roomy a us vs
  pub size : length m ≡ most_pages

module _ {n : ℕ} {a : Asked} {t ks xs : List ℕ} (calm : Calm n a t) where
  pub filling-begins : Roomy a ks xs → (c : Cursor) → c ≡ at_root → Filling n a t ks xs c 0 (replicate most_pages false) ks xs
  filling-begins r c e = record {
    going = record { found = []; counts = refl; comes = root-comes n t c e a; leads = root-leads n t c e calm.fit };
    lists = lists-none ks xs;
    roomy = r;
    size = refl;
  }

  module _ {c : Cursor} {filled : ℕ} {m : List Bool} {us vs : List ℕ} (f : Filling n a t ks xs c filled m us vs) where
    abbrev seen : List Cert
    seen = f.going.found

    marks-room : n ≤ length m
    marks-room = omega (arith, f.size, calm.most)

    -- the walk ahead is known to be calm
    pub filling_sure : filled < a.room → Sure n a t c m
    filling_sure h = record {
      marks = marks-room;
      found = seen;
      room = omega (arith, f.going.counts);
      whole = ap (λ (x : Sighted). x.whole) f.going.comes ∙ calm.whole;
      still = λ i. ap (λ (x : Sighted). marked x.mended i) f.going.comes ∙ calm.still i;
    }

    pub filling-full : a.room ≤ filled → listing filled us vs ≡ lists_of ks xs (dry_over n a t).found
    filling-full h = f.lists ∙ ap (λ (x : Sighted). lists_of ks xs x.found) (full_sees f.going h)

    module _ (room : filled < a.room) {s : Option LeafAt} {marks : List Bool} (is : reaching (Ok s) marks ≡ leaf_of n a t c m) where
      abbrev y : Taken n a t c filled m (Ok s) marks
      y = record { long = calm.long; room = room; going = f.going; is = is }

      pub filling-ends : s ≡ None → listing filled us vs ≡ lists_of ks xs (dry_over n a t).found
      filling-ends q = f.lists ∙ ap (λ (x : Sighted). lists_of ks xs x.found) (end_sees y (ap Ok q))

      -- ── A leaf ──────────────────────────────────────────────────────────────────────────────────────────────────

      module _ (l : LeafAt) (p : s ≡ Some l) where
        pub filling-passes : way_left l.after < way_left c
        filling-passes = leaf_less y l (ap Ok p)

        pub filling-below : l.page < n
        filling-below = leaf-below y l (ap Ok p)

        pub filling-inside : (l.page + 1) * page_size ≤ length t
        filling-inside = leaf-inside y l (ap Ok p)

        module _ (h : Head) (e : h ≡ head_in (page_at t l.page)) where
          here : h ≡ head_of (read t l.page)
          unfolding read
          here = e ∙ head_in-page (page_at t l.page)

          kind : h.kind ≡ leaf_kind
          kind = head-kind t l.page h e ∙ (leaf-shown y l (ap Ok p)).1.kind

          sorted : Sorted (read t l.page).view.certs
          sorted =
              let z = (leaf-fits y marks-room calm.still l (ap Ok p)).sound in
              record { room = z.certs_room; rise = z.certs_rise }

          pub filling-count : h.count ≤ leaf_room
          filling-count = leaves.leaf_room_lem t l.page h here kind sorted

          pub filling-rises : rising (keys_in leaf_header cert_size h.count (page_at t l.page)) ≡ true
          filling-rises = leaves.leaf-rise t l.page h here kind sorted

          shown : leaf_view t a l seen ≡ asked a filled (certs_from (page_at t l.page) 0 h.count)
          unfolding asks asked
          shown =
              leaf-view y marks-room calm.still l (ap Ok p) seen
              ∙ ap (λ (k : ℕ). take (a.room - k) (cut a.low a.high (read t l.page).view.certs)) f.going.counts
              ∙ ap (asked a filled) (leaves.leaf-certs t l.page h here kind)

          module _ (k : ℕ) (ms ns : List ℕ) (g : listing k ms ns ≡ listed (asked a filled (certs_from (page_at t l.page) 0 h.count)) filled us vs) where
            now : listing k ms ns ≡ lists_of ks xs (seen ++ leaf_view t a l seen)
            now =
                g
                ∙ ap (λ (ys : List Cert). listed ys filled us vs) (sym shown)
                ∙ lists-more ks xs filled us vs seen (leaf_view t a l seen) f.lists

            pub filling-leaf : Roomy a ms ns → length marks ≡ most_pages → Filling n a t ks xs l.after k marks ms ns
            filling-leaf roomy size = record {
              going = record {
                found = seen ++ leaf_view t a l seen;
                counts = sym (lists-count ks xs (seen ++ leaf_view t a l seen) k ms ns now);
                comes = leaf-comes y l (ap Ok p);
                leads = leaf-leads y l (ap Ok p);
              };
              lists = now;
              roomy = roomy;
              size = size;
            }
