-- What calls make of pages whose numbers fit their fields fits too: views cut to a range, halved, and with an entry put in;
-- pages mended and split. Assumes nothing.
use Rattle.std.proofs.Common.{◌≡◌, ℕ, zero, suc, ◌+◌, ◌^◌, ◌<◌, ◌≤◌, true, false, List, length, get_or, ap, arith, lit<, length-drop, length-take}
use Rattle.rules.specs.Layout.{leaf_half, inner_half, leaf_room, inner_room}
use Rattle.rules.specs.Entry.{Entry, Cert, Child, keys, cut}
use Rattle.rules.specs.Page.{View, Page, is_leaf, count}
use Rattle.rules.specs.Place.{cut_view, mended}
use Rattle.rules.specs.Insert.{lower_half, upper_half, divide, put_cert, put_child, new_child, lower_page, upper_page}
use Rattle.rules.specs.Withdraw.{without_cert}
use Rattle.rules.specs.declared.Place.{Place}
use Rattle.rules.proofs.Entries.Entries.{length_cut}
use Rattle.rules.proofs.Entries.Puts.{length-put-le}
use Rattle.rules.proofs.Entries.Withouts.{length-without-le}
use Rattle.rules.proofs.Entries.Views.{shaped-cut, shaped-lower, shaped-upper, shaped-put_cert, shaped-without_cert, shaped-put_child}
use Rattle.rules.proofs.Bytes.All.{All, nil, cons, all_take, all_drop, all-cut, all-put, all_without, all_append}
use Rattle.rules.proofs.Bytes.EntryBytes.{WideCert, WideChild}
use Rattle.rules.proofs.Bytes.Pages.{WideView, Wide, wide-fresh}

-- ── Views ───────────────────────────────────────────────────────────────────────────────────────────────────────

module _ {v : View} (w : WideView v) where
  pub wide-cut_view : (low high : ℕ) → WideView (cut_view low high v)
  unfolding cut_view count is_leaf cut
  wide-cut_view low high = record {
    shaped = shaped-cut low high v w.shaped;
    kind = w.kind;
    count = omega (arith, w.count, length_cut low high v.certs, length_cut low high v.children);
    certs = all-cut low high w.certs;
    children = all-cut low high w.children;
  }

  pub wide-lower_half : WideView (lower_half v)
  unfolding lower_half count is_leaf
  wide-lower_half = record {
    shaped = shaped-lower v w.shaped;
    kind = w.kind;
    count = omega (arith, w.count, length-take leaf_half v.certs, length-take inner_half v.children);
    certs = all_take leaf_half w.certs;
    children = all_take inner_half w.children;
  }

  pub wide-upper_half : WideView (upper_half v)
  unfolding upper_half count is_leaf
  wide-upper_half = record {
    shaped = shaped-upper v w.shaped;
    kind = w.kind;
    count = omega (arith, w.count, length-drop leaf_half v.certs, length-drop inner_half v.children);
    certs = all_drop leaf_half w.certs;
    children = all_drop inner_half w.children;
  }

  -- a certificate put into a leaf, a child into an inner page, that have room
  pub wide-put_cert : {x : Cert} → WideCert x → is_leaf v ≡ true → length v.certs ≤ leaf_room → WideView (put_cert x v)
  unfolding put_cert count is_leaf
  wide-put_cert {x} h e l = record {
    shaped = shaped-put_cert x v e w.shaped;
    kind = w.kind;
    count = omega (arith, length-put-le x v.certs, ap length (w.shaped.leaf e));
    certs = all-put x h w.certs;
    children = w.children;
  }

  -- a certificate taken out of a leaf
  pub wide-without_cert : (k : ℕ) → is_leaf v ≡ true → WideView (without_cert k v)
  unfolding without_cert count is_leaf
  wide-without_cert k e = record {
    shaped = shaped-without_cert k v e w.shaped;
    kind = w.kind;
    count = omega (arith, w.count, length-without-le k v.certs);
    certs = all_without k w.certs;
    children = w.children;
  }

  pub wide-put_child : {x : Child} → WideChild x → is_leaf v ≡ false → length v.children ≤ inner_room + 1 → WideView (put_child x v)
  unfolding put_child count is_leaf
  wide-put_child {x} h e l = record {
    shaped = shaped-put_child x v e w.shaped;
    kind = w.kind;
    count = omega (arith, length-put-le x v.children, ap length (w.shaped.inner e));
    certs = w.certs;
    children = all-put x h w.children;
  }

-- ── Pages ───────────────────────────────────────────────────────────────────────────────────────────────────────

-- the key at which a page is divided is one of its keys
keys-bound : {B : Type 0} {P : Entry B → Type 0} → ((x : Entry B) → P x → x.key < 256 ^ 8) → {xs : List (Entry B)} → All P xs → All (λ k. k < 256 ^ 8) (keys xs)
unfolding keys
keys-bound f nil = nil
keys-bound f (cons {x = x} h t) = cons {x = x.key} (f x h) (keys-bound f t)

at_bound : {ks : List ℕ} → All (λ k. k < 256 ^ 8) ks → (i : ℕ) → get_or ks i 0 < 256 ^ 8
at_bound nil i = lit< tt
at_bound (cons h t) zero = h
at_bound (cons h t) (suc i) = at_bound t i

pub divide-bound : {v : View} → WideView v → divide v < 256 ^ 8
unfolding divide
divide-bound {v} w =
    at_bound (all_append (keys-bound (λ x h. h.key) w.certs) (keys-bound (λ x h. h.key) w.children))
    (elim (is_leaf v) [ true ↦ leaf_half | false ↦ inner_half ])

pub wide-new_child : {c key child previous : ℕ} → c < 256 ^ 4 → key < 256 ^ 8 → child < 256 ^ 2 → previous < 256 ^ 2 → WideChild (new_child c key child previous)
unfolding new_child
wide-new_child hc hk hi hp = record { key = hk; child = hi; previous = hp; birth = hc }

module _ {c : ℕ} (hc : c < 256 ^ 4) {p : Page} (w : Wide p) where
  pub wide-mended : (e : Place) → e.birth < 256 ^ 4 → e.low < 256 ^ 8 → e.high < 256 ^ 8 → Wide (mended c e p)
  unfolding mended
  wide-mended e hb hl hh = wide-fresh (wide-cut_view w.view e.low e.high) hc hb hl hh

  pub wide-lower_page : Wide (lower_page c p)
  unfolding lower_page
  wide-lower_page = wide-fresh (wide-lower_half w.view) hc hc w.low (omega (arith, divide-bound w.view))

  pub wide-upper_page : Wide (upper_page c p)
  unfolding upper_page
  wide-upper_page = wide-fresh (wide-upper_half w.view) hc hc (divide-bound w.view) w.high
