-- Two changes in place, one after the other, are one: what the first wrote is read by the second, and written over.
-- Assumes nothing.
use mathlib.Core.Path.{◌≡◌, sym, ap, ◌∙◌}
use mathlib.Core.Bool.{false}
use mathlib.Core.List.{List, []}
use Prim.Native.Nat.{ℕ, ◌^◌, ◌≤◌, ◌<◌}
use native.Mathlib.Omega.{arith}
use lib.ListN.{length}
use mir.Syntax.{w16, w32, w64}
use mir.Val.{Fits}
use Rattle.fields.specs.Field.{Bytes}
use Rattle.rules.specs.Layout.{page_size}
use Rattle.rules.specs.Test.{mem}
use Rattle.rules.specs.Entry.{Child, keys, put}
use Rattle.rules.specs.Page.{Page, is_leaf, view_in, page_in, count, touch, page_bytes, change_bytes}
use Rattle.rules.specs.Insert.{new_child, put_child}
use Rattle.rules.proofs.Entries.Rises.{length-keys}
use Rattle.rules.proofs.Bytes.Over.{over-over}
use Rattle.rules.proofs.Bytes.All.{all-put}
use Rattle.rules.proofs.Bytes.EntryBytes.{WideChild}
use Rattle.rules.proofs.Entries.Views.{shaped-view_in}
use Rattle.rules.proofs.Bytes.Pages.{Wide, wide-page_in, page_in-change_bytes, length-inner_header, length-page_bytes, length-change_bytes}
use Rattle.edit.proofs.Put.{keys-present, length-put}
use Rattle.edit.specs.Takes.{TakesChild, HasChild}

pub wide-new_child : (c key child previous : ℕ) → Fits w32 c → Fits w64 key → Fits w16 child → Fits w16 previous → WideChild (new_child c key child previous)
unfolding new_child
wide-new_child c key child previous f g h k = record { key = omega arith; child = omega arith; previous = omega arith; birth = omega arith }

pub change-change : (p q : Page) (b : List ℕ) → length (page_bytes p) ≤ length (page_bytes q)
    → change_bytes q (change_bytes p b) ≡ change_bytes q b
unfolding change_bytes
change-change p q b h = over-over (page_bytes q) (page_bytes p) b h

module _ (b : List ℕ) (x : Child) (c : ℕ) (h : Bytes b) (l : length b ≡ page_size) (t : HasChild x.key (view_in b)) (w : WideChild x) (n : c < 256 ^ 4) where
  -- the page that the first change leaves
  abbrev first : Page
  first = touch c (put_child x (view_in b)) (page_in b)

  length-first : length (put x (view_in b).children) ≡ length (view_in b).children
  length-first =
      sym (length-keys (put x (view_in b).children))
      ∙ ap (λ (ks : List ℕ). length ks) (keys-present x (view_in b).children t.present t.rises)
      ∙ length-keys (view_in b).children

  wide-first : Wide first
  unfolding touch put_child is_leaf count page_in
  wide-first =
      let o = wide-page_in b h in
      let s = shaped-view_in b in
      let none : (view_in b).certs ≡ [] = s.inner t.inner in
      let few = t.room in
      record {
        view = record {
          shaped = record { leaf = λ e. absurd (let z : ◌≡◌ {A = ℕ} 0 1 = cc t.inner in omega arith); inner = λ e. none };
          kind = o.view.kind;
          count = rw (none, length-first) (omega arith);
          certs = o.view.certs;
          children = all-put x w o.view.children;
        };
        birth = o.birth;
        built = o.built;
        touched = n;
        low = o.low;
        high = o.high;
      }

  page-first : page_in (change_bytes first b) ≡ first
  page-first = page_in-change_bytes wide-first b

  view_first : view_in (change_bytes first b) ≡ put_child x (view_in b)
  unfolding page_in touch
  view_first = ap (λ (p : Page). p.view) page-first

  pub long-first : length (change_bytes first b) ≡ page_size
  unfolding touch put_child is_leaf
  long-first =
      let none : (view_in b).certs ≡ [] = (shaped-view_in b).inner t.inner in
      let few = t.room in
      let fit : length (page_bytes first) ≤ length b = rw (l, length-page_bytes first, length-inner_header first t.inner, none, length-first) (omega arith) in
      length-change_bytes first b fit ∙ l

  pub takes_first : (middle : ℕ) → mem middle (keys (view_in b).children) ≡ false → TakesChild middle (view_in (change_bytes first b))
  unfolding put_child is_leaf
  takes_first middle a = rw view_first (record {
    inner = t.inner;
    room = rw length-first t.room;
    absent = rw (keys-present x (view_in b).children t.present t.rises) a;
  })

  pub change_twice : (y : Child)
      → change_bytes (touch c (put_child y (view_in (change_bytes first b))) (page_in (change_bytes first b))) (change_bytes first b)
      ≡ change_bytes (touch c (put_child y (put_child x (view_in b))) (page_in b)) b
  unfolding touch put_child is_leaf
  change_twice y =
      let second : Page = touch c (put_child y (put_child x (view_in b))) (page_in b) in
      let more : length (page_bytes first) ≤ length (page_bytes second) =
      rw (length-page_bytes first, length-page_bytes second, length-inner_header first t.inner, length-inner_header second t.inner) (omega (arith, length-put y (put x (view_in b).children))) in
      rw (view_first, page-first) (change-change first second b more)
