-- What is read at one look is what the rules read of the whole page. Assumes nothing.
use Prim.Native.Nat.{ℕ}
use mathlib.Core.Path.{◌≡◌, sym, ap, ◌∙◌}
use mathlib.Core.List.{List, []}
use lib.ListN.{drop}
use borrow.Author.Tests.{eq-eqb, ne_eqb}
use Rattle.fields.specs.Field.{le_at}
use Rattle.rules.specs.Layout.{leaf_header, inner_header, cert_size, child_size, leaf_kind}
use Rattle.rules.specs.Page.{Page, count, read_each, cert_in, child_in, view_in, page_in, View}
use Rattle.rules.specs.Table.{page_at, read}
use Rattle.rules.proofs.Bytes.Pages.{view_in-leaf, view_in-inner, kind-view_in, count-view_in}
use Rattle.head.specs.declared.Head.{Head}
use Rattle.head.specs.Head.{head_in}

-- a page's header
unfoldable pub head_of : Page → Head
head_of p = record {
  kind = p.view.kind;
  count = count p.view;
  birth = p.birth;
  built = p.built;
  touched = p.touched;
  low = p.low;
  high = p.high;
}

module _ (b : List ℕ) where
  -- what a page shows, by its kind
  pub view-leaf : le_at b 0 2 ≡ leaf_kind
      → view_in b ≡ record { kind = le_at b 0 2; certs = read_each cert_in cert_size (le_at b 2 2) (drop leaf_header b); children = [] }
  view-leaf h = view_in-leaf b (eq-eqb (le_at b 0 2) leaf_kind h)

  pub view-inner : (le_at b 0 2 ≡ leaf_kind → ⊥)
      → view_in b ≡ record { kind = le_at b 0 2; certs = []; children = read_each child_in child_size (le_at b 2 2) (drop inner_header b) }
  view-inner h = view_in-inner b (ne_eqb (le_at b 0 2) leaf_kind h)

  pub kind-view : (view_in b).kind ≡ le_at b 0 2
  kind-view = kind-view_in b

  -- a leaf has no children and an inner page no certificates, so the field is the number of either
  pub count-view : count (view_in b) ≡ le_at b 2 2
  count-view = count-view_in b

  pub head_in-page : head_in b ≡ head_of (page_in b)
  unfolding head_in head_of page_in
  head_in-page = cc (kind-view, count-view)

-- a page's certificates, by the head that was read of it
module _ (t : List ℕ) (page : ℕ) (h : Head) (f : h ≡ head_of (read t page)) where
  pub kind-here : h.kind ≡ le_at (page_at t page) 0 2
  unfolding head_of read page_in
  kind-here = ap (λ (x : Head). x.kind) f ∙ kind-view (page_at t page)

  pub count-here : h.count ≡ le_at (page_at t page) 2 2
  unfolding head_of read page_in
  count-here = ap (λ (x : Head). x.count) f ∙ count-view (page_at t page)

  pub certs-leaf : h.kind ≡ leaf_kind
      → (read t page).view.certs ≡ read_each cert_in cert_size h.count (drop leaf_header (page_at t page))
  unfolding read page_in
  certs-leaf q =
      ap (λ (v : View). v.certs) (view-leaf (page_at t page) (sym kind-here ∙ q))
      ∙ ap (λ (n : ℕ). read_each cert_in cert_size n (drop leaf_header (page_at t page))) (sym count-here)

  pub certs-inner : (h.kind ≡ leaf_kind → ⊥) → (read t page).view.certs ≡ []
  unfolding read page_in
  certs-inner q = ap (λ (v : View). v.certs) (view-inner (page_at t page) (λ r. q (kind-here ∙ r)))
