-- Soundness by kind, on the bytes of a page: of a leaf the tests on children say nothing, of an inner page those on
-- certificates. Assumes nothing.
use Rattle.std.proofs.Common.{◌≡◌, ℕ, ◌<◌, ◌≤◌, Bool, true, false, ◌&&◌, eqb, leb, List, [], ◌∷◌, length, drop, sym, refl, ◌∙◌, arith, ne_eqb, eqb-true, le-leb, leb-true}
use mathlib.Core.Bool.{and-true, and-false, and_assoc}
use borrow.Author.Tests.{eqb-false, lt-leb}
use Rattle.fields.specs.Field.{le_at}
use Rattle.rules.specs.Layout.{leaf_header, inner_header, cert_size, child_size, leaf_kind, top_kind, leaf_room, inner_room}
use Rattle.rules.specs.Test.{between, every, all}
use Rattle.rules.specs.Entry.{Cert, Child, keys, rising}
use Rattle.rules.specs.Page.{Page, is_leaf, read_each, cert_in, child_in, page_in}
use Rattle.rules.specs.Sound.{starts_at, in_order, sound}
use Rattle.rules.proofs.Bytes.Each.{length-read_each}
use Rattle.rules.proofs.Entries.Tests.{between-of, between-below, between-above, every_true}
use Rattle.head.specs.declared.Head.{Head}
use Rattle.head.specs.Head.{head_in}
use Rattle.head.proofs.Chain.{every_fails, every-last}
use Rattle.head.proofs.Headers.{view-leaf, view-inner}
use Rattle.sound.specs.Pass.{certs_pass, children_pass}

swap : (a b c : Bool) → (a && (b && c)) ≡ (b && (a && c))
swap true b c = refl
swap false b c = sym (and-false b)

-- a leaf of certificates only, and an inner page of children only
leaf-tests : (n low high : ℕ) (xs : List Cert) (p : Page) → p.low ≡ low → p.high ≡ high → p.view ≡ record { kind = leaf_kind; certs = xs; children = [] }
    → sound n p ≡ every (leb (length xs) leaf_room ∷ leb low high ∷ certs_pass low high xs ∷ [])
unfolding sound every certs_pass in_order keys rising all is_leaf between
leaf-tests n low high xs p l h v = rw (v, l, h) (simp (and_assoc, and-true))

inner-tests : (n kind low high : ℕ) (xs : List Child) (p : Page) → (kind ≡ leaf_kind → ⊥) → p.low ≡ low → p.high ≡ high → p.view ≡ record { kind = kind; certs = []; children = xs }
    → sound n p ≡ every (between leaf_kind top_kind kind ∷ leb (length xs) inner_room ∷ leb low high ∷ children_pass n low high xs ∷ [])
unfolding sound every children_pass in_order keys rising all is_leaf
inner-tests n kind low high xs p d l h v =
    rw (v, l, h, ne_eqb kind leaf_kind d) (simp (and-true, swap (in_order low high (keys xs)) (starts_at low xs)))

-- the page's header is at hand
module _ (n : ℕ) (b : List ℕ) (h : Head) (e : h ≡ head_in b) where
  abbrev leaf_tests : List Bool
  leaf_tests =
      leb h.count leaf_room
      ∷ leb h.low h.high
      ∷ certs_pass h.low h.high (read_each cert_in cert_size h.count (drop leaf_header b))
      ∷ []

  abbrev inner_tests : List Bool
  inner_tests =
      between leaf_kind top_kind h.kind
      ∷ leb h.count inner_room
      ∷ leb h.low h.high
      ∷ children_pass n h.low h.high (read_each child_in child_size h.count (drop inner_header b))
      ∷ []

  sound-leaf : h.kind ≡ leaf_kind → every leaf_tests ≡ sound n (page_in b)
  unfolding page_in head_in
  sound-leaf k =
      let j : le_at b 0 2 ≡ leaf_kind = rw e at k in
      rw e
      (sym (leaf-tests n (le_at b 16 8) (le_at b 24 8) (read_each cert_in cert_size (le_at b 2 2) (drop leaf_header b)) (page_in b) refl refl (view-leaf b j ∙ rw j) ∙ rw length-read_each))

  sound-inner : (h.kind ≡ leaf_kind → ⊥) → every inner_tests ≡ sound n (page_in b)
  unfolding page_in head_in
  sound-inner k =
      let j : le_at b 0 2 ≡ leaf_kind → ⊥ = rw e at k in
      rw e
      (sym (inner-tests n (le_at b 0 2) (le_at b 16 8) (le_at b 24 8) (read_each child_in child_size (le_at b 2 2) (drop inner_header b)) (page_in b) j refl refl (view-inner b j) ∙ rw length-read_each))

  pub range_fails : h.high < h.low → false ≡ sound n (page_in b)
  range_fails l = go (eqb h.kind leaf_kind) refl
    where
      go : (t : Bool) → eqb h.kind leaf_kind ≡ t → false ≡ sound n (page_in b)
      go true q = sym (every_fails leaf_tests 1 (lt-leb h.low h.high l)) ∙ sound-leaf (eqb-true h.kind leaf_kind q)
      go false q =
          sym (every_fails inner_tests 2 (lt-leb h.low h.high l)) ∙ sound-inner (eqb-false h.kind leaf_kind q)

  pub leaf_overfull : h.kind ≡ leaf_kind → leaf_room < h.count → false ≡ sound n (page_in b)
  leaf_overfull k l = sym (every_fails leaf_tests 0 (lt-leb h.count leaf_room l)) ∙ sound-leaf k

  pub leaf_last : {g : Bool} → g ≡ certs_pass h.low h.high (read_each cert_in cert_size h.count (drop leaf_header b))
      → h.kind ≡ leaf_kind → h.count ≤ leaf_room → h.low ≤ h.high → g ≡ sound n (page_in b)
  leaf_last {g} q k l r =
      q
      ∙ sym
      (every-last (leb h.count leaf_room ∷ leb h.low h.high ∷ []) (certs_pass h.low h.high (read_each cert_in cert_size h.count (drop leaf_header b)))
      (le-leb h.count leaf_room l, (le-leb h.low h.high r, tt)))
      ∙ sound-leaf k

  module _ (k : h.kind ≡ leaf_kind → ⊥) where
    pub kind-zero : h.kind ≡ 0 → false ≡ sound n (page_in b)
    kind-zero z = sym (every_fails inner_tests 0 (between-below leaf_kind top_kind h.kind (omega arith))) ∙ sound-inner k

    pub kind_beyond : top_kind < h.kind → false ≡ sound n (page_in b)
    kind_beyond l = sym (every_fails inner_tests 0 (between-above leaf_kind top_kind h.kind l)) ∙ sound-inner k

    pub inner_overfull : inner_room < h.count → false ≡ sound n (page_in b)
    inner_overfull l = sym (every_fails inner_tests 1 (lt-leb h.count inner_room l)) ∙ sound-inner k

    pub inner_last : {g : Bool} → g ≡ children_pass n h.low h.high (read_each child_in child_size h.count (drop inner_header b))
        → (h.kind ≡ 0 → ⊥) → h.kind ≤ top_kind → h.count ≤ inner_room → h.low ≤ h.high → g ≡ sound n (page_in b)
    inner_last q z t l r =
        q
        ∙ sym
        (every-last (between leaf_kind top_kind h.kind ∷ leb h.count inner_room ∷ leb h.low h.high ∷ []) (children_pass n h.low h.high (read_each child_in child_size h.count (drop inner_header b)))
        (between-of leaf_kind top_kind h.kind (omega arith) t, (le-leb h.count inner_room l, (le-leb h.low h.high r, tt))))
        ∙ sound-inner k

    pub inner_room_lem : sound n (page_in b) ≡ true → h.count ≤ inner_room
    inner_room_lem s = leb-true h.count inner_room (every_true inner_tests (sound-inner k ∙ s)).1.0
