-- Certificates counted one by one come to what the rules find on a page. Assumes nothing.
use Prim.Native.Nat.{ℕ, suc, min, max, ◌+◌, ◌*◌, ◌-◌, ◌≤◌, ◌<◌}
use native.Mathlib.Omega.{arith}
use native.Mathlib.Nat.{le-min, max-le, le-max_left, le-max_right, min-le_left, min-le_right, min_comm}
use mathlib.Core.Path.{◌≡◌, refl, ap, sym, ◌∙◌}
use mathlib.Core.Bool.{Bool, true, false, ◌&&◌}
use mathlib.Core.List.{List, [], ◌∷◌}
use lib.Dec.{leb, ltb}
use lib.ListN.{length, length-take, take, drop}
use lib.Seq.{take-nil}
use borrow.Author.Tests.{leb-true, le-leb, lt-leb, lt-ltb, le-ltb, ltb-true, ltb-false}
use Rattle.rules.specs.Layout.{leaf_header, cert_size, leaf_kind, leaf_room}
use Rattle.rules.specs.Test.{between}
use Rattle.rules.specs.Entry.{Cert, cut}
use Rattle.rules.specs.Page.{read_each, cert_in, page_in}
use Rattle.rules.specs.Table.{page_at, read}
use Rattle.rules.specs.Place.{cut_view}
use Rattle.rules.specs.declared.Asked.{Asked}
use Rattle.rules.specs.declared.Place.{Place}
use Rattle.rules.proofs.Entries.Tests.{fails, not_both, and_left, and_right, between-of, between-low, between-high}
use Rattle.rules.proofs.Bytes.Each.{length-read_each}
use Rattle.rules.proofs.Entries.Entries.{cut-nil, cut_in, cut_out, cut_all, cut_wider}
use Rattle.head.specs.Head.{cert_at, head_in}
use Rattle.head.specs.declared.Head.{Head}
use Rattle.head.proofs.Headers.{head_of, head_in-page, certs-leaf}
use Rattle.head.proofs.Left.{left, left-all, left-more, left-none}
use Rattle.dry.specs.Count.{tallied, tally, tally_all, lies_in, Within, tally_at}

-- ── The narrower range ──────────────────────────────────────────────────────────────────────────────────────────

-- a key in both ranges is in the narrower one, and no other is
module _ (l h low high k : ℕ) where
  in_both : between l h k ≡ true → between low high k ≡ true → between (max l low) (min h high) k ≡ true
  in_both p q =
      between-of (max l low) (min h high) k (max-le (between-low l h k p) (between-low low high k q))
      (le-min (between-high l h k p) (between-high low high k q))

  module _ (p : between (max l low) (min h high) k ≡ true) where
    from : max l low ≤ k
    from = between-low (max l low) (min h high) k p

    to : k ≤ min h high
    to = between-high (max l low) (min h high) k p

    in_first : between l h k ≡ true
    in_first = between-of l h k (omega (arith, from, le-max_left l low)) (omega (arith, to, min-le_left h high))

    in_second : between low high k ≡ true
    in_second = between-of low high k (omega (arith, from, le-max_right l low)) (omega (arith, to, min-le_right h high))

cut-both : (l h low high : ℕ) (xs : List Cert) → cut l h (cut low high xs) ≡ cut (max l low) (min h high) xs
cut-both l h low high [] = ap (cut l h) (cut-nil low high) ∙ cut-nil l h ∙ sym (cut-nil (max l low) (min h high))
cut-both l h low high (x ∷ xs) =
    go (between low high x.key) refl (between l h x.key) refl (cut-both l h low high xs)
  where
    go : (b : Bool) → between low high x.key ≡ b → (d : Bool) → between l h x.key ≡ d
        → cut l h (cut low high xs) ≡ cut (max l low) (min h high) xs
        → cut l h (cut low high (x ∷ xs)) ≡ cut (max l low) (min h high) (x ∷ xs)
    go false p d q ih =
        ap (cut l h) (cut_out low high x xs p)
        ∙ ih
        ∙ sym (cut_out (max l low) (min h high) x xs (fails _ (λ b. not_both (in_second l h low high x.key b) p)))
    go true p false q ih =
        ap (cut l h) (cut_in low high x xs p)
        ∙ cut_out l h x (cut low high xs) q
        ∙ ih
        ∙ sym (cut_out (max l low) (min h high) x xs (fails _ (λ b. not_both (in_first l h low high x.key b) q)))
    go true p true q ih =
        ap (cut l h) (cut_in low high x xs p)
        ∙ cut_in l h x (cut low high xs) q
        ∙ ap (λ (zs : List Cert). x ∷ zs) ih
        ∙ sym (cut_in (max l low) (min h high) x xs (in_both l h low high x.key q p))

-- ── One certificate ─────────────────────────────────────────────────────────────────────────────────────────────

module _ (low high room : ℕ) where
  module _ (key count : ℕ) where
    tallied_not : (between low high key && ltb count room) ≡ false → count ≡ tallied low high room key count
    unfolding tallied
    tallied_not h = rw (tallied, h)

    tallied-here : (between low high key && ltb count room) ≡ true → count + 1 ≡ tallied low high room key count
    unfolding tallied
    tallied-here h = rw (tallied, h)

    pub outside : between low high key ≡ false → count ≡ tallied low high room key count
    outside h = tallied_not (rw h)

    pub tallied-full : room ≤ count → count ≡ tallied low high room key count
    tallied-full h = tallied_not (go (between low high key))
      where
        go : (b : Bool) → (b && ltb count room) ≡ false
        go true = le-ltb count room h
        go false = refl

    pub tallied-more : between low high key ≡ true → count < room → count + 1 ≡ tallied low high room key count
    tallied-more h r = tallied-here (rw (h, lt-ltb count room r))

  -- ── A list of them ──────────────────────────────────────────────────────────────────────────────────────────────

  tally-nil : (count : ℕ) → tally low high room [] count ≡ count
  unfolding tally
  tally-nil count = rw (cut-nil low high, take-nil (room - count)) (omega arith)

  tally-cons : (x : Cert) (xs : List Cert) (count : ℕ)
      → tally low high room xs (tallied low high room x.key count) ≡ tally low high room (x ∷ xs) count
  unfolding tally
  tally-cons x xs count = go (between low high x.key) refl (ltb count room) refl
    where
      go : (b : Bool) → between low high x.key ≡ b → (d : Bool) → ltb count room ≡ d
          → tally low high room xs (tallied low high room x.key count) ≡ tally low high room (x ∷ xs) count
      go false p d q = rw (sym (outside x.key count p), cut_out low high x xs p)
      go true p false q =
          let f = ltb-false count room q in
          let z : room - count ≡ 0 = omega arith in
          rw (sym (tallied-full x.key count f), z)
      go true p true q =
          let f = ltb-true count room q in
          let z : room - count ≡ suc (room - (count + 1)) = omega arith in
          rw (sym (tallied-here x.key count (rw (p, q))), cut_in low high x xs p, z) (omega arith)

  -- ── The loop over a leaf ────────────────────────────────────────────────────────────────────────────────────────

  module _ (b : List ℕ) (entries : ℕ) where
    -- what is left to count
    abbrev pub tallies : ℕ → ℕ → ℕ
    tallies j count = tally low high room (left cert_in leaf_header cert_size b entries j) count

    pub tally-turn : (j key count found : ℕ) → j < entries → key ≡ (cert_at b j).key → found ≡ tallied low high room key count
        → tallies (j + 1) found ≡ tallies j count
    unfolding cert_at
    tally-turn j key count found h k f =
        rw (f, k, left-more cert_in leaf_header cert_size b entries j h)
        (tally-cons (cert_in (drop (leaf_header + cert_size * j) b)) (left cert_in leaf_header cert_size b entries (j + 1)) count)

    pub tally-end : (j count : ℕ) → entries ≤ j → tallies j count ≡ count
    tally-end j count h = rw (left-none cert_in leaf_header cert_size b entries j h) (tally-nil count)

    pub tally-start : (count : ℕ) → tallies 0 count ≡ tally low high room (read_each cert_in cert_size entries (drop leaf_header b)) count
    tally-start count = ap (λ (xs : List Cert). tally low high room xs count) (sym (left-all cert_in leaf_header cert_size b entries))

-- ── All of them ─────────────────────────────────────────────────────────────────────────────────────────────────

length-first : (k : ℕ) (xs : List Cert) → length (take k xs) ≡ min (length xs) k
length-first k xs = length-take k xs ∙ min_comm k (length xs)

module _ (h : Head) (low high : ℕ) where
  pub lies-below : h.low < low → false ≡ lies_in h low high
  unfolding lies_in
  lies-below p = rw (lies_in, lt-leb low h.low p)

  pub lies-up_to : low ≤ h.low → leb h.high high ≡ lies_in h low high
  unfolding lies_in
  lies-up_to p = rw (lies_in, le-leb low h.low p)

-- ── A page ──────────────────────────────────────────────────────────────────────────────────────────────────────

module _ (t : List ℕ) (page : ℕ) (h : Head) (f : h ≡ head_in (page_at t page)) where
  as_read : h ≡ head_of (read t page)
  unfolding read
  as_read = f ∙ head_in-page (page_at t page)

  length-leaf : h.kind ≡ leaf_kind → length (read t page).view.certs ≡ h.count
  length-leaf k = ap length (certs-leaf t page h as_read k) ∙ length-read_each cert_in cert_size h.count (drop leaf_header (page_at t page))

  pub leaf_room_lem : Within (read t page) → h.kind ≡ leaf_kind → h.count ≤ leaf_room
  leaf_room_lem w k = omega (arith, length-leaf k, w.room)

  head-low : h.low ≡ (read t page).low
  unfolding read page_in head_in
  head-low = ap (λ (x : Head). x.low) f

  head-high : h.high ≡ (read t page).high
  unfolding read page_in head_in
  head-high = ap (λ (x : Head). x.high) f

  module _ (a : Asked) (e : Place) (count : ℕ) where
    pub tally_leaf_lem : (low high : ℕ) → h.kind ≡ leaf_kind → low ≡ max a.low e.low → high ≡ min a.high e.high
        → tally low high a.room (read_each cert_in cert_size h.count (drop leaf_header (page_at t page))) count
        ≡ tally_at t page a e count
    unfolding tally_at cut_view tally
    tally_leaf_lem low high k p q =
        rw (p, q, sym (certs-leaf t page h as_read k), sym (cut-both a.low a.high e.low e.high (read t page).view.certs))

    -- a range that holds the page's cuts nothing
    module _ (low high : ℕ) (w : Within (read t page)) (i : lies_in h low high ≡ true) where
      from_low : low ≤ (read t page).low
      unfolding lies_in
      from_low = omega (arith, leb-true low h.low (and_left (leb low h.low) (leb h.high high) i), head-low)

      to_high : (read t page).high ≤ high
      unfolding lies_in
      to_high = omega (arith, leb-true h.high high (and_right (leb low h.low) (leb h.high high) i), head-high)

      cut-none_off : cut low high (read t page).view.certs ≡ (read t page).view.certs
      cut-none_off =
          let xs = (read t page).view.certs in
          let own = cut_all (read t page).low (read t page).high xs w.keys_within in
          ap (cut low high) (sym own) ∙ cut_wider (read t page).low (read t page).high low high xs from_low to_high ∙ own

      pub tally-whole : h.kind ≡ leaf_kind → low ≡ max a.low e.low → high ≡ min a.high e.high
          → tally_all h.count a.room count ≡ tally_at t page a e count
      unfolding tally_all tally
      tally-whole k p q =
          ap (λ (j : ℕ). count + min j (a.room - count)) (sym (length-leaf k))
          ∙ ap (λ (j : ℕ). count + j) (sym (length-first (a.room - count) (read t page).view.certs))
          ∙ ap (λ (xs : List Cert). count + length (take (a.room - count) xs)) (sym cut-none_off)
          ∙ ap (λ (xs : List Cert). tally low high a.room xs count) (certs-leaf t page h as_read k)
          ∙ tally_leaf_lem low high k p q
