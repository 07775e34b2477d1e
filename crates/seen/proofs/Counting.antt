-- Certificates counted one by one come to what a page has in a range. Assumes nothing.
use Rattle.std.proofs.Common.{◌≡◌, ℕ, ◌+◌, ◌*◌, ◌<◌, ◌≤◌, Bool, true, false, List, [], ◌∷◌, length, drop, sym, refl, ap, ◌∙◌, arith}
use Rattle.rules.specs.Layout.{leaf_header, cert_size, leaf_kind}
use Rattle.rules.specs.Test.{between}
use Rattle.rules.specs.Entry.{Cert, cut}
use Rattle.rules.specs.Marks.{wraps}
use Rattle.rules.specs.Page.{cert_in}
use Rattle.rules.specs.Table.{page_at, read}
use Rattle.rules.proofs.Bytes.Each.{length-read_each}
use Rattle.rules.proofs.Entries.Tests.{between-of, between-below, between-above}
use Rattle.rules.proofs.Entries.Entries.{cut-nil, cut_in, cut_out}
use Rattle.head.specs.Head.{cert_at, head_in}
use Rattle.head.specs.declared.Head.{Head}
use Rattle.head.proofs.Headers.{head_of, head_in-page, certs-leaf, certs-inner}
use Rattle.head.proofs.Left.{left, left-all, left-more, left-none}
use Rattle.seen.specs.Note.{count_on, count_if}

-- all of a list
pub count_all_lem : (xs : List Cert) (total : ℕ) → total < 4294967296 → count_on total xs ≡ wraps (total + length xs)
unfolding count_on
count_all_lem [] total h = omega arith
count_all_lem (x ∷ xs) total h = count_all_lem xs (wraps (total + 1)) (omega arith) ∙ omega arith

module _ (t : List ℕ) (page : ℕ) (h : Head) (f : h ≡ head_in (page_at t page)) (total : ℕ) where
  read_head : h ≡ head_of (read t page)
  unfolding read
  read_head = f ∙ head_in-page (page_at t page)

  pub all-leaf : total < 4294967296 → h.kind ≡ leaf_kind → wraps (total + h.count) ≡ count_on total (read t page).view.certs
  all-leaf l k =
      sym
      (count_all_lem (read t page).view.certs total l
      ∙ ap (λ (i : ℕ). wraps (total + i))
      (ap length (certs-leaf t page h read_head k) ∙ length-read_each cert_in cert_size h.count (drop leaf_header (page_at t page))))

  pub all-inner : (h.kind ≡ leaf_kind → ⊥) → total ≡ count_on total (read t page).view.certs
  unfolding count_on
  all-inner k = sym (ap (count_on total) (certs-inner t page h read_head k))

module _ (low high : ℕ) where
  module _ (key total : ℕ) where
    counts_not : between low high key ≡ false → total ≡ count_if low high key total
    unfolding count_if
    counts_not h = rw (count_if, h)

    counts-here : between low high key ≡ true → wraps (total + 1) ≡ count_if low high key total
    unfolding count_if
    counts-here h = rw (count_if, h)

    pub counts-below : key < low → total ≡ count_if low high key total
    counts-below h = counts_not (between-below low high key h)

    pub counts-above : high < key → total ≡ count_if low high key total
    counts-above h = counts_not (between-above low high key h)

    pub counts-within : low ≤ key → key ≤ high → wraps (total + 1) ≡ count_if low high key total
    counts-within l h = counts-here (between-of low high key l h)

  -- a list of them, cut to the range
  count-nil : (total : ℕ) → count_on total (cut low high []) ≡ total
  unfolding count_on
  count-nil total = ap (count_on total) (cut-nil low high)

  count-cons : (x : Cert) (xs : List Cert) (total : ℕ)
      → count_on (count_if low high x.key total) (cut low high xs) ≡ count_on total (cut low high (x ∷ xs))
  unfolding count_on
  count-cons x xs total = go (between low high x.key) refl
    where
      go : (b : Bool) → between low high x.key ≡ b
          → count_on (count_if low high x.key total) (cut low high xs) ≡ count_on total (cut low high (x ∷ xs))
      go true p = rw (sym (counts-here x.key total p), cut_in low high x xs p)
      go false p = rw (sym (counts_not x.key total p), cut_out low high x xs p)

  -- ── The loop over a leaf ────────────────────────────────────────────────────────────────────────────────────────

  module _ (b : List ℕ) (count : ℕ) where
    -- what is left to count, from an index on
    abbrev pub counting : ℕ → ℕ → ℕ
    counting j total = count_on total (cut low high (left cert_in leaf_header cert_size b count j))

    pub count_turn : (j key total sum : ℕ) → j < count → key ≡ (cert_at b j).key → sum ≡ count_if low high key total
        → counting (j + 1) sum ≡ counting j total
    unfolding cert_at
    count_turn j key total sum l k e =
        rw (e, k, left-more cert_in leaf_header cert_size b count j l)
        (count-cons (cert_in (drop (leaf_header + cert_size * j) b)) (left cert_in leaf_header cert_size b count (j + 1)) total)

    pub count-end : (j total : ℕ) → count ≤ j → counting j total ≡ total
    count-end j total l = rw (left-none cert_in leaf_header cert_size b count j l) (count-nil total)

  -- ── A page, by its header ───────────────────────────────────────────────────────────────────────────────────────

  module _ (t : List ℕ) (page : ℕ) (h : Head) (f : h ≡ head_in (page_at t page)) (total : ℕ) where
    pub count_leaf_lem : h.kind ≡ leaf_kind
        → counting (page_at t page) h.count 0 total ≡ count_on total (cut low high (read t page).view.certs)
    count_leaf_lem k =
        ap (λ (xs : List Cert). count_on total (cut low high xs))
        (sym (certs-leaf t page h (read_head t page h f total) k ∙ left-all cert_in leaf_header cert_size (page_at t page) h.count))

    pub count-inner : (h.kind ≡ leaf_kind → ⊥) → total ≡ count_on total (cut low high (read t page).view.certs)
    count-inner k =
        sym (ap (λ (xs : List Cert). count_on total (cut low high xs)) (certs-inner t page h (read_head t page h f total) k) ∙ count-nil total)
