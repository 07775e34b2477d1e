-- Pages of a table: what stands on a page after it or another one was set, built or changed. Assumes nothing.
use Rattle.std.proofs.Common.{◌≡◌, ℕ, zero, suc, ◌+◌, ◌*◌, ◌<◌, ◌≤◌, Bool, true, false, ltb, ◌≢◌, List, [], ◌∷◌, ◌++◌, length, take, drop, sym, refl, ap, ◌∙◌, append_assoc, arith, length-drop, take-append-drop, length-take, take-take, drop-drop, ltb-false, ltb-true}
use lib.Seq.{sets, sets-eq, length-sets, take-append-le}
use Rattle.fields.specs.Field.{Bytes}
use Rattle.fields.proofs.Bytes.{bytes-append, bytes_take, bytes_drop}
use Rattle.fields.proofs.Run.{length_part, part_take, part_sets, part_sets_below, drop_sets}
use Rattle.rules.specs.Layout.{page_size, cert_size}
use Rattle.rules.specs.Page.{Page, page_in, page_bytes, build_bytes, change_bytes, shrink_bytes}
use Rattle.rules.specs.Table.{page_at, set_page, read, build, change, shrink}
use Rattle.rules.proofs.Bytes.Pages.{Wide, wide-page_in, length-build_bytes, length-change_bytes, length-shrink_bytes, bytes-build_bytes, bytes-change_bytes, bytes-shrink_bytes, page_in-build_bytes, page_in-change_bytes, page_in-shrink_bytes}

-- a table has page i; a page's bytes have room on a page
abbrev pub Has : List ℕ → ℕ → Type 0
Has t i = i * page_size + page_size ≤ length t

abbrev pub Room : Page → Type 0
Room p = length (page_bytes p) ≤ page_size

-- with one certificate more too
abbrev pub Spare : Page → Type 0
Spare p = length (page_bytes p) + cert_size ≤ page_size

pub has-page : (t : List ℕ) (n i : ℕ) → length t ≡ n * page_size → i < n → Has t i
has-page t n i e h = omega arith

-- ── A page set ──────────────────────────────────────────────────────────────────────────────────────────────────

pub length-page_at : (t : List ℕ) (i : ℕ) → Has t i → length (page_at t i) ≡ page_size
unfolding page_at
length-page_at t i h = length_part page_size (i * page_size) t h

pub bytes-page_at : (t : List ℕ) (i : ℕ) → Bytes t → Bytes (page_at t i)
unfolding page_at
bytes-page_at t i h = bytes_take page_size (drop (i * page_size) t) (bytes_drop (i * page_size) t h)

-- the page that stands there
pub set_page-page_at : (t : List ℕ) (i : ℕ) → set_page t i (page_at t i) ≡ t
unfolding set_page page_at
set_page-page_at t i = rw (take-append-drop page_size (drop (i * page_size) t)) (take-append-drop (i * page_size) t)

pub bytes-set_page : (t : List ℕ) (i : ℕ) (q : List ℕ) → Bytes t → Bytes q → Bytes (set_page t i q)
unfolding set_page
bytes-set_page t i q h k =
    bytes-append (take (i * page_size) t) (q ++ drop page_size (drop (i * page_size) t))
    (bytes_take (i * page_size) t h)
    (bytes-append q (drop page_size (drop (i * page_size) t)) k (bytes_drop page_size (drop (i * page_size) t) (bytes_drop (i * page_size) t h)))

module _ (t : List ℕ) (i : ℕ) (q : List ℕ) (h : Has t i) (e : length q ≡ page_size) where
  -- a page set is a run of stores
  set_page_sets : set_page t i q ≡ sets t (i * page_size) q
  unfolding set_page
  set_page_sets = sym (rw (sets-eq q t (i * page_size) (omega arith), append_assoc, e, drop-drop))

  pub length-set_page : length (set_page t i q) ≡ length t
  length-set_page = rw set_page_sets (length-sets t (i * page_size) q)

  pub page_at-set_page-same : page_at (set_page t i q) i ≡ q
  unfolding page_at
  page_at-set_page-same = rw set_page_sets (part_sets t q (i * page_size) page_size e h)

  pub page_at-set_page-other : (j : ℕ) → j ≢ i → page_at (set_page t i q) j ≡ page_at t j
  unfolding page_at
  page_at-set_page-other j d = rw set_page_sets (go (ltb j i) refl)
    where
      go : (b : Bool) → ltb j i ≡ b → take page_size (drop (j * page_size) (sets t (i * page_size) q)) ≡ take page_size (drop (j * page_size) t)
      go true f = part_sets_below q t (i * page_size) (j * page_size) page_size (omega (arith, ltb-true j i f))
      go false f = ap (take page_size) (drop_sets q t (i * page_size) (j * page_size) (omega (arith, ltb-false j i f)))

-- ── A table is determined by its pages ──────────────────────────────────────────────────────────────────────────

pub page_at-suc : (t : List ℕ) (i : ℕ) → page_at t (suc i) ≡ page_at (drop page_size t) i
unfolding page_at
page_at-suc t i = let e : suc i * page_size ≡ page_size + i * page_size = omega arith in rw (e, drop-drop)

pub pages_ext : (n : ℕ) (t u : List ℕ) → length t ≡ n * page_size → length u ≡ n * page_size → ((i : ℕ) → i < n → page_at t i ≡ page_at u i) → t ≡ u
unfolding page_at
pages_ext zero [] [] e f h = refl
pages_ext zero [] (y ∷ ys) e f h = absurd (omega arith)
pages_ext zero (x ∷ xs) u e f h = absurd (omega arith)
pages_ext (suc n) t u e f h =
    sym (take-append-drop page_size t)
    ∙ ap (λ (r : List ℕ). r ++ drop page_size t) (h zero (omega arith))
    ∙ ap (λ (r : List ℕ). take page_size u ++ r)
    (pages_ext n (drop page_size t) (drop page_size u) (rw length-drop (omega arith)) (rw length-drop (omega arith)) (λ i b. sym (page_at-suc t i) ∙ h (suc i) (omega arith) ∙ page_at-suc u i))
    ∙ take-append-drop page_size u

-- ── A page built, or changed where it stands ────────────────────────────────────────────────────────────────────

module _ (t : List ℕ) (i : ℕ) (p : Page) (h : Has t i) (r : Room p) where
  pub length-build : length (build t i p) ≡ length t
  unfolding build
  length-build = length-set_page t i (build_bytes p) h (length-build_bytes p r)

  pub page_at-build-same : page_at (build t i p) i ≡ build_bytes p
  unfolding build
  page_at-build-same = page_at-set_page-same t i (build_bytes p) h (length-build_bytes p r)

  pub page_at-build-other : (j : ℕ) → j ≢ i → page_at (build t i p) j ≡ page_at t j
  unfolding build
  page_at-build-other j d = page_at-set_page-other t i (build_bytes p) h (length-build_bytes p r) j d

  pub read-build-same : Wide p → read (build t i p) i ≡ p
  unfolding read
  read-build-same w = ap page_in page_at-build-same ∙ page_in-build_bytes w

  pub read-build-other : (j : ℕ) → j ≢ i → read (build t i p) j ≡ read t j
  unfolding read
  read-build-other j d = ap page_in (page_at-build-other j d)

  length-changed : length (change_bytes p (page_at t i)) ≡ page_size
  length-changed = length-change_bytes p (page_at t i) (rw (length-page_at t i h) r) ∙ length-page_at t i h

  pub length-change : length (change t i p) ≡ length t
  unfolding change
  length-change = length-set_page t i (change_bytes p (page_at t i)) h length-changed

  pub page_at-change-same : page_at (change t i p) i ≡ change_bytes p (page_at t i)
  unfolding change
  page_at-change-same = page_at-set_page-same t i (change_bytes p (page_at t i)) h length-changed

  pub page_at-change-other : (j : ℕ) → j ≢ i → page_at (change t i p) j ≡ page_at t j
  unfolding change
  page_at-change-other j d = page_at-set_page-other t i (change_bytes p (page_at t i)) h length-changed j d

  pub read-change-same : Wide p → read (change t i p) i ≡ p
  unfolding read
  read-change-same w = ap page_in page_at-change-same ∙ page_in-change_bytes w (page_at t i)

  pub read-change-other : (j : ℕ) → j ≢ i → read (change t i p) j ≡ read t j
  unfolding read
  read-change-other j d = ap page_in (page_at-change-other j d)

module _ (t : List ℕ) (i : ℕ) (p : Page) (h : Has t i) (r : Spare p) where
  length_shrunk : length (shrink_bytes p (page_at t i)) ≡ page_size
  length_shrunk = length-shrink_bytes p (page_at t i) (rw (length-page_at t i h) r) ∙ length-page_at t i h

  pub length-shrink : length (shrink t i p) ≡ length t
  unfolding shrink
  length-shrink = length-set_page t i (shrink_bytes p (page_at t i)) h length_shrunk

  pub page_at-shrink-same : page_at (shrink t i p) i ≡ shrink_bytes p (page_at t i)
  unfolding shrink
  page_at-shrink-same = page_at-set_page-same t i (shrink_bytes p (page_at t i)) h length_shrunk

  pub page_at-shrink-other : (j : ℕ) → j ≢ i → page_at (shrink t i p) j ≡ page_at t j
  unfolding shrink
  page_at-shrink-other j d = page_at-set_page-other t i (shrink_bytes p (page_at t i)) h length_shrunk j d

  pub read-shrink-same : Wide p → read (shrink t i p) i ≡ p
  unfolding read
  read-shrink-same w = ap page_in page_at-shrink-same ∙ page_in-shrink_bytes w (page_at t i)

  pub read-shrink-other : (j : ℕ) → j ≢ i → read (shrink t i p) j ≡ read t j
  unfolding read
  read-shrink-other j d = ap page_in (page_at-shrink-other j d)

-- the first n pages of a table, whatever other page is built, one beyond the table too
module _ (n : ℕ) (t : List ℕ) (i : ℕ) (p : Page) (h : n * page_size ≤ length t) (r : Room p) where
  front : n ≤ i → take (n * page_size) (build t i p) ≡ take (n * page_size) t
  unfolding build set_page
  front b =
      take-append-le (n * page_size) (take (i * page_size) t) (build_bytes p ++ drop page_size (drop (i * page_size) t))
      (rw length-take (omega arith))
      ∙ take-take (n * page_size) (i * page_size) t (omega arith)

  pub long-build : n * page_size ≤ length (build t i p)
  long-build = go (ltb i n) refl
    where
      go : (b : Bool) → ltb i n ≡ b → n * page_size ≤ length (build t i p)
      go true e = omega (arith, length-build t i p (omega (arith, ltb-true i n e)) r)
      go false e =
          omega (arith, length-take (n * page_size) (build t i p), ap length (front (omega (arith, ltb-false i n e))), length-take (n * page_size) t)

  pub page_at-build-apart : (j : ℕ) → j < n → j ≢ i → page_at (build t i p) j ≡ page_at t j
  unfolding page_at
  page_at-build-apart j b d = go (ltb i n) refl
    where
      go : (c : Bool) → ltb i n ≡ c → take page_size (drop (j * page_size) (build t i p)) ≡ take page_size (drop (j * page_size) t)
      go true e = page_at-build-other t i p (omega (arith, ltb-true i n e)) r j d
      go false e =
          sym (part_take page_size (j * page_size) (n * page_size) (build t i p) (omega arith))
          ∙ (ap (λ (u : List ℕ). take page_size (drop (j * page_size) u)) (front (omega (arith, ltb-false i n e)))
          ∙ part_take page_size (j * page_size) (n * page_size) t (omega arith))

pub bytes-build : (t : List ℕ) (i : ℕ) (p : Page) → Bytes t → Bytes (build t i p)
unfolding build
bytes-build t i p h = bytes-set_page t i (build_bytes p) h (bytes-build_bytes p)

pub bytes-change : (t : List ℕ) (i : ℕ) (p : Page) → Bytes t → Bytes (change t i p)
unfolding change
bytes-change t i p h = bytes-set_page t i (change_bytes p (page_at t i)) h (bytes-change_bytes p (page_at t i) (bytes-page_at t i h))

pub bytes-shrink : (t : List ℕ) (i : ℕ) (p : Page) → Bytes t → Bytes (shrink t i p)
unfolding shrink
bytes-shrink t i p h = bytes-set_page t i (shrink_bytes p (page_at t i)) h (bytes-shrink_bytes p (page_at t i) (bytes-page_at t i h))

-- what is read of a table of bytes fits
pub wide_read : (t : List ℕ) (i : ℕ) → Bytes t → Wide (read t i)
unfolding read
wide_read t i h = wide-page_in (page_at t i) (bytes-page_at t i h)
