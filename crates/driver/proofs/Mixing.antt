-- A crash, page by page: a mix with one mark more is the mix before it with one page more chosen. Assumes nothing.
use Prim.Native.Nat.{ℕ, ◌+◌, ◌*◌, ◌≤◌, ◌<◌}
use native.Mathlib.Omega.{arith}
use mathlib.Core.Path.{◌≡◌, refl, sym, ◌∙◌}
use mathlib.Core.Logic.{◌≢◌}
use mathlib.Core.Bool.{Bool, true, false}
use mathlib.Core.List.{List}
use lib.Dec.{eqb, ltb}
use lib.ListN.{length, take, get_or, length-take, get_or-eq_default}
use lib.Seq.{get_or-take}
use borrow.Author.Tests.{eq-eqb, ne_eqb, eqb-true, eqb-false, ltb-true, ltb-false}
use Rattle.rules.specs.Layout.{page_size}
use Rattle.rules.specs.Table.{page_at, set_page}
use Rattle.rules.specs.Crash.{mix, crashed}
use Rattle.rules.proofs.Bytes.Tables.{Has, has-page, length-page_at, length-set_page, set_page-page_at, page_at-set_page-same, page_at-set_page-other, pages_ext}
use Rattle.rules.proofs.Bytes.Mixes.{chosen, length-mix, page_at-mix}

module _ (marks : List Bool) (i : ℕ) where
  -- the marks so far have none for page i
  mark-none : get_or (take i marks) i false ≡ false
  mark-none = get_or-eq_default (take i marks) false (rw length-take (omega arith))

  mark-new : get_or (take (i + 1) marks) i false ≡ get_or marks i false
  mark-new = get_or-take (i + 1) marks i false (omega arith)

  mark-old : (j : ℕ) → j ≢ i → get_or (take (i + 1) marks) j false ≡ get_or (take i marks) j false
  mark-old j d = go (ltb j i) refl
    where
      go : (b : Bool) → ltb j i ≡ b → get_or (take (i + 1) marks) j false ≡ get_or (take i marks) j false
      go true f =
          let l : j < i = ltb-true j i f in
          get_or-take (i + 1) marks j false (omega arith) ∙ sym (get_or-take i marks j false l)
      go false f =
          let l : i ≤ j = ltb-false j i f in
          get_or-eq_default (take (i + 1) marks) false (rw length-take (omega arith))
          ∙ sym (get_or-eq_default (take i marks) false (rw length-take (omega arith)))

-- the table when the marks of the pages below i are done, and the page that the next mark chooses
abbrev so_far : List Bool → List ℕ → List ℕ → ℕ → List ℕ
so_far marks w s i = mix (take i marks) w s

abbrev next-page : List Bool → List ℕ → List ℕ → ℕ → List ℕ
next-page marks w s i = chosen (get_or marks i false) (page_at w i) (page_at (so_far marks w s i) i)

module _ (n : ℕ) (marks : List Bool) (w s : List ℕ) (i : ℕ)
    (hw : length w ≡ n * page_size) (hs : length s ≡ n * page_size) (h : i < n) where
  same_length : length w ≡ length s
  same_length = hw ∙ sym hs

  length_far : length (so_far marks w s i) ≡ n * page_size
  length_far = length-mix (take i marks) w s same_length ∙ hs

  has_far : Has (so_far marks w s i) i
  has_far = has-page (so_far marks w s i) n i length_far h

  length-page : length (next-page marks w s i) ≡ page_size
  length-page = go (get_or marks i false)
    where
      go : (b : Bool) → length (chosen b (page_at w i) (page_at (so_far marks w s i) i)) ≡ page_size
      go true = length-page_at w i (has-page w n i hw h)
      go false = length-page_at (so_far marks w s i) i has_far

  -- the page of the new mark, and every other page
  page-new : page_at (mix (take (i + 1) marks) w s) i ≡ next-page marks w s i
  page-new =
      let p = has-page s n i hs h in
      rw (page_at-mix (take (i + 1) marks) w s i same_length p, mark-new marks i, page_at-mix (take i marks) w s i same_length p, mark-none marks i)

  page-old : (j : ℕ) → j < n → j ≢ i → page_at (mix (take (i + 1) marks) w s) j ≡ page_at (so_far marks w s i) j
  page-old j g d =
      let p = has-page s n j hs g in
      rw (page_at-mix (take (i + 1) marks) w s j same_length p, mark-old marks i j d, page_at-mix (take i marks) w s j same_length p)

  mix-more : mix (take (i + 1) marks) w s ≡ set_page (so_far marks w s i) i (next-page marks w s i)
  mix-more =
      pages_ext n (mix (take (i + 1) marks) w s) (set_page (so_far marks w s i) i (next-page marks w s i))
      (length-mix (take (i + 1) marks) w s same_length ∙ hs)
      (length-set_page (so_far marks w s i) i (next-page marks w s i) has_far length-page ∙ length_far)
      (λ j g. go j g (eqb j i) refl)
    where
      go : (j : ℕ) → j < n → (b : Bool) → eqb j i ≡ b
          → page_at (mix (take (i + 1) marks) w s) j ≡ page_at (set_page (so_far marks w s i) i (next-page marks w s i)) j
      go j g true f =
          rw (eqb-true j i f)
          (page-new ∙ sym (page_at-set_page-same (so_far marks w s i) i (next-page marks w s i) has_far length-page))
      go j g false f =
          let d = eqb-false j i f in
          page-old j g d
          ∙ sym (page_at-set_page-other (so_far marks w s i) i (next-page marks w s i) has_far length-page j d)

  -- a page that is written, and one that is left
  pub mix-written : get_or marks i false ≡ true → set_page (so_far marks w s i) i (page_at w i) ≡ mix (take (i + 1) marks) w s
  mix-written e = sym (rw e at mix-more)

  pub mix-left : get_or marks i false ≡ false → so_far marks w s i ≡ mix (take (i + 1) marks) w s
  mix-left e = sym ((rw e at mix-more) ∙ set_page-page_at (so_far marks w s i) i)

module _ (marks : List Bool) (n : ℕ) (w s : List ℕ) where
  -- after a refused opening nothing is written
  pub crashed_not : n ≡ 0 → s ≡ crashed marks n w s
  unfolding crashed
  crashed_not e = sym (rw (eq-eqb n 0 e, crashed))

  pub crashed-mix : n ≢ 0 → mix marks w s ≡ crashed marks n w s
  unfolding crashed
  crashed-mix d = sym (rw (ne_eqb n 0 d, crashed))
