-- A crash's table is a mix; a table with another number in page 0 reads alike.
use Rattle.std.proofs.Common.{◌≡◌, ℕ, ◌*◌, ◌<◌, Bool, true, false, ◌⊎◌, List, length, get_or, sym, ap, ◌∙◌, inl, inr}
use Rattle.rules.specs.Layout.{page_size}
use Rattle.rules.specs.Page.{page_in}
use Rattle.rules.specs.Table.{page_at, read, fit0, number0, set_number}
use Rattle.rules.specs.Place.{root_place}
use Rattle.rules.specs.Crash.{mix}
use Rattle.rules.proofs.Bytes.Tables.{has-page}
use Rattle.rules.proofs.Bytes.PageZero.{same0, Same0, root_place-same, fit0-same, root_place-set_number, read-set_number}
use Rattle.rules.proofs.Bytes.Mixes.{chosen, page_at-mix}
use Rattle.rules.proofs.Demand3.Mix.Mix.{Mixed}
use Rattle.rules.proofs.Demand3.Epochs.Epochs.{Alike}

pub alike-set_number : (n : ℕ) (t : List ℕ) (x : ℕ) → Alike n t (set_number t x)
alike-set_number n t x = record { pages = λ i p q. read-set_number t x i p; root = root_place-set_number t x }

module _ (n : ℕ) (marks : List Bool) (w s : List ℕ) (hw : length w ≡ n * page_size) (hs : length s ≡ n * page_size) where
  -- each page is one of the two
  pub mix-page : (i : ℕ) → i < n → (page_at (mix marks w s) i ≡ page_at s i) ⊎ (page_at (mix marks w s) i ≡ page_at w i)
  mix-page i h = go (get_or marks i false) (page_at-mix marks w s i (hw ∙ sym hs) (has-page s n i hs h))
    where
      go : (b : Bool) → page_at (mix marks w s) i ≡ chosen b (page_at w i) (page_at s i)
          → (page_at (mix marks w s) i ≡ page_at s i) ⊎ (page_at (mix marks w s) i ≡ page_at w i)
      go true e = inr e
      go false e = inl e

  pub mix-zero : 0 < n → Same0 (mix marks w s) s ⊎ Same0 (mix marks w s) w
  mix-zero h = go (mix-page 0 h)
    where
      go : (page_at (mix marks w s) 0 ≡ page_at s 0) ⊎ (page_at (mix marks w s) 0 ≡ page_at w 0) → Same0 (mix marks w s) s ⊎ Same0 (mix marks w s) w
      go (inl e) = inl (same0 (mix marks w s) s e)
      go (inr e) = inr (same0 (mix marks w s) w e)

  pub mix_mixed : 0 < n → Mixed n s w (mix marks w s)
  unfolding read
  mix_mixed h = record { pages = λ i p q. page i (mix-page i q); root = top (mix-zero h) }
    where
      page : (i : ℕ) → (page_at (mix marks w s) i ≡ page_at s i) ⊎ (page_at (mix marks w s) i ≡ page_at w i)
          → (read (mix marks w s) i ≡ read s i) ⊎ (read (mix marks w s) i ≡ read w i)
      page i (inl e) = inl (ap page_in e)
      page i (inr e) = inr (ap page_in e)

      top : Same0 (mix marks w s) s ⊎ Same0 (mix marks w s) w
          → (root_place (mix marks w s) ≡ root_place s) ⊎ (root_place (mix marks w s) ≡ root_place w)
      top (inl e) = inl (root_place-same e)
      top (inr e) = inr (root_place-same e)

  pub mix-fit0 : 0 < n → fit0 n s ≡ true → fit0 n w ≡ true → fit0 n (mix marks w s) ≡ true
  mix-fit0 h fs fw = go (mix-zero h)
    where
      go : Same0 (mix marks w s) s ⊎ Same0 (mix marks w s) w → fit0 n (mix marks w s) ≡ true
      go (inl e) = fit0-same e n ∙ fs
      go (inr e) = fit0-same e n ∙ fw

  pub mix-number : 0 < n → (number0 (mix marks w s) ≡ number0 s) ⊎ (number0 (mix marks w s) ≡ number0 w)
  mix-number h = go (mix-zero h)
    where
      go : Same0 (mix marks w s) s ⊎ Same0 (mix marks w s) w → (number0 (mix marks w s) ≡ number0 s) ⊎ (number0 (mix marks w s) ≡ number0 w)
      go (inl e) = inl e.number
      go (inr e) = inr e.number

  -- all pages written, or none
  pub mix_all : ((i : ℕ) → i < n → get_or marks i false ≡ true) → 0 < n → Alike n w (mix marks w s)
  unfolding read
  mix_all f h = record { pages = λ i p q. ap page_in (page i q); root = root_place-same (same0 (mix marks w s) w (page 0 h)) }
    where
      page : (i : ℕ) → i < n → page_at (mix marks w s) i ≡ page_at w i
      page i q =
          page_at-mix marks w s i (hw ∙ sym hs) (has-page s n i hs q)
          ∙ ap (λ (b : Bool). chosen b (page_at w i) (page_at s i)) (f i q)

  pub mix-none : ((i : ℕ) → i < n → get_or marks i false ≡ false) → 0 < n → Alike n s (mix marks w s)
  unfolding read
  mix-none f h = record { pages = λ i p q. ap page_in (page i q); root = root_place-same (same0 (mix marks w s) s (page 0 h)) }
    where
      page : (i : ℕ) → i < n → page_at (mix marks w s) i ≡ page_at s i
      page i q =
          page_at-mix marks w s i (hw ∙ sym hs) (has-page s n i hs q)
          ∙ ap (λ (b : Bool). chosen b (page_at w i) (page_at s i)) (f i q)
