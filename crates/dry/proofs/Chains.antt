-- The entries of a sound inner page, one after the other: each asks for a range that ends before the next one starts.
-- Assumes nothing.
use Prim.Native.Nat.{ℕ, suc, ◌≤◌}
use mathlib.Core.Path.{◌≡◌, refl}
use mathlib.Core.Bool.{true}
use mathlib.Core.List.Memᴰ
use mathlib.Core.List.{List, [], ◌∷◌}
use Rattle.rules.specs.Test.{between, all, mem}
use Rattle.rules.specs.Entry.{Child, keys}
use Rattle.rules.specs.Page.{View}
use Rattle.rules.specs.Sound.{names_pages}
use Rattle.rules.specs.Place.{high_before, place_of, places_in}
use Rattle.rules.proofs.Entries.Tests.{between-low, all_head, all_tail, all-mem, mem-head, mem_tail}
use Rattle.rules.proofs.Entries.Rises.{rises-mem, rising-from}
use Rattle.rules.proofs.Entries.Sounds.{Sound, Names, names_true}
use Rattle.rules.proofs.Entries.Picks.{Kid, Rising, rising-within, rising-rest, places-kids}
use Rattle.rules.proofs.Bytes.All as each
use Rattle.rules.proofs.Bytes.EntryBytes.{WideChild}
use Rattle.rules.proofs.Bytes.Pages.{WideView}

pub data Chain (n high : ℕ) : ℕ → List Child → Type 0 where
  end : {low : ℕ} → Chain n high low []
  link : {low : ℕ} {x : Child} {xs : List Child} → low ≤ x.key → x.key ≤ high_before high xs → high_before high xs ≤ high
      → Names n x.value → WideChild x → Chain n high (suc (high_before high xs)) xs → Chain n high low (x ∷ xs)

-- the range of the first entry, and that the later keys lie behind it
module _ {high : ℕ} (x : Child) (xs : List Child) (r : Rising high (x ∷ xs)) where
  first : Kid 0 high (x ∷ xs) (place_of 0 (high_before high xs) x)
  unfolding places_in
  first = places-kids 0 high (x ∷ xs) (place_of 0 (high_before high xs) x) r (Memᴰ.head refl)

  first_range : x.key ≤ high_before high xs
  unfolding place_of
  first_range = first.range

  first-within : high_before high xs ≤ high
  unfolding place_of
  first-within = first.within

  first-behind : (k : ℕ) → mem k (keys xs) ≡ true → suc (high_before high xs) ≤ k
  unfolding place_of keys
  first-behind k m =
      first.next k (mem_tail k x.key (keys xs) m)
      (rises-mem x.key k (keys xs) (rising-from x.key (keys xs) r.rise) m)

pub chain_of : (n low : ℕ) {high : ℕ} (xs : List Child) → Rising high xs → ((k : ℕ) → mem k (keys xs) ≡ true → low ≤ k)
    → all (names_pages n) xs ≡ true → each.All WideChild xs → Chain n high low xs
unfolding keys
chain_of n low [] r f ns ws = end
chain_of n low {high} (x ∷ xs) r f ns ws =
    link (f x.key (mem-head x.key (keys xs))) (first_range x xs r) (first-within x xs r)
    (names_true n x (all_head (names_pages n) x xs ns))
    (each.all_head ws)
    (chain_of n (suc (high_before high xs)) xs (rising-rest r) (first-behind x xs r) (all_tail (names_pages n) x xs ns) (each.all_tail ws))

pub chain_sound : {n low high : ℕ} {v : View} → Sound n low high v → WideView v → Chain n high low v.children
chain_sound {n} {low} {high} {v} s w =
    chain_of n low v.children (rising-within low s.children_rise s.children_within)
    (λ k m. between-low low high k (all-mem (between low high) k (keys v.children) s.children_within m))
    s.names w.children
