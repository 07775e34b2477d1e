-- What is shown of certificates that rise, in a range and while there is room: the first so many of those in the range; and what
-- newest makes of it, the last one.
use Rattle.std.proofs.Common.{◌≡◌, ℕ, suc, ◌-◌, ◌<◌, ◌≤◌, true, ◌⊎◌, List, [], ◌∷◌, length, take, drop, sym, refl, ap, ◌∙◌, inl, inr, arith, length-drop, take-append-drop, length-take, Ok}
use mathlib.Core.Option.{Option, some, none}
use Rattle.rules.specs.Layout.{last_key, last_final}
use Rattle.rules.specs.Test.{between, all, mem}
use Rattle.rules.specs.Key.{key_of, issue_of, good_key}
use Rattle.rules.specs.Entry.{Cert, keys, find, cut, rises_from, rising}
use Rattle.rules.specs.Newest.{meter, newest_in}
use Rattle.rules.specs.Demand.{NewestTells, largest, missing}
use Rattle.rules.specs.declared.Asked.{Asked}
use Rattle.rules.specs.Answer.{newest_is}
use Rattle.rules.proofs.Entries.Tests.{all_head, all_tail, all_imp, all-mem, mem-nil, between_wider, between-of, between-low, between-high}
use Rattle.rules.proofs.Entries.Rises.{rises-head, rises_tail, rises-mem, rising-from, rising_tail, rising-take, rising-before, rising-behind, length-keys, keys-take, keys-drop}
use Rattle.rules.proofs.Entries.Entries.{find_head, find_tail, find-append-left, find-append_right, mem-find, all-find, find-cut, cut-within, cut-rising}
use Rattle.rules.proofs.Demand3.Reads.Gathers.{gather}

-- ── How many keys a range has ───────────────────────────────────────────────────────────────────────────────────

length-rises : (k high : ℕ) (xs : List ℕ) → rises_from k xs ≡ true → all (between 0 high) xs ≡ true → k ≤ high → length xs ≤ high - k
length-rises k high [] r w h = omega arith
length-rises k high (x ∷ xs) r w h =
    let a = rises-head k x xs r in
    let b = between-high 0 high x (all_head (between 0 high) x xs w) in
    let c = length-rises x high xs (rises_tail k x xs r) (all_tail (between 0 high) x xs w) b in
    omega (arith, a, b, c)

pub length-rising : (low high : ℕ) (xs : List ℕ) → rising xs ≡ true → all (between low high) xs ≡ true → length xs ≤ suc high - low
length-rising low high [] r w = omega arith
length-rising low high (x ∷ xs) r w =
    let a = all_head (between low high) x xs w in
    let b = between-low low high x a in
    let c = between-high low high x a in
    let d = length-rises x high xs (rising-from x xs r)
    (all_imp (between low high) (between 0 high) (λ k y. between_wider low high 0 high k (omega arith) (omega arith) y) xs (all_tail (between low high) x xs w)) c in
    omega (arith, b, c, d)

-- ── The last one ────────────────────────────────────────────────────────────────────────────────────────────────

pub record Last (xs : List Cert) : Type 0 where
  pub entry : Cert
  pub answer : newest_in xs ≡ Ok (newest_is (issue_of entry.key) entry.value)
  pub finds : find entry.key xs ≡ some entry.value
  pub none_above : (k : ℕ) → entry.key < k → find k xs ≡ none

pub last_of : (x : Cert) (xs : List Cert) → rising (keys (x ∷ xs)) ≡ true → Last (x ∷ xs)
unfolding newest_in keys find
last_of x [] r = record {
  entry = x;
  answer = refl;
  finds = find_head x.key x [] refl;
  none_above = λ k h. find_tail k x [] (λ q. absurd (omega (arith, q, h)));
}
last_of x (y ∷ ys) r =
    let l = last_of y ys (rising_tail x.key (keys (y ∷ ys)) r) in
    let up = rises-mem x.key l.entry.key (keys (y ∷ ys)) (rising-from x.key (keys (y ∷ ys)) r)
    (mem-find l.entry.key (y ∷ ys) l.entry.value l.finds) in
    record {
      entry = l.entry;
      answer = l.answer;
      finds = find_tail l.entry.key x (y ∷ ys) (λ q. absurd (omega (arith, q, up))) ∙ l.finds;
      none_above = λ k h. find_tail k x (y ∷ ys) (λ q. absurd (omega (arith, q, h, up))) ∙ l.none_above k h;
    }

-- ── The first so many of a range ────────────────────────────────────────────────────────────────────────────────

-- state says of each key what the certificates hold of it
module _ (certs : List Cert) (rise : rising (keys certs) ≡ true) (good : all (λ x. good_key x.key) certs ≡ true)
    (state : ℕ → Option ℕ) (tells : (k : ℕ) → k ≤ last_key → find k certs ≡ state k) (a : Asked) (top : a.high ≤ last_key) where
  abbrev own : List Cert
  own = cut a.low a.high certs

  abbrev shown : List Cert
  shown = gather a [] certs

  shown-is : shown ≡ take a.room own
  shown-is = let q : a.room - 0 ≡ a.room = omega arith in rw q

  own-rise : rising (keys own) ≡ true
  own-rise = cut-rising a.low a.high certs rise

  pub shown-rise : rising (keys shown) ≡ true
  shown-rise =
      ap (λ (xs : List Cert). rising (keys xs)) shown-is
      ∙ (ap rising (keys-take a.room own) ∙ rising-take a.room (keys own) own-rise)

  -- a certificate that is shown is held
  own_held : (k x : ℕ) → find k own ≡ some x → (a.low ≤ k) × (k ≤ a.high) × (find k certs ≡ some x)
  own_held k x h =
      let b = all-mem (between a.low a.high) k (keys own) (cut-within a.low a.high certs) (mem-find k own x h) in
      (between-low a.low a.high k b, between-high a.low a.high k b, sym (find-cut a.low a.high k certs b) ∙ h)

  taken : (k x : ℕ) → find k (take a.room own) ≡ some x → find k own ≡ some x
  taken k x h =
      ap (find k) (sym (take-append-drop a.room own))
      ∙ find-append-left k (take a.room own) (drop a.room own) x h

  pub shown-held : (k x : ℕ) → find k shown ≡ some x → (a.low ≤ k) × (k ≤ a.high) × (good_key k ≡ true) × (state k ≡ some x)
  shown-held k x h =
      let o = own_held k x (taken k x (ap (find k) (sym shown-is) ∙ h)) in
      (o.0, o.1, all-find (λ y. good_key y.key) k certs x good o.2, sym (tells k (omega (arith, o.1))) ∙ o.2)

  -- one that is not shown stands behind, where there is no room
  behind : (k x : ℕ) → find k own ≡ some x → find k (take a.room own) ≡ none
      → (length shown ≡ a.room) × ((j : ℕ) → mem j (keys shown) ≡ true → j < k)
  behind k x h f = (full, below)
    where
      later : mem k (drop a.room (keys own)) ≡ true
      later =
          ap (mem k) (sym (keys-drop a.room own))
          ∙ mem-find k (drop a.room own) x
          (sym (find-append_right k (take a.room own) (drop a.room own) f) ∙ (ap (find k) (take-append-drop a.room own) ∙ h))

      some_more : (ys : List ℕ) → mem k ys ≡ true → 0 < length ys
      some_more [] m = absurd (mem-nil k m)
      some_more (y ∷ ys) m = omega arith

      long : a.room < length (keys own)
      long = omega (arith, some_more (drop a.room (keys own)) later, length-drop a.room (keys own))

      full : length shown ≡ a.room
      full = ap length shown-is ∙ omega (arith, length-take a.room own, long, length-keys own)

      below : (j : ℕ) → mem j (keys shown) ≡ true → j < k
      below j m =
          omega (
            arith,
            rising-before (keys own) a.room j 0 own-rise long
                (ap (mem j) (sym (keys-take a.room own)) ∙ (ap (λ (xs : List Cert). mem j (keys xs)) (sym shown-is) ∙ m)),
            rising-behind (keys own) a.room k 0 own-rise later,
          )

  pub shown-whole : (k x : ℕ) → a.low ≤ k → k ≤ a.high → state k ≡ some x
      → (find k shown ≡ some x) ⊎ ((length shown ≡ a.room) × ((j : ℕ) → mem j (keys shown) ≡ true → j < k))
  shown-whole k x l h q = go (find k (take a.room own)) refl
    where
      held : find k own ≡ some x
      held =
          find-cut a.low a.high k certs (between-of a.low a.high k l h)
          ∙ (tells k (omega arith) ∙ q)

      go : (o : Option ℕ) → find k (take a.room own) ≡ o
          → (find k shown ≡ some x) ⊎ ((length shown ≡ a.room) × ((j : ℕ) → mem j (keys shown) ≡ true → j < k))
      go none f = inr (behind k x held f)
      go (some y) f =
          inl (ap (find k) shown-is ∙ (f ∙ (sym (taken k y f) ∙ held)))

  -- where the range has fewer keys than there is room, all are shown
  pub shown-all : suc a.high - a.low < a.room → (k x : ℕ) → a.low ≤ k → k ≤ a.high → state k ≡ some x → find k shown ≡ some x
  shown-all few k x l h q = go (shown-whole k x l h q)
    where
      go : (find k shown ≡ some x) ⊎ ((length shown ≡ a.room) × ((j : ℕ) → mem j (keys shown) ≡ true → j < k)) → find k shown ≡ some x
      go (inl f) = f
      go (inr f) =
          absurd
          (omega (
            arith,
            f.0,
            ap length shown-is,
            length-take a.room own,
            length-rising a.low a.high (keys own) own-rise (cut-within a.low a.high certs),
            length-keys own,
          ))

-- ── Of one meter ────────────────────────────────────────────────────────────────────────────────────────────────

module _ (certs : List Cert) (rise : rising (keys certs) ≡ true) (good : all (λ x. good_key x.key) certs ≡ true)
    (state : ℕ → Option ℕ) (tells : (k : ℕ) → k ≤ last_key → find k certs ≡ state k) (model serial : ℕ)
    (wide_model : model < 65536) (wide_serial : serial < 4294967296) where
  abbrev issues : List Cert
  issues = gather (meter model serial) [] certs

  top : (meter model serial).high ≤ last_key
  unfolding meter key_of
  top = omega arith

  held : (k x : ℕ) → find k issues ≡ some x
      → ((meter model serial).low ≤ k) × (k ≤ (meter model serial).high) × (good_key k ≡ true) × (state k ≡ some x)
  held = shown-held certs rise good state tells (meter model serial) top

  -- a key in the meter's range is that of its issue
  issue_of_lem : (k : ℕ) → (meter model serial).low ≤ k → k ≤ (meter model serial).high
      → (key_of model serial (issue_of k) ≡ k) × (1 ≤ issue_of k) × (issue_of k ≤ last_final)
  unfolding meter key_of issue_of
  issue_of_lem k l h = (omega arith, omega arith, omega arith)

  -- nothing shown, nothing there
  absent : (j : ℕ) → 1 ≤ j → j ≤ last_final → find (key_of model serial j) issues ≡ none → state (key_of model serial j) ≡ none
  unfolding meter key_of
  absent j l h f = go (state (key_of model serial j)) refl
    where
      go : (o : Option ℕ) → state (key_of model serial j) ≡ o → o ≡ none
      go none q = refl
      go (some x) q =
          sym (shown-all certs rise good state tells (meter model serial) top (omega arith) (key_of model serial j) x (omega arith) (omega arith) q)
          ∙ f

  above : (i j : ℕ) → i < j → key_of model serial i < key_of model serial j
  unfolding key_of
  above i j h = omega arith

  pub newest-last : NewestTells state model serial (newest_in issues)
  unfolding newest_in find
  newest-last = go issues refl
    where
      ends : (x : Cert) (xs : List Cert) → issues ≡ x ∷ xs → NewestTells state model serial (newest_in issues)
      ends x xs q =
          let l = last_of x xs (ap (λ (ys : List Cert). rising (keys ys)) (sym q) ∙ shown-rise certs rise good state tells (meter model serial) top) in
          let k = l.entry.key in
          let o = held k l.entry.value (ap (find k) q ∙ l.finds) in
          let i = issue_of_lem k o.0 o.1 in
          largest (issue_of k) l.entry.value (ap newest_in q ∙ l.answer) i.1 i.2 (ap state i.0 ∙ o.3)
          (λ j h m. absent j (omega (arith, h)) m
          (ap (find (key_of model serial j)) q ∙ l.none_above (key_of model serial j) (omega (arith, i.0, above (issue_of k) j h))))

      go : (xs : List Cert) → issues ≡ xs → NewestTells state model serial (newest_in issues)
      go [] q = missing (ap newest_in q) (λ j l h. absent j l h (ap (find (key_of model serial j)) q))
      go (x ∷ xs) q = ends x xs q
