-- The places that an inner page's entries ask for, and the one whose range holds a key. With rising keys up to high the
-- places tile the range from the first key on; a place among them is told by facts (`Kid`), and picking is settled by
-- those facts alone. Assumes nothing.
use Rattle.std.proofs.Common.{◌≡◌, ℕ, suc, ◌-◌, ◌<◌, ◌≤◌, Bool, true, false, ltb, ◌⊎◌, List, [], ◌∷◌, sym, refl, ap, ◌∙◌, subst, inl, inr, arith, ltb-false, ltb-true}
use mathlib.Core.List.Memᴰ
use mathlib.Core.List.{Memᴰ}
use mathlib.Core.Option.{some, none, some-injective, none-ne-some}
use Rattle.rules.specs.Test.{between, all, mem}
use Rattle.rules.specs.Entry.{Child, Below, keys, find, cut, rising}
use Rattle.rules.specs.Place.{high_before, place_of, places_in, pick}
use Rattle.rules.specs.declared.Place.{Place}
use Rattle.rules.proofs.Entries.Tests.{not_both, between-low, between-high, between-of, all-mem, mem-nil, mem-head, mem_tail, mem_cases}
use Rattle.rules.proofs.Entries.Rises.{rises-mem, rises-head, rising-from, rising_tail}
use Rattle.rules.proofs.Entries.Entries.{find_head, find_tail, mem-find, find-cut, cut-rising, cut-within, mem-cut, mem-cut_in}

-- ── Picking from any places ─────────────────────────────────────────────────────────────────────────────────────

pub pick-here : (k : ℕ) (e : Place) (es : List Place) → e.low ≤ k → k ≤ e.high → pick k (e ∷ es) ≡ some e
unfolding pick
pick-here k e es p q = rw (between-of e.low e.high k p q, pick)

pub pick-later : (k : ℕ) (e : Place) (es : List Place) → between e.low e.high k ≡ false → pick k (e ∷ es) ≡ pick k es
unfolding pick
pick-later k e es h = rw (h, pick)

pub pick-nil : (k : ℕ) → pick k [] ≡ none
unfolding pick
pick-nil k = refl

pub pick-mem : (k : ℕ) (es : List Place) (d : Place) → pick k es ≡ some d → Memᴰ d es
pick-mem k [] d h = absurd (none-ne-some d (sym (pick-nil k) ∙ h))
pick-mem k (e ∷ es) d h = go (between e.low e.high k) refl (pick-mem k es d)
  where
    go : (b : Bool) → between e.low e.high k ≡ b → (pick k es ≡ some d → Memᴰ d es) → Memᴰ d (e ∷ es)
    go true f ih =
        Memᴰ.head
        (some-injective d e
        (sym h ∙ pick-here k e es (between-low e.low e.high k f) (between-high e.low e.high k f)))
    go false f ih = Memᴰ.tail (ih (sym (pick-later k e es f) ∙ h))

-- the key lies in the range picked
pub pick-holds : (k : ℕ) (es : List Place) (d : Place) → pick k es ≡ some d → (d.low ≤ k) × (k ≤ d.high)
pick-holds k [] d h = absurd (none-ne-some d (sym (pick-nil k) ∙ h))
pick-holds k (e ∷ es) d h = go (between e.low e.high k) refl (pick-holds k es d)
  where
    go : (b : Bool) → between e.low e.high k ≡ b → (pick k es ≡ some d → (d.low ≤ k) × (k ≤ d.high))
        → (d.low ≤ k) × (k ≤ d.high)
    go true f ih =
        let l = between-low e.low e.high k f in
        let u = between-high e.low e.high k f in
        let s = some-injective d e (sym h ∙ pick-here k e es l u) in
        subst (λ (x : Place). (x.low ≤ k) × (k ≤ x.high)) (sym s) (l, u)
    go false f ih = ih (sym (pick-later k e es f) ∙ h)

-- ── A place among those that entries ask for ────────────────────────────────────────────────────────────────────

abbrev pub below_of : Place → Below
below_of e = record { child = e.child; previous = e.previous; birth = e.birth }

abbrev pub place_for : ℕ → ℕ → ℕ → Below → Place
place_for want low high b = record {
  child = b.child;
  previous = b.previous;
  birth = b.birth;
  low = low;
  high = high;
  want = want;
}

-- its entry; its range ends where the entries' does or below another key, and no key stands within
pub record Kid (want high : ℕ) (xs : List Child) (e : Place) : Type 0 where
  pub wants : e.want ≡ want
  pub entry : find e.low xs ≡ some (below_of e)
  pub range : e.low ≤ e.high
  pub within : e.high ≤ high
  pub next : (j : ℕ) → mem j (keys xs) ≡ true → e.low < j → e.high < j
  pub top : (e.high ≡ high) ⊎ (mem (suc e.high) (keys xs) ≡ true)

pub kid-key : {want high : ℕ} {xs : List Child} {e : Place} → Kid want high xs e → mem e.low (keys xs) ≡ true
kid-key {xs = xs} {e} d = mem-find e.low xs (below_of e) d.entry

-- a place is told by the kind asked for, its range and its entry
place_same : {w w' l l' h h' : ℕ} {b b' : Below} → w ≡ w' → l ≡ l' → h ≡ h' → b ≡ b' → place_for w l h b ≡ place_for w' l' h' b'
place_same p q r s = cc

-- two with one low are one
pub kid-same-low : {want high : ℕ} {xs : List Child} {d e : Place} → Kid want high xs d → Kid want high xs e → d.low ≡ e.low → d ≡ e
kid-same-low {want} {high} {xs} {d} {e} a b l =
    place_same (a.wants ∙ sym b.wants) l ends
    (some-injective (below_of d) (below_of e) (sym a.entry ∙ (ap (λ (k : ℕ). find k xs) l ∙ b.entry)))
  where
    below : {d e : Place} → Kid want high xs d → Kid want high xs e → d.low ≡ e.low → d.high ≤ e.high
    below {d} {e} a b l = go b.top
      where
        go : (e.high ≡ high) ⊎ (mem (suc e.high) (keys xs) ≡ true) → d.high ≤ e.high
        go (inl q) = omega (arith, q, a.within)
        go (inr m) = omega (arith, a.next (suc e.high) m (omega (arith, l, b.range)))

    ends : d.high ≡ e.high
    ends = omega (arith, below a b l, below b a (sym l))

-- two that hold one key are one: of two lows the higher lies above the other's high
pub kid-rise : {want high : ℕ} {xs : List Child} {d e : Place} → Kid want high xs d → Kid want high xs e → d.low < e.low → d.high < e.low
kid-rise {e = e} a b p = a.next e.low (kid-key b) p

pub kid-same : {want high : ℕ} {xs : List Child} {d e : Place} (k : ℕ) → Kid want high xs d → Kid want high xs e
    → d.low ≤ k → k ≤ d.high → e.low ≤ k → k ≤ e.high → d ≡ e
kid-same {d = d} {e} k a b p q r s = go (ltb d.low e.low) refl (ltb e.low d.low) refl
  where
    go : (x : Bool) → ltb d.low e.low ≡ x → (y : Bool) → ltb e.low d.low ≡ y → d ≡ e
    go true u y w = absurd (omega (arith, kid-rise a b (ltb-true d.low e.low u)))
    go false u true w = absurd (omega (arith, kid-rise b a (ltb-true e.low d.low w)))
    go false u false w =
        kid-same-low a b (omega (arith, ltb-false d.low e.low u, ltb-false e.low d.low w))

-- ── The places of a list of entries are its kids ────────────────────────────────────────────────────────────────

-- keys that rise and end at high
pub record Rising (high : ℕ) (xs : List Child) : Type 0 where
  pub rise : rising (keys xs) ≡ true
  pub ends : (k : ℕ) → mem k (keys xs) ≡ true → k ≤ high

pub rising-within : {high : ℕ} {xs : List Child} (low : ℕ) → rising (keys xs) ≡ true → all (between low high) (keys xs) ≡ true → Rising high xs
rising-within {high} {xs} low r w = record {
  rise = r;
  ends = λ k m. between-high low high k (all-mem (between low high) k (keys xs) w m);
}

pub rising-rest : {high : ℕ} {x : Child} {xs : List Child} → Rising high (x ∷ xs) → Rising high xs
unfolding keys
rising-rest {x = x} {xs} r = record {
  rise = rising_tail x.key (keys xs) r.rise;
  ends = λ k m. r.ends k (mem_tail k x.key (keys xs) m);
}

-- the first entry's place
first-kid : (want high : ℕ) (x : Child) (xs : List Child) → Rising high (x ∷ xs)
    → Kid want high (x ∷ xs) (place_of want (high_before high xs) x)
unfolding place_of high_before keys
first-kid want high x [] r = record {
  wants = refl;
  entry = find_head x.key x [] refl;
  range = r.ends x.key (mem-head x.key []);
  within = omega arith;
  next = λ j m p. absurd (go j (mem_cases j x.key [] m) p);
  top = inl refl;
}
  where
    go : (j : ℕ) → (j ≡ x.key) ⊎ (mem j [] ≡ true) → x.key < j → ⊥
    go j (inl e) p = omega (arith, e)
    go j (inr m) p = mem-nil j m
first-kid want high x (y ∷ ys) r =
    let up : x.key < y.key = rises-head x.key y.key (keys ys) (rising-from x.key (y.key ∷ keys ys) r.rise) in
    let my = mem-head y.key (keys ys) in
    record {
      wants = refl;
      entry = find_head x.key x (y ∷ ys) refl;
      range = omega arith;
      within = omega (arith, r.ends y.key (mem_tail y.key x.key (y.key ∷ keys ys) my));
      next = λ j m p. omega (arith, go j up (mem_cases j x.key (y.key ∷ keys ys) m) p);
      top = inr (ap (λ (k : ℕ). mem k (x.key ∷ (y.key ∷ keys ys))) (back up)
          ∙ mem_tail y.key x.key (y.key ∷ keys ys) my);
    }
  where
    back : x.key < y.key → suc (y.key - 1) ≡ y.key
    back up = omega arith

    from : (j : ℕ) → (j ≡ y.key) ⊎ (mem j (keys ys) ≡ true) → y.key ≤ j
    from j (inl e) = omega (arith, e)
    from j (inr m) =
        omega (arith, rises-mem y.key j (keys ys) (rising-from y.key (keys ys) (rising_tail x.key (y.key ∷ keys ys) r.rise)) m)

    go : (j : ℕ) → x.key < y.key → (j ≡ x.key) ⊎ (mem j (y.key ∷ keys ys) ≡ true) → x.key < j → y.key - 1 < j
    go j up (inl e) p = absurd (omega (arith, e))
    go j up (inr m) p = omega (arith, from j (mem_cases j y.key (keys ys) m))

-- one of the later entries is one of all
later-kid : {want high : ℕ} {x : Child} {xs : List Child} {e : Place} → Rising high (x ∷ xs) → Kid want high xs e → Kid want high (x ∷ xs) e
unfolding keys
later-kid {want} {high} {x} {xs} {e} r d =
    let up = rises-mem x.key e.low (keys xs) (rising-from x.key (keys xs) r.rise) (kid-key d) in
    record {
      wants = d.wants;
      entry = find_tail e.low x xs (λ q. omega (arith, q, up)) ∙ d.entry;
      range = d.range;
      within = d.within;
      next = λ j m p. go j up (mem_cases j x.key (keys xs) m) p;
      top = end d.top;
    }
  where
    go : (j : ℕ) → x.key < e.low → (j ≡ x.key) ⊎ (mem j (keys xs) ≡ true) → e.low < j → e.high < j
    go j up (inl q) p = absurd (omega (arith, q))
    go j up (inr m) p = d.next j m p

    end : (e.high ≡ high) ⊎ (mem (suc e.high) (keys xs) ≡ true) → (e.high ≡ high) ⊎ (mem (suc e.high) (x.key ∷ keys xs) ≡ true)
    end (inl q) = inl q
    end (inr m) = inr (mem_tail (suc e.high) x.key (keys xs) m)

pub places-kids : (want high : ℕ) (xs : List Child) (e : Place) → Rising high xs → Memᴰ e (places_in want high xs) → Kid want high xs e
unfolding places_in
places-kids want high [] e r m = absurd (Memᴰ.not-nil m)
places-kids want high (x ∷ xs) e r m =
    go (Memᴰ.cases_cons m) (places-kids want high xs e (rising-rest r))
  where
    go : (e ≡ place_of want (high_before high xs) x) ⊎ Memᴰ e (places_in want high xs)
        → (Memᴰ e (places_in want high xs) → Kid want high xs e) → Kid want high (x ∷ xs) e
    go (inl q) ih = subst (Kid want high (x ∷ xs)) (sym q) (first-kid want high x xs r)
    go (inr k) ih = later-kid r (ih k)

pub pick-kid : (want high k : ℕ) (xs : List Child) (e : Place) → Rising high xs → pick k (places_in want high xs) ≡ some e → Kid want high xs e
pick-kid want high k xs e r h = places-kids want high xs e r (pick-mem k (places_in want high xs) e h)

-- a key that the first place does not hold is not below the second's
past_first : (high k : ℕ) (x : Child) (xs : List Child) → Rising high (x ∷ xs) → x.key ≤ k → k ≤ high
    → between x.key (high_before high xs) k ≡ false → (j : ℕ) × (mem j (keys xs) ≡ true) × (j ≤ k)
unfolding keys high_before
past_first high k x [] r p q o = absurd (not_both (between-of x.key high k p q) o)
past_first high k x (y ∷ ys) r p q o = (y.key, mem-head y.key (keys ys), go (ltb k y.key) refl)
  where
    go : (b : Bool) → ltb k y.key ≡ b → y.key ≤ k
    go true e =
        let l = ltb-true k y.key e in
        absurd (not_both (between-of x.key (y.key - 1) k p (omega arith)) o)
    go false e = ltb-false k y.key e

-- a key not below the first and not above high is picked for
pub pick_total : (want high k j : ℕ) (xs : List Child) → Rising high xs → mem j (keys xs) ≡ true → j ≤ k → k ≤ high
    → (e : Place) × (pick k (places_in want high xs) ≡ some e)
unfolding places_in keys place_of
pick_total want high k j [] r m p q = absurd (mem-nil j m)
pick_total want high k j (x ∷ xs) r m p q =
    go (between x.key (high_before high xs) k) refl (λ i n o. pick_total want high k i xs (rising-rest r) n o q)
  where
    first : (j ≡ x.key) ⊎ (mem j (keys xs) ≡ true) → x.key ≤ k
    first (inl e) = omega (arith, e)
    first (inr n) = omega (arith, rises-mem x.key j (keys xs) (rising-from x.key (keys xs) r.rise) n)

    from : x.key ≤ k
    from = first (mem_cases j x.key (keys xs) m)

    go : (b : Bool) → between x.key (high_before high xs) k ≡ b
        → ((i : ℕ) → mem i (keys xs) ≡ true → i ≤ k → (e : Place) × (pick k (places_in want high xs) ≡ some e))
        → (e : Place) × (pick k (place_of want (high_before high xs) x ∷ places_in want high xs) ≡ some e)
    go true e ih =
        let f = place_of want (high_before high xs) x in
        (f, pick-here k f (places_in want high xs) from (between-high x.key (high_before high xs) k e))
    go false e ih =
        let n = past_first high k x xs r from q e in
        let i = ih n.0 n.1 n.2 in
        (i.0, pick-later k (place_of want (high_before high xs) x) (places_in want high xs) e ∙ i.1)

-- each is picked for every key of its range
pub kid-pick : (want high k : ℕ) (xs : List Child) (e : Place) → Rising high xs → Kid want high xs e → e.low ≤ k → k ≤ e.high
    → pick k (places_in want high xs) ≡ some e
kid-pick want high k xs e r d p q =
    let t = pick_total want high k e.low xs r (kid-key d) p (omega (arith, d.within)) in
    let h = pick-holds k (places_in want high xs) t.0 t.1 in
    t.1 ∙ ap some (kid-same k (pick-kid want high k xs t.0 r t.1) d h.0 h.1 p q)

-- ── A range cut that falls on keys ──────────────────────────────────────────────────────────────────────────────

-- from a key, up to high or below another key
pub record Cutting (high l h : ℕ) (xs : List Child) : Type 0 where
  pub from : mem l (keys xs) ≡ true
  pub within : h ≤ high
  pub to : (h ≡ high) ⊎ (mem (suc h) (keys xs) ≡ true)

-- a place that meets the cut's range lies in it, and is a place of the cut
pub kid_in_cut : {want high l h : ℕ} {xs : List Child} {e : Place} (k : ℕ) → Cutting high l h xs → Kid want high xs e
    → l ≤ k → k ≤ h → e.low ≤ k → k ≤ e.high → (l ≤ e.low) × (e.high ≤ h)
kid_in_cut {high = high} {l} {h} {xs} {e} k c d p q r s = (first (ltb e.low l) refl, last c.to)
  where
    first : (b : Bool) → ltb e.low l ≡ b → l ≤ e.low
    first true f = absurd (omega (arith, d.next l c.from (ltb-true e.low l f)))
    first false f = ltb-false e.low l f

    last : (h ≡ high) ⊎ (mem (suc h) (keys xs) ≡ true) → e.high ≤ h
    last (inl f) = omega (arith, f, d.within)
    last (inr m) = omega (arith, d.next (suc h) m (omega arith))

pub kid-cut : {want high l h : ℕ} {xs : List Child} {e : Place} → h ≤ high → Kid want high xs e → l ≤ e.low → e.high ≤ h
    → Kid want h (cut l h xs) e
kid-cut {want} {high} {l} {h} {xs} {e} u d p q = record {
  wants = d.wants;
  entry = find-cut l h e.low xs (between-of l h e.low p (omega (arith, d.range))) ∙ d.entry;
  range = d.range;
  within = q;
  next = λ j m. d.next j (mem-cut l h j xs m);
  top = end d.top (ltb e.high h) refl;
}
  where
    end : (e.high ≡ high) ⊎ (mem (suc e.high) (keys xs) ≡ true) → (b : Bool) → ltb e.high h ≡ b
        → (e.high ≡ h) ⊎ (mem (suc e.high) (keys (cut l h xs)) ≡ true)
    end (inl f) b g = inl (omega arith)
    end (inr m) true g =
        let r = ltb-true e.high h g in
        let s = d.range in
        inr (mem-cut_in l h (suc e.high) xs (between-of l h (suc e.high) (omega arith) (omega arith)) m)
    end (inr m) false g = inl (omega (arith, ltb-false e.high h g))

pub rising-cut : {high : ℕ} {xs : List Child} (l h : ℕ) → Rising high xs → Rising h (cut l h xs)
rising-cut {xs = xs} l h r = rising-within l (cut-rising l h xs r.rise) (cut-within l h xs)

-- picking in the cut is picking in the whole
pub pick-cut : (want high l h k : ℕ) (xs : List Child) → Rising high xs → Cutting high l h xs → l ≤ k → k ≤ h
    → pick k (places_in want h (cut l h xs)) ≡ pick k (places_in want high xs)
pick-cut want high l h k xs r c p q =
    let t = pick_total want high k l xs r c.from p (omega (arith, c.within)) in
    let d = pick-kid want high k xs t.0 r t.1 in
    let o = pick-holds k (places_in want high xs) t.0 t.1 in
    let i = kid_in_cut k c d p q o.0 o.1 in
    kid-pick want h k (cut l h xs) t.0 (rising-cut l h r) (kid-cut c.within d i.0 i.1) o.0 o.1 ∙ sym t.1
