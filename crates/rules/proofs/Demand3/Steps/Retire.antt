-- The session's marks over a split: the new pages are taken, and the split page waits, or is free at once if it was built and
-- born since the last sync or opening.
use Rattle.std.proofs.Common.{◌≡◌, ℕ, ◌<◌, ◌≤◌, Bool, true, false, ◌&&◌, eqb, ◌≢◌, ◌⊎◌, get_or, sym, refl, ap, ◌∙◌, subst, inl, inr, eqb-true}
use borrow.Author.Tests.{eqb-false}
use Rattle.rules.specs.Marks.{taken, freed, waits}
use Rattle.rules.specs.Walk.{Step}
use Rattle.rules.specs.Insert.{heirs, retire}
use Rattle.rules.specs.declared.Place.{Place}
use Rattle.rules.specs.declared.Session.{Session}
use Rattle.rules.proofs.Entries.Tests.{fails, not_both, and_right}
use Rattle.rules.proofs.Bytes.Marked.{Sized, sized-freed, sized-waits, free-taken-same, free-taken-other, free-freed-other, waiting-waits-other}
use Rattle.rules.proofs.Demand3.Epochs.Store.{free_mark, waiting_mark, Paged}
use Rattle.rules.proofs.Demand3.Steps.Split.{Free, left, given_back, Retired}

-- ── The split page ──────────────────────────────────────────────────────────────────────────────────────────────

module _ (c : ℕ) (st : Step) (m : Session) where
  at_once : Bool
  at_once = heirs c st && eqb st.page.birth c

  retire-freed : at_once ≡ true → retire c st m ≡ freed st.place.child m
  unfolding at_once retire
  retire-freed h = rw (h, retire)

  retire-waits : at_once ≡ false → retire c st m ≡ waits st.place.child m
  unfolding at_once retire
  retire-waits h = rw (h, retire)

  -- what both ways of it have
  retire_ind : (F : Session → Type 0) → (at_once ≡ true → F (freed st.place.child m)) → (at_once ≡ false → F (waits st.place.child m))
      → F (retire c st m)
  retire_ind F f w = go at_once refl
    where
      go : (b : Bool) → at_once ≡ b → F (retire c st m)
      go true h = subst F (sym (retire-freed h)) (f h)
      go false h = subst F (sym (retire-waits h)) (w h)

  pub retire-n : (retire c st m).n ≡ m.n
  retire-n = retire_ind (λ r. r.n ≡ m.n) (λ h. refl) (λ h. refl)

  pub retire-c : (retire c st m).c ≡ m.c
  retire-c = retire_ind (λ r. r.c ≡ m.c) (λ h. refl) (λ h. refl)

  pub retire-sized : Sized m → Sized (retire c st m)
  retire-sized z = retire_ind Sized (λ h. sized-freed z st.place.child) (λ h. sized-waits z st.place.child)

  -- what was free stays so
  pub retire-frees : (i : ℕ) → free_mark m i ≡ true → i ≢ st.place.child → free_mark (retire c st m) i ≡ true
  retire-frees i h d =
      retire_ind (λ r. free_mark r i ≡ true) (λ q. free-freed-other m st.place.child i d ∙ h) (λ q. h)

  born-at-once : at_once ≡ true → st.page.birth ≡ c
  unfolding at_once
  born-at-once h = eqb-true st.page.birth c (and_right (heirs c st) (eqb st.page.birth c) h)

-- ── The new pages ───────────────────────────────────────────────────────────────────────────────────────────────

-- m is s after the new pages were taken
pub record Took (s m : Session) (lower upper top : ℕ) : Type 0 where
  pub frees : (i : ℕ) → free_mark m i ≡ true → (free_mark s i ≡ true) × (i ≢ lower) × (i ≢ upper) × (i ≢ top)
  pub waits : (i : ℕ) → waiting_mark m i ≡ true → waiting_mark s i ≡ true

pub not_taken : (m : Session) (j i : ℕ) → free_mark (taken j m) i ≡ true → (free_mark m i ≡ true) × (i ≢ j)
not_taken m j i h = (sym (free-taken-other m j i other) ∙ h, other)
  where
    other : i ≢ j
    other q = not_both (sym (ap (λ (k : ℕ). get_or (taken j m).free k false) q) ∙ h) (free-taken-same m j)

module _ (c : ℕ) (st : Step) {s m : Session} (P L U : Place) {top : ℕ}
    (T : Took s m L.child U.child top) (place : st.place ≡ P) (birth : st.page.birth ≡ P.birth)
    (in_use : (free_mark s P.child ≡ false) × (waiting_mark s P.child ≡ false)) where
  child : st.place.child ≡ P.child
  child = ap (λ (p : Place). p.child) place

  kept : (i : ℕ) → free_mark m i ≡ true → Free c P L U top (free_mark s) i
  kept i h = let t = T.frees i h in left t.0 t.1 t.2 t.3

  pub retired : Retired c P L U top (free_mark s) (waiting_mark s) (free_mark (retire c st m)) (waiting_mark (retire c st m))
  retired = retire_ind c st m (λ r. Retired c P L U top (free_mark s) (waiting_mark s) (free_mark r) (waiting_mark r)) now later
    where
      now : at_once c st m ≡ true → Retired c P L U top (free_mark s) (waiting_mark s) (free_mark (freed st.place.child m)) (waiting_mark (freed st.place.child m))
      now h = record {
        frees = λ i f. go i f (eqb i st.place.child) refl;
        waits = λ i f. inl (T.waits i f);
        either = λ f. fails (waiting_mark m P.child) (λ w. not_both (T.waits P.child w) in_use.1);
      }
        where
          go : (i : ℕ) → free_mark (freed st.place.child m) i ≡ true → (b : Bool) → eqb i st.place.child ≡ b → Free c P L U top (free_mark s) i
          go i f true q = given_back (eqb-true i st.place.child q ∙ child) (sym birth ∙ born-at-once c st m h)
          go i f false q =
              kept i (sym (free-freed-other m st.place.child i (eqb-false i st.place.child q)) ∙ f)

      later : at_once c st m ≡ false → Retired c P L U top (free_mark s) (waiting_mark s) (free_mark (waits st.place.child m)) (waiting_mark (waits st.place.child m))
      later h = record {
        frees = λ i f. kept i f;
        waits = λ i f. go i f (eqb i st.place.child) refl;
        either = λ f. absurd (not_both (T.frees P.child f).0 in_use.0);
      }
        where
          go : (i : ℕ) → waiting_mark (waits st.place.child m) i ≡ true → (b : Bool) → eqb i st.place.child ≡ b
              → (waiting_mark s i ≡ true) ⊎ (i ≡ P.child)
          go i f true q = inr (eqb-true i st.place.child q ∙ child)
          go i f false q =
              inl (T.waits i (sym (waiting-waits-other m st.place.child i (eqb-false i st.place.child q)) ∙ f))

-- only pages are marked then
pub retired_paged : {n c : ℕ} {P L U : Place} {top : ℕ} {free waiting free' waiting' : ℕ → Bool}
    → Retired c P L U top free waiting free' waiting' → (1 ≤ P.child) × (P.child < n) → Paged n free waiting → Paged n free' waiting'
retired_paged {n} {c} {P} {L} {U} {top} {free} {waiting} R p h = record {
  free_page = λ {i} f. frees i (R.frees i f);
  waiting_page = λ {i} f. waits i (R.waits i f);
}
  where
    frees : (i : ℕ) → Free c P L U top free i → (1 ≤ i) × (i < n)
    frees i (left f a b d) = h.free_page f
    frees i (given_back q b) = subst (λ (j : ℕ). (1 ≤ j) × (j < n)) (sym q) p

    waits : (i : ℕ) → (waiting i ≡ true) ⊎ (i ≡ P.child) → (1 ≤ i) × (i < n)
    waits i (inl f) = h.waiting_page f
    waits i (inr q) = subst (λ (j : ℕ). (1 ≤ j) × (j < n)) (sym q) p
