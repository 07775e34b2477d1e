-- A full sound page splits into two range cuts of it, each sound and fitting the place that asks for it; so does the
-- page above with its two new entries, and a new root. Assumes nothing.
use Rattle.std.proofs.Common.{◌≡◌, ℕ, ◌+◌, ◌-◌, ◌<◌, ◌≤◌, Bool, true, false, ◌||◌, eqb, leb, ◌⊎◌, List, [], ◌∷◌, length, get_or, sym, refl, ap, ◌∙◌, subst, inl, inr, append-nil, arith, length-drop, length-take, eqb-true, leb-false, leb-true}
use borrow.Author.Tests.{lt-leb}
use Rattle.rules.specs.Layout.{leaf_room, inner_room, leaf_half, inner_half, leaf_kind, top_kind, last_key}
use Rattle.rules.specs.Test.{between, all, mem}
use Rattle.rules.specs.Entry.{Entry, Cert, Child, keys, find, put, rising, rises_from}
use Rattle.rules.specs.Page.{View, Page, is_leaf, fresh, touch}
use Rattle.rules.specs.Sound.{starts_at}
use Rattle.rules.specs.Place.{cut_view}
use Rattle.rules.specs.Walk.{Step}
use Rattle.rules.specs.Insert.{full, lower_half, upper_half, divide, heirs, previous_of, new_child, put_child, lower_page, upper_page, twins, root_over}
use Rattle.rules.specs.declared.Place.{Place}
use Rattle.rules.proofs.Entries.Tests.{or_cases, not_both, between-low, between-high, between-of, all-at, all-mem, mem-at}
use Rattle.rules.proofs.Entries.Rises.{rising-at, length-keys}
use Rattle.rules.proofs.Entries.Entries.{find-cut, cut-nil, cut-take, cut-drop}
use Rattle.rules.proofs.Entries.Puts.{length-put-le, length-put-present}
use Rattle.rules.proofs.Entries.Views.{view_of, same_view, Shaped}
use Rattle.rules.proofs.Entries.Sounds.{Sound, Names, names_of, starts-mem, sound-cut, sound-put_child}
use Rattle.rules.proofs.Entries.Places.{Fits, fits_fresh, fits-touch}

-- ── Where a full page divides ───────────────────────────────────────────────────────────────────────────────────

-- the halves are the entries below the dividing key and those from it on
pub record Divided (low high : ℕ) (v : View) : Type 0 where
  pub above : low < divide v
  pub within : divide v ≤ high
  pub lower : lower_half v ≡ cut_view low (divide v - 1) v
  pub upper : upper_half v ≡ cut_view (divide v) high v
  pub key : is_leaf v ≡ false → mem (divide v) (keys v.children) ≡ true

-- a key that is not the first lies above low
middle : {B : Type 0} (low high i : ℕ) (xs : List (Entry B)) → rising (keys xs) ≡ true → all (between low high) (keys xs) ≡ true
    → 0 < i → i < length xs → (low < get_or (keys xs) i 0) × (get_or (keys xs) i 0 ≤ high) × (mem (get_or (keys xs) i 0) (keys xs) ≡ true)
middle low high i xs h w p q =
    let r : i < length (keys xs) = rw length-keys q in
    let first = all-at (between low high) (keys xs) 0 0 w (omega arith) in
    let here = all-at (between low high) (keys xs) i 0 w r in
    let a = between-low low high (get_or (keys xs) 0 0) first in
    let b = rising-at (keys xs) 0 i 0 h p r in
    (omega arith, between-high low high (get_or (keys xs) i 0) here, mem-at (keys xs) i 0 r)

divide-leaf : (kind : ℕ) (certs : List Cert) → eqb kind leaf_kind ≡ true
    → divide (view_of kind certs []) ≡ get_or (keys certs) leaf_half 0
unfolding divide is_leaf keys
divide-leaf kind certs e = rw e (ap (λ (ks : List ℕ). get_or ks leaf_half 0) (append-nil (keys certs)))

divide-inner : (kind : ℕ) (children : List Child) → eqb kind leaf_kind ≡ false
    → divide (view_of kind [] children) ≡ get_or (keys children) inner_half 0
unfolding divide is_leaf keys
divide-inner kind children e = rw e

leaf_divided : (n low high kind : ℕ) (certs : List Cert) → eqb kind leaf_kind ≡ true → Sound n low high (view_of kind certs [])
    → leaf_room ≤ length certs → Divided low high (view_of kind certs [])
unfolding is_leaf lower_half upper_half cut_view
leaf_divided n low high kind certs e s f =
    let m = middle low high leaf_half certs s.certs_rise s.certs_within (omega arith) (omega arith) in
    record {
      above = rw (divide-leaf kind certs e) m.0;
      within = rw (divide-leaf kind certs e) m.1;
      lower = rw (divide-leaf kind certs e)
          (same_view refl (sym (cut-take low high leaf_half 0 certs s.certs_rise s.certs_within (omega arith) (omega arith)))
          (sym (cut-nil low (get_or (keys certs) leaf_half 0 - 1))));
      upper = rw (divide-leaf kind certs e)
          (same_view refl (sym (cut-drop low high leaf_half 0 certs s.certs_rise s.certs_within (omega arith)))
          (sym (cut-nil (get_or (keys certs) leaf_half 0) high)));
      key = λ g. absurd (not_both e g);
    }

inner_divided : (n low high kind : ℕ) (children : List Child) → eqb kind leaf_kind ≡ false
    → Sound n low high (view_of kind [] children) → inner_room ≤ length children → Divided low high (view_of kind [] children)
unfolding is_leaf lower_half upper_half cut_view
inner_divided n low high kind children e s f =
    let m = middle low high inner_half children s.children_rise s.children_within (omega arith) (omega arith) in
    record {
      above = rw (divide-inner kind children e) m.0;
      within = rw (divide-inner kind children e) m.1;
      lower = rw (divide-inner kind children e)
          (same_view refl (sym (cut-nil low (get_or (keys children) inner_half 0 - 1)))
          (sym (cut-take low high inner_half 0 children s.children_rise s.children_within (omega arith) (omega arith))));
      upper = rw (divide-inner kind children e)
          (same_view refl (sym (cut-nil (get_or (keys children) inner_half 0) high))
          (sym (cut-drop low high inner_half 0 children s.children_rise s.children_within (omega arith))));
      key = λ g. rw (divide-inner kind children e) m.2;
    }

pub full-leaf : (v : View) → Shaped v → full v ≡ true → is_leaf v ≡ true → leaf_room ≤ length v.certs
unfolding full
full-leaf v s f l = go (or_cases (leb leaf_room (length v.certs)) (leb inner_room (length v.children)) f)
  where
    go : (leb leaf_room (length v.certs) ≡ true) ⊎ (leb inner_room (length v.children) ≡ true) → leaf_room ≤ length v.certs
    go (inl e) = leb-true leaf_room (length v.certs) e
    go (inr e) =
        absurd (omega (arith, leb-true inner_room (length v.children) e, ap length (s.leaf l)))

pub full-inner : (v : View) → Shaped v → full v ≡ true → is_leaf v ≡ false → inner_room ≤ length v.children
unfolding full
full-inner v s f l = go (or_cases (leb leaf_room (length v.certs)) (leb inner_room (length v.children)) f)
  where
    go : (leb leaf_room (length v.certs) ≡ true) ⊎ (leb inner_room (length v.children) ≡ true) → inner_room ≤ length v.children
    go (inl e) = absurd (omega (arith, leb-true leaf_room (length v.certs) e, ap length (s.inner l)))
    go (inr e) = leb-true inner_room (length v.children) e

pub divided : {n low high : ℕ} {v : View} → Sound n low high v → Shaped v → full v ≡ true → Divided low high v
unfolding is_leaf
divided {n} {low} {high} {v} s h f = go (is_leaf v) refl
  where
    go : (b : Bool) → is_leaf v ≡ b → Divided low high v
    go true e =
        let w : v ≡ view_of v.kind v.certs [] = same_view refl refl (h.leaf e) in
        subst (Divided low high) (sym w)
        (leaf_divided n low high v.kind v.certs e (subst (Sound n low high) w s) (full-leaf v h f e))
    go false e =
        let w : v ≡ view_of v.kind [] v.children = same_view refl (h.inner e) refl in
        subst (Divided low high) (sym w)
        (inner_divided n low high v.kind v.children e (subst (Sound n low high) w s) (full-inner v h f e))

-- ── The halves ──────────────────────────────────────────────────────────────────────────────────────────────────

module _ {n low high : ℕ} {v : View} (s : Sound n low high v) (h : Shaped v) (f : full v ≡ true) where
  pub lower-sound : Sound n low (divide v - 1) (lower_half v)
  lower-sound =
      let d = divided s h f in
      subst (Sound n low (divide v - 1)) (sym d.lower)
      (sound-cut low (divide v - 1) (omega (arith, d.above)) (λ e. starts-mem low v.children (s.starts e)) s)

  pub upper-sound : Sound n (divide v) high (upper_half v)
  upper-sound =
      let d = divided s h f in
      subst (Sound n (divide v) high) (sym d.upper) (sound-cut (divide v) high d.within d.key s)

  -- each certificate is found in the half whose range holds its key
  pub find-lower : (k : ℕ) → low ≤ k → k < divide v → find k (lower_half v).certs ≡ find k v.certs
  unfolding cut_view
  find-lower k p q =
      let d = divided s h f in
      ap (λ (w : View). find k w.certs) d.lower
      ∙ find-cut low (divide v - 1) k v.certs (between-of low (divide v - 1) k p (omega arith))

  pub find-upper : (k : ℕ) → divide v ≤ k → k ≤ high → find k (upper_half v).certs ≡ find k v.certs
  unfolding cut_view
  find-upper k p q =
      let d = divided s h f in
      ap (λ (w : View). find k w.certs) d.upper
      ∙ find-cut (divide v) high k v.certs (between-of (divide v) high k p q)

-- the pages built for them, in the places that ask for them
pub lower_page-fits : {n : ℕ} (c : ℕ) (e : Place) (p : Page) → Sound n p.low p.high p.view → Shaped p.view
    → full p.view ≡ true → e.birth ≡ c → e.low ≡ p.low → e.high ≡ divide p.view - 1
    → (e.want ≡ 0) ⊎ (e.want ≡ p.view.kind) → Fits n e (lower_page c p)
unfolding lower_page lower_half
lower_page-fits c e p s h f b l u k = fits_fresh c c e b l u k (lower-sound s h f)

pub upper_page-fits : {n : ℕ} (c : ℕ) (e : Place) (p : Page) → Sound n p.low p.high p.view → Shaped p.view
    → full p.view ≡ true → e.birth ≡ c → e.low ≡ divide p.view → e.high ≡ p.high
    → (e.want ≡ 0) ⊎ (e.want ≡ p.view.kind) → Fits n e (upper_page c p)
unfolding upper_page upper_half
upper_page-fits c e p s h f b l u k = fits_fresh c c e b l u k (upper-sound s h f)

-- a half has room
pub not_full : (v : View) → length v.certs < leaf_room → length v.children < inner_room → full v ≡ false
unfolding full
not_full v p q = rw (lt-leb leaf_room (length v.certs) p) (lt-leb inner_room (length v.children) q)

pub room : (v : View) → full v ≡ false → (length v.certs < leaf_room) × (length v.children < inner_room)
unfolding full
room v h = go (leb leaf_room (length v.certs)) refl (leb inner_room (length v.children)) refl h
  where
    go : (a : Bool) → leb leaf_room (length v.certs) ≡ a → (b : Bool) → leb inner_room (length v.children) ≡ b
        → (a || b) ≡ false → (length v.certs < leaf_room) × (length v.children < inner_room)
    go true p b q r = absurd (not_both refl r)
    go false p true q r = absurd (not_both refl r)
    go false p false q r = (leb-false leaf_room (length v.certs) p, leb-false inner_room (length v.children) q)

pub lower-room : (v : View) → full (lower_half v) ≡ false
unfolding lower_half
lower-room v =
    not_full (lower_half v) (omega (arith, length-take leaf_half v.certs)) (omega (arith, length-take inner_half v.children))

pub upper-room : {n low high : ℕ} {v : View} → Sound n low high v → full (upper_half v) ≡ false
unfolding upper_half
upper-room {v = v} s =
    not_full (upper_half v) (omega (arith, length-drop leaf_half v.certs, s.certs_room))
    (omega (arith, length-drop inner_half v.children, s.children_room))

-- ── The page above ──────────────────────────────────────────────────────────────────────────────────────────────

-- an entry's key stays with a new child, and a second one follows
pub sound_pair : {n low high : ℕ} {v : View} (c l lower m upper previous : ℕ) → mem l (keys v.children) ≡ true
    → length v.children < inner_room → low ≤ m → m ≤ high → Names n (new_child c l lower previous).value
    → Names n (new_child c m upper previous).value → Sound n low high v
    → Sound n low high (put_child (new_child c m upper previous) (put_child (new_child c l lower previous) v))
unfolding new_child put_child
sound_pair {n} {low} {high} {v} c l lower m upper previous k r p q x y s =
    let b = all-mem (between low high) l (keys v.children) s.children_within k in
    let e = length-put-present (new_child c l lower previous) v.children s.children_rise k in
    sound-put_child (new_child c m upper previous)
    (omega (arith, length-put-le (new_child c m upper previous) (put (new_child c l lower previous) v.children), e))
    y p q
    (sound-put_child (new_child c l lower previous) (omega (arith, e)) x (between-low low high l b) (between-high low high l b) s)

pub previous_of-below : (n c : ℕ) (s : Step) → s.place.previous < n → s.place.child < n → previous_of c s < n
unfolding previous_of
previous_of-below n c s p q = go (heirs c s) refl
  where
    go : (b : Bool) → heirs c s ≡ b → previous_of c s < n
    go true e = rw (e, previous_of) p
    go false e = rw (e, previous_of) q

pub twins-sound : {n low high : ℕ} {v : View} (c : ℕ) (s : Step) (lower upper : ℕ)
    → mem s.page.low (keys v.children) ≡ true → length v.children < inner_room
    → low ≤ divide s.page.view → divide s.page.view ≤ high
    → 1 ≤ lower → lower < n → 1 ≤ upper → upper < n → previous_of c s < n
    → Sound n low high v → Sound n low high (twins c s lower upper v)
unfolding twins new_child
twins-sound c s lower upper k r p q a b a' b' o h =
    sound_pair c s.page.low lower (divide s.page.view) upper (previous_of c s) k r p q
    record { child_from = a; child_below = b; previous_below = o }
    record { child_from = a'; child_below = b'; previous_below = o }
    h

pub twins-fits : {n : ℕ} {e : Place} {p : Page} (c : ℕ) (s : Step) (lower upper : ℕ)
    → mem s.page.low (keys p.view.children) ≡ true → length p.view.children < inner_room
    → e.low ≤ divide s.page.view → divide s.page.view ≤ e.high
    → 1 ≤ lower → lower < n → 1 ≤ upper → upper < n → previous_of c s < n
    → Fits n e p → Fits n e (touch c (twins c s lower upper p.view) p)
unfolding twins put_child
twins-fits {p = p} c s lower upper k r l h a b a' b' o f =
    fits-touch c (twins c s lower upper p.view) refl (twins-sound c s lower upper k r l h a b a' b' o f.sound) f

-- ── A new root ──────────────────────────────────────────────────────────────────────────────────────────────────

one-child-sound : (n kind birth child previous : ℕ) → kind < top_kind → 1 ≤ child → child < n → previous < n
    → Sound n 0 last_key (view_of (kind + 1) [] (new_child birth 0 child previous ∷ []))
unfolding new_child keys all rising rises_from starts_at between
one-child-sound n kind birth child previous k a b o =
    let m = names_of n (new_child birth 0 child previous) (record { child_from = a; child_below = b; previous_below = o }) in
    record {
      kind_from = omega arith;
      kind_to = omega arith;
      certs_room = omega arith;
      children_room = omega arith;
      range = omega arith;
      certs_rise = refl;
      certs_within = refl;
      children_rise = refl;
      children_within = refl;
      good = refl;
      starts = λ e. refl;
      names = rw m;
    }

pub root_over-sound : (n : ℕ) (s : Step) → s.page.view.kind < top_kind → s.place.low ≡ 0 → 1 ≤ s.place.child
    → s.place.child < n → s.place.previous < n → Sound n 0 last_key (root_over s)
unfolding root_over
root_over-sound n s k l a b o =
    subst (λ (low : ℕ). Sound n 0 last_key (view_of (s.page.view.kind + 1) [] (new_child s.place.birth low s.place.child s.place.previous ∷ [])))
    (sym l) (one-child-sound n s.page.view.kind s.place.birth s.place.child s.place.previous k a b o)

pub root_over-shaped : (s : Step) → 1 ≤ s.page.view.kind → Shaped (root_over s)
unfolding root_over is_leaf
root_over-shaped s k = record {
  leaf = λ h. absurd (omega (arith, eqb-true (s.page.view.kind + 1) leaf_kind h));
  inner = λ h. refl;
}

pub root_over-fits : (n c : ℕ) (s : Step) (e : Place) → e.birth ≡ c → e.low ≡ 0 → e.high ≡ last_key → e.want ≡ 0
    → Sound n 0 last_key (root_over s) → Fits n e (fresh c c 0 last_key (root_over s))
root_over-fits n c s e b l h w o = fits_fresh c c e b l h (inl w) o
