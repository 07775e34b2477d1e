-- How many certificates a tree has: few in any table; in good tables as many as there are keys with a record, so the same
-- where two tables tell the same, one more where a key more has one and one less where a key less has; and a list from key 0 shows them all.
use Rattle.std.proofs.Common.{◌≡◌, ℕ, suc, ◌+◌, ◌-◌, ◌*◌, ◌≤◌, min, Bool, true, false, eqb, leb, ◌≢◌, ◌⊎◌, List, [], ◌∷◌, length, take, sym, refl, ap, ◌∙◌, subst, inl, inr, mul-le-mul_right, arith, length-append, length-take, eqb-true, leb-false, leb-true, Ok}
use mathlib.Core.Option.{Option, some, none}
use borrow.Author.Tests.{eqb-false}
use Rattle.rules.specs.Layout.{leaf_room, inner_room, last_key}
use Rattle.rules.specs.Test.{between, mem}
use Rattle.rules.specs.Entry.{Cert, Child, keys, find, put}
use Rattle.rules.specs.Page.{View}
use Rattle.rules.specs.Table.{read}
use Rattle.rules.specs.Place.{root_place, high_before, place_of, places_in, kids, show, cut_view}
use Rattle.rules.specs.Tree.{Tree, broken, join, here, tree_each, tree, tree_of}
use Rattle.rules.specs.List.{up_from, list}
use Rattle.rules.specs.declared.Place.{Place}
use Rattle.rules.specs.declared.Session.{Session}
use Rattle.rules.proofs.Entries.Tests.{all-mem, between-high, between-above}
use Rattle.rules.proofs.Entries.Rises.{length_among, length-keys}
use Rattle.rules.proofs.Entries.Entries.{find-mem, mem-find, find_outside, absent, length_cut, cut_all}
use Rattle.rules.proofs.Entries.Same.{find-same}
use Rattle.rules.proofs.Entries.Puts.{mem-put-same, mem-put, mem-put_cases, put-rising, length-put-absent}
use Rattle.rules.proofs.Entries.Places.{Shown, fitting, lost, show-some}
use Rattle.rules.proofs.Demand3.Ways.Ways.{Tells}
use Rattle.rules.proofs.Demand3.Ways.Invariant.{Good, States}
use Rattle.rules.proofs.Demand3.Ways.Nodes.{tells, tells-one}
use Rattle.rules.proofs.Demand3.Epochs.Epochs.{working-good}
use Rattle.rules.proofs.Demand3.Epochs.Opens.{tree-shown}
use Rattle.rules.proofs.Demand3.Epochs.Store.{Safe}
use Rattle.rules.proofs.Demand3.Steps.Mended.{tells-bound}
use Rattle.rules.proofs.Demand3.Reads.Enters.{calm}
use Rattle.rules.proofs.Demand3.Reads.TreeCerts.{each_nil, each_cons, all_ordered, tree-tells}
use Rattle.rules.proofs.Demand3.Reads.Lists.{list_answers}

-- the number of certificates in a table's tree
abbrev pub certs_in : ℕ → List ℕ → ℕ
certs_in n t = length (tree_of n t).certs

-- ── Few ─────────────────────────────────────────────────────────────────────────────────────────────────────────

module _ (n : ℕ) (t : List ℕ) where
  shown-room : (e : Place) (v : View) → Shown n t e v → (length v.certs ≤ leaf_room) × (length v.children ≤ inner_room)
  unfolding cut_view
  shown-room e v (fitting f w) = (
    omega (arith, ap (λ (x : View). length x.certs) w, f.sound.certs_room),
    omega (arith, ap (λ (x : View). length x.children) w, f.sound.children_room),
  )
  shown-room e v (lost p s w) = (
    omega (arith, ap (λ (x : View). length x.certs) w, s.sound.certs_room, length_cut e.low e.high (read t e.previous).view.certs),
    omega (arith, ap (λ (x : View). length x.children) w, s.sound.children_room, length_cut e.low e.high (read t e.previous).view.children),
  )

  each_few : (f : Place → Tree) (b : ℕ) → ((e : Place) → length (f e).certs ≤ b) → (want high : ℕ) (xs : List Child)
      → length (tree_each f (places_in want high xs)).certs ≤ length xs * b
  unfolding places_in
  each_few f b h want high [] = omega (arith, ap length (each_nil f))
  each_few f b h want high (x ∷ xs) =
      let e = place_of want (high_before high xs) x in
      let es = places_in want high xs in
      omega (arith, ap length (each_cons f e es), length-append (f e).certs (tree_each f es).certs, h e, each_few f b h want high xs)

  tree-few : (level b : ℕ) → ((e : Place) → length (tree level n t e).certs ≤ b) → (e : Place)
      → length (tree (suc level) n t e).certs ≤ leaf_room + inner_room * b
  unfolding tree broken join here kids
  tree-few level b h e = go (show n t e) refl
    where
      go : (o : Option View) → show n t e ≡ o → length (tree (suc level) n t e).certs ≤ leaf_room + inner_room * b
      go none p = rw (tree, p) (omega arith)
      go (some v) p =
          let r = shown-room e v (show-some n t e v p) in
          omega (
            arith,
            ap (λ (y : Tree). length y.certs) (tree-shown level n t e v p),
            length-append v.certs (tree_each (tree level n t) (kids e v)).certs,
            r.0,
            each_few (tree level n t) b h (v.kind - 1) e.high v.children,
            mul-le-mul_right b r.1,
          )

  -- a root, thirty pages and nine hundred, each with no more than forty
  pub few-certs : certs_in n t ≤ 37240
  unfolding tree_of tree broken
  few-certs = tree-few 2 1240 (tree-few 1 40 (tree-few 0 0 (λ e. omega arith))) (root_place t)

-- ── As many as are told ─────────────────────────────────────────────────────────────────────────────────────────

module _ {n : ℕ} {t u : List ℕ} (g : Good n t) (h : Good n u) where
  abbrev xs : List Cert
  xs = (tree_of n t).certs

  abbrev ys : List Cert
  ys = (tree_of n u).certs

  -- a key of which both tables tell the same
  agree : (j : ℕ) → j ≤ last_key → ((a : Option ℕ) → Tells n t j a → Tells n u j a) → find j xs ≡ find j ys
  agree j l f = let o = tells g j l in tree-tells g o.1 ∙ sym (tree-tells h (f o.0 o.1))

  among : (a b : List Cert) (j : ℕ) → find j a ≡ find j b → mem j (keys a) ≡ true → mem j (keys b) ≡ true
  among a b j q m = let v = find-mem j a m in mem-find j b v.0 (sym q ∙ v.1)

  old-last : (j : ℕ) → mem j (keys xs) ≡ true → j ≤ last_key
  old-last j m = between-high 0 last_key j (all-mem (between 0 last_key) j (keys xs) (all_ordered g).within m)

  new-last : (j : ℕ) → mem j (keys ys) ≡ true → j ≤ last_key
  new-last j m = between-high 0 last_key j (all-mem (between 0 last_key) j (keys ys) (all_ordered h).within m)

  pub same-tree : ((j : ℕ) (a : Option ℕ) → Tells n t j a → Tells n u j a) → ys ≡ xs
  same-tree f = find-same ys xs (all_ordered h).rise (all_ordered g).rise (λ j. go j (leb j last_key) refl)
    where
      go : (j : ℕ) (b : Bool) → leb j last_key ≡ b → find j ys ≡ find j xs
      go j true l = sym (agree j (leb-true j last_key l) (f j))
      go j false l =
          let o = between-above 0 last_key j (leb-false j last_key l) in
          find_outside 0 last_key j ys (all_ordered h).within o ∙ sym (find_outside 0 last_key j xs (all_ordered g).within o)

  pub same-certs : ((j : ℕ) (a : Option ℕ) → Tells n t j a → Tells n u j a) → certs_in n u ≡ certs_in n t
  same-certs f = ap length (same-tree f)

  -- a key that had no record has one
  module _ (k x : ℕ) (absent-then : Tells n t k none) (own : Tells n u k (some x))
      (others : (j : ℕ) (a : Option ℕ) → j ≢ k → Tells n t j a → Tells n u j a) where
    abbrev entry : Cert
    entry = record { key = k; value = x }

    new-key : mem k (keys ys) ≡ true
    new-key = mem-find k ys x (tree-tells h own)

    put_in : (j : ℕ) → mem j (keys (put entry xs)) ≡ true → mem j (keys ys) ≡ true
    put_in j m = go (eqb j k) refl (mem-put_cases j entry xs m)
      where
        go : (b : Bool) → eqb j k ≡ b → (j ≡ k) ⊎ (mem j (keys xs) ≡ true) → mem j (keys ys) ≡ true
        go true q c = ap (λ (i : ℕ). mem i (keys ys)) (eqb-true j k q) ∙ new-key
        go false q (inl e) = absurd (eqb-false j k q e)
        go false q (inr o) = among xs ys j (agree j (old-last j o) (λ a. others j a (eqb-false j k q))) o

    put-out : (j : ℕ) → mem j (keys ys) ≡ true → mem j (keys (put entry xs)) ≡ true
    put-out j m = go (eqb j k) refl
      where
        go : (b : Bool) → eqb j k ≡ b → mem j (keys (put entry xs)) ≡ true
        go true q = ap (λ (i : ℕ). mem i (keys (put entry xs))) (eqb-true j k q) ∙ mem-put-same entry xs
        go false q =
            mem-put j entry xs (among ys xs j (sym (agree j (new-last j m) (λ a. others j a (eqb-false j k q)))) m)

    pub one_more_lem : certs_in n u ≡ certs_in n t + 1
    one_more_lem =
        omega (
          arith,
          length-keys ys,
          length-keys (put entry xs),
          length-put-absent entry xs (absent k xs (tree-tells g absent-then)),
          length_among (keys (put entry xs)) (keys ys) (put-rising entry xs (all_ordered g).rise) (all_ordered h).rise put_in,
          length_among (keys ys) (keys (put entry xs)) (all_ordered h).rise (put-rising entry xs (all_ordered g).rise) put-out,
        )

-- a key that had a record has none
pub one_less : {n : ℕ} {t u : List ℕ} → Good n t → Good n u → (k x : ℕ) → Tells n t k (some x) → Tells n u k none
    → ((j : ℕ) (a : Option ℕ) → j ≢ k → Tells n t j a → Tells n u j a) → certs_in n t ≡ certs_in n u + 1
one_less {n} {t} {u} g h k x present own others = one_more_lem h g k x own present back
  where
    back : (j : ℕ) (a : Option ℕ) → j ≢ k → Tells n u j a → Tells n t j a
    back j a d z =
        let o = tells g j (tells-bound z) in
        subst (Tells n t j) (tells-one (others j o.0 d o.1) z) o.1

-- ── As many as are listed ───────────────────────────────────────────────────────────────────────────────────────

pub list_counts : {s : Session} {W S : List ℕ} {Been : States} → Safe s W S Been → (ks xs : List ℕ)
    → (list W S s 0 ks xs).answer ≡ Ok (min (min (length ks) (length xs)) (certs_in s.n W))
unfolding up_from
list_counts {s} {W} x ks xs =
    let certs = (tree_of s.n W).certs in
    let room = min (length ks) (length xs) in
    let all : room - 0 ≡ room = omega arith in
    (list_answers x (calm x) 0 ks xs).answer
    ∙ ap (λ (ys : List Cert). Ok (length (take (room - 0) ys)))
    (cut_all 0 last_key certs (all_ordered (working-good x.inv)).within)
    ∙ ap (λ (i : ℕ). Ok (length (take i certs))) all
    ∙ ap (λ (i : ℕ). Ok i) (length-take room certs)
