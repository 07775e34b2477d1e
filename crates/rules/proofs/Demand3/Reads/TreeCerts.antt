-- The certificates of a good table's tree: they rise and lie in the place's range, and a key is found among them where its way
-- leads, so by what the table tells of it.
use Rattle.std.proofs.Common.{◌≡◌, ℕ, zero, suc, ◌+◌, ◌-◌, ◌<◌, ◌≤◌, Bool, true, false, List, [], ◌∷◌, ◌++◌, sym, refl, ap, ◌∙◌, subst, append-nil, arith}
use mathlib.Core.List.{Memᴰ}
use mathlib.Core.Option.{Option, some, none, some-injective, none-ne-some}
use Rattle.rules.specs.Layout.{top_kind, last_key}
use Rattle.rules.specs.Test.{between, all, mem}
use Rattle.rules.specs.Key.{good_key}
use Rattle.rules.specs.Entry.{Cert, Child, keys, find, rising}
use Rattle.rules.specs.Page.{View, is_leaf}
use Rattle.rules.specs.Place.{root_place, high_before, place_of, places_in, kids, pick, show}
use Rattle.rules.specs.Tree.{Tree, empty, join, here, tree_each, tree, tree_of}
use Rattle.rules.specs.declared.Place.{Place}
use Rattle.rules.proofs.Entries.Tests.{fails, all_nil, all_append, all_imp, all-mem, between-low, between-high, between-below, between_wider}
use Rattle.rules.proofs.Entries.Rises.{rises-mem, rising-nil, rising-from, rising-append, keys-append}
use Rattle.rules.proofs.Entries.Entries.{find_outside, find-append-left, find-append_right}
use Rattle.rules.proofs.Entries.Views.{Shaped, leaf_kind_lem, leaf_of-kind}
use Rattle.rules.proofs.Entries.Sounds.{Sound}
use Rattle.rules.proofs.Entries.Places.{show-some, shown-shaped}
use Rattle.rules.proofs.Entries.Picks.{Rising, rising-rest, kid-key, kid-rise, places-kids, pick-here, pick-later}
use Rattle.rules.proofs.Entries.Asks.{pick-leaf, kids-rising}
use Rattle.rules.proofs.Demand3.Ways.Ways.{at, Node, Tells}
use Rattle.rules.proofs.Demand3.Ways.Invariant.{Good}
use Rattle.rules.proofs.Demand3.Ways.Kids.{shown-kind, sound-here, kid-within, leaf_kids}
use Rattle.rules.proofs.Demand3.Ways.Nodes.{above, at_root_lem, node-root, node-range, kid-kind}
use Rattle.rules.proofs.Demand3.Epochs.Opens.{tree-shown, kid-node}

-- ── Certificates in order within a range ────────────────────────────────────────────────────────────────────────

pub record Ordered (low high : ℕ) (xs : List Cert) : Type 0 where
  pub rise : rising (keys xs) ≡ true
  pub within : all (between low high) (keys xs) ≡ true

none_ordered : (low high : ℕ) → Ordered low high []
unfolding keys
none_ordered low high = record { rise = rising-nil; within = all_nil (between low high) }

ordered_wider : {l h : ℕ} {xs : List Cert} (low high : ℕ) → low ≤ l → h ≤ high → Ordered l h xs → Ordered low high xs
ordered_wider {l} {h} {xs} low high p q x = record {
  rise = x.rise;
  within = all_imp (between l h) (between low high) (λ k b. between_wider l h low high k p q b) (keys xs) x.within;
}

-- one list above the other
ordered_append : (low m high : ℕ) (xs ys : List Cert) → low ≤ suc m → m ≤ high → Ordered low m xs → Ordered (suc m) high ys
    → Ordered low high (xs ++ ys)
ordered_append low m high xs ys p q x y = record {
  rise = rw keys-append (rising-append (keys xs) (keys ys) x.rise y.rise apart);
  within = rw keys-append
      (all_append (between low high) (keys xs) (keys ys)
      (all_imp (between low m) (between low high) (λ k b. between_wider low m low high k (omega arith) q b) (keys xs) x.within)
      (all_imp (between (suc m) high) (between low high) (λ k b. between_wider (suc m) high low high k p (omega arith) b) (keys ys) y.within));
}
  where
    apart : (i j : ℕ) → mem i (keys xs) ≡ true → mem j (keys ys) ≡ true → i < j
    apart i j a b =
        omega (
          arith,
          between-high low m i (all-mem (between low m) i (keys xs) x.within a),
          between-low (suc m) high j (all-mem (between (suc m) high) j (keys ys) y.within b),
        )

-- ── The kids of a page ──────────────────────────────────────────────────────────────────────────────────────────

-- each kid's certificates are in order within its range
abbrev EachOrdered : (Place → Tree) → List Place → Type 0
EachOrdered f es = (d : Place) → Memᴰ d es → Ordered d.low d.high (f d).certs

module _ (f : Place → Tree) where
  pub each_nil : (tree_each f []).certs ≡ []
  unfolding tree_each empty
  each_nil = refl

  pub each_cons : (e : Place) (es : List Place) → (tree_each f (e ∷ es)).certs ≡ (f e).certs ++ (tree_each f es).certs
  unfolding tree_each join
  each_cons e es = refl

  -- the first kid's range lies below those behind it
  rest-above : (want high low : ℕ) (x : Child) (xs : List Child) → Rising high (x ∷ xs)
      → ((d : Place) → Memᴰ d (places_in want high (x ∷ xs)) → (low ≤ d.low) × (d.high ≤ high))
      → (d : Place) → Memᴰ d (places_in want high xs) → (suc (place_of want (high_before high xs) x).high ≤ d.low) × (d.high ≤ high)
  unfolding places_in place_of keys
  rest-above want high low x xs r w d m = (
    kid-rise (places-kids want high (x ∷ xs) (place_of want (high_before high xs) x) r (Memᴰ.head refl))
        (places-kids want high (x ∷ xs) d r (Memᴰ.tail m))
        (rises-mem x.key d.low (keys xs) (rising-from x.key (keys xs) r.rise)
        (kid-key (places-kids want high xs d (rising-rest r) m))),
    (w d (Memᴰ.tail m)).1,
  )

  each_ordered : (want high low : ℕ) (xs : List Child) → Rising high xs
      → ((d : Place) → Memᴰ d (places_in want high xs) → (low ≤ d.low) × (d.high ≤ high))
      → EachOrdered f (places_in want high xs) → Ordered low high (tree_each f (places_in want high xs)).certs
  unfolding places_in
  each_ordered want high low [] r w o = subst (Ordered low high) (sym each_nil) (none_ordered low high)
  each_ordered want high low (x ∷ xs) r w o =
      let p = place_of want (high_before high xs) x in
      let a = w p (Memᴰ.head refl) in
      let k = places-kids want high (x ∷ xs) p r (Memᴰ.head refl) in
      subst (Ordered low high) (sym (each_cons p (places_in want high xs)))
      (ordered_append low p.high high (f p).certs (tree_each f (places_in want high xs)).certs
      (omega (arith, a.0, k.range)) a.1
      (ordered_wider low p.high a.0 (omega arith) (o p (Memᴰ.head refl)))
      (each_ordered want high (suc p.high) xs (rising-rest r) (rest-above want high low x xs r w) (λ d m. o d (Memᴰ.tail m))))

  -- a key is found in the kid whose range holds it
  each_finds : (k want high low : ℕ) (xs : List Child) → Rising high xs
      → ((d : Place) → Memᴰ d (places_in want high xs) → (low ≤ d.low) × (d.high ≤ high))
      → EachOrdered f (places_in want high xs) → (d : Place) → pick k (places_in want high xs) ≡ some d
      → find k (tree_each f (places_in want high xs)).certs ≡ find k (f d).certs
  unfolding places_in pick
  each_finds k want high low [] r w o d h = absurd (none-ne-some d h)
  each_finds k want high low (x ∷ xs) r w o d h =
      ap (find k) (each_cons p es) ∙ go (between p.low p.high k) refl (find k (f p).certs) refl (each_finds k want high (suc p.high) xs (rising-rest r) above (λ b m. o b (Memᴰ.tail m)) d)
    where
      p : Place
      p = place_of want (high_before high xs) x

      es : List Place
      es = places_in want high xs

      above : (b : Place) → Memᴰ b (places_in want high xs) → (suc (place_of want (high_before high xs) x).high ≤ b.low) × (b.high ≤ high)
      above = rest-above want high low x xs r w

      behind : Ordered (suc p.high) high (tree_each f (places_in want high xs)).certs
      behind = each_ordered want high (suc p.high) xs (rising-rest r) above (λ b m. o b (Memᴰ.tail m))

      go : (b : Bool) → between p.low p.high k ≡ b → (s : Option ℕ) → find k (f p).certs ≡ s
          → (pick k es ≡ some d → find k (tree_each f es).certs ≡ find k (f d).certs)
          → find k ((f p).certs ++ (tree_each f es).certs) ≡ find k (f d).certs
      go true q (some v) s ih =
          let e = some-injective p d (sym (pick-here k p es (between-low p.low p.high k q) (between-high p.low p.high k q)) ∙ h) in
          find-append-left k (f p).certs (tree_each f es).certs v s ∙ (sym s ∙ ap (λ (y : Place). find k (f y).certs) e)
      go true q none s ih =
          let e = some-injective p d (sym (pick-here k p es (between-low p.low p.high k q) (between-high p.low p.high k q)) ∙ h) in
          find-append_right k (f p).certs (tree_each f es).certs s
          ∙ (find_outside (suc p.high) high k (tree_each f es).certs behind.within
          (between-below (suc p.high) high k (omega (arith, between-high p.low p.high k q)))
          ∙ (sym s ∙ ap (λ (y : Place). find k (f y).certs) e))
      go false q s g ih =
          find-append_right k (f p).certs (tree_each f es).certs
          (find_outside p.low p.high k (f p).certs (o p (Memᴰ.head refl)).within q)
          ∙ ih (sym (pick-later k p es q) ∙ h)

-- ── A place and all below it ────────────────────────────────────────────────────────────────────────────────────

module _ {n : ℕ} {t : List ℕ} (g : Good n t) where
  pub certs-here : (level : ℕ) (e : Place) (v : View) → show n t e ≡ some v
      → (tree (suc level) n t e).certs ≡ v.certs ++ (tree_each (tree level n t) (kids e v)).certs
  unfolding join here
  certs-here level e v s = ap (λ (y : Tree). y.certs) (tree-shown level n t e v s)

  -- the trees of all nodes of at most a kind
  abbrev Orders : ℕ → Type 0
  Orders level = (k : ℕ) (d : Place) (u : View) → Node n t k d → show n t d ≡ some u → u.kind ≤ level
      → Ordered d.low d.high (tree level n t d).certs

  module _ (level k : ℕ) (e : Place) (v : View) (x : Node n t k e) (s : show n t e ≡ some v) (low : v.kind ≤ suc level) where
    sound : Sound n e.low e.high v
    sound = let r = node-range x in sound-here n t e v s (omega (arith, r.0, r.1))

    shaped : Shaped v
    shaped = shown-shaped (show-some n t e v s)

    kid-low : (d : Place) → Memᴰ d (kids e v) → (u : View) → show n t d ≡ some u → u.kind ≤ level
    kid-low d m u q = omega (arith, kid-kind n t e v s d.low d (kid-node v d x s m).0 u q)

    kid-range : (d : Place) → Memᴰ d (kids e v) → (e.low ≤ d.low) × (d.high ≤ e.high)
    kid-range d m = kid-within n t e v s d.low d (kid-node v d x s m).0

    kids_ordered : Orders level → EachOrdered (tree level n t) (kids e v)
    kids_ordered ih d m =
        let y = (kid-node v d x s m).1 in
        let w = g.whole y in
        ih d.low d w.view y w.shows (kid-low d m w.view w.shows)

    -- a leaf's certificates are its own, an inner page's its kids'
    pub leaf-certs : is_leaf v ≡ true → (tree (suc level) n t e).certs ≡ v.certs
    unfolding is_leaf
    leaf-certs l =
        certs-here level e v s
        ∙ (ap (λ (es : List Place). v.certs ++ (tree_each (tree level n t) es).certs) (leaf_kids n t e v s (leaf_kind_lem v l))
        ∙ (ap (λ (xs : List Cert). v.certs ++ xs) (each_nil (tree level n t)) ∙ append-nil v.certs))

    pub inner-certs : is_leaf v ≡ false → (tree (suc level) n t e).certs ≡ (tree_each (tree level n t) (kids e v)).certs
    inner-certs i =
        certs-here level e v s
        ∙ ap (λ (xs : List Cert). xs ++ (tree_each (tree level n t) (kids e v)).certs) (shaped.inner i)

    tree_ordered : Orders level → Ordered e.low e.high (tree (suc level) n t e).certs
    unfolding kids
    tree_ordered ih = go (is_leaf v) refl
      where
        own : Ordered e.low e.high v.certs
        own = record { rise = sound.certs_rise; within = sound.certs_within }

        below : Ordered e.low e.high (tree_each (tree level n t) (places_in (v.kind - 1) e.high v.children)).certs
        below =
            each_ordered (tree level n t) (v.kind - 1) e.high e.low v.children (kids-rising e sound) kid-range
            (kids_ordered ih)

        go : (b : Bool) → is_leaf v ≡ b → Ordered e.low e.high (tree (suc level) n t e).certs
        go true l = subst (Ordered e.low e.high) (sym (leaf-certs l)) own
        go false i = subst (Ordered e.low e.high) (sym (inner-certs i)) below

  pub orders : (level : ℕ) → Orders level
  orders zero k e v x s h = absurd (omega (arith, (shown-kind n t e v s).0))
  orders (suc level) k e v x s h = tree_ordered level k e v x s h (orders level)

  pub all_ordered : Ordered 0 last_key (tree_of n t).certs
  unfolding tree_of root_place
  all_ordered =
      let x = node-root n t 0 (omega arith) in
      let w = g.whole x in
      orders top_kind 0 (root_place t) w.view x w.shows (shown-kind n t (root_place t) w.view w.shows).1

  -- a key of an inner page's range is found where it leads
  pub finds-below : (level k : ℕ) (e : Place) (v : View) → Node n t k e → show n t e ≡ some v → v.kind ≤ suc level
      → (d : Place) → pick k (kids e v) ≡ some d → find k (tree (suc level) n t e).certs ≡ find k (tree level n t d).certs
  unfolding kids
  finds-below level k e v x s h d q =
      ap (find k) (inner-certs level k e v x s h inner)
      ∙ each_finds (tree level n t) k (v.kind - 1) e.high e.low v.children (kids-rising e (sound level k e v x s h))
      (kid-range level k e v x s h) (kids_ordered level k e v x s h (orders level)) d q
    where
      inner : is_leaf v ≡ false
      inner = fails (is_leaf v) (λ l. none-ne-some d (sym (pick-leaf k e v (shown-shaped (show-some n t e v s)) l) ∙ q))

  -- ── What every certificate passes ───────────────────────────────────────────────────────────────────────────────

  abbrev passes : Cert → Bool
  passes x = good_key x.key

  each_good : (f : Place → Tree) (es : List Place) → ((d : Place) → Memᴰ d es → all passes (f d).certs ≡ true)
      → all passes (tree_each f es).certs ≡ true
  each_good f [] h = ap (all passes) (each_nil f) ∙ all_nil passes
  each_good f (e ∷ es) h =
      ap (all passes) (each_cons f e es)
      ∙ all_append passes (f e).certs (tree_each f es).certs (h e (Memᴰ.head refl)) (each_good f es (λ d m. h d (Memᴰ.tail m)))

  goods : (level k : ℕ) (e : Place) (v : View) → Node n t k e → show n t e ≡ some v → v.kind ≤ level
      → all passes (tree level n t e).certs ≡ true
  goods zero k e v x s h = absurd (omega (arith, (shown-kind n t e v s).0))
  goods (suc level) k e v x s h =
      ap (all passes) (certs-here level e v s)
      ∙ all_append passes v.certs (tree_each (tree level n t) (kids e v)).certs (sound level k e v x s h).good
      (each_good (tree level n t) (kids e v)
      (λ d m.
      let y = (kid-node v d x s m).1 in
      let w = g.whole y in
      goods level d.low d w.view y w.shows (kid-low level k e v x s h d m w.view w.shows)))

  pub all-good : all passes (tree_of n t).certs ≡ true
  unfolding tree_of
  all-good =
      let x = node-root n t 0 (omega arith) in
      let w = g.whole x in
      goods top_kind 0 (root_place t) w.view x w.shows (shown-kind n t (root_place t) w.view w.shows).1

  -- ── What the table tells ────────────────────────────────────────────────────────────────────────────────────────

  -- down the way of k, one level for each place
  along : (k i : ℕ) (e : Place) (v : View) → at n t k i ≡ some e → show n t e ≡ some v
      → (i + v.kind ≤ top_kind) × ((level : ℕ) → level + i ≡ top_kind → find k (tree_of n t).certs ≡ find k (tree level n t e).certs)
  unfolding tree_of
  along k zero e v h s = (
    omega (arith, (shown-kind n t e v s).1),
    λ level q.
        let l : top_kind ≡ level = omega (arith, q) in
        ap (λ (d : Place). find k (tree top_kind n t d).certs) (at_root_lem n t k e h) ∙ ap (λ (j : ℕ). find k (tree j n t e).certs) l,
  )
  along k (suc i) e v h s =
      let a = above n t k i e h in
      let r = along k i a.parent a.view a.stands a.shows in
      let z = kid-kind n t a.parent a.view a.shows k e a.picks v s in (
        omega (arith, r.0, z),
        λ level q.
            r.1 (suc level) (omega (arith, q))
            ∙ finds-below level k a.parent a.view (record { depth = i; here = a.stands }) a.shows (omega (arith, r.0, q)) e a.picks,
      )

  pub tree-tells : {k : ℕ} {o : Option ℕ} → Tells n t k o → find k (tree_of n t).certs ≡ o
  tree-tells {k} {o} x =
      let r = along k x.node.depth x.place x.view x.node.here x.shows in
      let z = (shown-kind n t x.place x.view x.shows).0 in
      let level : ℕ = top_kind - x.node.depth - 1 in
      r.1 (suc level) (omega (arith, r.0, z))
      ∙ (ap (find k)
      (leaf-certs level k x.place x.view x.node x.shows (omega (arith, x.leaf)) (leaf_of-kind x.view x.leaf))
      ∙ x.finds)
