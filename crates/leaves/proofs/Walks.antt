-- A walk over the leaves of a range: what was found and what is left of it come to what the rules' walk gives. This is
-- the law that a loop over leaves cites; each step of it is one of Ranges, from the walk's key up to its high. Assumes nothing.
use Prim.Native.Nat.{ℕ, ◌+◌, ◌-◌, ◌≤◌, ◌<◌}
use native.Mathlib.Omega.{arith}
use mathlib.Core.Path.{◌≡◌, refl, sym, ap, ◌∙◌, subst}
use mathlib.Core.Bool.{Bool, true, false}
use mathlib.Core.List.{List, [], ◌++◌}
use lib.Dec.{leb, ltb}
use lib.ListN.{length, take}
use borrow.Author.Tests.{leb-true, leb-false, ltb-true, ltb-false, lt-ltb, le-ltb}
use Rattle.std.specs.Prelude.{Option, Some, None, Result, Ok, Err}
use Rattle.rules.specs.Layout.{last_key}
use Rattle.rules.specs.Entry.{Cert, cut}
use Rattle.rules.specs.Table.{read}
use Rattle.rules.specs.Walk.{Walked, way_of, way_report, stops, walk_of}
use Rattle.rules.specs.declared.Asked.{Asked}
use Rattle.rules.specs.declared.Report.{Report}
use Rattle.climbs.specs.Rest.{rest}
use Rattle.climbs.specs.After.{after}
use Rattle.climbs.specs.Ground.{Ground}
use Rattle.climbs.proofs.Ends.{after_more, rest-begins, rest-full, rest_ended}
use Rattle.leaves.specs.Cursors.{no_cursor, Kept, nexting, next_of}
use Rattle.leaves.specs.Walks.{walk_over, Stepping, stepping, key_behind, walk_behind, step_from, step_of, keys_from, keys_left}
use Rattle.leaves.specs.declared.Leaf.{Leaf}
use Rattle.leaves.specs.declared.Leaves.{Leaves}
use Rattle.leaves.proofs.Loops.{kept-start, Reached}
use Rattle.leaves.proofs.Ranges.{walked_to, Climbing, climbing-damaged, reached, passed as behind-leaf, climbing-ends}

-- what is asked for from a key on
abbrev pub from : ℕ → Asked → Asked
from k a = record { low = k; high = a.high; room = a.room }

-- what is asked for still: nothing where the walk does not go on
unfoldable pub left_of : Option ℕ → Asked → Asked
left_of None a = record { low = 0; high = a.high; room = 0 }
left_of (Some k) a = from k a

left_room : (x : Option ℕ) (a : Asked) → (left_of x a).room ≤ a.room
unfolding left_of
left_room None a = omega arith
left_room (Some k) a = omega arith

-- the table as it came and as it is, what was found, and the walk
pub record Walking (n c : ℕ) (a : Asked) (o t : List ℕ) (found : List Cert) (w : Leaves) : Type 0 where
  pub comes : rest n c (left_of w.key a) (walked_to t found w.report) ≡ walk_of n c a o
  pub ground : Ground n c t
  pub kept : Kept n t w.cursor
  pub ahead : (k : ℕ) → w.key ≡ Some k → k ≤ a.high
  pub high : w.high ≡ a.high
  pub last : a.high ≤ last_key

-- the certificates of a leaf that are asked for
abbrev pub more : Asked → List ℕ → Leaf → List Cert → List Cert
more a u l found = take (a.room - length found) (cut l.from a.high (read u l.child).view.certs)

-- ── The key behind a leaf ───────────────────────────────────────────────────────────────────────────────────────

key_on : (end high : ℕ) → end < high → key_behind end high ≡ Some (end + 1)
unfolding key_behind
key_on end high h = rw (lt-ltb end high h, key_behind)

key_past : (end high : ℕ) → high ≤ end → key_behind end high ≡ None
unfolding key_behind
key_past end high h = rw (le-ltb end high h, key_behind)

some_same : (i k : ℕ) → Some i ≡ Some k → i ≡ k
some_same i k e = cc

-- what is no leaf is damage
pub no_leaf : (s : Result Leaf Report) → ((l : Leaf) → s ≡ Ok l → ⊥) → (x : Report) × (s ≡ Err x)
no_leaf (Ok l) h = absurd (h l refl)
no_leaf (Err x) h = (x, refl)

-- ── The walk ────────────────────────────────────────────────────────────────────────────────────────────────────

module _ {n c : ℕ} {a : Asked} {o : List ℕ} where
  pub walking-begins : Ground n c o → a.low ≤ a.high → a.high ≤ last_key → (w : Leaves) → w ≡ walk_over a.low a.high → Walking n c a o o [] w
  unfolding left_of
  walking-begins g l h w q =
      let y : Walking n c a o o [] (walk_over a.low a.high) = record {
        comes = sym (rest-begins n c a o);
        ground = g;
        kept = kept-start n o no_cursor refl;
        ahead = λ k e. omega (arith, some_same a.low k e, l);
        high = refl;
        last = h;
      } in
      subst (Walking n c a o o []) (sym q) y

  module _ {t : List ℕ} {found : List Cert} {w : Leaves} (y : Walking n c a o t found w) where
    pub walking-full : a.room ≤ length found → walked_to t found w.report ≡ walk_of n c a o
    walking-full h =
        sym (rest-full n c (left_of w.key a) (walked_to t found w.report) (omega (arith, left_room w.key a, h))) ∙ y.comes

    -- where a walk does not end for want of room there is room
    pub walking-room : ((walk_of n c a o).whole ≡ true → length (walk_of n c a o).found < a.room) → length found < a.room
    walking-room h = go (leb a.room (length found)) refl
      where
        go : (b : Bool) → leb a.room (length found) ≡ b → length found < a.room
        go true q =
            let f = walking-full (leb-true a.room (length found) q) in
            let l = h (sym (ap (λ (v : Walked). v.whole) f)) in
            absurd (omega (arith, l, ap (λ (v : Walked). length v.found) f, leb-true a.room (length found) q))
        go false q = leb-false a.room (length found) q

    -- while it goes on it is a climb to the rest of what is asked for, from its key on
    pub walking-climbs : (k : ℕ) → w.key ≡ Some k → Climbing n c a o t (from k a) found w.cursor w.report
    unfolding left_of
    walking-climbs k q = record {
      comes = ap (λ (x : Option ℕ). rest n c (left_of x a) (walked_to t found w.report)) (sym q) ∙ y.comes;
      ground = y.ground;
      kept = y.kept;
      low = y.ahead k q;
      high = y.last;
    }

    -- ── One step ────────────────────────────────────────────────────────────────────────────────────────────────

    module _ {u : List ℕ} {r : Option (Result Leaf Report)} {v : Leaves} (f : stepping u r v ≡ step_of n c t w) where
      -- the range has ended
      pub walking-done : r ≡ None → walked_to u found v.report ≡ walk_of n c a o
      unfolding step_of step_from left_of
      walking-done e = go w.key refl f
        where
          go : (x : Option ℕ) → w.key ≡ x → stepping u r v ≡ step_from n c t w x → walked_to u found v.report ≡ walk_of n c a o
          go None q g =
              ap (λ (x : Stepping). walked_to x.table found x.walk.report) g
              ∙ sym (rest-full n c (left_of None a) (walked_to t found w.report) (omega arith))
              ∙ ap (λ (x : Option ℕ). rest n c (left_of x a) (walked_to t found w.report)) (sym q)
              ∙ y.comes
          go (Some k) q g =
              let h = sym e ∙ ap (λ (x : Stepping). x.step) g in
              absurd (let z : ◌≡◌ {A = ℕ} 0 1 = cc in omega arith)

      -- a step was made from a key
      record Took (s : Result Leaf Report) : Type 0 where
        k : ℕ
        key : w.key ≡ Some k
        next : nexting u s ≡ next_of k w.high (way_of n c k t) (way_report n c k t w.report)
        walk : v ≡ walk_behind w s

      took : (s : Result Leaf Report) → r ≡ Some s → Took s
      unfolding step_of step_from
      took s e = go w.key refl f
        where
          go : (x : Option ℕ) → w.key ≡ x → stepping u r v ≡ step_from n c t w x → Took s
          go None q g =
              let h = sym e ∙ ap (λ (x : Stepping). x.step) g in
              absurd (let z : ◌≡◌ {A = ℕ} 0 1 = cc in omega arith)
          go (Some k) q g =
              let d = next_of k w.high (way_of n c k t) (way_report n c k t w.report) in
              let h : Some s ≡ Some d.next = sym e ∙ ap (λ (x : Stepping). x.step) g in
              let i : s ≡ d.next = cc in
              record {
                k = k;
                key = q;
                next = (λ j. nexting (ap (λ (x : Stepping). x.table) g j) (i j));
                walk = ap (λ (x : Stepping). x.walk) g ∙ ap (walk_behind w) (sym i);
              }

      module _ (room : (k : ℕ) → w.key ≡ Some k → length found < a.room) where
        -- damage ends the walk
        pub walking-damaged : (x : Report) → r ≡ Some (Err x) → stops (walked_to t found v.report) u ≡ walk_of n c a o
        unfolding walk_behind
        walking-damaged x e =
            let d = took (Err x) e in
            ap (λ (p : Report). stops (walked_to t found p) u) (ap (λ (p : Leaves). p.report) d.walk)
            ∙ climbing-damaged (walking-climbs d.k d.key) (room d.k d.key) w.high u x d.next

        module _ (l : Leaf) (e : r ≡ Some (Ok l)) where
          taken : Took (Ok l)
          taken = took (Ok l) e

          reached-by : Reached n c taken.k w.high w.report t u l
          reached-by = reached (walking-climbs taken.k taken.key) (room taken.k taken.key) w.high u l taken.next

          pub walking-reached : Reached n c l.from w.high w.report t u l
          walking-reached = subst (λ (k : ℕ). Reached n c k w.high w.report t u l) (sym reached-by.from) reached-by

          -- the step was made from this key
          pub walking-from : w.key ≡ Some l.from
          walking-from = taken.key ∙ ap Some (sym reached-by.from)

          walking-next : nexting u (Ok l) ≡ next_of l.from w.high (way_of n c l.from t) (way_report n c l.from t w.report)
          walking-next =
              subst (λ (k : ℕ). nexting u (Ok l) ≡ next_of k w.high (way_of n c k t) (way_report n c k t w.report)) (sym reached-by.from) taken.next

          -- what is left of the walk behind the leaf
          pub passed : rest n c (after l.high (from l.from a)) (walked_to u (found ++ more a u l found) l.report) ≡ walk_of n c a o
          passed = behind-leaf (walking-climbs l.from walking-from) (room l.from walking-from) w.high u l walking-next

          -- a leaf at the end of the range is the last
          pub walking-ends : a.high ≤ l.high → walked_to u (found ++ more a u l found) l.report ≡ walk_of n c a o
          walking-ends h = climbing-ends (walking-climbs l.from walking-from) (room l.from walking-from) w.high u l walking-next h

          -- behind the leaf, with what stands in it
          behind : Option ℕ → Leaves
          behind x = record { key = x; high = w.high; cursor = l.behind; report = l.report }

          is-behind : v ≡ behind (key_behind l.high w.high)
          unfolding walk_behind behind
          is-behind = taken.walk

          goes : (x : Option ℕ) → rest n c (left_of x a) (walked_to u (found ++ more a u l found) l.report) ≡ walk_of n c a o
              → ((k : ℕ) → x ≡ Some k → k ≤ a.high) → Walking n c a o u (found ++ more a u l found) (behind x)
          unfolding behind
          goes x p q = record {
            comes = p;
            ground = walking-reached.ground;
            kept = walking-reached.kept;
            ahead = q;
            high = y.high;
            last = y.last;
          }

          on : (b : Bool) → ltb l.high a.high ≡ b → Walking n c a o u (found ++ more a u l found) (behind (key_behind l.high w.high))
          unfolding left_of
          on true h =
              let i = ltb-true l.high a.high h in
              subst (λ (x : Option ℕ). Walking n c a o u (found ++ more a u l found) (behind x)) (sym (key_on l.high w.high (omega (arith, i, y.high))))
              (goes (Some (l.high + 1))
              (ap (λ (b : Asked). rest n c b (walked_to u (found ++ more a u l found) l.report)) (sym (after_more l.high (from l.from a) i)) ∙ passed)
              (λ k q. omega (arith, some_same (l.high + 1) k q, i)))
          on false h =
              let i = ltb-false l.high a.high h in
              let walked = walked_to u (found ++ more a u l found) l.report in
              subst (λ (x : Option ℕ). Walking n c a o u (found ++ more a u l found) (behind x)) (sym (key_past l.high w.high (omega (arith, i, y.high))))
              (goes None
              (rest-full n c (left_of None a) walked (omega arith) ∙ sym (rest_ended n c l.high (from l.from a) walked i) ∙ passed)
              (λ k q. absurd (let z : ◌≡◌ {A = ℕ} 0 1 = cc in omega arith)))

          pub walking-on : Walking n c a o u (found ++ more a u l found) v
          walking-on = subst (Walking n c a o u (found ++ more a u l found)) (sym is-behind) (on (ltb l.high a.high) refl)

          -- it goes on with the key behind the leaf
          key-behind : (b : Bool) → ltb l.high w.high ≡ b → (k : ℕ) → key_behind l.high w.high ≡ Some k → k ≡ l.high + 1
          key-behind true h k q = sym (some_same (l.high + 1) k (sym (key_on l.high w.high (ltb-true l.high w.high h)) ∙ q))
          key-behind false h k q =
              let z : None ≡ Some k = sym (key_past l.high w.high (ltb-false l.high w.high h)) ∙ q in
              absurd (let z' : ◌≡◌ {A = ℕ} 0 1 = cc in omega arith)

          pub walking-key : (k : ℕ) → v.key ≡ Some k → k ≡ l.high + 1
          unfolding behind
          walking-key k q = key-behind (ltb l.high w.high) refl k (sym (ap (λ (p : Leaves). p.key) is-behind) ∙ q)

          -- each step leaves fewer keys
          fewer : (b : Bool) → ltb l.high w.high ≡ b → keys_from (key_behind l.high w.high) w.high < w.high + 1 - l.from
          unfolding keys_from
          fewer true h =
              let i = ltb-true l.high w.high h in
              subst (λ (x : Option ℕ). keys_from x w.high < w.high + 1 - l.from) (sym (key_on l.high w.high i))
              (omega (arith, i, walking-reached.high, walking-reached.up))
          fewer false h =
              subst (λ (x : Option ℕ). keys_from x w.high < w.high + 1 - l.from) (sym (key_past l.high w.high (ltb-false l.high w.high h)))
              (omega (arith, y.ahead l.from walking-from, y.high))

          pub walking-less : keys_left v < keys_left w
          unfolding keys_from behind
          walking-less =
              subst (λ (p : Leaves). keys_left p < keys_left w) (sym is-behind)
              (subst (λ (x : Option ℕ). keys_from (key_behind l.high w.high) w.high < keys_from x w.high) (sym walking-from)
              (fewer (ltb l.high w.high) refl))
