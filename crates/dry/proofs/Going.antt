-- The loop of the dry walk: what was seen so far and what is left to walk come to what the whole walk sees.
-- Assumes nothing.
use Prim.Native.Nat.{ℕ, ◌+◌, ◌*◌, ◌≤◌, ◌<◌}
use native.Mathlib.Omega.{arith}
use mathlib.Core.Path.{◌≡◌, refl, ap, sym, subst, ◌∙◌}
use mathlib.Core.Bool.{Bool, true, false}
use mathlib.Core.List.{List, [], ◌∷◌, ◌++◌}
use lib.ListN.{length, length-append, replicate}
use Rattle.std.specs.Prelude.{Option, Some, None, Result, Ok, Err}
use Rattle.rules.specs.Layout.{page_size, most_pages}
use Rattle.rules.specs.Entry.{Cert}
use Rattle.rules.specs.Table.{page_at, read, fit0}
use Rattle.rules.specs.Place.{cut_view}
use Rattle.rules.specs.declared.Asked.{Asked}
use Rattle.head.specs.Head.{head_in}
use Rattle.head.specs.declared.Head.{Head}
use Rattle.seen.proofs.Looks.{head-kind}
use Rattle.dry.specs.Walk.{sighted, asks, untouched, dry_over, counted, dry_of}
use Rattle.dry.specs.Count.{tally, tally_at, Leaf}
use Rattle.dry.specs.Cursor.{at_root, Reaching, reaching, leaf_of, way_left, ahead, Leads}
use Rattle.dry.specs.declared.Damaged.{Damaged}
use Rattle.dry.specs.declared.Dry.{Dry}
use Rattle.dry.specs.declared.Cursor.{Cursor}
use Rattle.dry.specs.declared.LeafAt.{LeafAt}
use Rattle.dry.proofs.Goes.{Sourced, sourced, source-inside, source-leaf}
use Rattle.dry.proofs.Answers.{root-named}
use Rattle.dry.proofs.Ways.{ahead-begins, ahead-full}
use Rattle.dry.proofs.Leads.{LeafShown, leads-root}
use Rattle.dry.proofs.Reaches.{come, Reached, leaf-reached, leaf-ahead}

-- the certificates seen so far, and the way that can be gone
pub record Going (n : ℕ) (a : Asked) (t : List ℕ) (c : Cursor) (count : ℕ) (m : List Bool) : Type 0 where
  pub found : List Cert
  pub counts : length found ≡ count
  pub comes : ahead n a t c (sighted true found m) ≡ dry_over n a t
  pub leads : Leads n t c

abbrev dry_by : ℕ → List Bool → Dry
dry_by count m = record { count = count; mended = m }

-- a leaf's certificates, as its place shows them
abbrev pub leaf_view : List ℕ → Asked → LeafAt → List Cert → List Cert
leaf_view t a l found = asks a (cut_view l.place.low l.place.high (read t l.page).view) found

-- a leaf that was sought while there was room
pub record Taken (n : ℕ) (a : Asked) (t : List ℕ) (c : Cursor) (count : ℕ) (m : List Bool) (s : Result (Option LeafAt) Damaged) (marks : List Bool) : Type 0 where
  pub long : length t ≡ n * page_size
  pub room : count < a.room
  pub going : Going n a t c count m
  pub is : reaching s marks ≡ leaf_of n a t c m

pub taken : {n : ℕ} {a : Asked} {t : List ℕ} {c : Cursor} {count : ℕ} {m : List Bool} {s : Result (Option LeafAt) Damaged} {marks : List Bool}
    → length t ≡ n * page_size → Going n a t c count m → count < a.room → reaching s marks ≡ leaf_of n a t c m → Taken n a t c count m s marks
taken long g room is = record { long = long; room = room; going = g; is = is }

module _ (n : ℕ) (t : List ℕ) (c : Cursor) (e : c ≡ at_root) where
  pub root-comes : (a : Asked) → ahead n a t c (sighted true [] (replicate most_pages false)) ≡ dry_over n a t
  unfolding untouched
  root-comes a = ap (λ (x : Cursor). ahead n a t x (sighted true [] (replicate most_pages false))) e ∙ ahead-begins n a t

  pub root-leads : fit0 n t ≡ true → Leads n t c
  root-leads fit = subst (Leads n t) (sym e) (leads-root n t (root-named n t fit))

  pub going-begins : (a : Asked) → fit0 n t ≡ true → Going n a t c 0 (replicate most_pages false)
  going-begins a fit = record { found = []; counts = refl; comes = root-comes a; leads = root-leads fit }

module _ {n : ℕ} {a : Asked} {t : List ℕ} where
  module _ {c : Cursor} {count : ℕ} {m : List Bool} where
    ends : (g : Going n a t c count m) (marks : List Bool) → sighted true g.found marks ≡ dry_over n a t → Ok (dry_by count marks) ≡ dry_of n a t
    unfolding dry_of counted
    ends g marks p = ap (λ (k : ℕ). Ok (dry_by k marks)) (sym g.counts) ∙ ap counted p

    breaks : (g : Going n a t c count m) (marks : List Bool) → sighted false g.found marks ≡ dry_over n a t → Err (dry_by count marks) ≡ dry_of n a t
    unfolding dry_of counted
    breaks g marks p = ap (λ (k : ℕ). Err (dry_by k marks)) (sym g.counts) ∙ ap counted p

    -- there is no room
    pub full_sees : (g : Going n a t c count m) → a.room ≤ count → sighted true g.found m ≡ dry_over n a t
    full_sees g h = sym (ahead-full n a t c (sighted true g.found m) (omega (arith, g.counts))) ∙ g.comes

    pub going-full : Going n a t c count m → a.room ≤ count → Ok (dry_by count m) ≡ dry_of n a t
    going-full g h = ends g m (full_sees g h)

    module _ {s : Result (Option LeafAt) Damaged} {marks : List Bool} (y : Taken n a t c count m s marks) where
      abbrev seen : List Cert
      seen = y.going.found

      goes : come n a t seen s marks ≡ dry_over n a t
      goes =
          ap (λ (x : Reaching). come n a t seen x.leaf x.marks) y.is
          ∙ sym (leaf-ahead n a t y.long seen (omega (arith, y.going.counts, y.room)) c m y.going.leads)
          ∙ y.going.comes

      reached : Reached n t (way_left c) s marks
      reached =
          subst (λ (x : Reaching). Reached n t (way_left c) x.leaf x.marks) (sym y.is)
          (leaf-reached n a t y.long c m y.going.leads)

      module _ (l : LeafAt) (q : s ≡ Ok (Some l)) where
        leaf : Reached n t (way_left c) (Ok (Some l)) marks
        leaf = subst (λ (z : Result (Option LeafAt) Damaged). Reached n t (way_left c) z marks) q reached

        pub leaf_less : way_left l.after < way_left c
        unfolding Reached
        leaf_less = leaf.1

        -- by the marks before the step that came to it
        pub leaf-shown : (before : List Bool) × LeafShown n t before marks l
        unfolding Reached
        leaf-shown = leaf.2

        leaf_sourced : Sourced n t l.page
        leaf_sourced =
            let x = leaf-shown.1 in
            sourced n t y.long (x.parent ∷ x.top ∷ []) leaf-shown.0 l.place l.page x.source_is

        pub leaf-below : l.page < n
        leaf-below = leaf_sourced.inside

        pub leaf-inside : (l.page + 1) * page_size ≤ length t
        leaf-inside = source-inside n t y.long l.page leaf_sourced

        pub leaf_there : (h : Head) → h ≡ head_in (page_at t l.page) → Leaf t l.page h
        leaf_there h f = source-leaf n t y.long l.page leaf_sourced h f (head-kind t l.page h f ∙ leaf-shown.1.kind)

        tallied : (k : ℕ) → k ≡ tally_at t l.page a l.place count → length (seen ++ leaf_view t a l seen) ≡ k
        unfolding tally_at tally asks
        tallied k e =
            length-append seen (leaf_view t a l seen)
            ∙ ap (λ (j : ℕ). tally_at t l.page a l.place j) y.going.counts
            ∙ sym e

        pub leaf-leads : Leads n t l.after
        unfolding Reached
        leaf-leads = leaf.0

        pub leaf-comes : ahead n a t l.after (sighted true (y.going.found ++ leaf_view t a l y.going.found) marks) ≡ dry_over n a t
        unfolding come
        leaf-comes = sym (ap (λ (z : Result (Option LeafAt) Damaged). come n a t seen z marks) q) ∙ goes

        pub going-leaf : (k : ℕ) → k ≡ tally_at t l.page a l.place count → Going n a t l.after k marks
        going-leaf k e = record {
          found = seen ++ leaf_view t a l seen;
          counts = tallied k e;
          comes = leaf-comes;
          leads = leaf-leads;
        }

      pub end_sees : s ≡ Ok None → sighted true y.going.found marks ≡ dry_over n a t
      unfolding come
      end_sees q = sym (ap (λ (z : Result (Option LeafAt) Damaged). come n a t seen z marks) q) ∙ goes

      pub damage_sees : (x : Damaged) → s ≡ Err x → sighted false y.going.found marks ≡ dry_over n a t
      unfolding come
      damage_sees x q = sym (ap (λ (z : Result (Option LeafAt) Damaged). come n a t seen z marks) q) ∙ goes

      pub going-ends : s ≡ Ok None → Ok (dry_by count marks) ≡ dry_of n a t
      going-ends q = ends y.going marks (end_sees q)

      pub going-breaks : (x : Damaged) → s ≡ Err x → Err (dry_by count marks) ≡ dry_of n a t
      going-breaks x q = breaks y.going marks (damage_sees x q)
