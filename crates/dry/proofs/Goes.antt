-- The source of a place is a sound page of the table, and what it shows is a leaf or a run of entries. Assumes nothing.
use Prim.Native.Nat.{ℕ, suc, ◌+◌, ◌*◌, ◌-◌, ◌≤◌, ◌<◌}
use native.Mathlib.Omega.{arith}
use mathlib.Core.Path.{◌≡◌, refl, ap, sym, subst, ◌∙◌}
use mathlib.Core.Bool.{Bool, true, false}
use mathlib.Core.List.{List, [], ◌∷◌, ◌++◌, append-nil}
use lib.ListN.{length}
use lib.Seq.{take-nil}
use Rattle.std.specs.Prelude.{Some}
use Rattle.rules.specs.Layout.{page_size, leaf_kind}
use Rattle.rules.specs.Test.{mem}
use Rattle.rules.specs.Test.{all}
use Rattle.rules.specs.Sound.{names_pages}
use Rattle.rules.specs.Entry.{Cert, Child, cut}
use Rattle.rules.specs.Page.{View}
use Rattle.rules.specs.Place.{kids, place_of, places_in, cut_view}
use Rattle.rules.specs.Table.{page_at, read}
use Rattle.rules.specs.declared.Asked.{Asked}
use Rattle.rules.specs.declared.Place.{Place}
use Rattle.rules.proofs.Entries.Sounds.{Sound, sound-same, names_true}
use Rattle.rules.proofs.Entries.Places.{fits_true, mendable_true}
use Rattle.rules.proofs.Bytes.All.{All, nil, cons}
use Rattle.rules.proofs.Entries.Tests as tests
use Rattle.rules.proofs.Entries.Entries.{cut-nil, all-cut}
use Rattle.head.specs.Head.{head_in}
use Rattle.head.proofs.Headers.{head_of, head_in-page, certs-inner}
use Rattle.head.specs.declared.Head.{Head}
use Rattle.seen.specs.declared.Run.{Run}
use Rattle.seen.specs.Run.{run_of, kind_at, places, Runs, Lies}
use Rattle.seen.proofs.Spans.{places-none}
use Rattle.seen.proofs.Looks.{run-leaf, head-kind, runs_sound, lies-sound, places-sound}
use Rattle.seen.proofs.Shows.{fits-inside}
use Rattle.dry.specs.Walk.{keeps, helps, sighted, meets, asks, takes, dry_each, dry}
use Rattle.dry.specs.Source.{source, marked_by}
use Rattle.dry.specs.Count.{Leaf}
use Rattle.dry.specs.Cursor.{Names}
use Rattle.dry.proofs.Sources.{source-above, source-child, source-previous, source-none, same-page, never, keeps-fits, helps-mendable}
use Rattle.dry.proofs.Steps.{step-goes}

-- ── The source of a place ───────────────────────────────────────────────────────────────────────────────────────

names-places : (n want high : ℕ) (xs : List Child) → all (names_pages n) xs ≡ true → All (Names n) (places_in want high xs)
unfolding places_in place_of
names-places n want high [] h = nil
names-places n want high (x ∷ xs) h =
    cons (names_true n x (tests.all_head (names_pages n) x xs h)).child_below
    (names-places n want high xs (tests.all_tail (names_pages n) x xs h))

-- a sound page of the table
pub record Sourced (n : ℕ) (t : List ℕ) (i : ℕ) : Type 0 where
  pub sound : Sound n (read t i).low (read t i).high (read t i).view
  pub inside : i < n

module _ (n : ℕ) (t : List ℕ) (long : length t ≡ n * page_size) where
  module _ (above : List ℕ) (m : List Bool) (e : Place) where
    sourced_child : keeps n t m e ≡ true → Sourced n t e.child
    sourced_child k =
        let h = keeps-fits n above t m e k in
        let f = fits_true n e (read t e.child) h in
        record { sound = sound-same (sym f.low) (sym f.high) f.sound; inside = fits-inside n t e long h }

    sourced_previous : helps n t m e ≡ true → Sourced n t e.previous
    sourced_previous k =
        let q = mendable_true n e (read t e.previous) (helps-mendable n above t m e k) in
        record { sound = q.sound; inside = q.below }

    pub sourced : (i : ℕ) → source n above t m e ≡ Some i → Sourced n t i
    sourced i s = go (mem e.child above) refl (keeps n t m e) refl (helps n t m e) refl
      where
        go : (a : Bool) → mem e.child above ≡ a → (b : Bool) → keeps n t m e ≡ b → (d : Bool) → helps n t m e ≡ d → Sourced n t i
        go true p b q d r = absurd (never n above t m e i (source-above n above t m e p ∙ s))
        go false p true q d r =
            subst (Sourced n t) (same-page n above t m e e.child i (source-child n above t m e p q ∙ s)) (sourced_child q)
        go false p false q true r =
            subst (Sourced n t) (same-page n above t m e e.previous i (source-previous n above t m e p q r ∙ s)) (sourced_previous r)
        go false p false q false r = absurd (never n above t m e i (source-none n above t m e p q r ∙ s))

  module _ (i : ℕ) (s : Sourced n t i) where
    pub source-inside : (i + 1) * page_size ≤ length t
    source-inside = omega (arith, s.inside, long)

    pub source-leaf : (h : Head) → h ≡ head_in (page_at t i) → h.kind ≡ leaf_kind → Leaf t i h
    source-leaf h f k = record {
      inside = source-inside;
      within = record { room = s.sound.certs_room; keys_within = s.sound.certs_within };
      read_head = f;
      kind = k;
    }

    pub source_runs : Runs t i
    source_runs = runs_sound n (read t i).low (read t i).high t i s.sound s.inside long

    -- each entry in a range names a page
    pub source_names : (e : Place) → All (Names n) (places t e.high (run_of t i e.low e.high))
    unfolding kids cut_view
    source_names e =
        subst (All (Names n)) (places-sound n (read t i).low (read t i).high t i s.sound e)
        (names-places n ((read t i).view.kind - 1) e.high (cut e.low e.high (read t i).view.children)
        (all-cut (names_pages n) e.low e.high (read t i).view.children s.sound.names))

    pub source-lies : (low high : ℕ) (r : Run) → r ≡ run_of t i low high → Lies n r
    source-lies low high r h = subst (Lies n) (sym h) (lies-sound n (read t i).low (read t i).high t i s.sound low high s.inside)

  -- ── What it shows ─────────────────────────────────────────────────────────────────────────────────────────────

  module _ (a : Asked) (parent top : ℕ) (e : Place) (found : List Cert) (m : List Bool) (level i : ℕ) (h : meets a e (sighted true found m) ≡ true)
      (p : source n (parent ∷ top ∷ []) t m e ≡ Some i) where
    view : View
    view = cut_view e.low e.high (read t i).view

    goes : dry (suc level) n a parent top t e (sighted true found m)
        ≡ dry_each (dry level n a e.child parent t) (places t e.high (run_of t i e.low e.high))
        (sighted true (found ++ asks a view found) (marked_by i e m))
    unfolding takes view
    goes =
        let q = sourced (parent ∷ top ∷ []) m e i p in
        step-goes n a parent top t e (sighted true found m) level i h p
        ∙ ap
        (λ (es : List Place). dry_each (dry level n a e.child parent t) es (sighted true (found ++ asks a (cut_view e.low e.high (read t i).view) found) (marked_by i e m)))
        (places-sound n (read t i).low (read t i).high t i q.sound e)

    -- a leaf has no entries to walk
    pub page-leaf : kind_at t i ≡ leaf_kind
        → dry (suc level) n a parent top t e (sighted true found m)
        ≡ sighted true (found ++ asks a (cut_view e.low e.high (read t i).view) found) (marked_by i e m)
    unfolding dry_each view
    page-leaf k =
        goes
        ∙ ap (λ (es : List Place). dry_each (dry level n a e.child parent t) es (sighted true (found ++ asks a (cut_view e.low e.high (read t i).view) found) (marked_by i e m)))
        (places-none t e.high (run_of t i e.low e.high) (sym (ap (λ (r : Run). r.left) (run-leaf t i e.low e.high k))))

    -- an inner page has no certificates
    pub page-inner : (kind_at t i ≡ leaf_kind → ⊥)
        → dry (suc level) n a parent top t e (sighted true found m)
        ≡ dry_each (dry level n a e.child parent t) (places t e.high (run_of t i e.low e.high))
        (sighted true found (marked_by i e m))
    unfolding read asks view cut_view
    page-inner k = goes ∙ ap (λ (xs : List Cert). dry_each (dry level n a e.child parent t) (places t e.high (run_of t i e.low e.high)) (sighted true xs (marked_by i e m))) none
      where
        inner : (head_in (page_at t i)).kind ≡ leaf_kind → ⊥
        inner z = k (sym (head-kind t i (head_in (page_at t i)) refl) ∙ z)

        as_read : head_in (page_at t i) ≡ head_of (read t i)
        as_read = head_in-page (page_at t i)

        none : (found ++ asks a view found) ≡ found
        none =
            rw (certs-inner t i (head_in (page_at t i)) as_read inner, cut-nil e.low e.high, cut-nil a.low a.high, take-nil (a.room - length found))
            (append-nil found)
