-- A step of the dry walk leaves as much to walk as there was, less what it came to. Assumes nothing.
use Prim.Native.Nat.{ℕ, suc, ◌*◌, ◌≤◌, ◌<◌}
use native.Mathlib.Omega.{arith}
use mathlib.Core.Path.{◌≡◌, refl, ap, sym, ◌∙◌}
use mathlib.Core.Bool.{Bool, true, false}
use mathlib.Core.List.{List, [], ◌∷◌, ◌++◌}
use lib.Dec.{eqb}
use lib.ListN.{length}
use borrow.Author.Tests.{eqb-true, eqb-false}
use Rattle.std.specs.Prelude.{Option, Some, None, Result, Ok, Err}
use Rattle.rules.specs.Layout.{page_size, last_key}
use Rattle.rules.specs.Entry.{Cert}
use Rattle.rules.specs.Place.{root_place, cut_view}
use Rattle.rules.specs.Table.{read}
use Rattle.rules.specs.declared.Asked.{Asked}
use Rattle.rules.specs.declared.Place.{Place}
use Rattle.seen.specs.declared.Run.{Run}
use Rattle.seen.specs.Run.{kind_at, place_in, places, rest_of}
use Rattle.seen.proofs.Spans.{places-none, places-more}
use Rattle.dry.specs.Walk.{Sighted, sighted, asks, breaks, dry_each, dry, untouched, dry_over}
use Rattle.dry.specs.Walk as asked
use Rattle.dry.specs.Source.{source, marked_by}
use Rattle.dry.specs.Cursor.{in_reach, met_page, met_by, meet_of, no_run, at_root, under_root, with_lower, due_lower, due_upper, due_root, due_last, due_of, under_of, settle_of, settle_met, settled, step_at, step_of, ahead_root, ahead}
use Rattle.dry.specs.declared.Damaged.{Damaged}
use Rattle.dry.specs.declared.Cursor.{Cursor}
use Rattle.dry.specs.declared.Spot.{Spot}
use Rattle.dry.specs.declared.Step.{Step}
use Rattle.dry.proofs.Meets.{meets_reach}
use Rattle.dry.proofs.Steps.{step-passes, step-damaged, dry_halts, dry-full, each_same}
use Rattle.dry.proofs.Goes.{page-leaf, page-inner}

-- ── A run of entries ────────────────────────────────────────────────────────────────────────────────────────────

module _ (f : Place → Sighted → Sighted) (t : List ℕ) (high : ℕ) (r : Run) (d : Sighted) where
  run_none : r.left ≡ 0 → dry_each f (places t high r) d ≡ d
  unfolding dry_each
  run_none h = ap (λ (es : List Place). dry_each f es d) (places-none t high r h)

  run_more : (r.left ≡ 0 → ⊥) → dry_each f (places t high r) d ≡ dry_each f (places t high (rest_of r)) (f (place_in t high r) d)
  unfolding dry_each
  run_more h = ap (λ (es : List Place). dry_each f es d) (places-more t high r (omega arith))

-- ── What is left to walk ────────────────────────────────────────────────────────────────────────────────────────

module _ (n : ℕ) (a : Asked) (t : List ℕ) where
  -- what a step has come to, and what is then left
  unfoldable pub stepped : List Cert → Result Step Damaged → List Bool → Sighted
  stepped found (Ok (Step.On c)) m = ahead n a t c (sighted true found m)
  stepped found (Ok (Step.Leaf l)) m =
      ahead n a t l.after
      (sighted true (found ++ asks a (cut_view l.place.low l.place.high (read t l.page).view) found) m)
  stepped found (Ok Step.End) m = sighted true found m
  stepped found (Err x) m = sighted false found m

  -- where no place changes anything, nothing is left
  ahead-same : (c : Cursor) (d : Sighted) → ((level parent top : ℕ) (e : Place) → dry (suc level) n a parent top t e d ≡ d)
      → ahead n a t c d ≡ d
  unfolding ahead ahead_root
  ahead-same c d k =
      ap (λ (x : Sighted). ahead_root n a t c.fresh (dry_each (dry 2 n a c.root 0 t) (places t last_key c.upper) x))
      (each_same (dry 1 n a c.parent c.root t) d (k 0 c.parent c.root) (places t c.high c.lower))
      ∙ ap (ahead_root n a t c.fresh)
      (each_same (dry 2 n a c.root 0 t) d (k 1 c.root 0) (places t last_key c.upper))
      ∙ go c.fresh
    where
      go : (b : Bool) → ahead_root n a t b d ≡ d
      go true = k 2 0 0 (root_place t)
      go false = refl

  pub ahead_halts : (c : Cursor) (d : Sighted) → d.whole ≡ false → ahead n a t c d ≡ d
  ahead_halts c d h = ahead-same c d (λ level parent top e. dry_halts n a parent top t (suc level) e d h)

  pub ahead-full : (c : Cursor) (d : Sighted) → a.room ≤ length d.found → ahead n a t c d ≡ d
  ahead-full c d h = ahead-same c d (λ level parent top e. dry-full n a parent top t level e d h)

  no_run_lem : no_run.left ≡ 0
  unfolding no_run
  no_run_lem = refl

  pub ahead-begins : ahead n a t at_root untouched ≡ dry_over n a t
  unfolding ahead ahead_root at_root dry_over
  ahead-begins =
      ap (λ (x : Sighted). dry 3 n a 0 0 t (root_place t) (dry_each (dry 2 n a 0 0 t) (places t last_key no_run) x))
      (run_none (dry 1 n a 0 0 t) t 0 no_run untouched no_run_lem)
      ∙ ap (dry 3 n a 0 0 t (root_place t)) (run_none (dry 2 n a 0 0 t) t last_key no_run untouched no_run_lem)

  -- ── The place that is next ──────────────────────────────────────────────────────────────────────────────────────

  -- a place is the next of a way: it is walked, then the rest
  abbrev pub Next : Cursor → Spot → ℕ → Type 0
  Next c s level = (d : Sighted) → ahead n a t c d ≡ ahead n a t s.rest (dry (suc level) n a s.parent s.top t s.place d)

  -- and entries of that place stand before the rest
  abbrev Under : Spot → ℕ → Type 0
  Under s level = (found : List Cert) (m : List Bool) (r : Run)
      → stepped found (under_of s r) m
      ≡ ahead n a t s.rest (dry_each (dry level n a s.place.child s.parent t) (places t s.place.high r) (sighted true found m))

  module _ (c : Cursor) where
    abbrev upper : Sighted → Sighted
    upper d = dry_each (dry 2 n a c.root 0 t) (places t last_key c.upper) d

    pub lower-next : (c.lower.left ≡ 0 → ⊥) → Next c (due_lower t c) 0
    unfolding ahead due_lower
    lower-next h d =
        ap (λ (x : Sighted). ahead_root n a t c.fresh (upper x))
        (run_more (dry 1 n a c.parent c.root t) t c.high c.lower d h)

    lower-under : Under (due_lower t c) 0
    unfolding under_of due_lower stepped dry breaks
    lower-under found m r = go (eqb r.left 0) refl
      where
        e : Place
        e = place_in t c.high c.lower

        rest : Cursor
        rest = with_lower c c.parent (rest_of c.lower) c.high

        d : Sighted
        d = sighted true found m

        f : Place → Sighted → Sighted
        f = dry 0 n a e.child c.parent t

        deep : (r.left ≡ 0 → ⊥) → dry_each f (places t e.high r) d ≡ breaks d
        deep h =
            run_more f t e.high r d h
            ∙ each_same f (breaks d) (λ x. dry_halts n a e.child c.parent t 0 x (breaks d) refl) (places t e.high (rest_of r))

        go : (b : Bool) → eqb r.left 0 ≡ b
            → stepped found (under_of (due_lower t c) r) m ≡ ahead n a t rest (dry_each f (places t e.high r) d)
        go true q = rw (under_of, q) (sym (ap (ahead n a t rest) (run_none f t e.high r d (eqb-true r.left 0 q))))
        go false q =
            rw (under_of, q)
            (sym (ap (ahead n a t rest) (deep (eqb-false r.left 0 q)) ∙ ahead_halts rest (breaks d) refl))

    module _ (z : c.lower.left ≡ 0) where
      -- no entries of the lower page are left
      passed : (d : Sighted) → dry_each (dry 1 n a c.parent c.root t) (places t c.high c.lower) d ≡ d
      passed d = run_none (dry 1 n a c.parent c.root t) t c.high c.lower d z

      pub upper-next : (c.upper.left ≡ 0 → ⊥) → Next c (due_upper t c) 1
      unfolding ahead due_upper
      upper-next h d =
          ap (λ (x : Sighted). ahead_root n a t c.fresh (upper x)) (passed d)
          ∙ ap (ahead_root n a t c.fresh) (run_more (dry 2 n a c.root 0 t) t last_key c.upper d h)
          ∙ sym
          (ap (λ (x : Sighted). ahead_root n a t c.fresh (dry_each (dry 2 n a c.root 0 t) (places t last_key (rest_of c.upper)) x))
          (passed (dry 2 n a c.root 0 t (place_in t last_key c.upper) d)))

      upper-under : Under (due_upper t c) 1
      unfolding under_of due_upper stepped ahead
      upper-under found m r =
          let e = place_in t last_key c.upper in
          sym
          (ap (λ (x : Sighted). ahead_root n a t c.fresh (dry_each (dry 2 n a c.root 0 t) (places t last_key (rest_of c.upper)) x))
          (passed (dry_each (dry 1 n a e.child c.root t) (places t e.high r) (sighted true found m))))

      module _ (y : c.upper.left ≡ 0) where
        nothing : (d : Sighted) → ahead n a t c d ≡ ahead_root n a t c.fresh d
        unfolding ahead
        nothing d =
            ap (λ (x : Sighted). ahead_root n a t c.fresh (upper x)) (passed d)
            ∙ ap (ahead_root n a t c.fresh) (run_none (dry 2 n a c.root 0 t) t last_key c.upper d y)

  emptied : (root : ℕ) (r : Run) (d : Sighted) → ahead n a t (under_root root r) d ≡ dry_each (dry 2 n a root 0 t) (places t last_key r) d
  unfolding ahead ahead_root
  emptied root r d =
      ap (dry_each (dry 2 n a root 0 t) (places t last_key r)) (run_none (dry 1 n a 0 root t) t 0 no_run d no_run_lem)

  root-rest : (d : Sighted) → ahead n a t (under_root 0 no_run) d ≡ d
  root-rest d = emptied 0 no_run d ∙ run_none (dry 2 n a 0 0 t) t last_key no_run d no_run_lem

  pub root-next : (c : Cursor) → c.lower.left ≡ 0 → c.upper.left ≡ 0 → c.fresh ≡ true → Next c (due_root t) 2
  unfolding ahead_root due_root
  root-next c z y f d =
      nothing c z y d
      ∙ ap (λ (b : Bool). ahead_root n a t b d) f
      ∙ sym (root-rest (dry 3 n a 0 0 t (root_place t) d))

  root-under : Under (due_root t) 2
  unfolding root_place under_of due_root stepped
  root-under found m r =
      let e = root_place t in
      emptied e.child r (sighted true found m)
      ∙ sym (root-rest (dry_each (dry 2 n a e.child 0 t) (places t e.high r) (sighted true found m)))

  -- ── One step ────────────────────────────────────────────────────────────────────────────────────────────────────

  module _ (long : length t ≡ n * page_size) (found : List Cert) (m : List Bool) (room : length found < a.room) where
    abbrev d : Sighted
    d = sighted true found m

    -- the place that is next, as it is met
    module _ (level : ℕ) (s : Spot) (u : Under s level) where
      abbrev after : Sighted → Sighted
      after x = ahead n a t s.rest x

      shown : (i : ℕ) → in_reach a s.place ≡ true → source n (s.parent ∷ s.top ∷ []) t m s.place ≡ Some i
          → stepped found (settle_of s (met_page t s.place i)) (marked_by i s.place m)
          ≡ after (dry (suc level) n a s.parent s.top t s.place d)
      unfolding met_page settle_of stepped
      shown i h p = go (eqb (kind_at t i) 1) refl
        where
          meets : asked.meets a s.place (sighted true found m) ≡ true
          meets = meets_reach a s.place found m room ∙ h

          go : (b : Bool) → eqb (kind_at t i) 1 ≡ b
              → stepped found (settle_of s (met_page t s.place i)) (marked_by i s.place m)
              ≡ after (dry (suc level) n a s.parent s.top t s.place d)
          go true q =
              rw (met_page, q, settle_of, stepped)
              (sym (ap after (page-leaf n t long a s.parent s.top s.place found m level i meets p (eqb-true (kind_at t i) 1 q))))
          go false q =
              rw (met_page, q, settle_of)
              (u found (marked_by i s.place m) _
              ∙ sym (ap after (page-inner n t long a s.parent s.top s.place found m level i meets p (eqb-false (kind_at t i) 1 q))))

      met : (x : Option ℕ) → in_reach a s.place ≡ true → source n (s.parent ∷ s.top ∷ []) t m s.place ≡ x
          → stepped found (settle_met s (met_by t m s.place x).met) (met_by t m s.place x).marks
          ≡ after (dry (suc level) n a s.parent s.top t s.place d)
      unfolding met_by settle_met stepped breaks
      met (Some i) h p = shown i h p
      met None h p =
          sym
          (ap after (step-damaged n a s.parent s.top t s.place d level (meets_reach a s.place found m room ∙ h) p)
          ∙ ahead_halts s.rest (breaks d) refl)

      settles : stepped found (settled s (meet_of n a (s.parent ∷ s.top ∷ []) t m s.place)).step
          (settled s (meet_of n a (s.parent ∷ s.top ∷ []) t m s.place)).marks
          ≡ after (dry (suc level) n a s.parent s.top t s.place d)
      unfolding settled meet_of settle_met settle_of stepped
      settles = go (in_reach a s.place) refl
        where
          go : (b : Bool) → in_reach a s.place ≡ b
              → stepped found (settled s (meet_of n a (s.parent ∷ s.top ∷ []) t m s.place)).step
              (settled s (meet_of n a (s.parent ∷ s.top ∷ []) t m s.place)).marks
              ≡ after (dry (suc level) n a s.parent s.top t s.place d)
          go true h = rw (meet_of, h) (met (source n (s.parent ∷ s.top ∷ []) t m s.place) h refl)
          go false h =
              rw (meet_of, h)
              (sym (ap after (step-passes n a s.parent s.top t s.place d level (meets_reach a s.place found m room ∙ h))))

    -- what is left to walk is what the step has come to
    pub step-ahead : (c : Cursor) → ahead n a t c d ≡ stepped found (step_of n a t c m).step (step_of n a t c m).marks
    unfolding step_of due_of due_last step_at stepped ahead_root
    step-ahead c = go (eqb c.lower.left 0) refl (eqb c.upper.left 0) refl c.fresh refl
      where
        last : Bool → Sighted
        last x = stepped found (step_at n a t m (due_last t x)).step (step_at n a t m (due_last t x)).marks

        go : (x : Bool) → eqb c.lower.left 0 ≡ x → (y : Bool) → eqb c.upper.left 0 ≡ y → (b : Bool) → c.fresh ≡ b
            → ahead n a t c d ≡ stepped found (step_of n a t c m).step (step_of n a t c m).marks
        go false p y q b r =
            rw (step_of, due_of, p, step_at) (lower-next c (eqb-false c.lower.left 0 p) d ∙ sym (settles 0 (due_lower t c) (lower-under c)))
        go true p false q b r =
            let z = eqb-true c.lower.left 0 p in
            rw (step_of, due_of, p, q, step_at)
            (upper-next c z (eqb-false c.upper.left 0 q) d ∙ sym (settles 1 (due_upper t c) (upper-under c z)))
        go true p true q true r =
            rw (step_of, due_of, p, q)
            (root-next c (eqb-true c.lower.left 0 p) (eqb-true c.upper.left 0 q) r d
            ∙ sym (settles 2 (due_root t) root-under)
            ∙ sym (ap last r))
        go true p true q false r =
            rw (step_of, due_of, p, q)
            (nothing c (eqb-true c.lower.left 0 p) (eqb-true c.upper.left 0 q) d
            ∙ ap (λ (x : Bool). ahead_root n a t x d) r
            ∙ sym (ap last r))
