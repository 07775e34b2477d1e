-- What a place shows, by the run that was found for it. Assumes nothing.
use Rattle.std.proofs.Common.{Some, None, ◌≡◌, ℕ, ◌*◌, ◌<◌, ◌≤◌, Bool, true, false, ltb, List, [], ◌∷◌, length, sym, refl, ap, ◌∙◌, subst, arith, ltb-false, ltb-true, eq-eqb, ne_eqb, is_none}
use mathlib.Core.Option.{some, none}
use Rattle.rules.specs.Layout.{page_size}
use Rattle.rules.specs.Entry.{cut}
use Rattle.rules.specs.Page.{View}
use Rattle.rules.specs.Table.{read}
use Rattle.rules.specs.Place.{fits, mendable, show, kids, cut_view}
use Rattle.rules.specs.Tree.{spared_at}
use Rattle.rules.specs.declared.Place.{Place}
use Rattle.rules.proofs.Entries.Tests.{not_both}
use Rattle.rules.proofs.Entries.Sounds.{sound-cut-all}
use Rattle.rules.proofs.Entries.Places.{fits_true, mendable_true, show-fitting, show-lost, show-damaged}
use Rattle.sound.proofs.Fitting.{unfit_beyond}
use Rattle.seen.specs.declared.Run.{Run}
use Rattle.seen.specs.Note.{named}
use Rattle.seen.specs.Run.{run_of, shown_of, places, Runs, Counts, Lies}
use Rattle.seen.proofs.Looks.{run-page, runs_sound, roomy-sound, lies-sound, places-sound}

beside : ℕ → Bool → List ℕ
beside page b = elim b [ true ↦ [] | false ↦ page ∷ [] ]

module _ (n : ℕ) (t : List ℕ) (e : Place) where
  pub shown-fitting : fits n e (read t e.child) ≡ true → Some (run_of t e.child e.low e.high) ≡ shown_of n t e
  unfolding shown_of
  shown-fitting h = rw (shown_of, h)

  pub shown-lost : fits n e (read t e.child) ≡ false → mendable n e (read t e.previous) ≡ true
      → Some (run_of t e.previous e.low e.high) ≡ shown_of n t e
  unfolding shown_of
  shown-lost h k = rw (shown_of, h, k)

  pub shown-damaged : fits n e (read t e.child) ≡ false → mendable n e (read t e.previous) ≡ false
      → None ≡ shown_of n t e
  unfolding shown_of
  shown-damaged h k = rw (shown_of, h, k)

  -- the page that is spared beside the child
  spared-fitting : (page : ℕ) → fits n e (read t e.child) ≡ true → page ≡ e.child → spared_at n t e ≡ (named e.child page []).spared
  unfolding spared_at named beside
  spared-fitting page h p = rw (spared_at, h) (ap (beside page) (sym (eq-eqb page e.child p)))

  spared-lost : (page : ℕ) → fits n e (read t e.child) ≡ false → (e.previous ≡ e.child → ⊥) → page ≡ e.previous
      → spared_at n t e ≡ (named e.child page []).spared
  unfolding spared_at named beside
  spared-lost page h o p =
      rw (spared_at, h)
      (ap (λ (i : ℕ). i ∷ []) (sym p) ∙ ap (beside page) (sym (ne_eqb page e.child (λ q. o (sym p ∙ q)))))

  module _ (long : length t ≡ n * page_size) where
    beyond : (i : ℕ) → n ≤ i → false ≡ fits n e (read t i)
    unfolding fits
    beyond i l = ap is_none (unfit_beyond n i t e long l)

    pub fits-inside : fits n e (read t e.child) ≡ true → e.child < n
    fits-inside h = go (ltb e.child n) refl
      where
        go : (b : Bool) → ltb e.child n ≡ b → e.child < n
        go true b = ltb-true e.child n b
        go false b = absurd (not_both h (sym (beyond e.child (ltb-false e.child n b))))

    pub runs_fitting : fits n e (read t e.child) ≡ true → Runs t e.child
    runs_fitting h =
        runs_sound n e.low e.high t e.child (fits_true n e (read t e.child) h).sound (fits-inside h) long

    pub runs_lost : mendable n e (read t e.previous) ≡ true → Runs t e.previous
    runs_lost h =
        let m = mendable_true n e (read t e.previous) h in
        runs_sound n (read t e.previous).low (read t e.previous).high t e.previous m.sound m.below long

    -- what a run found for a place says of the place
    pub record Showing (r : Run) : Type 0 where
      pub view : View
      pub shows : show n t e ≡ some view
      pub asks : kids e view ≡ places t e.high r
      pub spared : spared_at n t e ≡ (named e.child r.page []).spared
      pub lies : Lies n r
      pub holds : view.certs ≡ cut e.low e.high (read t r.page).view.certs
      pub counts : Counts t e r.page

    -- the certificates of a page in the place's range, by the run found for it
    held : (page : ℕ) → (cut_view e.low e.high (read t page).view).certs
        ≡ cut e.low e.high (read t (run_of t page e.low e.high).page).view.certs
    unfolding cut_view
    held page = ap (λ (i : ℕ). cut e.low e.high (read t i).view.certs) (sym (run-page t page e.low e.high))

    own : (page : ℕ) → cut_view e.low e.high (read t page).view ≡ (read t page).view
        → cut e.low e.high (read t page).view.certs ≡ (read t page).view.certs
    unfolding cut_view
    own page h = ap (λ (v : View). v.certs) h

    showing_fitting : fits n e (read t e.child) ≡ true → Showing (run_of t e.child e.low e.high)
    showing_fitting h =
        let f = fits_true n e (read t e.child) h in
        record {
          view = (read t e.child).view;
          shows = show-fitting n t e f;
          asks = ap (kids e) (sym (sound-cut-all f.sound)) ∙ places-sound n e.low e.high t e.child f.sound e;
          spared = spared-fitting (run_of t e.child e.low e.high).page h (run-page t e.child e.low e.high);
          lies = lies-sound n e.low e.high t e.child f.sound e.low e.high (fits-inside h);
          holds = ap (λ (v : View). v.certs) (sym (sound-cut-all f.sound)) ∙ held e.child;
          counts = subst (Counts t e) (sym (run-page t e.child e.low e.high)) (record {
            roomy = roomy-sound n e.low e.high t e.child f.sound (fits-inside h) long;
            own = λ q. own e.child (sound-cut-all f.sound);
          });
        }

    showing_lost : fits n e (read t e.child) ≡ false → mendable n e (read t e.previous) ≡ true
        → Showing (run_of t e.previous e.low e.high)
    showing_lost h k =
        let m = mendable_true n e (read t e.previous) k in
        let q = read t e.previous in
        record {
          view = cut_view e.low e.high (read t e.previous).view;
          shows = show-lost n t e h m;
          asks = places-sound n q.low q.high t e.previous m.sound e;
          spared = spared-lost (run_of t e.previous e.low e.high).page h m.other (run-page t e.previous e.low e.high);
          lies = lies-sound n q.low q.high t e.previous m.sound e.low e.high m.below;
          holds = held e.previous;
          counts = subst (Counts t e) (sym (run-page t e.previous e.low e.high)) (record {
            roomy = roomy-sound n q.low q.high t e.previous m.sound m.below long;
            own = λ o. absurd (m.other o);
          });
        }

    same-run : (a b : Run) → Some a ≡ Some b → a ≡ b
    same-run a b h = cc

    never : (r : Run) → None ≡ Some r → ⊥
    never r h = let z : ◌≡◌ {A = ℕ} 0 1 = cc in omega arith

    pub showing : (r : Run) → shown_of n t e ≡ Some r → Showing r
    showing r h = go (fits n e (read t e.child)) refl (mendable n e (read t e.previous)) refl
      where
        go : (a : Bool) → fits n e (read t e.child) ≡ a → (b : Bool) → mendable n e (read t e.previous) ≡ b → Showing r
        go true p b q =
            subst Showing (same-run (run_of t e.child e.low e.high) r (shown-fitting p ∙ h)) (showing_fitting p)
        go false p true q =
            subst Showing (same-run (run_of t e.previous e.low e.high) r (shown-lost p q ∙ h)) (showing_lost p q)
        go false p false q = absurd (never r (shown-damaged p q ∙ h))

    pub shows-none : shown_of n t e ≡ None → show n t e ≡ none
    shows-none h = go (fits n e (read t e.child)) refl (mendable n e (read t e.previous)) refl
      where
        go : (a : Bool) → fits n e (read t e.child) ≡ a → (b : Bool) → mendable n e (read t e.previous) ≡ b → show n t e ≡ none
        go true p b q = absurd (never (run_of t e.child e.low e.high) (sym (shown-fitting p ∙ h)))
        go false p true q = absurd (never (run_of t e.previous e.low e.high) (sym (shown-lost p q ∙ h)))
        go false p false q = show-damaged n t e p q
