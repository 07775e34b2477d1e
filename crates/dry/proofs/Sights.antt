-- Entering and its dry sight, one place: both are damaged, or both show the same and what was mended now is passed in
-- turn. Assumes nothing.
use Prim.Native.Nat.{ℕ, ◌*◌, ◌-◌, ◌^◌, ◌≤◌, ◌<◌}
use native.Mathlib.Omega.{arith}
use mathlib.Core.Path.{◌≡◌, refl, sym, ap, ◌∙◌, subst}
use mathlib.Core.Logic.{◌⊎◌, inl, inr, ◌≢◌}
use mathlib.Core.Bool.{Bool, true, false}
use mathlib.Core.List.{List}
use mathlib.Core.Option.{some, none}
use borrow.Author.Tests.{eqb-true, eqb-false}
use lib.Dec.{eqb}
use lib.ListN.{length, set, length-set}
use lib.Seq.{get_or-set_same, get_or-set_other}
use Rattle.fields.specs.Field.{Bytes}
use Rattle.rules.specs.Layout.{page_size, most_pages}
use Rattle.rules.specs.Test.{mem}
use Rattle.rules.specs.Page.{View, Page, fresh}
use Rattle.rules.specs.Table.{read, build}
use Rattle.rules.specs.Place.{fits, mendable, mended, cut_view}
use Rattle.rules.specs.Enter.{Entered, damaged, mend, enter}
use Rattle.rules.specs.declared.Place.{Place}
use Rattle.rules.proofs.Entries.Tests.{not_both}
use Rattle.rules.proofs.Entries.Entries.{length_cut}
use Rattle.rules.proofs.Bytes.Pages.{WideView, Wide, room-page_bytes}
use Rattle.rules.proofs.Bytes.Widths.{wide-mended}
use Rattle.rules.proofs.Bytes.Tables.{Has, has-page, Room, wide_read, bytes-build, length-build, read-build-same, read-build-other}
use Rattle.rules.proofs.Entries.Sounds.{Sound}
use Rattle.rules.proofs.Entries.Places.{Fits, fits_true, fits-of, Mendable, mendable_true, mended-view-sound}
use Rattle.dry.specs.Walk.{marked, keeps, sight_of, sight_mended, sight}
use Rattle.dry.proofs.Passed.{Asks, Kept, Passed, passed_on, fits-keeps, mendable-helps, read_fits, read-helps}

abbrev pub entered : List ℕ → Page → Entered
entered t p = record { table = t; page = some p }

-- what is known after a place has shown a page: everything marked is passed for its kids, and nothing that was passed
-- behind this place's range comes back
pub record Shows (n : ℕ) (t u : List ℕ) (m : List Bool) (e : Place) (u' : List ℕ) (m' : List Bool) (v : View) : Type 0 where
  pub kept : Kept n t u' m'
  pub sound : Sound n e.low e.high v
  pub wide : WideView v
  pub below : Passed u' m' (v.kind - 1) e.low
  pub later : (k l : ℕ) → e.high < l → Passed u m k l → Passed u' m' k l
  -- with no mark the page fitted, and there was none before
  pub calm : ((i : ℕ) → marked m' i ≡ false) → (fits n e (read u e.child) ≡ true) × ((i : ℕ) → marked m i ≡ false)

pub data Met (n c : ℕ) (above near t u : List ℕ) (m : List Bool) (e : Place) : Type 0 where
  neither : enter n c above u e ≡ damaged u → sight n near t m e ≡ none → Met n c above near t u m e
  both : (u' : List ℕ) (m' : List Bool) (p : Page) → enter n c above u e ≡ entered u' p
      → sight n near t m e ≡ some (sight_of p.view m') → Shows n t u m e u' m' p.view → Met n c above near t u m e

-- ── A mended page ───────────────────────────────────────────────────────────────────────────────────────────────

module _ (n c top : ℕ) (t u : List ℕ) (m : List Bool) (e : Place) (hn : n ≤ most_pages) (hc : c < 256 ^ 4) (a : Asks n top e)
    (f : Passed u m top e.low) (s : Kept n t u m) where
  module _ (g : Mendable n e (read u e.previous)) where
    now : Page
    now = mended c e (read u e.previous)

    after : List ℕ
    after = build u e.child (mended c e (read u e.previous))

    marks : List Bool
    marks = set m e.child true

    now-wide : Wide (mended c e (read u e.previous))
    now-wide = wide-mended hc (wide_read u e.previous s.bytes) e a.birth (omega (arith, a.range, a.high)) a.high

    now-room : Room (mended c e (read u e.previous))
    unfolding mended fresh cut_view
    now-room =
        room-page_bytes (mended c e (read u e.previous)) now-wide.view.shaped
        (omega (arith, length_cut e.low e.high (read u e.previous).view.certs, g.sound.certs_room))
        (omega (arith, length_cut e.low e.high (read u e.previous).view.children, g.sound.children_room))

    has : Has u e.child
    has = has-page u n e.child s.size a.child

    read_here : read after e.child ≡ mended c e (read u e.previous)
    unfolding after
    read_here = read-build-same u e.child (mended c e (read u e.previous)) has now-room now-wide

    read-other : (i : ℕ) → i ≢ e.child → read after i ≡ read u i
    unfolding after
    read-other i d = read-build-other u e.child (mended c e (read u e.previous)) has now-room i d

    marked-here : marked marks e.child ≡ true
    unfolding marked marks
    marked-here = get_or-set_same m e.child true false (omega (arith, s.marks, a.child))

    marked_other : (i : ℕ) → i ≢ e.child → marked marks i ≡ marked m i
    unfolding marked marks
    marked_other i d = get_or-set_other m e.child i true false d

    length-after : length after ≡ n * page_size
    unfolding after
    length-after = length-build u e.child (mended c e (read u e.previous)) has now-room ∙ s.size

    bytes_after : Bytes after
    unfolding after
    bytes_after = bytes-build u e.child (mended c e (read u e.previous)) s.bytes

    length-marks : length marks ≡ most_pages
    unfolding marks
    length-marks = length-set m e.child true ∙ s.marks

    -- each page as it lies but the mended one, which is marked
    kept-after : Kept n t after marks
    kept-after = record {
      size = length-after;
      bytes = bytes_after;
      marks = length-marks;
      same = λ i h. go i h (eqb i e.child) refl;
      still = λ none. absurd (not_both marked-here (none e.child));
    }
      where
        go : (i : ℕ) → marked marks i ≡ false → (b : Bool) → eqb i e.child ≡ b → read after i ≡ read t i
        go i h true q = absurd (not_both (ap (marked marks) (eqb-true i e.child q) ∙ marked-here) h)
        go i h false q =
            let d = eqb-false i e.child q in
            read-other i d ∙ s.same i (sym (marked_other i d) ∙ h)

    -- what was passed stays so, if the mended page is passed too
    passed-after : (k l : ℕ) → (k < (read after e.child).view.kind) ⊎ ((read after e.child).high < l) → Passed u m k l
        → Passed after marks k l
    passed-after k l new old = record { at = λ i h. go i h (eqb i e.child) refl }
      where
        go : (i : ℕ) → marked marks i ≡ true → (b : Bool) → eqb i e.child ≡ b
            → (k < (read after i).view.kind) ⊎ ((read after i).high < l)
        go i h true q =
            subst (λ (j : ℕ). (k < (read after j).view.kind) ⊎ ((read after j).high < l)) (sym (eqb-true i e.child q)) new
        go i h false q =
            let d = eqb-false i e.child q in
            subst (λ (p : Page). (k < p.view.kind) ⊎ (p.high < l)) (sym (read-other i d))
            (old.at i (sym (marked_other i d) ∙ h))

    now-high : (read after e.child).high ≡ e.high
    unfolding mended fresh
    now-high = ap (λ (p : Page). p.high) read_here

    now-kind : (read after e.child).view.kind ≡ (read u e.previous).view.kind
    unfolding mended fresh cut_view
    now-kind = ap (λ (p : Page). p.view.kind) read_here

    shows-after : Shows n t u m e after marks (mended c e (read u e.previous)).view
    unfolding mended fresh cut_view
    shows-after =
        let kind : ℕ = (read u e.previous).view.kind in
        let up = a.kind (read u e.previous).view.kind g.sound.kind_to g.kind in
        record {
          kept = kept-after;
          sound = mended-view-sound a.range g;
          wide = now-wide.view;
          below = passed-after ((read u e.previous).view.kind - 1) e.low
              (inl (omega (arith, now-kind, g.sound.kind_from))) (passed_on (omega arith) (omega arith) f);
          later = λ k l h old. passed-after k l (inr (omega (arith, now-high))) old;
          calm = λ none. absurd (not_both marked-here (none e.child));
        }

  -- ── A page that fits ────────────────────────────────────────────────────────────────────────────────────────────

  shows-here : Fits n e (read u e.child) → Shows n t u m e u m (read u e.child).view
  shows-here g = record {
    kept = s;
    sound = g.sound;
    wide = (wide_read u e.child s.bytes).view;
    below = passed_on (omega (arith, a.kind (read u e.child).view.kind g.sound.kind_to g.kind)) (omega arith) f;
    later = λ k l h old. old;
    calm = λ none. (fits-of n e (read u e.child) g, none);
  }

  -- ── Entering ────────────────────────────────────────────────────────────────────────────────────────────────────

  met-lost : (above near : List ℕ) → mem e.child above ≡ false → mem e.child near ≡ false → fits n e (read u e.child) ≡ false → Met n c above near t u m e
  unfolding enter mend sight sight_mended mended fresh after marks
  met-lost above near p z q = go (mendable n e (read u e.previous)) refl
    where
      lost : keeps n t m e ≡ false
      lost = sym (fits-keeps n top u m e a f t s) ∙ q

      go : (b : Bool) → mendable n e (read u e.previous) ≡ b → Met n c above near t u m e
      go true r =
          let g = mendable_true n e (read u e.previous) r in
          both (after g) (marks g) (mended c e (read u e.previous))
          (rw (p, enter, q, mend, r))
          (rw (z, sight, lost, sight_mended, sym (mendable-helps n top u m e a f t s) ∙ r, read-helps n top u m e a f t s r))
          (shows-after g)
      go false r =
          neither (rw (p, enter, q, mend, r)) (rw (z, sight, lost, sight_mended, sym (mendable-helps n top u m e a f t s) ∙ r))

  pub met : (above near : List ℕ) → mem e.child above ≡ mem e.child near → Met n c above near t u m e
  unfolding enter sight
  met above near o = go (mem e.child above) refl (fits n e (read u e.child)) refl
    where
      go : (b : Bool) → mem e.child above ≡ b → (d : Bool) → fits n e (read u e.child) ≡ d → Met n c above near t u m e
      go true p d q = neither (rw (p, enter)) (rw (sym o ∙ p, sight))
      go false p true q =
          both u m (read u e.child) (rw (p, enter, q))
          (rw (sym o ∙ p, sight, sym (fits-keeps n top u m e a f t s) ∙ q, read_fits n top u m e a f t s q))
          (shows-here (fits_true n e (read u e.child) q))
      go false p false q = met-lost above near p (sym o ∙ p) q
