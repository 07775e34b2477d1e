-- A withdrawal that is done: the way that it went, and the one page that it changes, in tables of any bytes.
use Rattle.std.specs.Prelude.{Ok}
use Prim.Native.Nat.{ℕ}
use native.Mathlib.Omega.{arith}
use mathlib.Core.Path.{◌≡◌, refl, sym, ap, ◌∙◌, subst}
use mathlib.Core.Bool.{Bool, true, false}
use mathlib.Core.List.{List}
use mathlib.Core.Option.{Option, some, none}
use lib.ListN.{length}
use Rattle.rules.specs.Key.{key_of, good_parts}
use Rattle.rules.specs.Entry.{find, without}
use Rattle.rules.specs.Page.{Page, is_leaf, touch}
use Rattle.rules.specs.Table.{read, fit0, Tables}
use Rattle.rules.specs.Walk.{Step, certs_at, leaf_at, way_of}
use Rattle.rules.specs.Call.{Left, lengths_for, withdrawn_no, find_error_no}
use Rattle.rules.specs.Withdraw.{without_cert, removed, withdraw_refused, withdraw_done, withdraw_along, withdraw_key, withdraw}
use Rattle.rules.specs.declared.Session.{Session}
use Rattle.rules.specs.Answer.{Withdrawn}
use Rattle.rules.proofs.Bytes.All.{All, all_head}
use Rattle.rules.proofs.Bytes.Pages.{Wide, wide-touch}
use Rattle.rules.proofs.Bytes.Widths.{wide-without_cert}
use Rattle.rules.proofs.Bytes.Tables.{Has, has-page, Spare, wide_read, length-shrink, read-shrink-same, page_at-shrink-other}
use Rattle.rules.proofs.Bytes.Lengths.{lengths_for_true}
use Rattle.rules.proofs.Entries.Withouts.{length_without}
use Rattle.rules.proofs.Demand3.Steps.Writes.{spare_of}
use Rattle.way.proofs.Stood.{Stood, WayStands, way-stands}
use Rattle.reading.specs.Leaving.{asked_for, Typed}
use Rattle.reading.specs.Withdrawing.{LeafChanges, WithdrawChanges}
use Rattle.reading.proofs.Turns.{left-same}
use Rattle.reading.proofs.WayLeft.{WayLeft, way-left}
use Rattle.reading.proofs.Refused.{key-bound}

-- ── What a withdrawal that is done has passed ───────────────────────────────────────────────────────────────────

pub record Took (w t : List ℕ) (s : Session) (model serial issue : ℕ) (r : Left Withdrawn) : Type 0 where
  pub lengths : lengths_for s w t ≡ true
  pub good : good_parts model serial issue ≡ true
  pub fit : fit0 s.n w ≡ true
  pub steps : List Step
  pub way : (way_of s.n s.c (key_of model serial issue) w).steps ≡ some steps
  pub old : ℕ
  pub found : find (key_of model serial issue) (certs_at steps) ≡ some old
  pub is : r ≡ withdraw_done (key_of model serial issue) s steps (way_of s.n s.c (key_of model serial issue) w).table t

along_done : (k : ℕ) (s : Session) (way : List Step) (u t : List ℕ) → (withdraw_along k s way u t).answer ≡ Ok tt
    → (x : ℕ) × (find k (certs_at way) ≡ some x) × (withdraw_along k s way u t ≡ withdraw_done k s way u t)
unfolding withdraw_along withdraw_refused find_error_no
along_done k s way u t h = go (find k (certs_at way)) refl
  where
    go : (o : Option ℕ) → find k (certs_at way) ≡ o
        → (x : ℕ) × (find k (certs_at way) ≡ some x) × (withdraw_along k s way u t ≡ withdraw_done k s way u t)
    go none o = absurd (omega (arith, ap withdrawn_no (rw (withdraw_along, o) at h)))
    go (some x) o = (x, o, rw (withdraw_along, o))

module _ (w t : List ℕ) (s : Session) (model serial issue : ℕ) where
  abbrev key : ℕ
  key = key_of model serial issue

  key-done : lengths_for s w t ≡ true → good_parts model serial issue ≡ true → fit0 s.n w ≡ true
      → (withdraw_key key s w t).answer ≡ Ok tt → Took w t s model serial issue (withdraw_key key s w t)
  unfolding withdraw_key withdraw_refused find_error_no
  key-done l g f h = go (way_of s.n s.c key w).steps refl
    where
      go : (o : Option (List Step)) → (way_of s.n s.c key w).steps ≡ o → Took w t s model serial issue (withdraw_key key s w t)
      go none o = absurd (omega (arith, ap withdrawn_no (rw (withdraw_key, o) at h)))
      go (some steps) o =
          let d = along_done key s steps (way_of s.n s.c key w).table t (rw (withdraw_key, o) at h) in
          rw (withdraw_key, o)
          (record { lengths = l; good = g; fit = f; steps = steps; way = o; old = d.0; found = d.1; is = d.2 })

  pub withdraw_took : (withdraw w t s model serial issue).answer ≡ Ok tt
      → Took w t s model serial issue (withdraw w t s model serial issue)
  unfolding withdraw withdraw_refused find_error_no
  withdraw_took h = go (lengths_for s w t) refl (good_parts model serial issue) refl (fit0 s.n w) refl
    where
      go : (a : Bool) → lengths_for s w t ≡ a → (b : Bool) → good_parts model serial issue ≡ b
          → (c : Bool) → fit0 s.n w ≡ c → Took w t s model serial issue (withdraw w t s model serial issue)
      go false p b q c o = absurd (omega (arith, ap withdrawn_no (rw (withdraw, p) at h)))
      go true p false q c o = absurd (omega (arith, ap withdrawn_no (rw (withdraw, p, q) at h)))
      go true p true q false o = absurd (omega (arith, ap withdrawn_no (rw (withdraw, p, q, o) at h)))
      go true p true q true o = rw (withdraw, p, q, o) (key-done p q o (rw (withdraw, p, q, o) at h))

-- ── The leaf ────────────────────────────────────────────────────────────────────────────────────────────────────

module _ {w t : List ℕ} {s : Session} {model serial issue : ℕ} {r : Left Withdrawn} (y : Typed w s model serial issue)
    (D : Took w t s model serial issue r) where
  abbrev k : ℕ
  k = key_of model serial issue

  abbrev u : List ℕ
  u = (way_of s.n s.c k w).table

  T : Tables s.n w t
  T = lengths_for_true s w t D.lengths

  L : WayLeft s.n s.c (asked_for s.n s.c k w) w (way_of s.n s.c k w)
  L = way-left s.n s.c k w T.working D.fit y.bytes y.counter (key-bound y)

  stands : WayStands s.n k u D.steps
  stands = way-stands s.n s.c k w T.working D.fit y.bytes y.counter (key-bound y) D.steps D.way

  abbrev i : ℕ
  i = leaf_at D.steps

  stood : Stood s.n k u stands.leaf
  stood = all_head (subst (All (Stood s.n k u)) stands.are stands.all)

  number_is : i ≡ stands.leaf.place.child
  unfolding leaf_at
  number_is = ap leaf_at stands.are

  here : read u i ≡ stands.leaf.page
  here = ap (read u) number_is ∙ stood.here

  certs-are : (read u i).view.certs ≡ certs_at D.steps
  unfolding certs_at
  certs-are = ap (λ (p : Page). p.view.certs) here ∙ ap certs_at (sym stands.are)

  leaf-is : is_leaf (read u i).view ≡ true
  leaf-is = ap (λ (p : Page). is_leaf p.view) here ∙ stands.ends

  abbrev page : Page
  page = touch s.c (without_cert k (read u i).view) (read u i)

  wide : Wide page
  wide =
      let o = wide_read u i L.bytes in
      wide-touch (wide-without_cert o.view k leaf-is) y.counter o

  -- a leaf has no more than it has room for, so with one less it has a place to spare
  spare : Spare page
  unfolding without_cert touch is_leaf
  spare =
      let f = ap (find k) certs-are ∙ D.found in
      spare_of wide leaf-is
      (omega (arith, length_without k (read u i).view.certs D.old f, ap (λ (p : Page). length p.view.certs) here, stood.fits.sound.certs_room))

  has : Has u i
  has = has-page u s.n i L.long (omega (arith, number_is, stood.child_below))

  leaf_changes : LeafChanges k w t s (withdraw_done k s D.steps u t)
  unfolding withdraw_done removed touch without_cert
  leaf_changes = record {
    steps = D.steps;
    way = D.way;
    length_stays = length-shrink u i page has spare ∙ (L.long ∙ sym T.working);
    page = λ j d. left-same (page_at-shrink-other u i page has spare j d) (L.page j);
    leaf = ap (λ (p : Page). p.view.certs) (read-shrink-same u i page has spare wide) ∙ ap (without k) certs-are;
    stable = refl;
    session = refl;
  }

pub withdraw_changes : WithdrawChanges
unfolding WithdrawChanges
withdraw_changes w t s model serial issue y h =
    let D = withdraw_took w t s model serial issue h in
    subst (LeafChanges (key_of model serial issue) w t s) (sym D.is) (leaf_changes y D)
