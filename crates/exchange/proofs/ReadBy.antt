-- The rule of a file that is read into a store, case by case. Assumes nothing.
use Rattle.std.specs.Prelude.{Ok, Err}
use Rattle.exchange.specs.declared.ReadError.{ReadError}
use Prim.Native.Nat.{ℕ, zero, suc, ◌<◌}
use native.Mathlib.Omega.{arith}
use mathlib.Core.Path.{◌≡◌, refl, sym, ap, ◌∙◌}
use mathlib.Core.Bool.{Bool, true, false}
use mathlib.Core.List.{List, [], ◌∷◌}
use lib.ListN.{length, get_or, drop}
use Rattle.rules.specs.Entry.{Cert}
use Rattle.rules.specs.Report.{nothing}
use Rattle.rules.specs.Call.{lengths_for}
use Rattle.rules.specs.Batch.{between, after_items, items_answered, batch_left, batch}
use Rattle.rules.specs.declared.Session.{Session}
use Rattle.rules.specs.History.{State, run}
use Rattle.rules.proofs.Demand1.Batches.{batch_refused, batch-done}
use Rattle.rules.proofs.Demand3.Histories.Batches.{row_of, Leaves, batch-is_row}
use Rattle.exchange.specs.Judged.{Judged, Checked, judged, counted, checked}
use Rattle.exchange.specs.Told.{cert_parts, certs_in}
use Rattle.exchange.specs.ReadFile.{as_item, as_items, read_refused, read_done, read_by, read_file}
use Rattle.exchange.proofs.Parts.{counted_bad, counted_fine}

-- ── What the check says of a file that is refused ───────────────────────────────────────────────────────────────

pub bad_judged : (f : List ℕ) (at : ℕ) → checked f ≡ Err at → judged f ≡ Err at
unfolding checked
bad_judged f at h = go (judged f) refl
  where
    good_or_bad : (n : ℕ) → ◌≡◌ {A = Checked} (Ok n) (Err at) → ⊥
    good_or_bad n e = let z : ◌≡◌ {A = ℕ} 0 1 = cc in omega arith

    same_place : (place : ℕ) → ◌≡◌ {A = Checked} (Err place) (Err at) → place ≡ at
    same_place place e = cc

    go : (j : Judged) → judged f ≡ j → judged f ≡ Err at
    go (Ok tt) e = absurd (good_or_bad _ (sym (ap (counted f) e ∙ counted_fine f) ∙ h))
    go (Err place) e = e ∙ ap Err (same_place place (sym (ap (counted f) e ∙ counted_bad f place) ∙ h))

-- ── The call ────────────────────────────────────────────────────────────────────────────────────────────────────

module _ (w t : List ℕ) (s : Session) (f : List ℕ) where
  pub read_length : lengths_for s w t ≡ false → read_file w t s f ≡ read_refused (Err ReadError.Length) w t s
  unfolding read_file
  read_length h = rw (read_file, h)

  -- a refused file leaves everything as it was, and reports nothing
  pub read_bad : lengths_for s w t ≡ true → (at : ℕ) → judged f ≡ Err at → read_file w t s f ≡ read_refused (Err (ReadError.File at)) w t s
  unfolding read_file read_by
  read_bad h at e = rw (read_file, h, e, read_by)

  -- an accepted one goes in as a batch of its certificates
  pub read-batch : lengths_for s w t ≡ true → judged f ≡ Ok tt → read_file w t s f ≡ read_done (batch w t s (as_items (certs_in f)))
  unfolding read_file read_by
  read-batch h e = rw (read_file, h, e, read_by)

  pub read_fine : lengths_for s w t ≡ true → judged f ≡ Ok tt
      → let m = between w s nothing in
      let xs = as_items (certs_in f) in
      read_file w t s f ≡ read_done (batch_left (Ok tt) t (after_items t m xs) (items_answered t m xs))
  read_fine h e = read-batch h e ∙ ap read_done (batch-done w t s (as_items (certs_in f)) h)

-- in a history it is a row of inserts, the refused ones included
pub read-is_row : (m : State) (f : List ℕ) → judged f ≡ Ok tt
    → let r = (read_file m.working m.stable m.session f).left in
    Leaves r.working r.stable r.session (run (row_of (as_items (certs_in f))) m)
read-is_row m f e = go (lengths_for m.session m.working m.stable) refl
  where
    go : (a : Bool) → lengths_for m.session m.working m.stable ≡ a
        → let r = (read_file m.working m.stable m.session f).left in
        Leaves r.working r.stable r.session (run (row_of (as_items (certs_in f))) m)
    go true h = rw (read-batch m.working m.stable m.session f h e) (batch-is_row m (as_items (certs_in f)))
    go false h =
        rw (read_length m.working m.stable m.session f h)
        (rw (batch_refused m.working m.stable m.session (as_items (certs_in f)) h) at (batch-is_row m (as_items (certs_in f))))

-- ── Certificates as items ───────────────────────────────────────────────────────────────────────────────────────

pub length-as_items : (cs : List Cert) → length (as_items cs) ≡ length cs
unfolding as_items
length-as_items [] = refl
length-as_items (c ∷ cs) = ap suc (length-as_items cs)

-- those from a place on are the one there and those behind it
pub as_items-at : (cs : List Cert) (i : ℕ) (d : Cert) → i < length cs
    → drop i (as_items cs) ≡ as_item (cert_parts (get_or cs i d)) ∷ drop (suc i) (as_items cs)
unfolding as_items
as_items-at [] i d h = absurd (omega (arith, h))
as_items-at (c ∷ cs) zero d h = refl
as_items-at (c ∷ cs) (suc i) d h = as_items-at cs i d (omega (arith, h))
