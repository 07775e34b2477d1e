-- One step of a walk, by what it finds and whether it enters: the laws that the others go by. Assumes nothing.
use Prim.Native.Nat.{ℕ, zero, suc, ◌-◌, ◌≤◌, ◌<◌}
use native.Mathlib.Omega.{arith}
use mathlib.Core.Path.{◌≡◌, refl, sym, ap, ◌∙◌}
use mathlib.Core.Bool.{Bool, true, false}
use mathlib.Core.List.{List, [], ◌∷◌, ◌++◌, Memᴰ, append-nil}
use mathlib.Core.Option.{some}
use lib.ListN.{length, take}
use lib.Seq.{take-nil}
use borrow.Author.Tests.{ltb-true, lt-ltb, leb-true, le-leb}
use Rattle.rules.specs.Test.{every, mem}
use Rattle.rules.specs.Entry.{Cert, cut}
use Rattle.rules.specs.Page.{View, Page}
use Rattle.rules.specs.Table.{read}
use Rattle.rules.specs.Enter.{enter}
use Rattle.rules.specs.Report.{adds, reason_at}
use Rattle.rules.specs.Walk.{Walked, reporting, enters, finds, stops, walk_each, walk}
use Rattle.rules.specs.declared.Asked.{Asked}
use Rattle.rules.specs.declared.Place.{Place}
use Rattle.rules.specs.declared.Report.{Report}
use Rattle.rules.proofs.Entries.Tests.{every_true, every_of, fails}
use Rattle.rules.proofs.Entries.Entries.{cut-nil}
use Rattle.rules.proofs.Entries.Places.{Fits, fits-of}
use Rattle.rules.proofs.Entries.Reasons.{adds-fits}
use Rattle.rules.proofs.Demand1.WalkSteps.{walk-past}

-- ── Whether a place is entered ──────────────────────────────────────────────────────────────────────────────────

pub record Enters (a : Asked) (e : Place) (w : Walked) : Type 0 where
  pub whole : w.whole ≡ true
  pub room : length w.found < a.room
  pub from : e.low ≤ a.high
  pub to : a.low ≤ e.high

pub enters_true : (a : Asked) (e : Place) (w : Walked) → enters a e w ≡ true → Enters a e w
unfolding enters
enters_true a e w h =
    let f = every_true _ h in
    record {
      whole = f.0;
      room = ltb-true (length w.found) a.room f.1.0;
      from = leb-true e.low a.high f.1.1.0;
      to = leb-true a.low e.high f.1.1.1.0;
    }

pub enters-of : (a : Asked) (e : Place) (w : Walked) → Enters a e w → enters a e w ≡ true
unfolding enters
enters-of a e w x =
    every_of _ (
      x.whole,
      (
        lt-ltb (length w.found) a.room x.room,
        (
          le-leb e.low a.high x.from,
          (le-leb a.low e.high x.to, tt),
        ),
      ),
    )

pub enters_not : (a : Asked) (e : Place) (w : Walked) → (Enters a e w → ⊥) → enters a e w ≡ false
enters_not a e w h = fails (enters a e w) (λ q. h (enters_true a e w q))

-- ── What is found ───────────────────────────────────────────────────────────────────────────────────────────────

-- the same in another table
abbrev pub moved : Walked → List ℕ → Walked
moved w t = record { table = t; whole = w.whole; found = w.found; report = w.report }

-- by report and table
pub stops-told : (w : Walked) {x y : Report} {t u : List ℕ} → x ≡ y → t ≡ u → stops (reporting x w) t ≡ stops (reporting y w) u
stops-told w p q = cc

pub finds-told : (a : Asked) (v : View) (w : Walked) {x y : Report} {t u : List ℕ} → x ≡ y → t ≡ u
    → finds a v (reporting x w) t ≡ finds a v (reporting y w) u
finds-told a v w p q = cc

-- a page without certificates adds none
pub finds-none : (a : Asked) (v : View) (w : Walked) (t : List ℕ) → v.certs ≡ [] → w.whole ≡ true → finds a v w t ≡ moved w t
unfolding finds
finds-none a v w t h q =
    let z : take (a.room - length w.found) (cut a.low a.high v.certs) ≡ []
    = ap (λ (xs : List Cert). take (a.room - length w.found) (cut a.low a.high xs)) h
    ∙ (ap (take (a.room - length w.found)) (cut-nil a.low a.high) ∙ take-nil (a.room - length w.found)) in
    same (sym q) (ap (λ (xs : List Cert). w.found ++ xs) z ∙ append-nil w.found)
  where
    same : {x y : Bool} {xs ys : List Cert} → x ≡ y → xs ≡ ys
        → ◌≡◌ {A = Walked} (record { table = t; whole = x; found = xs; report = w.report })
        (record { table = t; whole = y; found = ys; report = w.report })
    same f g = cc

-- two that ask alike of a page find alike
pub finds-same : (a b : Asked) (v : View) (w : Walked) (t : List ℕ) → a.room ≡ b.room
    → cut a.low a.high v.certs ≡ cut b.low b.high v.certs → finds a v w t ≡ finds b v w t
unfolding finds
finds-same a b v w t r q = rw (r, q)

-- ── Entering a page that stands ─────────────────────────────────────────────────────────────────────────────────

pub enter-standing : (n c : ℕ) (above t : List ℕ) (e : Place) (p : Page) → mem e.child above ≡ false → read t e.child ≡ p → Fits n e p
    → enter n c above t e ≡ record { table = t; page = some p }
unfolding enter
enter-standing n c above t e p a h f =
    rw (a, enter, h, fits-of n e p f) (ap (λ (q : Page). record { table = t; page = some q }) h)

-- it adds nothing to a report
pub adds-standing : (n : ℕ) (t : List ℕ) (e : Place) (x : Report) → Fits n e (read t e.child) → adds (reason_at n t e) x ≡ x
adds-standing n t e x f = adds-fits n t e x (fits-of n e (read t e.child) f)

-- ── Over the places of a page ───────────────────────────────────────────────────────────────────────────────────

pub walk_skips : (level n c : ℕ) (a : Asked) (above : List ℕ) (e : Place) (w : Walked) → 1 ≤ level → enters a e w ≡ false
    → walk level n c a above e w ≡ w
walk_skips zero n c a above e w l h = absurd (omega arith)
walk_skips (suc level) n c a above e w l h = walk-past level n c a above e w h

-- damage ends a walk
pub walk-stopped : (level n c : ℕ) (a : Asked) (above : List ℕ) (e : Place) (w : Walked) (t : List ℕ)
    → walk level n c a above e (stops w t) ≡ stops w t
unfolding walk stops enters every
walk-stopped zero n c a above e w t = refl
walk-stopped (suc level) n c a above e w t = walk-past level n c a above e (stops w t) refl

module _ (f : Place → Walked → Walked) where
  pub each_append : (ds es : List Place) (w : Walked) → walk_each f (ds ++ es) w ≡ walk_each f es (walk_each f ds w)
  unfolding walk_each
  each_append [] es w = refl
  each_append (d ∷ ds) es w = each_append ds es (f d w)

  -- places that leave everything as it is
  pub each_past : (es : List Place) (w : Walked) → ((d : Place) → Memᴰ d es → f d w ≡ w) → walk_each f es w ≡ w
  unfolding walk_each
  each_past [] w h = refl
  each_past (e ∷ es) w h =
      ap (walk_each f es) (h e (Memᴰ.head refl)) ∙ each_past es w (λ d m. h d (Memᴰ.tail m))

  pub each_same : (g : Place → Walked → Walked) (es : List Place) (w : Walked)
      → ((d : Place) (v : Walked) → Memᴰ d es → f d v ≡ g d v) → walk_each f es w ≡ walk_each g es w
  unfolding walk_each
  each_same g [] w h = refl
  each_same g (e ∷ es) w h =
      each_same g es (f e w) (λ d v m. h d v (Memᴰ.tail m)) ∙ ap (walk_each g es) (h e w (Memᴰ.head refl))
