-- The answers of a plan, one after the other. Assumes nothing.
use Rattle.std.specs.Prelude.{Ok, Err}
use Prim.Native.Nat.{ℕ, suc, ◌+◌, ◌-◌, ◌*◌, ◌≤◌, ◌<◌}
use native.Mathlib.Omega.{arith}
use mathlib.Core.Path.{◌≡◌, refl, sym, ap, ◌∙◌}
use mathlib.Core.Bool.{Bool, true, false, ◌||◌}
use mathlib.Core.List.{List, [], ◌∷◌}
use lib.Dec.{ltb, eqb}
use lib.ListN.{length, take, get_or}
use borrow.Author.Tests.{eq-eqb, ne_eqb, lt-ltb, le-ltb}
use Rattle.rules.specs.Layout.{most_pages, top_kind}
use Rattle.rules.specs.Marks.{free_pages}
use Rattle.rules.specs.declared.InsertError.{InsertError}
use Rattle.rules.specs.declared.Session.{Session}
use Rattle.head.specs.declared.Head.{Head}
use Rattle.marks.specs.Lowest.{most_new}
use Rattle.marks.proofs.Needed.{lowest_fewer}
use Rattle.way.specs.declared.Step.{Step}
use Rattle.plan.specs.Plan.{heads_of, full_by, splits_by, too_soon_by, last_kind, too_high_by, numbers_of, need_by, stuck_by, no_room_by, chosen_by, plan_by}
use Rattle.plan.proofs.Heads.{length-heads, head-at}

-- the last of some headers
last_kind_lem : (kind : ℕ) (h : Head) (hs : List Head) (d : Head) → last_kind kind (h ∷ hs) ≡ (get_or (h ∷ hs) (length hs) d).kind
unfolding last_kind
last_kind_lem kind h [] d = refl
last_kind_lem kind h (g ∷ hs) d = last_kind_lem h.kind g hs d

pub high-last : (hs : List Head) (d : Head) → 1 ≤ length hs → too_high_by hs ≡ eqb (get_or hs (length hs - 1) d).kind top_kind
unfolding too_high_by
high-last [] d l = absurd (omega arith)
high-last (h ∷ hs) d l =
    let e : length hs ≡ suc (length hs) - 1 = omega arith in
    ap (λ (k : ℕ). eqb k top_kind) (last_kind_lem 0 h hs d) ∙ ap (λ (j : ℕ). eqb (get_or (h ∷ hs) j d).kind top_kind) e

pub splits-few : (hs : List Head) → splits_by hs ≤ length hs
unfolding splits_by
splits-few [] = omega arith
splits-few (h ∷ hs) = go (full_by h) refl (splits-few hs)
  where
    go : (b : Bool) → full_by h ≡ b → splits_by hs ≤ length hs → splits_by (h ∷ hs) ≤ suc (length hs)
    go true e ih = rw (e, splits_by) (omega arith)
    go false e ih = rw (e, splits_by) (omega arith)

pub splits-within : (w : List Step) (k : ℕ) → k ≡ splits_by (heads_of w) → k ≤ length w
splits-within w k e = omega (arith, e, splits-few (heads_of w), length-heads w)

module _ (w : List Step) (k : ℕ) where
  pub stuck_root : (d : Step) → 1 ≤ length w → k ≡ length w → eqb (get_or w (k - 1) d).head.kind top_kind ≡ stuck_by w k
  unfolding stuck_by
  stuck_root d a e =
      let l = length-heads w in
      let h : get_or (heads_of w) (length (heads_of w) - 1) d.head ≡ (get_or w (k - 1) d).head =
      rw (l, ← e) (head-at w (k - 1) d (omega arith)) in
      rw (eq-eqb k (length w) e) (sym (high-last (heads_of w) d.head (omega (arith, l)) ∙ ap (λ (x : Head). eqb x.kind top_kind) h))

  pub stuck_never : (k ≡ length w → ⊥) → false ≡ stuck_by w k
  unfolding stuck_by
  stuck_never e = rw (ne_eqb k (length w) e)

pub need-root : (len k : ℕ) → k ≡ len → 2 * k + 1 ≡ need_by len k
unfolding need_by
need-root len k e = rw (eq-eqb k len e)

pub need-none : (len k : ℕ) → (k ≡ len → ⊥) → 2 * k ≡ need_by len k
unfolding need_by
need-none len k e = rw (ne_eqb k len e) (omega arith)

pub need-few : (len k : ℕ) → k ≤ 3 → need_by len k ≤ 7
unfolding need_by
need-few len k l = go (eqb k len) refl
  where
    go : (b : Bool) → eqb k len ≡ b → 2 * k + elim (eqb k len) [ true ↦ 1 | false ↦ 0 ] ≤ 7
    go true e = rw e (omega arith)
    go false e = rw e (omega arith)

-- ── The answers ─────────────────────────────────────────────────────────────────────────────────────────────────

or_true : (b : Bool) → (b || true) ≡ true
or_true true = refl
or_true false = refl

module _ (s : Session) (w : List Step) where
  abbrev many : ℕ
  many = splits_by (heads_of w)

  abbrev free : List ℕ
  free = free_pages s (numbers_of w)

  stuck_full : true ≡ stuck_by w many → no_room_by w many free ≡ true
  unfolding no_room_by
  stuck_full h = rw (← h) (or_true (ltb (length free) (need_by (length w) many)))

  few-full : ltb (length free) (need_by (length w) many) ≡ true → no_room_by w many free ≡ true
  unfolding no_room_by
  few-full h = rw h refl

  room-left : ltb (length free) (need_by (length w) many) ≡ false → false ≡ stuck_by w many → no_room_by w many free ≡ false
  unfolding no_room_by
  room-left h q = rw h (sym q)

  fewer : (x : List ℕ) → x ≡ chosen_by s w → ltb (length x) (need_by (length w) many) ≡ ltb (length free) (need_by (length w) many)
  unfolding chosen_by
  fewer x f = ap (λ (y : List ℕ). ltb (length y) (need_by (length w) many)) f ∙ lowest_fewer (need_by (length w) many) free

  pub plan-present : (Err InsertError.Present) ≡ plan_by s true w
  unfolding plan_by
  plan-present = refl

  pub plan_soon : true ≡ too_soon_by s.c (take many (heads_of w)) → (Err InsertError.SyncFirst) ≡ plan_by s false w
  unfolding plan_by
  plan_soon q = rw (← q, plan_by)

  module _ (q : false ≡ too_soon_by s.c (take many (heads_of w))) where
    plan-full : no_room_by w many free ≡ true → (Err InsertError.Full) ≡ plan_by s false w
    unfolding plan_by
    plan-full n = rw (← q, n, plan_by)

    plan-room : no_room_by w many free ≡ false → (Ok tt) ≡ plan_by s false w
    unfolding plan_by
    plan-room n = rw (← q, n, plan_by)

    pub plan_stuck : true ≡ stuck_by w many → (Err InsertError.Full) ≡ plan_by s false w
    plan_stuck h = plan-full (stuck_full h)

    module _ (x : List ℕ) (f : x ≡ chosen_by s w) where
      pub plan-few : length x < need_by (length w) many → (Err InsertError.Full) ≡ plan_by s false w
      plan-few l = plan-full (few-full (sym (fewer x f) ∙ lt-ltb (length x) (need_by (length w) many) l))

      pub plan_go : false ≡ stuck_by w many → need_by (length w) many ≤ length x → (Ok tt) ≡ plan_by s false w
      plan_go h l = plan-room (room-left (sym (fewer x f) ∙ le-ltb (length x) (need_by (length w) many) l) h)

-- ── The numbers ─────────────────────────────────────────────────────────────────────────────────────────────────

module _ (s : Session) (w : List Step) where
  pub chosen-asks : s.n ≤ most_pages → length w ≤ 3 → (k : ℕ) → k ≡ splits_by (heads_of w) → (need : ℕ)
      → need ≡ need_by (length w) k → (s.n ≤ most_pages) × (need ≤ most_new)
  chosen-asks a b k e need g =
      let z = splits-within w k e in
      (a, omega (arith, g, need-few (length w) k (omega arith)))

  pub chosen_of : (k : ℕ) → k ≡ splits_by (heads_of w) → (x : List ℕ) → x ≡ numbers_of w → (need : ℕ) → need ≡ need_by (length w) k
      → take need (free_pages s x) ≡ chosen_by s w
  unfolding chosen_by
  chosen_of k e x f need g = rw (g, e, f)
