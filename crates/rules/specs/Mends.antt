-- The pages that calls mend, one after the other: each by the call's own walk, no table is compared with another.
use Rattle.std.specs.Prelude.{◌≡◌, ℕ, zero, suc, Bool, true, false, ◌&&◌, List, [], ◌∷◌, ◌++◌, nat_lt}
use Rattle.std.proofs.Math.Option.{some, none}
use Rattle.rules.specs.Layout.{top_kind}
use Rattle.rules.specs.Test.{every, mem}
use Rattle.rules.specs.Key.{key_of, good_parts}
use Rattle.rules.specs.Table.{read, build, fit0}
use Rattle.rules.specs.Place.{root_place, kids, pick, fits, mendable, mended}
use Rattle.rules.specs.Enter.{enter}
use Rattle.rules.specs.Walk.{Step, numbers, Walked, unwalked, noted, enters, finds, walk}
use Rattle.rules.specs.Call.{lengths_for}
use Rattle.rules.specs.Newest.{meter}
use Rattle.rules.specs.HasAny.{first_of}
use Rattle.rules.specs.List.{up_from}
use Rattle.rules.specs.History.{Event, inserts, withdraws, looks, asks_newest, asks_any, lists, syncs, opens, crashes, crashes_in_sync, State, step}
use Rattle.rules.specs.declared.Asked.{Asked}
use Rattle.rules.specs.declared.Place.{Place}
use Rattle.rules.specs.declared.Session.{Session}

-- ── Entering ────────────────────────────────────────────────────────────────────────────────────────────────────

-- a lost child is mended where it can be (Enter.mend)
unfoldable pub lost_mends : ℕ → List ℕ → Place → List ℕ
lost_mends n t e = elim (mendable n e (read t e.previous)) [ true ↦ e.child ∷ [] | false ↦ [] ]

-- a child among the pages above is damaged, and one that fits is not lost (Enter.enter)
unfoldable pub enter_mends : ℕ → List ℕ → List ℕ → Place → List ℕ
enter_mends n above t e =
    elim (mem e.child above) [
      | true ↦ []
      | false ↦ elim (fits n e (read t e.child)) [ true ↦ [] | false ↦ lost_mends n t e ]
    ]

-- ── The way of one key ──────────────────────────────────────────────────────────────────────────────────────────

-- from a place down, as Walk.descend goes
unfoldable pub descend_mends : ℕ → ℕ → ℕ → ℕ → List Step → List ℕ → Place → List ℕ
descend_mends zero n c k above t e = []
descend_mends (suc level) n c k above t e =
    let entered = enter n c (numbers above) t e in
    let here = enter_mends n (numbers above) t e in
    elim entered.page [
      | none ↦ here
      | some p ↦
          let steps : List Step = record { place = e; page = p } ∷ above in
          elim (pick k (kids e p.view))
          [ none ↦ here | some e' ↦ here ++ descend_mends level n c k steps entered.table e' ]
    ]

unfoldable pub way_mends : ℕ → ℕ → ℕ → List ℕ → List ℕ
way_mends n c k t = descend_mends top_kind n c k [] t (root_place t)

-- ── The pages that meet a range ─────────────────────────────────────────────────────────────────────────────────

-- each place of a page, in key order, as Walk.walk_each goes
unfoldable pub each_mends : (Place → Walked → Walked) → (Place → Walked → List ℕ) → List Place → Walked → List ℕ
each_mends walk mends [] w = []
each_mends walk mends (e ∷ es) w = mends e w ++ each_mends walk mends es (walk e w)

-- as Walk.walk goes
unfoldable pub walk_mends : ℕ → ℕ → ℕ → Asked → List ℕ → Place → Walked → List ℕ
walk_mends zero n c a above e w = []
walk_mends (suc level) n c a above e w =
    elim (enters a e w) [
      | false ↦ []
      | true ↦
          let entered = enter n c above w.table e in
          let here = enter_mends n above w.table e in
          elim entered.page [
            | none ↦ here
            | some p ↦
                here
                ++ each_mends (walk level n c a (e.child ∷ above)) (walk_mends level n c a (e.child ∷ above)) (kids e p.view)
                (finds a p.view (noted n e w) entered.table)
          ]
    ]

unfoldable pub walk_of_mends : ℕ → ℕ → Asked → List ℕ → List ℕ
walk_of_mends n c a t = walk_mends top_kind n c a [] (root_place t) (unwalked t)

-- ── Calls ───────────────────────────────────────────────────────────────────────────────────────────────────────

-- lengths, key and page 0 are tested before a page is entered: a call that they refuse mends nothing
unfoldable pub tested_mends : Session → List ℕ → List ℕ → Bool → List ℕ → List ℕ
tested_mends s w t good xs =
    elim (every (lengths_for s w t ∷ good ∷ fit0 s.n w ∷ [])) [ true ↦ xs | false ↦ [] ]

-- insert, withdraw and lookup go the way of one key
unfoldable pub key_mends : List ℕ → List ℕ → Session → ℕ → ℕ → ℕ → List ℕ
key_mends w t s model serial issue =
    tested_mends s w t (good_parts model serial issue) (way_mends s.n s.c (key_of model serial issue) w)

-- newest and has-any walk over issues of one meter
unfoldable pub meter_mends : List ℕ → List ℕ → Session → ℕ → ℕ → Asked → List ℕ
meter_mends w t s model serial a = tested_mends s w t (nat_lt 0 model && nat_lt 0 serial) (walk_of_mends s.n s.c a w)

-- list asks for no key
unfoldable pub list_mends : List ℕ → List ℕ → Session → Asked → List ℕ
list_mends w t s a = tested_mends s w t true (walk_of_mends s.n s.c a w)

-- the pages that a call mends; neither a sync nor an opening walks
unfoldable pub mended_now : Event → State → List ℕ
mended_now (inserts model serial issue x) m = key_mends m.working m.stable m.session model serial issue
mended_now (withdraws model serial issue) m = key_mends m.working m.stable m.session model serial issue
mended_now (looks model serial issue) m = key_mends m.working m.stable m.session model serial issue
mended_now (asks_newest model serial) m = meter_mends m.working m.stable m.session model serial (meter model serial)
mended_now (asks_any model serial) m = meter_mends m.working m.stable m.session model serial (first_of model serial)
mended_now (lists start ks xs) m = list_mends m.working m.stable m.session (up_from start ks xs)
mended_now syncs m = []
mended_now opens m = []
mended_now (crashes written w) m = []
mended_now (crashes_in_sync written w) m = []

-- the pages that events mend, one after the other
unfoldable pub mended_between : List Event → State → List ℕ
mended_between [] m = []
mended_between (e ∷ es) m = mended_now e m ++ mended_between es (step e m)

-- ── What it is to mend them ─────────────────────────────────────────────────────────────────────────────────────

-- a table comes of another by mends of these pages in turn and by nothing else: each was lost, and could be mended
pub data InTurn (n c : ℕ) : List ℕ → List ℕ → List ℕ → Type 0 where
  no_mend : {t : List ℕ} → InTurn n c [] t t
  mend_next : {xs t u : List ℕ} (e : Place) → fits n e (read t e.child) ≡ false → mendable n e (read t e.previous) ≡ true
      → InTurn n c xs (build t e.child (mended c e (read t e.previous))) u → InTurn n c (e.child ∷ xs) t u
