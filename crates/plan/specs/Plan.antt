-- What an insert has to do, decided before anything is written by the headers of the pages on the key's way, leaf first.
-- The laws beside it say that this is what the rules decide by the pages themselves.
use Rattle.std.specs.Prelude.{ℕ, suc, ◌+◌, ◌*◌, ◌≤◌, ◌≡◌, Bool, true, false, not, ◌&&◌, ◌||◌, List, [], ◌∷◌, leb, ltb, eqb, length, take, Ok, Err}
use Rattle.rules.specs.Layout.{leaf_room, inner_room, leaf_kind, top_kind}
use Rattle.rules.specs.Marks.{free_pages}
use Rattle.rules.specs.Walk.{Step, numbers}
use Rattle.rules.specs.Insert.{splitting, too_soon, no_room}
use Rattle.rules.specs.Answer.{Inserted}
use Rattle.rules.specs.declared.InsertError.{InsertError}
use Rattle.rules.specs.declared.Session.{Session}
use Rattle.rules.proofs.Bytes.All.{All}
use Rattle.rules.proofs.Entries.Views.{Shaped}
use Rattle.head.specs.declared.Head.{Head}
use Rattle.way.specs.declared.Step as way
use Rattle.way.specs.Ways.{way_for}

-- ── By headers ──────────────────────────────────────────────────────────────────────────────────────────────────

abbrev pub heads_of : List way.Step → List Head
heads_of [] = []
heads_of (x ∷ xs) = x.head ∷ heads_of xs

unfoldable pub full_by : Head → Bool
full_by h = elim (eqb h.kind leaf_kind) [ true ↦ leb leaf_room h.count | false ↦ leb inner_room h.count ]

-- how many pages are full, from the leaf up
unfoldable pub splits_by : List Head → ℕ
splits_by [] = 0
splits_by (h ∷ hs) = elim (full_by h) [ true ↦ suc (splits_by hs) | false ↦ 0 ]

-- an inner page that was touched since the last sync or opening
unfoldable pub late_by : ℕ → Head → Bool
late_by c h = not (eqb h.kind leaf_kind) && eqb h.touched c

unfoldable pub too_soon_by : ℕ → List Head → Bool
too_soon_by c [] = false
too_soon_by c (h ∷ hs) = late_by c h || too_soon_by c hs

-- the kind of the last page, which is the root
unfoldable pub last_kind : ℕ → List Head → ℕ
last_kind kind [] = kind
last_kind kind (h ∷ hs) = last_kind h.kind hs

unfoldable pub too_high_by : List Head → Bool
too_high_by hs = eqb (last_kind 0 hs) top_kind

-- ── The whole plan ──────────────────────────────────────────────────────────────────────────────────────────────

-- the numbers of the pages on the way
abbrev pub numbers_of : List way.Step → List ℕ
numbers_of [] = []
numbers_of (x ∷ xs) = x.place.child ∷ numbers_of xs

-- how many new pages so many splits need
unfoldable pub need_by : ℕ → ℕ → ℕ
need_by len k = 2 * k + elim (eqb k len) [ true ↦ 1 | false ↦ 0 ]

-- every page splits, and the root can't
unfoldable pub stuck_by : List way.Step → ℕ → Bool
stuck_by w k = eqb k (length w) && too_high_by (heads_of w)

unfoldable pub no_room_by : List way.Step → ℕ → List ℕ → Bool
no_room_by w k free = ltb (length free) (need_by (length w) k) || stuck_by w k

-- the numbers for new pages
unfoldable pub chosen_by : Session → List way.Step → List ℕ
chosen_by s w = take (need_by (length w) (splits_by (heads_of w))) (free_pages s (numbers_of w))

-- 5, then 6, then 7, or go on
unfoldable pub plan_by : Session → Bool → List way.Step → Inserted
plan_by s present w =
    elim present [
      | true ↦ Err InsertError.Present
      | false ↦ elim (too_soon_by s.c (take (splits_by (heads_of w)) (heads_of w))) [
        | true ↦ Err InsertError.SyncFirst
        | false ↦ elim (no_room_by w (splits_by (heads_of w)) (free_pages s (numbers_of w)))
            [ true ↦ Err InsertError.Full | false ↦ Ok tt ]
      ]
    ]

-- ── By the rules ────────────────────────────────────────────────────────────────────────────────────────────────

-- a way as the code has it, and the rules' steps that it stands for
pub record Headed (w : List way.Step) (steps : List Step) : Type 0 where
  pub way : w ≡ way_for steps
  pub few : length steps ≤ 3
  pub shaped : All (λ (s : Step). Shaped s.page.view) steps

-- what a plan is made of: a session with this counter, steps for the way, and the session's lowest free numbers
pub record Planning (c : ℕ) (w : List way.Step) (x : List ℕ) : Type 0 where
  pub session : Session
  pub steps : List Step
  pub counter : session.c ≡ c
  pub headed : Headed w steps
  pub some_page : 1 ≤ length w
  pub chosen : x ≡ chosen_by session w

-- the rules' refusals of an insert, in their order
unfoldable pub plan_of : Session → Bool → List Step → Inserted
plan_of s present steps =
    elim present [
      | true ↦ Err InsertError.Present
      | false ↦ elim (too_soon s.c (splitting steps)) [
        | true ↦ Err InsertError.SyncFirst
        | false ↦ elim (no_room steps (free_pages s (numbers steps))) [ true ↦ Err InsertError.Full | false ↦ Ok tt ]
      ]
    ]
