-- Opening in another way: every page of a copy is entered, root first, in key order, and mended where it is lost.
use Rattle.std.specs.Prelude.{ℕ, zero, suc, ◌+◌, ◌^◌, ◌<◌, ◌≡◌, true, false, ◌&&◌, List, [], ◌∷◌, leb, Ok, Err}
use Rattle.std.proofs.Math.Option.{some, none}
use Rattle.fields.specs.Field.{Bytes}
use Rattle.rules.specs.Layout.{top_kind, last_number}
use Rattle.rules.specs.Table.{pages, good_lengths, fit0, number0, set_number}
use Rattle.rules.specs.Place.{root_place, kids}
use Rattle.rules.specs.Enter.{enter}
use Rattle.rules.specs.Tree.{Tree, broken, empty, join, here, good_tree}
use Rattle.rules.specs.Marks.{opened}
use Rattle.rules.specs.Call.{Left}
use Rattle.rules.specs.Open.{open_refused, opening}
use Rattle.rules.specs.declared.Place.{Place}
use Rattle.rules.specs.Answer.{Opened}
use Rattle.rules.specs.declared.OpenError.{OpenError}

-- ── The tree as entering shows it ───────────────────────────────────────────────────────────────────────────────

-- the copy by now, and what was seen of its tree
pub record Seen : Type 0 where
  pub table : List ℕ
  pub tree : Tree

unfoldable pub enter_each : (Place → Seen → Seen) → List Place → Seen → Seen
enter_each enters [] u = u
enter_each enters (e ∷ es) u = enter_each enters es (enters e u)

-- a place's child, and its previous page if it is lost, as the copy has it when the place is entered
unfoldable pub enter_all : ℕ → ℕ → ℕ → List ℕ → Place → Seen → Seen
enter_all zero n c above e u = record { table = u.table; tree = join u.tree broken }
enter_all (suc level) n c above e u =
    let entered = enter n c above u.table e in
    elim entered.page [
      | none ↦ record { table = entered.table; tree = join u.tree broken }
      | some p ↦
          enter_each (enter_all level n c (e.child ∷ above)) (kids e p.view)
          (record { table = entered.table; tree = join u.tree (here n u.table e p.view) })
    ]

unfoldable pub entered_tree : ℕ → ℕ → List ℕ → Tree
entered_tree n c t = (enter_all top_kind n c [] (root_place t) (record { table = t; tree = empty })).tree

-- ── The call ────────────────────────────────────────────────────────────────────────────────────────────────────

-- the rules' opening, if this is the tree that it finds
unfoldable pub opening_by : Tree → List ℕ → List ℕ → Left Opened
opening_by found w s =
    elim (good_lengths w s) [
      | false ↦ open_refused (Err OpenError.Length) w s
      | true ↦ elim (fit0 (pages s) s && good_tree found) [
        | false ↦ open_refused (Err OpenError.Damaged) w s
        | true ↦ elim (leb (number0 s) last_number) [
          | false ↦ open_refused (Err OpenError.Spent) w s
          | true ↦ record {
            answer = Ok tt;
            session = opened (pages s) (number0 s) found;
            working = set_number s (number0 s + 1);
            stable = set_number s (number0 s + 1);
          }
        ]
      ]
    ]

-- answer, session and bytes are the same, for every table; c is what mended pages of the copy get
unfoldable pub OpeningEitherWay : Type 0
OpeningEitherWay =
    (w s : List ℕ) → Bytes s → (c : ℕ) → c < 256 ^ 4 → opening_by (entered_tree (pages s) c s) w s ≡ opening w s
