-- What a walk of one key leaves of each page.
use Rattle.std.specs.Prelude.{ℕ, zero, suc, ◌^◌, ◌<◌, min, ◌≡◌, true, false, length, Ok}
use mathlib.Core.List.{List, [], ◌∷◌, Memᴰ}
use Rattle.std.proofs.Math.Option.{some, none}
use Rattle.fields.specs.Field.{Bytes}
use Rattle.rules.specs.Layout.{top_kind}
use Rattle.rules.specs.Key.{key_of}
use Rattle.rules.specs.Page.{build_bytes}
use Rattle.rules.specs.Table.{page_at, read}
use Rattle.rules.specs.Place.{root_place, kids, pick, fits, mendable, mended}
use Rattle.rules.specs.Enter.{enter}
use Rattle.rules.specs.Walk.{Step, numbers}
use Rattle.rules.specs.Call.{Left}
use Rattle.rules.specs.Insert.{insert}
use Rattle.rules.specs.Withdraw.{withdraw}
use Rattle.rules.specs.Lookup.{lookup}
use Rattle.rules.specs.List.{ListLeft, list}
use Rattle.rules.specs.declared.Place.{Place}
use Rattle.rules.specs.declared.Session.{Session}

-- ── The places that a walk asks for ─────────────────────────────────────────────────────────────────────────────

-- from a place down, root first; the last one may be damaged
unfoldable pub asked_from : ℕ → ℕ → ℕ → ℕ → List Step → List ℕ → Place → List Place
asked_from zero n c k above t e = []
asked_from (suc level) n c k above t e =
    let entered = enter n c (numbers above) t e in
    e ∷ elim entered.page [
      | none ↦ []
      | some p ↦ elim (pick k (kids e p.view)) [
        | none ↦ []
        | some d ↦ asked_from level n c k (record { place = e; page = p } ∷ above) entered.table d
      ]
    ]

unfoldable pub asked_for : ℕ → ℕ → ℕ → List ℕ → List Place
asked_for n c k w = asked_from top_kind n c k [] w (root_place w)

-- ── What became of a page ───────────────────────────────────────────────────────────────────────────────────────

-- of page i of w, in u: it is as it was; or one of the places asked for names it, it was lost, and it is the page that
-- mending builds from the previous page as that was
pub data PageLeft (n c : ℕ) (places : List Place) (w u : List ℕ) (i : ℕ) : Type 0 where
  as_it_was : page_at u i ≡ page_at w i → PageLeft n c places w u i
  mended_for : (e : Place) → Memᴰ e places → e.child ≡ i
      → fits n e (read w i) ≡ false → mendable n e (read w e.previous) ≡ true
      → page_at u i ≡ build_bytes (mended c e (read w e.previous))
      → PageLeft n c places w u i

-- every page of the working table; stable and the session stay
pub record OnlyWay {A : Type 0} (k : ℕ) (w t : List ℕ) (s : Session) (r : Left A) : Type 0 where
  pub length_stays : length r.working ≡ length w
  pub page : (i : ℕ) → PageLeft s.n s.c (asked_for s.n s.c k w) w r.working i
  pub stable : r.stable ≡ t
  pub session : r.session ≡ s

-- ── The promises ────────────────────────────────────────────────────────────────────────────────────────────────

-- arguments within the width of their type
pub record Typed (w : List ℕ) (s : Session) (model serial issue : ℕ) : Type 0 where
  pub bytes : Bytes w
  pub counter : s.c < 256 ^ 4
  pub wide_model : model < 2 ^ 16
  pub wide_serial : serial < 2 ^ 32
  pub wide_issue : issue < 2 ^ 16

unfoldable pub InsertRefused : Type 0
InsertRefused =
    (w t : List ℕ) (s : Session) (model serial issue x : ℕ) → Typed w s model serial issue
    → ((insert w t s model serial issue x).answer ≡ Ok tt → ⊥)
    → OnlyWay (key_of model serial issue) w t s (insert w t s model serial issue x)

unfoldable pub WithdrawRefused : Type 0
WithdrawRefused =
    (w t : List ℕ) (s : Session) (model serial issue : ℕ) → Typed w s model serial issue
    → ((withdraw w t s model serial issue).answer ≡ Ok tt → ⊥)
    → OnlyWay (key_of model serial issue) w t s (withdraw w t s model serial issue)

-- done or refused
unfoldable pub LookupLeaves : Type 0
LookupLeaves =
    (w t : List ℕ) (s : Session) (model serial issue : ℕ) → Typed w s model serial issue
    → OnlyWay (key_of model serial issue) w t s (lookup w t s model serial issue)

-- ── A list without room ─────────────────────────────────────────────────────────────────────────────────────────

-- no page is entered, so none is mended, and no place of a lent list is filled
pub record NothingListed (w ks xs : List ℕ) (r : ListLeft) : Type 0 where
  pub working : r.working ≡ w
  pub keys : r.keys ≡ ks
  pub records : r.records ≡ xs

unfoldable pub EmptyList : Type 0
EmptyList =
    (w t : List ℕ) (s : Session) (start : ℕ) (ks xs : List ℕ) → min (length ks) (length xs) ≡ 0
    → NothingListed w ks xs (list w t s start ks xs)
