-- The tree that opening reads off a table that stays as it is, and what entering its places one after the other shows.
use Rattle.std.specs.Prelude.{ℕ, ◌^◌, ◌≤◌, ◌<◌, ◌≡◌, true, false, List, length, Ok}
use Rattle.std.proofs.Math.Option.{some}
use Rattle.fields.specs.Field.{Bytes}
use Rattle.rules.specs.Layout.{last_key}
use Rattle.rules.specs.Test.{mem}
use Rattle.rules.specs.Page.{View, Page}
use Rattle.rules.specs.Table.{pages}
use Rattle.rules.specs.Place.{show}
use Rattle.rules.specs.Enter.{Entered, enter}
use Rattle.rules.specs.Walk.{walk_of}
use Rattle.rules.specs.Tree.{tree_of}
use Rattle.rules.specs.Open.{opening}
use Rattle.rules.specs.declared.Place.{Place}
use Rattle.answers.specs.AsItStands.{InTree}

-- ── Places entered one after the other ──────────────────────────────────────────────────────────────────────────

-- u comes of t by entering places of t's tree, in any order, none below itself
pub data EnteredFrom (n c : ℕ) (t : List ℕ) : List ℕ → Type 0 where
  none_yet : {u : List ℕ} → u ≡ t → EnteredFrom n c t u
  one_more_lem : {u : List ℕ} (b : List ℕ) (e : Place) (above : List ℕ) → EnteredFrom n c t b → InTree n t e → mem e.child above ≡ false
      → u ≡ (enter n c above b e).table → EnteredFrom n c t u

-- ── The promise ─────────────────────────────────────────────────────────────────────────────────────────────────

-- a page that shows what is asked for
pub record Gives (v : View) (r : Entered) : Type 0 where
  pub page : Page
  pub given : r.page ≡ some page
  pub view : page.view ≡ v

pub record Alike (n c : ℕ) (t : List ℕ) : Type 0 where
  -- no place is damaged
  pub shown : (e : Place) → InTree n t e → (v : View) × (show n t e ≡ some v)
  -- whatever was entered before, entering a place gives what opening sees there
  pub gives : (u : List ℕ) → EnteredFrom n c t u → (e : Place) → InTree n t e → (v : View) → show n t e ≡ some v
      → (above : List ℕ) → mem e.child above ≡ false → Gives v (enter n c above u e)
  -- and leaves the certificates that opening reads
  pub holds : (u : List ℕ) → EnteredFrom n c t u → (tree_of n u).certs ≡ (tree_of n t).certs
  -- a walk over all keys, with room for what there is, enters every place and finds them all
  pub walks : (room : ℕ) → length (tree_of n t).certs ≤ room
      → ((walk_of n c (record { low = 0; high = last_key; room = room }) t).whole ≡ true)
      × ((walk_of n c (record { low = 0; high = last_key; room = room }) t).found ≡ (tree_of n t).certs)

-- where opening answers 0, for any counter
unfoldable pub OpeningEnters : Type 0
OpeningEnters =
    (w s : List ℕ) → Bytes s → (opening w s).answer ≡ Ok tt → (c : ℕ) → c < 256 ^ 4 → Alike (pages s) c s
