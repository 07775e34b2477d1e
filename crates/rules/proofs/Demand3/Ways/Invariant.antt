-- The invariant of demand 3. Between a successful sync or opening and the next one the stable table S stays as it is and
-- only the working table W changes; c is the counter. The invariant says of S and W what is needed for every mix of
-- their pages to be a good table that tells of each key a state that the key has had meanwhile.
--
-- Pages are spoken of by `read t i` and page 0 by `root_place t`, never by bytes. The number, n and kind in page 0 stay
-- outside.
use Rattle.std.proofs.Common.{◌≡◌, ℕ, suc, ◌<◌, ◌≤◌, Bool, true, false, ◌≢◌, ◌⊎◌, List}
use mathlib.Core.Option.{Option, some}
use Rattle.rules.specs.Layout.{leaf_kind}
use Rattle.rules.specs.Test.{mem}
use Rattle.rules.specs.Entry.{keys, find}
use Rattle.rules.specs.Page.{View}
use Rattle.rules.specs.Table.{read}
use Rattle.rules.specs.Place.{root_place, show}
use Rattle.rules.specs.declared.Place.{Place}
use Rattle.rules.proofs.Demand3.Ways.Ways.{Node, Found, Lost, Undamaged, source}

-- ── A good table ────────────────────────────────────────────────────────────────────────────────────────────────

-- page 0 names a page as root, and a page or none as its previous
pub record Rooted (n : ℕ) (t : List ℕ) : Type 0 where
  pub some_page : 1 ≤ (root_place t).child
  pub in_table : (root_place t).child < n
  pub previous_in : (root_place t).previous < n

-- what opening tests, place by place
pub record Good (n : ℕ) (t : List ℕ) : Type 0 where
  pub rooted : Rooted n t
  pub whole : {k : ℕ} {e : Place} → Node n t k e → Undamaged n t e
  -- no two nodes name one child
  pub once : {k j : ℕ} {a b : Place} → Node n t k a → Node n t j b → a.child ≡ b.child → a ≡ b
  pub apart : {k j : ℕ} {a b : Place} → Node n t k a → Lost n t a → Node n t j b → a.previous ≢ b.child

-- ── The working pages of stable nodes ───────────────────────────────────────────────────────────────────────────

-- the states that a key has had since the last sync or opening, then and now among them
abbrev pub States : Type 1
States = ℕ → Option ℕ → Type 0

-- o, on k's way in S, shows v there; its child was written since: mended, or changed where it stands
pub record Changed (n : ℕ) (S W : List ℕ) (c : ℕ) (Been : States) (k : ℕ) (o : Place) (v : View) : Type 0 where
  pub found : Found n W o
  pub kept : Found n S o → (read W o.child).built ≡ (read S o.child).built
  pub mended : Lost n S o → (read W o.child).built ≡ c
  pub touched : (read W o.child).touched ≡ c
  pub kind : (read W o.child).view.kind ≡ v.kind
  -- a leaf says of k a state that k has had
  pub told : v.kind ≡ leaf_kind → Been k (find k (read W o.child).view.certs)
  -- an inner page is still in the working tree
  pub still : v.kind ≢ leaf_kind → Node n W k o

pub data Old (n : ℕ) (S W : List ℕ) (c : ℕ) (Been : States) (k : ℕ) (o : Place) (v : View) : Type 0 where
  same : read W o.child ≡ read S o.child → Old n S W c Been k o v
  changed : Changed n S W c Been k o v → Old n S W c Been k o v

-- ── The nodes of the working tree ───────────────────────────────────────────────────────────────────────────────

-- a new node asks for the kind that its shade shows; or it is a new root, one kind above the old one
pub data Asks (W : List ℕ) (w : Place) (shade : Place) (seen : View) : Type 0 where
  level : w.want ≡ seen.kind → Asks W w shade seen
  root : w.want ≡ 0 → shade.want ≡ 0 → (read W w.child).view.kind ≡ suc seen.kind → Asks W w shade seen

-- w, on k's way in W, was born since. Its shade is the node of S whose entries it took over: if w is lost in a mix, it
-- is shown from the page that S shows the shade from.
pub record New (n : ℕ) (S W : List ℕ) (c : ℕ) (Been : States) (k : ℕ) (w : Place) : Type 0 where
  pub born : w.birth ≡ c
  pub found : Found n W w
  pub built : (read W w.child).built ≡ c
  pub touched : (read W w.child).touched ≡ c
  -- its page is used by nothing in S
  pub no_child : {j : ℕ} {o : Place} → Node n S j o → o.child ≢ w.child
  pub no_previous : {j : ℕ} {o : Place} → Node n S j o → Lost n S o → o.previous ≢ w.child
  pub shade : Place
  pub seen : View
  pub stands : Node n S k shade
  pub shows : show n S shade ≡ some seen
  pub lows : shade.low ≤ w.low
  pub highs : w.high ≤ shade.high
  -- the shade's child has left the working tree
  pub gone : {j : ℕ} {e : Place} → Node n W j e → e.child ≢ shade.child
  pub before : w.previous ≡ source n S shade
  pub asks : Asks W w shade seen
  -- an inner shade is cut between its own entries
  pub cut_low : seen.kind ≢ leaf_kind → mem w.low (keys seen.children) ≡ true
  pub cut_high : seen.kind ≢ leaf_kind → (w.high ≡ shade.high) ⊎ (mem (suc w.high) (keys seen.children) ≡ true)
  -- a leaf says of k a state that k has had
  pub told : (read W w.child).view.kind ≡ leaf_kind → Been k (find k (read W w.child).view.certs)

-- ── The invariant ───────────────────────────────────────────────────────────────────────────────────────────────

pub record Inv (n : ℕ) (S W : List ℕ) (c : ℕ) (Been : States) : Type 0 where
  -- the stable table: good, all of it older than c, and what it tells is among the states
  pub good : Good n S
  pub births : (i : ℕ) → 1 ≤ i → i < n → (read S i).birth < c
  pub born : {k : ℕ} {o : Place} → Node n S k o → o.birth < c
  pub built : {k : ℕ} {o : Place} → Node n S k o → Found n S o → (read S o.child).built < c
  pub told : {k : ℕ} {o : Place} {v : View}
      → Node n S k o → show n S o ≡ some v → v.kind ≡ leaf_kind → Been k (find k v.certs)
  -- the working table; that it is good follows, since it is a mix
  pub rooted : Rooted n W
  pub once : {k j : ℕ} {a b : Place} → Node n W k a → Node n W j b → a.child ≡ b.child → a ≡ b
  pub births_now : (i : ℕ) → 1 ≤ i → i < n → (read W i).birth ≤ c
  -- a stable node's working page; and the page that a lost one is shown from is left alone
  pub old : {k : ℕ} {o : Place} {v : View} → Node n S k o → show n S o ≡ some v → Old n S W c Been k o v
  pub spared : {k : ℕ} {o : Place} → Node n S k o → Lost n S o → read W o.previous ≡ read S o.previous
  pub apart : {k j : ℕ} {a b : Place} → Node n S k a → Lost n S a → Node n W j b → a.previous ≢ b.child
  -- a working node is the same place as a stable one, or new
  pub node : {k : ℕ} {w : Place} → Node n W k w → Node n S k w ⊎ New n S W c Been k w

-- ── The marks ───────────────────────────────────────────────────────────────────────────────────────────────────

-- which numbers the session marks as free and as waiting
pub record Marks (n : ℕ) (S W : List ℕ) (free waiting : ℕ → Bool) : Type 0 where
  pub free_old : {i k : ℕ} {o : Place} → free i ≡ true → Node n S k o → o.child ≢ i
  pub free_new : {i k : ℕ} {w : Place} → free i ≡ true → Node n W k w → w.child ≢ i
  pub free_spared : {i k : ℕ} {o : Place} → free i ≡ true → Node n S k o → Lost n S o → o.previous ≢ i
  pub not_both : {i : ℕ} → free i ≡ true → waiting i ≡ false
  pub waiting_new : {i k : ℕ} {w : Place} → waiting i ≡ true → Node n W k w → w.child ≢ i
  pub waiting_spared : {i k : ℕ} {o : Place} → waiting i ≡ true → Node n S k o → Lost n S o → o.previous ≢ i
