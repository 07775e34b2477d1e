-- What a step to the leaf of a key gives a withdrawal: damage, or the leaf to take the certificate out of. Assumes nothing.
use mathlib.Core.Path.{◌≡◌, refl, sym, ap, ◌∙◌}
use mathlib.Core.List.{List, ◌∷◌}
use mathlib.Core.Option.{Option, some, none}
use Prim.Native.Nat.{ℕ, ◌≤◌}
use native.Mathlib.Omega.{arith}
use Rattle.std.specs.Prelude.{Result, Ok, Err}
use Rattle.rules.specs.Layout.{leaf_header, cert_size, leaf_room, last_key}
use Rattle.rules.specs.Entry.{Cert, keys, find}
use Rattle.rules.specs.Page.{Page, page_in}
use Rattle.rules.specs.Table.{page_at, read}
use Rattle.rules.specs.Walk as rules
use Rattle.rules.specs.Walk.{certs_at, leaf_at}
use Rattle.rules.specs.Report.{nothing}
use Rattle.rules.specs.Marks.{uncounted}
use Rattle.rules.specs.Call.{Left}
use Rattle.rules.specs.Withdraw.{removed, withdraw_refused, withdraw_done, withdraw_along, withdraw_key}
use Rattle.rules.specs.declared.Session.{Session}
use Rattle.rules.specs.declared.Report.{Report}
use Rattle.rules.specs.Answer.{Withdrawn, Looked}
use Rattle.rules.specs.declared.FindError.{FindError}
use Rattle.head.proofs.Headers.{head_of}
use Rattle.entries.specs.Spot.{keys_in, spot_of}
use Rattle.entries.proofs.KeysIn.{keys-certs}
use Rattle.way.specs.Ways.{reported}
use Rattle.way.proofs.Leaf.{certs-are}
use Rattle.climbs.specs.Ground.{Ground}
use Rattle.leaves.specs.Cursors.{nexting, next_of}
use Rattle.leaves.specs.declared.Leaf.{Leaf}
use Rattle.leaves.proofs.Loops.{next-damaged, Reached, next-leaf}
use Rattle.lookup.specs.Looks.{found_before, looked_in}
use Rattle.lookup.proofs.Leaf.{spot-room, found-leaf}
use Rattle.edit.specs.Takes.{HasCert}
use Rattle.edit.proofs.Callers.{has_cert}
use Rattle.rules.specs.Handing.{left_as as left}

-- what is left and what is reported, together
pub reported_too : {a b : Left Withdrawn} {x y : Report} → x ≡ y → a ≡ b → reported a x ≡ reported b y
reported_too p q = cc

-- ── What was found ──────────────────────────────────────────────────────────────────────────────────────────────

module _ (o : Option ℕ) (r : Looked) (e : r ≡ looked_in o) where
  pub none_found : ((x : ℕ) → r ≡ Ok x → ⊥) → o ≡ none
  unfolding looked_in
  none_found h = go o refl
    where
      go : (p : Option ℕ) → o ≡ p → o ≡ none
      go none q = q
      go (some v) q = absurd (h v (e ∙ ap looked_in q))

  pub one_found : (x : ℕ) → r ≡ Ok x → (v : ℕ) × (o ≡ some v)
  unfolding looked_in
  one_found x f = go o refl
    where
      go : (p : Option ℕ) → o ≡ p → (v : ℕ) × (o ≡ some v)
      go none q =
          let m : Ok x ≡ (Err FindError.Missing) = sym f ∙ (e ∙ ap looked_in q) in
          let z : ◌≡◌ {A = ℕ} 0 1 = cc in absurd (omega arith)
      go (some v) q = (v, q)

-- ── Behind the step ─────────────────────────────────────────────────────────────────────────────────────────────

-- the rule of a key by the way that was gone
unfoldable along_way : ℕ → Session → List ℕ → rules.Way → Left Withdrawn
along_way k s stable x =
    elim x.steps [
      | none ↦ withdraw_refused (Err FindError.Damaged) s x.table stable
      | some steps ↦ withdraw_along k s steps x.table stable
    ]

-- the step's report begins with nothing
pub from_nothing : (n c k : ℕ) (t u : List ℕ) (r : Result Leaf Report) (x : Report) → x ≡ nothing
    → nexting u r ≡ next_of k k (rules.way_of n c k t) (rules.way_report n c k t x)
    → nexting u r ≡ next_of k k (rules.way_of n c k t) (rules.way_report n c k t nothing)
from_nothing n c k t u r x o f = f ∙ ap (λ (y : Report). next_of k k (rules.way_of n c k t) (rules.way_report n c k t y)) o

module _ (s : Session) (k : ℕ) (t u : List ℕ) (g : Ground s.n s.c t) (h : k ≤ last_key) {r : Result Leaf Report}
    (f : nexting u r ≡ next_of k k (rules.way_of s.n s.c k t) (rules.way_report s.n s.c k t nothing)) where
  -- a damaged place was met
  pub damaged : {y : Report} → r ≡ Err y → (stable : List ℕ)
      → reported (left (Err FindError.Damaged) s u stable) y ≡ reported (withdraw_key k s t stable) (rules.way_report s.n s.c k t nothing)
  unfolding withdraw_key withdraw_refused along_way
  damaged {y} e stable =
      let q = next-damaged g h k nothing y (ap (nexting u) (sym e) ∙ f) in
      reported_too q.1 (sym (ap (along_way k s stable) q.0))

  module _ {l : Leaf} (e : r ≡ Ok l) where
    pub reached : Reached s.n s.c k k nothing t u l
    reached = next-leaf g h k nothing l (ap (nexting u) (sym e) ∙ f)

    abbrev steps : List rules.Step
    steps = reached.leaf ∷ reached.above

    along : (stable : List ℕ) → withdraw_along k s steps u stable ≡ withdraw_key k s t stable
    unfolding withdraw_key along_way
    along stable = sym (ap (along_way k s stable) reached.way)

    -- the leaf's certificates, as the rules have them at the end of the way
    certs : (read u l.child).view.certs ≡ certs_at steps
    unfolding certs_at
    certs = ap (λ (p : Page). p.view.certs) reached.here

    spot : l.spot ≡ spot_of k (keys_in leaf_header cert_size (head_of (page_in (page_at u l.child))).count (page_at u l.child))
    unfolding read page_in certs_at
    spot =
        let b = page_at u l.child in
        reached.spot
        ∙ (ap (λ (xs : List Cert). spot_of k (keys xs)) (sym certs ∙ certs-are b (head_of (page_in b)) refl reached.holds)
        ∙ ap (spot_of k) (keys-certs (head_of (page_in b)).count b))

    pub spot-within : l.spot ≤ leaf_room
    unfolding read page_in
    spot-within = spot-room (page_at u l.child) (head_of (page_in (page_at u l.child))) refl reached.holds k l.spot spot

    pub found_as : {x : Looked} → x ≡ found_before k l.spot (page_at u l.child) → x ≡ looked_in (find k (certs_at steps))
    unfolding read page_in
    found_as q =
        q ∙ (found-leaf (page_at u l.child) (head_of (page_in (page_at u l.child))) refl reached.holds k l.spot spot
        ∙ ap (λ (xs : List Cert). looked_in (find k xs)) certs)

    pub missing : find k (certs_at steps) ≡ none → (stable : List ℕ)
        → reported (left (Err FindError.Missing) s u stable) l.report
        ≡ reported (withdraw_key k s t stable) (rules.way_report s.n s.c k t nothing)
    unfolding withdraw_along withdraw_refused
    missing q stable = reported_too reached.report (rw (withdraw_along, q) at (along stable))

    -- the leaf has it
    pub has : (v : ℕ) → find k (certs_at steps) ≡ some v → HasCert k (read u l.child).view
    has v q =
        let x = reached.holds in
        has_cert k v (read u l.child).view x.leaf x.room x.rise (ap (find k) certs ∙ q)

    pub taken_out : (v : ℕ) → find k (certs_at steps) ≡ some v → (stable w : List ℕ) → w ≡ removed s.c k u l.child
        → (s' : Session) → s' ≡ uncounted s
        → reported (left (Ok tt) s' w stable) l.report
        ≡ reported (withdraw_key k s t stable) (rules.way_report s.n s.c k t nothing)
    unfolding withdraw_along withdraw_done leaf_at
    taken_out v q stable w d s' z =
        reported_too reached.report
        (ap (λ (y : Session). left (Ok tt) y w stable) z
        ∙ (ap (λ (y : List ℕ). left (Ok tt) (uncounted s) y stable) (d ∙ ap (removed s.c k u) reached.child)
        ∙ (rw (withdraw_along, q) at (along stable))))
