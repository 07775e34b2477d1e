-- What is planned along a way is what the rules' chain comes to, and where it is to go on all is ready. Assumes nothing.
use Rattle.std.specs.Prelude.{Ok, Err, is_ok}
use Prim.Native.Nat.{ℕ, ◌+◌, ◌*◌, ◌≤◌}
use native.Mathlib.Omega.{arith}
use mathlib.Core.Path.{◌≡◌, refl, sym, ap, ◌∙◌, subst}
use mathlib.Core.Bool.{Bool, true, false}
use mathlib.Core.List.{List, [], ◌∷◌}
use mathlib.Core.Option.{Option, some, none}
use lib.ListN.{length, get_or}
use Rattle.rules.specs.Layout.{page_size}
use Rattle.rules.specs.Entry.{Cert, find}
use Rattle.rules.specs.Page.{is_leaf}
use Rattle.rules.specs.Table.{read}
use Rattle.rules.specs.Marks.{counted, free_pages}
use Rattle.rules.specs.Walk.{numbers, certs_at}
use Rattle.rules.specs.Walk as rules
use Rattle.rules.specs.Call.{Left}
use Rattle.rules.specs.Insert.{splitting, too_soon, new_pages, no_room, insert_refused, insert_done, insert_along}
use Rattle.rules.specs.declared.Session.{Session}
use Rattle.rules.specs.Answer.{Inserted}
use Rattle.rules.specs.declared.InsertError.{InsertError}
use Rattle.rules.specs.Answer.{Looked}
use Rattle.rules.proofs.Bytes.All.{All, all_head}
use Rattle.head.proofs.Headers.{head_of}
use Rattle.marks.proofs.Needed.{lowest-at}
use Rattle.way.specs.Ways.{Holds}
use Rattle.way.specs.declared.Step.{Step}
use Rattle.way.proofs.Descent.{length-way}
use Rattle.lookup.specs.Looks.{looked_in}
use Rattle.split.specs.Split.{step_at}
use Rattle.plan.specs.Plan.{chosen_by, Planning, plan_of}
use Rattle.plan.proofs.Pages.{chosen_is}
use Rattle.apply.specs.Leads.{Stands, Leads, EndsInLeaf, HeadRead, step_on, steps_in, ReadyWay, done}
use Rattle.apply.proofs.Going.{leads-first}
use Rattle.rules.specs.Handing.{left_as as left}
use Rattle.insert.specs.Inserts.{present_in, Walked, decided_on}

-- ── The rules' chain, by the plan ───────────────────────────────────────────────────────────────────────────────

module _ (k x : ℕ) (s : Session) (steps : List rules.Step) (w t : List ℕ) where
  abbrev planned : Inserted
  planned = plan_of s (present_in (find k (certs_at steps))) steps

  abbrev left_by : Inserted → Left Inserted
  left_by (Err e) = insert_refused (Err e) s w t
  left_by (Ok u) = insert_done k x (counted s) steps w t

  along_planned : left_by planned ≡ insert_along k x s steps w t
  unfolding insert_along plan_of present_in
  along_planned = go (find k (certs_at steps)) refl (too_soon s.c (splitting steps)) refl (no_room steps (free_pages s (numbers steps))) refl
    where
      go : (o : Option ℕ) → find k (certs_at steps) ≡ o → (a : Bool) → too_soon s.c (splitting steps) ≡ a
          → (b : Bool) → no_room steps (free_pages s (numbers steps)) ≡ b → left_by planned ≡ insert_along k x s steps w t
      go (some y) f a q b r = rw (f, insert_along)
      go none f true q b r = rw (f, insert_along, q) (rw (plan_of, q))
      go none f false q true r = rw (f, insert_along, q, r) (rw (plan_of, q, r))
      go none f false q false r = rw (f, insert_along, q, r) (rw (plan_of, q, r))

  module _ (a : Inserted) (f : a ≡ planned) where
    pub refused_along : (a ≡ Ok tt → ⊥) → left a s w t ≡ insert_along k x s steps w t
    unfolding insert_refused
    refused_along n = go a n ∙ (ap left_by f ∙ along_planned)
      where
        go : (q : Inserted) → (q ≡ Ok tt → ⊥) → insert_refused q s w t ≡ left_by q
        go (Err e) m = refl
        go (Ok u) m = absurd (m refl)

    pub done_along : a ≡ Ok tt → (r : Session) (u : List ℕ) → done r u t ≡ insert_done k x (counted s) steps w t
        → left a r u t ≡ insert_along k x s steps w t
    done_along g r u d =
        ap (λ (b : Inserted). left b r u t) g
        ∙ (d ∙ (ap left_by (sym g ∙ f) ∙ along_planned))

module _ (s : Session) (steps : List rules.Step) where
  never : ◌≡◌ {A = Inserted} (Ok tt) (Err InsertError.Present) → ⊥
  never e = let z : ◌≡◌ {A = ℕ} 0 1 = cc in omega arith

  go_absent : (o : Option ℕ) → (Ok tt) ≡ plan_of s (present_in o) steps → o ≡ none
  unfolding plan_of present_in
  go_absent none e = refl
  go_absent (some y) e = absurd (never e)

  go_room : (b : Bool) → (Ok tt) ≡ plan_of s b steps → no_room steps (free_pages s (numbers steps)) ≡ false
  unfolding plan_of
  go_room true e = absurd (never e)
  go_room false e = go (too_soon s.c (splitting steps)) refl (no_room steps (free_pages s (numbers steps))) refl
    where
      go : (a : Bool) → too_soon s.c (splitting steps) ≡ a → (b : Bool) → no_room steps (free_pages s (numbers steps)) ≡ b
          → no_room steps (free_pages s (numbers steps)) ≡ false
      go a q false r = r
      go true q true r = let z : ◌≡◌ {A = ℕ} 0 1 = cc (rw (plan_of, q) at e) in absurd (omega arith)
      go false q true r = let z : ◌≡◌ {A = ℕ} 0 1 = cc (rw (plan_of, q, r) at e) in absurd (omega arith)

-- ── What a refusal is told by ───────────────────────────────────────────────────────────────────────────────────

pub found-present : (o : Option ℕ) (r : Looked) → r ≡ looked_in o → is_ok r ≡ present_in o
unfolding looked_in present_in
found-present none r e = rw e
found-present (some x) r e = rw e

-- ── The leaf at the end ─────────────────────────────────────────────────────────────────────────────────────────

abbrev pub leaf_of : List Step → Step
leaf_of w = step_on w 0

module _ {k : ℕ} {t : List ℕ} {s : Session} {w : List Step} (W : Walked k t s w) where
  first : (ys : List Step) × (w ≡ leaf_of w ∷ ys)
  first = go w W.some_page
    where
      go : (xs : List Step) → 1 ≤ length xs → (ys : List Step) × (xs ≡ leaf_of xs ∷ ys)
      go [] h = absurd (omega arith)
      go (x ∷ xs) h = (xs, refl)

  steps_first : steps_in t w ≡ step_at t (leaf_of w).place ∷ steps_in t first.0
  steps_first = ap (steps_in t) first.1

  leaf-stands : Stands s.n k t (step_at t (leaf_of w).place)
  leaf-stands = leads-first (step_at t (leaf_of w).place) (steps_in t first.0) (subst (Leads s.n k t) steps_first W.leads)

  leaf-ends : is_leaf (read t (leaf_of w).place.child).view ≡ true
  leaf-ends = subst EndsInLeaf steps_first W.ends

  pub leaf-within : ((leaf_of w).place.child + 1) * page_size ≤ length t
  leaf-within = omega (arith, W.whole.long, leaf-stands.below)

  pub leaf-head : (leaf_of w).head ≡ head_of (read t (leaf_of w).place.child)
  leaf-head = all_head (subst (All (HeadRead t)) first.1 W.heads)

  pub leaf-holds : Holds (read t (leaf_of w).place.child).view
  leaf-holds =
      let v = leaf-stands.fits.sound in
      record { leaf = leaf-ends; room = v.certs_room; rise = v.certs_rise }

  pub certs-leaf : (read t (leaf_of w).place.child).view.certs ≡ certs_at (steps_in t w)
  unfolding certs_at
  certs-leaf = sym (ap certs_at steps_first)

  pub few : length w ≤ 3
  few = omega (arith, ap length W.headed.way, length-way (steps_in t w), W.headed.few)

  -- ── The plan, by the key in the leaf ──────────────────────────────────────────────────────────────────────────

  abbrev pub planning : {c : ℕ} {x : List ℕ} → s.c ≡ c → x ≡ chosen_by s w → Planning c w x
  planning e f = record {
    session = s;
    steps = steps_in t w;
    counter = e;
    headed = W.headed;
    some_page = W.some_page;
    chosen = f;
  }

  pub decided_planned : (present : Bool) → present ≡ present_in (find k (read t (leaf_of w).place.child).view.certs)
      → (p : Inserted) → p ≡ plan_of s present (steps_in t w) → p ≡ decided_on k s w t
  unfolding decided_on
  decided_planned present e p h =
      h ∙ ap (λ (b : Bool). plan_of s b (steps_in t w)) (e ∙ ap (λ (cs : List Cert). present_in (find k cs)) certs-leaf)

  -- ── All is ready ──────────────────────────────────────────────────────────────────────────────────────────────

  pub ready : (x : List ℕ) → x ≡ chosen_by s w → plan_of s (present_in (find k (certs_at (steps_in t w)))) (steps_in t w) ≡ Ok tt
      → ReadyWay k t (counted s) w x
  unfolding free_pages
  ready x e d = record {
    len = few;
    heads = W.heads;
    ready = record {
      whole = W.whole;
      leads = W.leads;
      short = W.headed.few;
      ends = W.ends;
      absent = go_absent s (steps_in t w) (find k (certs_at (steps_in t w))) goes;
      room = go_room s (steps_in t w) (present_in (find k (certs_at (steps_in t w)))) goes;
      lowest = λ j h.
          ap (λ (y : List ℕ). get_or y j 0) (e ∙ chosen_is W.headed s)
          ∙ lowest-at (new_pages (steps_in t w)) (free_pages s (numbers (steps_in t w))) j h;
    };
  }
    where
      goes : (Ok tt) ≡ plan_of s (present_in (find k (certs_at (steps_in t w)))) (steps_in t w)
      goes = sym d
