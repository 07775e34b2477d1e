-- A store of a history, between two calls. It is alive: safe, and each key's states are those that the tables tell. Or its last
-- opening was refused because the number is spent, and then every later one is.
use Rattle.std.proofs.Common.{◌≡◌, ℕ, ◌+◌, ◌*◌, ◌<◌, ◌≤◌, List, [], ◌∷◌, length, sym, refl, ◌∙◌, subst, mod-eq_of_lt, arith, Ok, Err}
use mathlib.Core.Option.{Option}
use Rattle.rules.specs.Layout.{page_size, fewest_pages, most_pages, last_key, last_number}
use Rattle.rules.specs.Table.{number0}
use Rattle.rules.specs.Tree.{tree_of}
use Rattle.rules.specs.Marks.{wraps, opened, nobody}
use Rattle.rules.specs.Open.{open_refused}
use Rattle.rules.specs.History.{State, latest, earliest, content, after_open, after_reading}
use Rattle.rules.specs.Demand.{OneOf}
use Rattle.rules.specs.Answer.{Opened}
use Rattle.rules.specs.declared.OpenError.{OpenError}
use Rattle.rules.specs.declared.Session.{Session}
use Rattle.rules.proofs.Demand3.Ways.Ways.{Tells}
use Rattle.rules.proofs.Demand3.Ways.Invariant.{Good, States}
use Rattle.rules.proofs.Demand3.Ways.Nodes.{tells}
use Rattle.rules.proofs.Demand3.Epochs.Epochs.{widen, alike-tells, working-good}
use Rattle.rules.proofs.Demand3.Epochs.Crashes.{alike-set_number}
use Rattle.rules.proofs.Demand3.Epochs.Store.{Whole, Safe}
use Rattle.rules.proofs.Demand3.Epochs.Openings.{raise, done}
use Rattle.rules.proofs.Demand3.Steps.Mended.{Steady, tells-bound, steady-tells}
use Rattle.rules.proofs.Demand3.Reads.Looks.{content-told}
use Rattle.rules.proofs.Demand3.Reads.Totals.{certs_in, few-certs, same-certs}
use Rattle.rules.proofs.Demand3.Histories.Pasts.{one_of_only, Settled, one}

pub record Alive (n : ℕ) (m : State) : Type 0 where
  pub pages : m.session.n ≡ n
  pub opened : m.opened ≡ Ok tt
  pub safe : Safe m.session m.working m.stable (λ k o. OneOf o (m.past k))
  pub then : (k : ℕ) → k ≤ last_key → Tells m.session.n m.stable k (earliest (m.past k))
  pub now : (k : ℕ) → k ≤ last_key → Tells m.session.n m.working k (latest (m.past k))
  pub settled : (k : ℕ) → Settled (m.past k)
  pub total : m.session.total ≡ certs_in m.session.n m.working

pub record Over (n : ℕ) (m : State) : Type 0 where
  pub nobody : m.session ≡ nobody
  pub opened : m.opened ≡ Err OpenError.Spent
  pub few : fewest_pages ≤ n
  pub most : n ≤ most_pages
  pub working : length m.working ≡ n * page_size
  pub stable : Whole n m.stable
  pub good : Good n m.stable
  pub spent : last_number < number0 m.stable

pub data Fate (n : ℕ) (m : State) : Type 0 where
  alive : Alive n m → Fate n m
  over : Over n m → Fate n m

-- ── A key may have had more states ──────────────────────────────────────────────────────────────────────────────

pub safe_widen : {s : Session} {W S : List ℕ} {Been : States} (More : States) → ((k : ℕ) (o : Option ℕ) → Been k o → More k o)
    → Safe s W S Been → Safe s W S More
safe_widen {s} {W} {S} {Been} More f x = record {
  sized = x.sized;
  few = x.few;
  most = x.most;
  small = x.small;
  working = x.working;
  stable = x.stable;
  number_working = x.number_working;
  number_stable = x.number_stable;
  inv = widen s.n S W s.c Been More f x.inv;
  paged = x.paged;
  marks = x.marks;
}

-- ── As many as the tree has ─────────────────────────────────────────────────────────────────────────────────────

-- no store has so many certificates that their number wraps
pub wraps-few : {i : ℕ} → i ≤ 37240 → wraps i ≡ i
wraps-few h = mod-eq_of_lt (omega arith)

-- one less than one more
pub wraps-back : {i : ℕ} → i ≤ 37240 → wraps (i + 1 + 4294967295) ≡ i
wraps-back h = omega arith

-- ── A new epoch ─────────────────────────────────────────────────────────────────────────────────────────────────

-- each key has had one state, which the table tells
pub alive_anew : (s : Session) (t : List ℕ) (last : Opened) (state : ℕ → Option ℕ) → last ≡ Ok tt → Safe s t t (Tells s.n t)
    → ((k : ℕ) (o : Option ℕ) → Tells s.n t k o → o ≡ state k) → s.total ≡ certs_in s.n t
    → Alive s.n (record { session = s; working = t; stable = t; opened = last; past = λ k. state k ∷ [] })
unfolding latest earliest
alive_anew s t last state d x f e = record {
  pages = refl;
  opened = d;
  safe = safe_widen (λ k o. OneOf o (state k ∷ [])) (λ k o y. one_of_only (f k o y)) x;
  then = told;
  now = told;
  settled = λ k. one (state k) refl;
  total = e;
}
  where
    told : (k : ℕ) → k ≤ last_key → Tells s.n t k (state k)
    told k h = let y = tells (working-good x.inv) k h in subst (Tells s.n t k) (f k y.0 y.1) y.1

pub alive-done : (n : ℕ) (past : ℕ → List (Option ℕ)) (t : List ℕ) → Good n t
    → Safe (opened n (number0 t) (tree_of n t)) (raise t) (raise t) (Tells n (raise t)) → Alive n (after_open past (done n t))
unfolding after_open opened
alive-done n past t g x =
    alive_anew (opened n (number0 t) (tree_of n t)) (raise t) (Ok tt)
    (content (opened n (number0 t) (tree_of n t)) (raise t) (raise t)) refl x
    (λ k o y. sym (content-told x (tells-bound y) y))
    (wraps-few (few-certs n t)
    ∙ sym (same-certs g (working-good x.inv) (λ k o y. alike-tells (raise t) g (alike-set_number n t (number0 t + 1)) y)))

pub over-refused : (n : ℕ) (past : ℕ → List (Option ℕ)) (w t : List ℕ) → fewest_pages ≤ n → n ≤ most_pages → length w ≡ n * page_size → Whole n t → Good n t
    → last_number < number0 t → Over n (after_open past (open_refused (Err OpenError.Spent) w t))
unfolding after_open open_refused
over-refused n past w t f l h x g s = record {
  nobody = refl;
  opened = refl;
  few = f;
  most = l;
  working = h;
  stable = x;
  good = g;
  spent = s;
}

-- ── A call that only reads ──────────────────────────────────────────────────────────────────────────────────────

pub alive_reading : {n : ℕ} {m : State} (w : List ℕ) → Alive n m → Safe m.session w m.stable (λ k o. OneOf o (m.past k))
    → Steady m.session.n m.working w → Alive n (after_reading m m.session w m.stable)
unfolding after_reading
alive_reading {n} {m} w a x y = record {
  pages = a.pages;
  opened = a.opened;
  safe = x;
  then = a.then;
  now = λ k h. steady-tells y (a.now k h);
  settled = a.settled;
  total = a.total ∙ sym (same-certs (working-good a.safe.inv) (working-good x.inv) (λ k o z. steady-tells y z));
}
