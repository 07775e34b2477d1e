-- The steps of the two walks: what is noted of a page and of a run of entries. Assumes nothing.
use Rattle.std.proofs.Common.{Some, None, ◌≡◌, ℕ, zero, suc, ◌-◌, ◌*◌, ◌<◌, List, length, sym, refl, ap, ◌∙◌, subst, arith}
use mathlib.Core.Option.{some, none}
use Rattle.rules.specs.Layout.{page_size}
use Rattle.rules.specs.Entry.{Cert, cut}
use Rattle.rules.specs.Page.{View}
use Rattle.rules.specs.Table.{read}
use Rattle.rules.specs.Place.{show, kids}
use Rattle.rules.specs.Tree.{Tree, broken, join, here, tree_each, tree}
use Rattle.rules.specs.declared.Place.{Place}
use Rattle.seen.specs.declared.Seen.{Seen}
use Rattle.seen.specs.declared.Run.{Run}
use Rattle.seen.specs.Note.{note, named}
use Rattle.seen.specs.Run.{shown_of, place_in, places, rest_of, Lies}
use Rattle.seen.proofs.Noting.{note-join, note-empty, note-same}
use Rattle.seen.proofs.Spans.{places-none, places-more}
use Rattle.seen.proofs.Shows.{Showing, showing, shows-none}

-- ── A run ───────────────────────────────────────────────────────────────────────────────────────────────────────

module _ (f : Place → Tree) (t : List ℕ) (high : ℕ) (r : Run) (s : Seen) where
  pub run_none : r.left ≡ 0 → s ≡ note s (tree_each f (places t high r))
  unfolding tree_each
  run_none h = sym (ap (λ (es : List Place). note s (tree_each f es)) (places-none t high r h) ∙ note-empty s)

  pub run_more : 0 < r.left
      → note (note s (f (place_in t high r))) (tree_each f (places t high (rest_of r))) ≡ note s (tree_each f (places t high r))
  unfolding tree_each
  run_more h =
      sym
      (ap (λ (es : List Place). note s (tree_each f es)) (places-more t high r h)
      ∙ note-join s (f (place_in t high r)) (tree_each f (places t high (rest_of r))))

  -- the same, as code takes the step
  pub run_step : (e : Place) (q : Run) (a b : Seen) → 0 < r.left → e ≡ place_in t high r → q ≡ rest_of r
      → a ≡ note s (f e) → b ≡ note a (tree_each f (places t high q)) → b ≡ note s (tree_each f (places t high r))
  run_step e q a b h p k x y =
      y
      ∙ ap (λ (z : Seen). note z (tree_each f (places t high q))) x
      ∙ ap (λ (z : Run). note (note s (f e)) (tree_each f (places t high z))) k
      ∙ ap (λ (z : Place). note (note s (f z)) (tree_each f (places t high (rest_of r)))) p
      ∙ run_more h

-- what is behind the first entry lies in the page too
pub lies-rest : (n : ℕ) (r x : Run) → x ≡ rest_of r → 0 < r.left → Lies n r → Lies n x
lies-rest n r x e h l = subst (Lies n) (sym e) record { page = l.page; end = omega (arith, l.end) }

-- ── A page ──────────────────────────────────────────────────────────────────────────────────────────────────────

module _ (n : ℕ) (t : List ℕ) (e : Place) where
  pub page-deep : (level : ℕ) → level ≡ 0 → broken ≡ tree level n t e
  unfolding tree
  page-deep zero h = refl
  page-deep (suc l) h = absurd (omega arith)

  tree-none : (l : ℕ) → show n t e ≡ none → broken ≡ tree (suc l) n t e
  unfolding tree
  tree-none l h = rw (tree, h)

  tree-some : (l : ℕ) (v : View) → show n t e ≡ some v → join (here n t e v) (tree_each (tree l n t) (kids e v)) ≡ tree (suc l) n t e
  unfolding tree
  tree-some l v h = rw (tree, h)

  module _ (long : length t ≡ n * page_size) where
    pub page-damaged : (level : ℕ) → (level ≡ 0 → ⊥) → shown_of n t e ≡ None → broken ≡ tree level n t e
    page-damaged zero z h = absurd (z refl)
    page-damaged (suc l) z h = tree-none l (shows-none n t e long h)

    -- what a run's page has in the place's range
    abbrev pub certs_of : Run → List Cert
    certs_of r = cut e.low e.high (read t r.page).view.certs

    page-step : (l : ℕ) (r : Run) (s : Seen) → Showing n t e long r
        → note (note s (named e.child r.page (certs_of r))) (tree_each (tree l n t) (places t e.high r)) ≡ note s (tree (suc l) n t e)
    unfolding here named
    page-step l r s w =
        sym
        (ap (note s) (sym (tree-some l w.view w.shows))
        ∙ note-join s (here n t e w.view) (tree_each (tree l n t) (kids e w.view))
        ∙ ap (λ (x : Seen). note x (tree_each (tree l n t) (kids e w.view)))
        (note-same s (here n t e w.view) (named e.child r.page (certs_of r)) refl refl w.spared w.holds)
        ∙ ap (λ (es : List Place). note (note s (named e.child r.page (certs_of r))) (tree_each (tree l n t) es)) w.asks)

    pub page-shown : (level : ℕ) (r : Run) (s : Seen) → (level ≡ 0 → ⊥) → shown_of n t e ≡ Some r
        → note (note s (named e.child r.page (certs_of r))) (tree_each (tree (level - 1) n t) (places t e.high r)) ≡ note s (tree level n t e)
    page-shown zero r s z h = absurd (z refl)
    page-shown (suc l) r s z h =
        let p : suc l - 1 ≡ l = omega arith in
        ap (λ (i : ℕ). note (note s (named e.child r.page (certs_of r))) (tree_each (tree i n t) (places t e.high r))) p
        ∙ page-step l r s (showing n t e long r h)

    pub page-walk : (level : ℕ) (r : Run) (s a b : Seen) → (level ≡ 0 → ⊥) → shown_of n t e ≡ Some r
        → a ≡ note s (named e.child r.page (certs_of r)) → b ≡ note a (tree_each (tree (level - 1) n t) (places t e.high r))
        → b ≡ note s (tree level n t e)
    page-walk level r s a b z h x y =
        y ∙ ap (λ (q : Seen). note q (tree_each (tree (level - 1) n t) (places t e.high r))) x ∙ page-shown level r s z h
