-- Views: two with the same parts are one; a leaf has no children and an inner page no certificates, in whatever is read,
-- cut, halved or changed. Assumes nothing.
use Rattle.std.proofs.Common.{◌≡◌, ℕ, ◌≤◌, Bool, true, false, eqb, List, [], refl, ap, eq-eqb, ne_eqb, eqb-true}
use lib.Seq.{take-nil, drop-nil}
use borrow.Author.Tests.{eqb-false}
use Rattle.fields.specs.Field.{le_at}
use Rattle.rules.specs.Layout.{leaf_kind, leaf_half, inner_half}
use Rattle.rules.specs.Test.{between, all}
use Rattle.rules.specs.Entry.{Cert, Child, keys}
use Rattle.rules.specs.Page.{View, is_leaf, view_in, page_in}
use Rattle.rules.specs.Table.{read, page_at}
use Rattle.rules.specs.Place.{cut_view}
use Rattle.rules.specs.Insert.{put_cert, put_child, lower_half, upper_half}
use Rattle.rules.specs.Withdraw.{without_cert}
use Rattle.rules.proofs.Entries.Tests.{not_both}
use Rattle.rules.proofs.Entries.Entries.{cut-nil, cut-cut, cut_all}

abbrev pub view_of : ℕ → List Cert → List Child → View
view_of kind certs children = record { kind = kind; certs = certs; children = children }

pub same_view : {j k : ℕ} {cs ds : List Cert} {xs ys : List Child} → j ≡ k → cs ≡ ds → xs ≡ ys → view_of j cs xs ≡ view_of k ds ys
same_view p q r = cc

-- ── Leaf or inner ───────────────────────────────────────────────────────────────────────────────────────────────

pub leaf_kind_lem : (v : View) → is_leaf v ≡ true → v.kind ≡ leaf_kind
unfolding is_leaf
leaf_kind_lem v h = eqb-true v.kind leaf_kind h

pub inner-kind : (v : View) → is_leaf v ≡ false → v.kind ≡ leaf_kind → ⊥
unfolding is_leaf
inner-kind v h = eqb-false v.kind leaf_kind h

pub leaf_of-kind : (v : View) → v.kind ≡ leaf_kind → is_leaf v ≡ true
unfolding is_leaf
leaf_of-kind v h = eq-eqb v.kind leaf_kind h

pub inner-of-kind : (v : View) → (v.kind ≡ leaf_kind → ⊥) → is_leaf v ≡ false
unfolding is_leaf
inner-of-kind v h = ne_eqb v.kind leaf_kind h

-- the kind alone decides
pub leaf-same : (v w : View) → v.kind ≡ w.kind → is_leaf v ≡ is_leaf w
unfolding is_leaf
leaf-same v w h = ap (λ (k : ℕ). eqb k leaf_kind) h

-- a leaf has no children, an inner page no certificates
pub record Shaped (v : View) : Type 0 where
  pub leaf : is_leaf v ≡ true → v.children ≡ []
  pub inner : is_leaf v ≡ false → v.certs ≡ []

pub shaped-view_in : (b : List ℕ) → Shaped (view_in b)
unfolding view_in is_leaf
shaped-view_in b = go (eqb (le_at b 0 2) leaf_kind) refl
  where
    go : (t : Bool) → eqb (le_at b 0 2) leaf_kind ≡ t → Shaped (view_in b)
    go true e = rw (e, view_in) record { leaf = λ h. refl; inner = λ h. absurd (not_both e h) }
    go false e = rw (e, view_in) record { leaf = λ h. absurd (not_both h e); inner = λ h. refl }

-- whatever a table's page shows
pub shaped-read : (t : List ℕ) (i : ℕ) → Shaped (read t i).view
unfolding read page_in
shaped-read t i = shaped-view_in (page_at t i)

pub shaped-cut : (low high : ℕ) (v : View) → Shaped v → Shaped (cut_view low high v)
unfolding cut_view is_leaf
shaped-cut low high v s = record {
  leaf = λ h. rw (s.leaf h) (cut-nil low high);
  inner = λ h. rw (s.inner h) (cut-nil low high);
}

pub shaped-lower : (v : View) → Shaped v → Shaped (lower_half v)
unfolding lower_half is_leaf
shaped-lower v s = record {
  leaf = λ h. rw (s.leaf h) (take-nil inner_half);
  inner = λ h. rw (s.inner h) (take-nil leaf_half);
}

pub shaped-upper : (v : View) → Shaped v → Shaped (upper_half v)
unfolding upper_half is_leaf
shaped-upper v s = record {
  leaf = λ h. rw (s.leaf h) (drop-nil inner_half);
  inner = λ h. rw (s.inner h) (drop-nil leaf_half);
}

pub shaped-put_cert : (x : Cert) (v : View) → is_leaf v ≡ true → Shaped v → Shaped (put_cert x v)
unfolding put_cert is_leaf
shaped-put_cert x v l s = record { leaf = λ h. s.leaf h; inner = λ h. absurd (not_both l h) }

pub shaped-without_cert : (k : ℕ) (v : View) → is_leaf v ≡ true → Shaped v → Shaped (without_cert k v)
unfolding without_cert is_leaf
shaped-without_cert k v l s = record { leaf = λ h. s.leaf h; inner = λ h. absurd (not_both l h) }

pub shaped-put_child : (x : Child) (v : View) → is_leaf v ≡ false → Shaped v → Shaped (put_child x v)
unfolding put_child is_leaf
shaped-put_child x v l s = record { leaf = λ h. absurd (not_both h l); inner = λ h. s.inner h }

-- ── Views cut to a range ────────────────────────────────────────────────────────────────────────────────────────

pub cut_view-cut : (low high l h : ℕ) (v : View) → low ≤ l → h ≤ high → cut_view l h (cut_view low high v) ≡ cut_view l h v
unfolding cut_view
cut_view-cut low high l h v p q =
    same_view refl (cut-cut low high l h v.certs p q) (cut-cut low high l h v.children p q)

pub cut_view-all : (low high : ℕ) (v : View) → all (between low high) (keys v.certs) ≡ true
    → all (between low high) (keys v.children) ≡ true → cut_view low high v ≡ v
unfolding cut_view
cut_view-all low high v p q = same_view refl (cut_all low high v.certs p) (cut_all low high v.children q)
