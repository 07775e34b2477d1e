-- A store fresh from format: page 0 names page 1, an empty leaf over every key, so the tree as it stands is that leaf, and
-- opening is done with counter 2. For every number of pages that a table may have. Assumes nothing.
use Rattle.std.proofs.Common.{◌≡◌, ℕ, ◌-◌, ◌*◌, ◌≤◌, true, List, [], ◌∷◌, ◌++◌, length, replicate, refl, ap, ◌∙◌, arith, lit<, lit≤, lt-ltb, eq-eqb, le-leb, Ok}
use mathlib.Core.Option.{some}
use lib.ListN.{length-replicate}
use Rattle.fields.specs.Field.{put_at, Bytes}
use Rattle.fields.proofs.Field.{length-put, bytes-put, get_put, get_put-other}
use Rattle.rules.specs.Layout.{page_size, fewest_pages, most_pages, zero_kind, top_kind, last_key}
use Rattle.rules.specs.Test.{between, every, all, mem, distinct}
use Rattle.rules.specs.Entry.{keys, rising}
use Rattle.rules.specs.Page.{Page, is_leaf, count, fresh}
use Rattle.rules.specs.Table.{read, build, kind0, n0, number0, root0, previous0, birth0, set_number, set_root, fit0}
use Rattle.rules.specs.Sound.{in_order, sound}
use Rattle.rules.specs.Place.{root_place, kids, places_in, kind_asked, fits, show, unfit, first_failed}
use Rattle.rules.specs.Tree.{empty, join, spared_at, here, tree_each, tree, tree_of, good_tree}
use Rattle.rules.specs.Format.{empty_leaf, formatted, format}
use Rattle.rules.specs.Open.{open_done, opening}
use Rattle.rules.specs.declared.Place.{Place}
use Rattle.rules.proofs.Bytes.All.{nil}
use Rattle.rules.proofs.Bytes.Pages.{Wide, room-page_bytes, bytes-replicate}
use Rattle.rules.proofs.Bytes.Tables.{Has, Room, length-build, bytes-build, read-build-same}
use Rattle.rules.proofs.Bytes.Lengths.{pages-of, tables-good}
use Rattle.rules.proofs.Bytes.PageZero.{Same0, same0_build, length-set_number, bytes-set_number, number0-set_number, kind0-set_number, n0-set_number, length-set_root, bytes-set_root, kind0-set_root, n0-set_root, number0-set_root, root0-set_root, previous0-set_root, birth0-set_root}

-- the one leaf
abbrev pub fresh_leaf : Page
fresh_leaf = fresh 1 1 0 last_key empty_leaf

wide_fresh_leaf : Wide fresh_leaf
unfolding fresh empty_leaf is_leaf count
wide_fresh_leaf = record {
  view = record {
    shaped = record { leaf = λ e. refl; inner = λ e. refl };
    kind = lit< tt;
    count = lit< tt;
    certs = nil;
    children = nil;
  };
  birth = lit< tt;
  built = lit< tt;
  touched = lit< tt;
  low = lit< tt;
  high = lit< tt;
}

room_fresh_leaf : Room fresh_leaf
unfolding fresh empty_leaf
room_fresh_leaf = room-page_bytes fresh_leaf wide_fresh_leaf.view.shaped (lit≤ tt) (lit≤ tt)

-- the place that page 0 then gives the root
abbrev pub fresh_root : Place
fresh_root = record { child = 1; previous = 0; birth = 1; low = 0; high = last_key; want = 0 }

pub first_fits : (n : ℕ) → fits n fresh_root fresh_leaf ≡ true
unfolding fits unfit first_failed sound every between in_order rising all keys kind_asked is_leaf fresh empty_leaf
first_fits n = refl

module _ (n : ℕ) (least : fewest_pages ≤ n) (most : n ≤ most_pages) where
  named : List ℕ
  named = put_at (put_at (replicate (n * page_size) 0) 0 2 zero_kind) 2 2 n

  zeroed : List ℕ
  zeroed = set_root (set_number named 2) 1 0 1

  length-named : length named ≡ n * page_size
  unfolding named
  length-named = rw (length-put, length-put) (length-replicate {A = ℕ} (n * page_size) 0)

  length_zeroed : length zeroed ≡ n * page_size
  unfolding zeroed
  length_zeroed = length-set_root (set_number named 2) 1 0 1 ∙ length-set_number named 2 ∙ length-named

  has1 : Has zeroed 1
  has1 = omega (arith, length_zeroed)

  formatted-is : formatted n (n * page_size) ≡ build zeroed 1 fresh_leaf
  unfolding formatted zeroed named
  formatted-is = refl

  same : Same0 (formatted n (n * page_size)) zeroed
  same = rw formatted-is (same0_build zeroed 1 has1 (lit≤ tt) fresh_leaf room_fresh_leaf)

  pub length-formatted : length (formatted n (n * page_size)) ≡ n * page_size
  length-formatted = rw formatted-is (length-build zeroed 1 fresh_leaf has1 room_fresh_leaf ∙ length_zeroed)

  pub bytes-formatted : Bytes (formatted n (n * page_size))
  unfolding zeroed named
  bytes-formatted =
      rw formatted-is
      (bytes-build zeroed 1 fresh_leaf
      (bytes-set_root (set_number named 2) 1 0 1
      (bytes-set_number named 2
      (bytes-put (put_at (replicate (n * page_size) 0) 0 2 zero_kind) 2 2 n
      (bytes-put (replicate (n * page_size) 0) 0 2 zero_kind (bytes-replicate (n * page_size)))))))

  pub read-formatted : read (formatted n (n * page_size)) 1 ≡ fresh_leaf
  read-formatted = rw formatted-is (read-build-same zeroed 1 fresh_leaf has1 room_fresh_leaf wide_fresh_leaf)

  -- ── Page 0 ────────────────────────────────────────────────────────────────────────────────────────────────────

  pub kind0-formatted : kind0 (formatted n (n * page_size)) ≡ zero_kind
  unfolding zeroed named kind0
  kind0-formatted =
      same.kind ∙ kind0-set_root (set_number named 2) 1 0 1 ∙ kind0-set_number named 2
      ∙ get_put-other (put_at (replicate (n * page_size) 0) 0 2 zero_kind) 2 2 n 0 2 refl
      ∙ get_put (replicate (n * page_size) 0) 0 2 zero_kind (rw length-replicate (omega arith)) (lit< tt)

  pub n0-formatted : n0 (formatted n (n * page_size)) ≡ n
  unfolding zeroed named n0
  n0-formatted =
      same.n ∙ n0-set_root (set_number named 2) 1 0 1 ∙ n0-set_number named 2
      ∙ get_put (put_at (replicate (n * page_size) 0) 0 2 zero_kind) 2 2 n (rw (length-put, length-replicate) (omega arith)) (omega arith)

  pub number0-formatted : number0 (formatted n (n * page_size)) ≡ 2
  unfolding zeroed
  number0-formatted =
      same.number ∙ number0-set_root (set_number named 2) 1 0 1 ∙ number0-set_number named 2 (omega (arith, length-named)) (lit< tt)

  long : page_size ≤ length (set_number named 2)
  long = omega (arith, length-set_number named 2, length-named)

  pub root0-formatted : root0 (formatted n (n * page_size)) ≡ 1
  unfolding zeroed
  root0-formatted = same.root ∙ root0-set_root (set_number named 2) 1 0 1 long (lit< tt)

  pub previous0-formatted : previous0 (formatted n (n * page_size)) ≡ 0
  unfolding zeroed
  previous0-formatted = same.previous ∙ previous0-set_root (set_number named 2) 1 0 1 long (lit< tt)

  pub birth0-formatted : birth0 (formatted n (n * page_size)) ≡ 1
  unfolding zeroed
  birth0-formatted = same.birth ∙ birth0-set_root (set_number named 2) 1 0 1 long (lit< tt)

  pub root_place-formatted : root_place (formatted n (n * page_size)) ≡ fresh_root
  unfolding root_place
  root_place-formatted = rw (root0-formatted, previous0-formatted, birth0-formatted)

  pub fit0-formatted : fit0 n (formatted n (n * page_size)) ≡ true
  unfolding fit0 every between
  fit0-formatted =
      rw (kind0-formatted, n0-formatted, root0-formatted, previous0-formatted, eq-eqb n n refl, le-leb 1 (n - 1) (omega arith), lt-ltb 0 n (omega arith))

  -- ── The tree as it stands ─────────────────────────────────────────────────────────────────────────────────────

  fits-formatted : fits n fresh_root (read (formatted n (n * page_size)) 1) ≡ true
  fits-formatted = rw read-formatted (first_fits n)

  show-formatted : show n (formatted n (n * page_size)) fresh_root ≡ some empty_leaf
  unfolding show fresh
  show-formatted = rw (fits-formatted, show, read-formatted)

  spared-formatted : spared_at n (formatted n (n * page_size)) fresh_root ≡ []
  unfolding spared_at
  spared-formatted = rw (fits-formatted, spared_at)

  tree-fresh : tree top_kind n (formatted n (n * page_size)) fresh_root ≡ record { whole = true; children = 1 ∷ []; spared = []; certs = [] }
  unfolding tree here empty_leaf kids places_in tree_each join empty
  tree-fresh =
      rw (tree, show-formatted)
      (ap (λ (xs : List ℕ). record { whole = true; children = 1 ∷ []; spared = xs ++ []; certs = [] }) spared-formatted)

  pub tree-formatted : tree_of n (formatted n (n * page_size)) ≡ record { whole = true; children = 1 ∷ []; spared = []; certs = [] }
  unfolding tree_of
  tree-formatted = ap (tree top_kind n (formatted n (n * page_size))) root_place-formatted ∙ tree-fresh

  pub good_tree-formatted : good_tree (tree_of n (formatted n (n * page_size))) ≡ true
  unfolding good_tree every distinct mem all
  good_tree-formatted = rw tree-formatted

  -- ── The two calls ─────────────────────────────────────────────────────────────────────────────────────────────

  pub format-done : (w s : List ℕ) → length w ≡ n * page_size → length s ≡ n * page_size → format w s ≡ record { answer = Ok tt; stable = formatted n (n * page_size) }
  unfolding format
  format-done w s e f =
      rw (tables-good (record { least = least; most = most; working = e; stable = f }), format, pages-of s n f, f)

  pub opening-formatted : (w : List ℕ) → length w ≡ n * page_size → opening w (formatted n (n * page_size)) ≡ open_done (formatted n (n * page_size))
  unfolding opening
  opening-formatted w e =
      rw (tables-good (record { least = least; most = most; working = e; stable = length-formatted }), opening, pages-of (formatted n (n * page_size)) n length-formatted, fit0-formatted, good_tree-formatted, number0-formatted)
