-- Insert: the way of the key, the refusals, then full pages split from the top down and the entry put in its leaf.
--
-- Document 01 tells a split from the leaf upwards. The same bytes come of going downwards: a root that must split
-- first gets a new root above it; then each full page is halved below a parent that has room; then the entry goes
-- in. The numbers are chosen beforehand, lowest first: the leaf's halves, those of the level above, a new root last.
use Rattle.std.specs.Prelude.{ℕ, ◌+◌, ◌-◌, ◌*◌, Bool, true, false, not, ◌&&◌, ◌||◌, List, [], ◌∷◌, ◌++◌, length, take, drop, ◌==◌, nat_le, nat_lt, slice_index, Ok, Err}
use Rattle.std.proofs.Math.Option.{some, none}
use Rattle.rules.specs.Layout.{leaf_room, inner_room, leaf_half, inner_half, top_kind, last_key}
use Rattle.rules.specs.Key.{key_of, good_parts}
use Rattle.rules.specs.Entry.{Cert, Child, keys, find, put}
use Rattle.rules.specs.Page.{View, Page, is_leaf, fresh, touch}
use Rattle.rules.specs.Table.{read, build, change, fit0, set_root}
use Rattle.rules.specs.Walk.{Step, numbers, way_of, certs_at}
use Rattle.rules.specs.Marks.{counted, taken, freed, waits, free_pages}
use Rattle.rules.specs.Call.{Left, lengths_for}
use Rattle.rules.specs.declared.Session.{Session}
use Rattle.rules.specs.Answer.{Inserted}
use Rattle.rules.specs.declared.InsertError.{InsertError}

-- ── What must split ─────────────────────────────────────────────────────────────────────────────────────────────

unfoldable pub full : View → Bool
full v = nat_le leaf_room (length v.certs) || nat_le inner_room (length v.children)

-- the full pages of a way, from the leaf up
unfoldable pub splitting : List Step → List Step
splitting [] = []
splitting (s ∷ above) = elim (full s.page.view) [ true ↦ s ∷ splitting above | false ↦ [] ]

-- a full parent that must split was touched since the last sync or opening
unfoldable pub too_soon : ℕ → List Step → Bool
too_soon c [] = false
too_soon c (s ∷ ss) = (not (is_leaf s.page.view) && s.page.touched == c) || too_soon c ss

-- every page of the way is full, the root too
unfoldable pub root_splits : List Step → Bool
root_splits way = length (splitting way) == length way

unfoldable pub new_pages : List Step → ℕ
new_pages way = 2 * length (splitting way) + elim (root_splits way) [ true ↦ 1 | false ↦ 0 ]

-- a root of the highest kind that must split has nowhere to go
unfoldable pub too_high : List Step → Bool
too_high [] = false
too_high (s ∷ []) = s.page.view.kind == top_kind
too_high (s ∷ (u ∷ above)) = too_high (u ∷ above)

unfoldable pub no_room : List Step → List ℕ → Bool
no_room way free = nat_lt (length free) (new_pages way) || (root_splits way && too_high way)

-- ── One page split in two ───────────────────────────────────────────────────────────────────────────────────────

unfoldable pub lower_half : View → View
lower_half v = record {
  kind = v.kind;
  certs = take leaf_half v.certs;
  children = take inner_half v.children;
}

unfoldable pub upper_half : View → View
upper_half v = record {
  kind = v.kind;
  certs = drop leaf_half v.certs;
  children = drop inner_half v.children;
}

-- the upper half's low: the 21st key of a leaf, the 16th of an inner page
unfoldable pub divide : View → ℕ
divide v = slice_index (keys v.certs ++ keys v.children) (elim (is_leaf v) [ true ↦ leaf_half | false ↦ inner_half ])

-- a leaf that was built since the last sync or opening is nobody's previous page: its halves inherit the entry's
unfoldable pub heirs : ℕ → Step → Bool
heirs c s = is_leaf s.page.view && s.page.built == c

unfoldable pub previous_of : ℕ → Step → ℕ
previous_of c s = elim (heirs c s) [ true ↦ s.place.previous | false ↦ s.place.child ]

-- the split page waits; one that was born since the last sync or opening too is freed at once
unfoldable pub retire : ℕ → Step → Session → Session
retire c s m =
    elim (heirs c s && s.page.birth == c)
    [ true ↦ freed s.place.child m | false ↦ waits s.place.child m ]

-- an entry of an inner page for a page born now
unfoldable pub new_child : ℕ → ℕ → ℕ → ℕ → Child
new_child c key child previous = record { key = key; value = record { child = child; previous = previous; birth = c } }

unfoldable pub put_cert : Cert → View → View
put_cert x v = record { kind = v.kind; certs = put x v.certs; children = v.children }

unfoldable pub put_child : Child → View → View
put_child x v = record { kind = v.kind; certs = v.certs; children = put x v.children }

-- the two new pages
unfoldable pub lower_page : ℕ → Page → Page
lower_page c p = fresh c c p.low (divide p.view - 1) (lower_half p.view)

unfoldable pub upper_page : ℕ → Page → Page
upper_page c p = fresh c c (divide p.view) p.high (upper_half p.view)

-- the entry of a split page becomes two
unfoldable pub twins : ℕ → Step → ℕ → ℕ → View → View
twins c s lower upper v =
    put_child (new_child c (divide s.page.view) upper (previous_of c s))
    (put_child (new_child c s.page.low lower (previous_of c s)) v)

-- ── A new root ──────────────────────────────────────────────────────────────────────────────────────────────────

-- one kind higher, at first over the old root alone: that entry is written over at once, when the old root is halved below
-- it and its two halves take its place
unfoldable pub root_over : Step → View
root_over s = record {
  kind = s.page.view.kind + 1;
  certs = [];
  children = new_child s.place.birth s.place.low s.place.child s.place.previous ∷ [];
}

-- page 0's previous becomes the old root, or stays if that was built since the last sync or opening
unfoldable pub root_previous : ℕ → Step → ℕ
root_previous c s = elim (s.page.built == c) [ true ↦ s.place.previous | false ↦ s.place.child ]

-- ── Splits down a way ───────────────────────────────────────────────────────────────────────────────────────────

-- the table and session so far, and the number of the page that now stands on the key's way
pub record Making : Type 0 where
  pub table : List ℕ
  pub session : Session
  pub at : ℕ

abbrev pub making : List ℕ → Session → ℕ → Making
making t s i = record { table = t; session = s; at = i }

-- a page is changed where it stands
unfoldable pub changed : ℕ → (View → View) → List ℕ → ℕ → List ℕ
changed c f t i = change t i (touch c (f (read t i).view) (read t i))

-- a new root on a new page, named in page 0
unfoldable pub grow : ℕ → Step → ℕ → Making → Making
grow c s new m =
    making
    (set_root (build m.table new (fresh c c 0 last_key (root_over s))) new (root_previous c s) c)
    (taken new m.session)
    new

-- a full page becomes two on new pages, its entry in the page above becomes two, and the key's way goes on in the
-- half whose range holds it
unfoldable pub halve : ℕ → ℕ → Step → ℕ → ℕ → Making → Making
halve c k s lower upper m =
    making
    (changed c (twins c s lower upper)
    (build (build m.table lower (lower_page c s.page)) upper (upper_page c s.page))
    m.at)
    (retire c s (taken upper (taken lower m.session)))
    (elim (nat_lt k (divide s.page.view)) [ true ↦ lower | false ↦ upper ])

-- the splits down to the first page of a way, which stands leaf first
unfoldable pub split : ℕ → ℕ → List Step → List ℕ → Making → Making
split c k [] new m = m
split c k (s ∷ []) new m =
    elim (full s.page.view) [
      | true ↦ halve c k s (slice_index new 0) (slice_index new 1) (grow c s (slice_index new 2) m)
      | false ↦ making m.table m.session s.place.child
    ]
split c k (s ∷ (u ∷ above)) new m =
    elim (full s.page.view) [
      | true ↦ halve c k s (slice_index new 0) (slice_index new 1) (split c k (u ∷ above) (drop 2 new) m)
      | false ↦ making m.table m.session s.place.child
    ]

-- ── The call ────────────────────────────────────────────────────────────────────────────────────────────────────

-- a refused insert leaves what its walk had mended, and nothing else
unfoldable pub insert_refused : Inserted → Session → List ℕ → List ℕ → Left Inserted
insert_refused answer s w t = record { answer = answer; session = s; working = w; stable = t }

unfoldable pub insert_done : ℕ → ℕ → Session → List Step → List ℕ → List ℕ → Left Inserted
insert_done k x s way w t =
    let m = split s.c k way (free_pages s (numbers way)) (making w s 0) in
    record {
      answer = Ok tt;
      session = m.session;
      working = changed s.c (put_cert (record { key = k; value = x })) m.table m.at;
      stable = t;
    }

-- 5, then 6, then 7, on the pages as the walk left them; an insert that none of them refuses counts
unfoldable pub insert_along : ℕ → ℕ → Session → List Step → List ℕ → List ℕ → Left Inserted
insert_along k x s way w t =
    elim (find k (certs_at way)) [
      | some y ↦ insert_refused (Err InsertError.Present) s w t
      | none ↦ elim (too_soon s.c (splitting way)) [
        | true ↦ insert_refused (Err InsertError.SyncFirst) s w t
        | false ↦ elim (no_room way (free_pages s (numbers way)))
            [ true ↦ insert_refused (Err InsertError.Full) s w t | false ↦ insert_done k x (counted s) way w t ]
      ]
    ]

unfoldable pub insert_key : ℕ → ℕ → Session → List ℕ → List ℕ → Left Inserted
insert_key k x s w t =
    let way = way_of s.n s.c k w in
    elim way.steps [
      | none ↦ insert_refused (Err InsertError.Damaged) s way.table t
      | some steps ↦ insert_along k x s steps way.table t
    ]

unfoldable pub insert : List ℕ → List ℕ → Session → ℕ → ℕ → ℕ → ℕ → Left Inserted
insert w t s model serial issue x =
    elim (lengths_for s w t) [
      | false ↦ insert_refused (Err InsertError.Length) s w t
      | true ↦ elim (good_parts model serial issue) [
        | false ↦ insert_refused (Err InsertError.BadKey) s w t
        | true ↦ elim (fit0 s.n w) [
          | false ↦ insert_refused (Err InsertError.Damaged) s w t
          | true ↦ insert_key (key_of model serial issue) x s w t
        ]
      ]
    ]
