-- What a table is after a page was built in it: entries, zeros behind them, a header over them.
-- Assumes nothing.
use mathlib.Core.Path.{◌≡◌, refl, sym, ap, ◌∙◌}
use mathlib.Core.Bool.{Bool, true, false}
use mathlib.Core.List.{List, [], ◌++◌, append-nil, append_assoc}
use Prim.Native.Nat.{ℕ, zero, suc, ◌+◌, ◌-◌, ◌*◌, ◌≤◌, ◌<◌}
use native.Mathlib.Omega.{arith}
use lib.Dec.{eqb}
use borrow.Author.Tests.{ne_eqb}
use lib.ListN.{length, take, drop, replicate, length-append, length-take, length-drop, length-replicate}
use lib.Seq.{sets, sets-eq, drop-drop, take-nil, drop-nil}
use Rattle.fields.specs.Field.{Bytes, le_at}
use Rattle.fields.proofs.Number.{length-le}
use Rattle.fields.proofs.Run.{sets_append, length_part}
use Rattle.rules.specs.Layout.{page_size, leaf_header, inner_header, leaf_kind, cert_size, child_size, last_key}
use Rattle.rules.specs.Table.{page_at, set_page, read, build}
use Rattle.rules.specs.Page.{View, Page, view_in, page_in, count, fresh, header_bytes, page_bytes, build_bytes, blank, over, write_each, cert_in, cert_bytes, child_in, child_bytes, read_each}
use Rattle.rules.specs.Entry.{Child}
use Rattle.rules.proofs.Bytes.EntryBytes.{length-child_bytes}
use Rattle.rules.proofs.Bytes.Each.{length-read_each}
use Rattle.rules.proofs.Bytes.Pages.{view_in-leaf, view_in-inner, kind-view_in, count-view_in}
use Rattle.rules.proofs.Bytes.Tables.{bytes-page_at, length-page_at}
use Rattle.entries.specs.Spot.{header_size, size_of}
use Rattle.entries.specs.Layout.{entries_of}
use Rattle.entries.specs.declared.layout.Entries.{Entries}
use Rattle.entries.proofs.Layouts.{header-entries_of, size-entries_of}
use Rattle.entries.proofs.Part.{part_page, le_at-page}
use Rattle.entries.proofs.Sets.{sets_comm}
use Rattle.entries.proofs.Ranges.{range-within, write_certs, write_children}
use Rattle.build.specs.Range.{header_of, range_view, root_view, Roomy}

-- ── A page built where it stands ────────────────────────────────────────────────────────────────────────────────

drop_zeros : (n m : ℕ) → drop n (replicate {A = ℕ} m 0) ≡ replicate (m - n) 0
drop_zeros zero m = let e : m - 0 ≡ m = omega arith in rw e
drop_zeros (suc n) zero = let e : 0 - suc n ≡ 0 = omega arith in rw e
drop_zeros (suc n) (suc m) = let e : suc m - suc n ≡ m - n = omega arith in rw e (drop_zeros n m)

drop-blank : (n : ℕ) → drop n blank ≡ replicate (page_size - n) 0
unfolding blank
drop-blank n = drop_zeros n page_size

header-fresh : (c birth low high : ℕ) (v : View) → header_bytes (fresh c birth low high v) ≡ header_of v.kind (count v) birth c low high
unfolding header_bytes header_of fresh
header-fresh c birth low high v = refl

length-header : (kind count birth c low high : ℕ) → length (header_of kind count birth c low high) ≡ header_size kind
unfolding header_of header_size
length-header kind count birth c low high = go (eqb kind leaf_kind) refl
  where
    go : (t : Bool) → eqb kind leaf_kind ≡ t → length (header_of kind count birth c low high) ≡ header_size kind
    go true e = rw (header_size, e) (simp (length-append, length-le))
    go false e = rw (header_size, e) (simp (length-append, length-le))

-- a page whose entries take these bytes
build_bytes_lem : (kind c birth low high : ℕ) (v : View) (es : List ℕ) → v.kind ≡ kind
    → write_each cert_bytes v.certs ++ write_each child_bytes v.children ≡ es
    → build_bytes (fresh c birth low high v) ≡ header_of kind (count v) birth c low high ++ (es ++ replicate (page_size - (header_size kind + length es)) 0)
unfolding build_bytes page_bytes over fresh
build_bytes_lem kind c birth low high v es e f =
    let p : Page = fresh c birth low high v in
    let head : length (header_bytes p) ≡ header_size kind = ap length (header-fresh c birth low high v) ∙ length-header v.kind (count v) birth c low high ∙ ap header_size e in
    let long : length (header_bytes p ++ es) ≡ header_size kind + length es = length-append (header_bytes p) es ∙ ap (λ (n : ℕ). n + length es) head in
    ap (λ (l : List ℕ). over (header_bytes p ++ l) blank) f
    ∙ rw (long, drop-blank (header_size kind + length es), append_assoc, header-fresh c birth low high v, e)

-- a whole page set in its place of a table
sets_page : (t : List ℕ) (i : ℕ) (q : List ℕ) → length q ≡ page_size → (i + 1) * page_size ≤ length t → sets t (i * page_size) q ≡ set_page t i q
unfolding set_page
sets_page t i q e h = sets-eq q t (i * page_size) (rw e (omega arith)) ∙ rw (append_assoc, e, drop-drop)

-- entries, then zeros behind them, then a header of so many bytes, each set in its place of the page that starts at `at`
abbrev pub laid : ℕ → List ℕ → ℕ → List ℕ → ℕ → List ℕ → List ℕ
laid header t at es len hs =
    sets
    (sets (sets t (at + header) es) (at + header + len) (replicate (at + page_size - (at + header + len)) 0))
    at
    hs

laid_page : (header : ℕ) (t : List ℕ) (i : ℕ) (hs es : List ℕ) → length hs ≡ header → header + length es ≤ page_size → (i + 1) * page_size ≤ length t
    → laid header t (i * page_size) es (length es) hs ≡ set_page t i (hs ++ (es ++ replicate (page_size - (header + length es)) 0))
laid_page header t i hs es l h g =
    let at = i * page_size in
    let zs : List ℕ = replicate (page_size - (header + length es)) 0 in
    let m : i * page_size + page_size - (i * page_size + header + length es) ≡ page_size - (header + length es) = omega arith in
    let n : length (hs ++ (es ++ zs)) ≡ page_size = rw (length-append, length-append, length-replicate, l) (omega arith) in
    rw m (ap (λ (b : List ℕ). sets b at hs) (sym (sets_append es zs t (at + header))))
    ∙ sym (sets_comm hs (es ++ zs) t at (at + header) (omega arith))
    ∙ sym (rw l at (sets_append hs (es ++ zs) t at))
    ∙ sets_page t i (hs ++ (es ++ zs)) n g

built_there : (t : List ℕ) (i kind header c birth low high : ℕ) (v : View) (es : List ℕ) → v.kind ≡ kind → header ≡ header_size kind
    → write_each cert_bytes v.certs ++ write_each child_bytes v.children ≡ es → header + length es ≤ page_size
    → (i + 1) * page_size ≤ length t
    → laid header t (i * page_size) es (length es) (header_of kind (count v) birth c low high)
    ≡ build t i (fresh c birth low high v)
unfolding build
built_there t i kind header c birth low high v es e d f h g =
    laid_page header t i (header_of kind (count v) birth c low high) es (length-header kind (count v) birth c low high ∙ sym d) h g
    ∙ ap (set_page t i) (rw d (sym (build_bytes_lem kind c birth low high v es e f)))

-- how many bytes the entries take, by the kind and the count that stand in the header
pub entries_fit : (b : List ℕ) → Roomy (view_in b) → header_size (le_at b 0 2) + size_of (le_at b 0 2) * le_at b 2 2 ≤ page_size
unfolding header_size size_of
entries_fit b r = go (eqb (le_at b 0 2) leaf_kind) refl
  where
    go : (t : Bool) → eqb (le_at b 0 2) leaf_kind ≡ t → header_size (le_at b 0 2) + size_of (le_at b 0 2) * le_at b 2 2 ≤ page_size
    go true e =
        let m = rw (view_in-leaf b e, length-read_each) at r.certs in
        rw (header_size, size_of, e) (omega arith)
    go false e =
        let m = rw (view_in-inner b e, length-read_each) at r.children in
        rw (header_size, size_of, e) (omega arith)

pub range-nil : {A : Type 0} (first many : ℕ) → take many (drop {A = A} first []) ≡ []
range-nil {A} first many = rw (drop-nil {A = A} first) (take-nil many)

-- what the code counts by lies within its page
pub record RangeFits (header size first many : ℕ) : Type 0 where
  pub bytes : header + (size * first + size * many) ≤ page_size
  pub few : many < 256

pub range-fits : (b : List ℕ) (kind header size first past many : ℕ) → Roomy (view_in b) → first ≤ count (view_in b) → past ≤ count (view_in b)
    → kind ≡ le_at b 0 2 → header ≡ header_size kind → size ≡ size_of kind → many ≡ past - first → RangeFits header size first many
unfolding count
range-fits b kind header size first past many r f g e d s m =
    let k = count-view_in b in
    let w = range-within size first many (le_at b 2 2) (omega arith) in
    let v : header + size * le_at b 2 2 ≤ page_size = rw (d, s, e) (entries_fit b r) in
    record { bytes = omega arith; few = omega (arith, r.certs, r.children) }

module _ (b : List ℕ) (first past : ℕ) (f : first ≤ le_at b 2 2) (g : past ≤ le_at b 2 2) where
  range_length : {A : Type 0} (xs : List A) → length xs ≡ le_at b 2 2 → length (take (past - first) (drop first xs)) ≡ past - first
  range_length xs e = rw (length-take, length-drop, e) (omega arith)

  pub range-count : count (range_view first past (view_in b)) ≡ past - first
  unfolding count range_view
  range-count = go (eqb (le_at b 0 2) leaf_kind) refl
    where
      go : (t : Bool) → eqb (le_at b 0 2) leaf_kind ≡ t → count (range_view first past (view_in b)) ≡ past - first
      go true e =
          rw (view_in-leaf b e, range-nil, range_length (read_each cert_in cert_size (le_at b 2 2) (drop leaf_header b)) (length-read_each cert_in cert_size (le_at b 2 2) (drop leaf_header b))) (omega arith)
      go false e =
          rw (view_in-inner b e, range-nil, range_length (read_each child_in child_size (le_at b 2 2) (drop inner_header b)) (length-read_each child_in child_size (le_at b 2 2) (drop inner_header b))) (omega arith)

  pub range-entries : Bytes b → length b ≡ page_size → header_size (le_at b 0 2) + size_of (le_at b 0 2) * le_at b 2 2 ≤ page_size
      → write_each cert_bytes (range_view first past (view_in b)).certs ++ write_each child_bytes (range_view first past (view_in b)).children
      ≡ take (size_of (le_at b 0 2) * (past - first)) (drop (header_size (le_at b 0 2) + size_of (le_at b 0 2) * first) b)
  unfolding range_view header_size size_of write_each
  range-entries h l r = go (eqb (le_at b 0 2) leaf_kind) refl
    where
      go : (t : Bool) → eqb (le_at b 0 2) leaf_kind ≡ t
          → write_each cert_bytes (range_view first past (view_in b)).certs ++ write_each child_bytes (range_view first past (view_in b)).children
          ≡ take (size_of (le_at b 0 2) * (past - first)) (drop (header_size (le_at b 0 2) + size_of (le_at b 0 2) * first) b)
      go true e =
          let m = rw (header_size, size_of, e) at r in
          rw (view_in-leaf b e, range-nil, append-nil, header_size, size_of, e) (write_certs b (le_at b 2 2) first (past - first) h (omega arith) (omega arith))
      go false e =
          let m = rw (header_size, size_of, e) at r in
          rw (view_in-inner b e, range-nil, header_size, size_of, e) (write_children b (le_at b 2 2) first (past - first) h (omega arith) (omega arith))

-- ── A range of another page's entries ───────────────────────────────────────────────────────────────────────────

-- what is known of two pages of a table, of a range of the one's entries, and of what the code has read of it
pub record Ranged (t : List ℕ) (to from first past kind header size many : ℕ) : Type 0 where
  pub to_has : (to + 1) * page_size ≤ length t
  pub from_has : (from + 1) * page_size ≤ length t
  pub roomy : Roomy (read t from).view
  pub first_in : first ≤ count (read t from).view
  pub past_in : past ≤ count (read t from).view
  pub kind_read : kind ≡ le_at t (from * page_size + 0) 2
  pub header_read : header ≡ header_size kind
  pub size_read : size ≡ size_of kind
  pub many_read : many ≡ past - first

pub ranged : (t : List ℕ) (to from first past kind header size many : ℕ)
    → (((to + 1) * page_size ≤ length t) × ((from + 1) * page_size ≤ length t))
    × (Roomy (read t from).view × ((first ≤ count (read t from).view) × (past ≤ count (read t from).view)))
    → kind ≡ le_at t (from * page_size + 0) 2 → header ≡ header_size kind → size ≡ size_of kind → many ≡ past - first → Ranged t to from first past kind header size many
ranged t to from first past kind header size many pre k d s m = record {
  to_has = pre.0.0;
  from_has = pre.0.1;
  roomy = pre.1.0;
  first_in = pre.1.1.0;
  past_in = pre.1.1.1;
  kind_read = k;
  header_read = d;
  size_read = s;
  many_read = m;
}

-- the same of what the code has made of it
pub ranged_of : {t : List ℕ} {to from first past kind many : ℕ} {e : Entries}
    → ((to + 1) * page_size ≤ length t) × ((from + 1) * page_size ≤ length t)
    → Roomy (read t from).view → (first ≤ count (read t from).view) × (past ≤ count (read t from).view)
    → kind ≡ le_at t (from * page_size + 0) 2 → many ≡ past - first → e ≡ entries_of kind many
    → Ranged t to from first past kind e.header e.size many
ranged_of {t} {to} {from} {first} {past} {kind} {many} {e} has roomy inside k m q =
    ranged t to from first past kind e.header e.size many (has, (roomy, inside)) k (rw q (header-entries_of kind many)) (rw q (size-entries_of kind many)) m

module _ {t : List ℕ} {to from first past kind header size many : ℕ} (r : Ranged t to from first past kind header size many) where
  kind-page : kind ≡ le_at (page_at t from) 0 2
  kind-page = r.kind_read ∙ sym (le_at-page t from 0 2 (omega arith))

  pub ranged_fits : RangeFits header size first many
  unfolding read page_in
  ranged_fits =
      range-fits (page_at t from) kind header size first past many r.roomy r.first_in r.past_in kind-page r.header_read r.size_read r.many_read

  pub range-built : (birth c low high : ℕ) → Bytes t
      → laid header t (to * page_size) (take (size * many) (drop (from * page_size + header + size * first) t)) (size * many) (header_of kind many birth c low high)
      ≡ build t to (fresh c birth low high (range_view first past (read t from).view))
  unfolding read page_in range_view
  range-built birth c low high h =
      let b : List ℕ = page_at t from in
      let start : from * page_size + (header + size * first) ≡ from * page_size + header + size * first = omega arith in
      let es : List ℕ = take (size * many) (drop (from * page_size + header + size * first) t) in
      let long : length es ≡ size * many = length_part (size * many) (from * page_size + header + size * first) t (omega (arith, ranged_fits, r.from_has)) in
      let f : first ≤ le_at b 2 2 = rw (← count-view_in b) r.first_in in
      let g : past ≤ le_at b 2 2 = rw (← count-view_in b) r.past_in in
      let there : take (size_of (le_at b 0 2) * (past - first)) (drop (header_size (le_at b 0 2) + size_of (le_at b 0 2) * first) b) ≡ es =
      rw (← kind-page, ← r.header_read, ← r.size_read, ← r.many_read, ← start) (part_page t from (header + size * first) (size * many) (omega (arith, ranged_fits))) in
      let same = range-entries b first past f g (bytes-page_at t from h) (length-page_at t from (omega (arith, r.from_has))) (entries_fit b r.roomy) ∙ there in
      let many_is : count (range_view first past (view_in b)) ≡ many = range-count b first past f g ∙ sym r.many_read in
      rw (long, many_is) at (built_there t to kind header c birth low high (range_view first past (view_in b)) es (kind-view_in b ∙ sym kind-page) r.header_read same (rw long (omega (arith, ranged_fits))) r.to_has)

-- ── A new root ──────────────────────────────────────────────────────────────────────────────────────────────────

inner_header_lem : (kind : ℕ) → leaf_kind < kind → inner_header ≡ header_size kind
unfolding header_size
inner_header_lem kind h = rw (header_size, ne_eqb kind leaf_kind (λ q. omega (arith, q)))

pub root-built : (t : List ℕ) (to kind c : ℕ) (x : Child) → (to + 1) * page_size ≤ length t → leaf_kind < kind
    → laid inner_header t (to * page_size) (child_bytes x) child_size (header_of kind 1 c c 0 last_key)
    ≡ build t to (fresh c c 0 last_key (root_view kind x))
unfolding root_view write_each count
root-built t to kind c x h k =
    rw (length-child_bytes x) at (built_there t to kind inner_header c c 0 last_key (root_view kind x) (child_bytes x) refl (inner_header_lem kind k) (append-nil (child_bytes x)) (rw (length-child_bytes x) (omega arith)) h)
