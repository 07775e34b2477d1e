-- A page looked through is its run, and a run lies in its page. Assumes nothing.
use Rattle.std.proofs.Common.{◌≡◌, ℕ, ◌-◌, ◌*◌, ◌<◌, ◌≤◌, Bool, true, false, eqb, List, [], length, take, drop, sym, refl, ap, ◌∙◌, subst, arith, eq-eqb, ne_eqb, eqb-true}
use borrow.Author.Tests.{eqb-false}
use Rattle.rules.specs.Layout.{page_size, leaf_header, cert_size, leaf_kind, inner_room}
use Rattle.rules.specs.Entry.{Child, keys, cut, rising}
use Rattle.rules.specs.Page.{View, read_each, cert_in, page_in}
use Rattle.rules.specs.Table.{page_at, read}
use Rattle.rules.specs.Place.{kids, cut_view, places_in}
use Rattle.rules.specs.declared.Place.{Place}
use Rattle.rules.proofs.Bytes.Each.{length-read_each}
use Rattle.rules.proofs.Entries.Sounds.{Sound}
use Rattle.rules.proofs.Entries.Entries.{cut-nil}
use Rattle.head.specs.declared.Head.{Head}
use Rattle.head.specs.Head.{head_in}
use Rattle.head.proofs.Headers.{view-leaf, view-inner, kind-view}
use Rattle.seen.specs.declared.Run.{Run}
use Rattle.seen.specs.Run.{entries_from, entries_in, up_to, below, kind_at, count_at, first_of, left_of, run_of, Runs, Roomy, Lies, places}
use Rattle.seen.proofs.Cuts.{up_to-length, below_length, cut_runs}
use Rattle.seen.proofs.Spans.{length-entries, take-entries, drop-entries, places-none}

abbrev pub run_from : ℕ → ℕ → ℕ → ℕ → Run
run_from page first left want = record { page = page; first = first; left = left; want = want }

no_places : (want high : ℕ) → places_in want high [] ≡ []
unfolding places_in
no_places want high = refl

of-run : (t : List ℕ) (high page first left want : ℕ) → places_in want high (entries_in t page first left) ≡ places t high (run_from page first left want)
unfolding places
of-run t high page first left want = refl

module _ (t : List ℕ) (page low high : ℕ) where
  pub run-leaf : kind_at t page ≡ leaf_kind → run_from page 0 0 0 ≡ run_of t page low high
  unfolding run_of
  run-leaf h = rw (run_of, eq-eqb (kind_at t page) leaf_kind h)

  pub run-inner : (kind_at t page ≡ leaf_kind → ⊥)
      → run_from page (first_of t page low) (left_of t page (first_of t page low) high) (kind_at t page - 1) ≡ run_of t page low high
  unfolding run_of
  run-inner h = rw (run_of, ne_eqb (kind_at t page) leaf_kind h)

  -- as code finds it
  pub run-found : (first left want : ℕ) → (kind_at t page ≡ leaf_kind → ⊥) → first ≡ first_of t page low
      → left ≡ left_of t page first high → want ≡ kind_at t page - 1 → run_from page first left want ≡ run_of t page low high
  run-found first left want h p q r = same p q r ∙ run-inner h
    where
      same : first ≡ first_of t page low → left ≡ left_of t page first high → want ≡ kind_at t page - 1
          → run_from page first left want ≡ run_from page (first_of t page low) (left_of t page (first_of t page low) high) (kind_at t page - 1)
      same p q r = cc

  pub first-room : first_of t page low ≤ count_at t page
  unfolding first_of
  first-room = omega (arith, below_length low (entries_in t page 0 (count_at t page)), length-entries t page 0 (count_at t page))

  pub left-room : (first : ℕ) → left_of t page first high ≤ count_at t page - first
  unfolding left_of
  left-room first =
      omega (arith, up_to-length high (entries_in t page first (count_at t page - first)), length-entries t page first (count_at t page - first))

  pub run-page : (run_of t page low high).page ≡ page
  run-page = go (eqb (kind_at t page) leaf_kind) refl
    where
      go : (b : Bool) → eqb (kind_at t page) leaf_kind ≡ b → (run_of t page low high).page ≡ page
      go true e = sym (ap (λ (r : Run). r.page) (run-leaf (eqb-true (kind_at t page) leaf_kind e)))
      go false e = sym (ap (λ (r : Run). r.page) (run-inner (eqb-false (kind_at t page) leaf_kind e)))

-- ── By a header that was read ───────────────────────────────────────────────────────────────────────────────────

module _ (t : List ℕ) (page : ℕ) (h : Head) (read-there : h ≡ head_in (page_at t page)) where
  pub head-kind : h.kind ≡ kind_at t page
  unfolding head_in kind_at
  head-kind = ap (λ (x : Head). x.kind) read-there

  pub head-count : h.count ≡ count_at t page
  unfolding head_in count_at
  head-count = ap (λ (x : Head). x.count) read-there

  pub head-inner : (h.kind ≡ leaf_kind → ⊥) → kind_at t page ≡ leaf_kind → ⊥
  head-inner i k = i (head-kind ∙ k)

  pub head-want : h.kind - 1 ≡ kind_at t page - 1
  head-want = ap (λ (k : ℕ). k - 1) head-kind

  pub first_found : (low x : ℕ) → x ≡ below low (entries_from 0 h.count (page_at t page)) → x ≡ first_of t page low
  unfolding first_of entries_in
  first_found low x e = e ∙ ap (λ (i : ℕ). below low (entries_from 0 i (page_at t page))) head-count

  pub left-found : (first high x : ℕ) → x ≡ up_to high (entries_from first (h.count - first) (page_at t page))
      → x ≡ left_of t page first high
  unfolding left_of entries_in
  left-found first high x e = e ∙ ap (λ (i : ℕ). up_to high (entries_from first (i - first) (page_at t page))) head-count

  pub first-within : (low x : ℕ) → x ≡ first_of t page low → x ≤ h.count
  first-within low x e = omega (arith, e, head-count, first-room t page low 0)

-- ── Sound pages ─────────────────────────────────────────────────────────────────────────────────────────────────

module _ (n low high : ℕ) (t : List ℕ) (page : ℕ) (s : Sound n low high (read t page).view) where
  kind_there : (read t page).view.kind ≡ kind_at t page
  unfolding read page_in kind_at
  kind_there = kind-view (page_at t page)

  children-leaf : kind_at t page ≡ leaf_kind → (read t page).view.children ≡ []
  unfolding read page_in kind_at
  children-leaf k = ap (λ (v : View). v.children) (view-leaf (page_at t page) k)

  children-inner : (kind_at t page ≡ leaf_kind → ⊥) → (read t page).view.children ≡ entries_in t page 0 (count_at t page)
  unfolding read page_in kind_at count_at entries_in
  children-inner k = ap (λ (v : View). v.children) (view-inner (page_at t page) k)

  inner_room_lem : (kind_at t page ≡ leaf_kind → ⊥) → count_at t page ≤ inner_room
  inner_room_lem k =
      omega (arith, s.children_room, ap length (children-inner k), length-entries t page 0 (count_at t page))

  pub runs_sound : page < n → length t ≡ n * page_size → Runs t page
  runs_sound p l = record { inside = omega arith; kind = omega (arith, s.kind_from, kind_there); room = inner_room_lem }

  certs_there : kind_at t page ≡ leaf_kind
      → (read t page).view.certs ≡ read_each cert_in cert_size (count_at t page) (drop leaf_header (page_at t page))
  unfolding read page_in kind_at count_at
  certs_there k = ap (λ (v : View). v.certs) (view-leaf (page_at t page) k)

  pub roomy-sound : page < n → length t ≡ n * page_size → Roomy t page
  roomy-sound p l = record {
    inside = omega arith;
    room = λ k. omega (
      arith,
      s.certs_room,
      ap length (certs_there k),
      length-read_each cert_in cert_size (count_at t page) (drop leaf_header (page_at t page)),
    );
  }

  -- a run lies in its page
  pub lies-sound : (l h : ℕ) → page < n → Lies n (run_of t page l h)
  lies-sound l h p = go (eqb (kind_at t page) leaf_kind) refl
    where
      go : (b : Bool) → eqb (kind_at t page) leaf_kind ≡ b → Lies n (run_of t page l h)
      go true e = subst (Lies n) (run-leaf t page l h (eqb-true (kind_at t page) leaf_kind e)) record { page = p; end = omega arith }
      go false e =
          let k = eqb-false (kind_at t page) leaf_kind e in
          subst (Lies n) (run-inner t page l h k)
          record { page = p; end = omega (arith, inner_room_lem k, first-room t page l h, left-room t page l h (first_of t page l)) }

  -- and its entries are the page's children in the range
  pub cut-sound : (l h : ℕ) → (kind_at t page ≡ leaf_kind → ⊥)
      → cut l h (read t page).view.children ≡ entries_in t page (first_of t page l) (left_of t page (first_of t page l) h)
  unfolding first_of left_of
  cut-sound l h k =
      let xs = entries_in t page 0 (count_at t page) in
      let first = below l xs in
      let c = children-inner k in
      let d = drop-entries t page first (count_at t page) in
      ap (cut l h) c
      ∙ cut_runs l h xs (ap (λ (x : List Child). rising (keys x)) (sym c) ∙ s.children_rise)
      ∙ ap (λ (x : List Child). take (up_to h x) x) d
      ∙ take-entries t page (up_to h (entries_in t page first (count_at t page - first))) first (count_at t page - first)
      (omega (arith, up_to-length h (entries_in t page first (count_at t page - first)), length-entries t page first (count_at t page - first)))

  pub places-sound : (e : Place) → kids e (cut_view e.low e.high (read t page).view) ≡ places t e.high (run_of t page e.low e.high)
  unfolding kids cut_view
  places-sound e = go (eqb (kind_at t page) leaf_kind) refl
    where
      go : (b : Bool) → eqb (kind_at t page) leaf_kind ≡ b
          → places_in ((read t page).view.kind - 1) e.high (cut e.low e.high (read t page).view.children)
          ≡ places t e.high (run_of t page e.low e.high)
      go true b =
          let k = eqb-true (kind_at t page) leaf_kind b in
          ap (places_in ((read t page).view.kind - 1) e.high) (ap (cut e.low e.high) (children-leaf k) ∙ cut-nil e.low e.high)
          ∙ no_places ((read t page).view.kind - 1) e.high
          ∙ sym (places-none t e.high (run_from page 0 0 0) refl)
          ∙ ap (places t e.high) (run-leaf t page e.low e.high k)
      go false b =
          let k = eqb-false (kind_at t page) leaf_kind b in
          ap (λ (w : ℕ). places_in (w - 1) e.high (cut e.low e.high (read t page).view.children)) kind_there
          ∙ ap (places_in (kind_at t page - 1) e.high) (cut-sound e.low e.high k)
          ∙ of-run t e.high page (first_of t page e.low) (left_of t page (first_of t page e.low) e.high) (kind_at t page - 1)
          ∙ ap (places t e.high) (run-inner t page e.low e.high k)
