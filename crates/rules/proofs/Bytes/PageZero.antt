-- Page 0 of a table: its six fields, the place that it gives the root, and what changes of them. Assumes nothing.
use Rattle.std.proofs.Common.{◌≡◌, ℕ, suc, ◌+◌, ◌-◌, ◌*◌, ◌^◌, ◌<◌, ◌≤◌, true, List, [], ◌∷◌, ◌++◌, length, take, drop, set, sym, refl, ap, ◌∙◌, arith, lit≤, ltb-true}
use lib.Seq.{sets, take-set-lt}
use Rattle.fields.specs.Field.{le, le_at, put_at, Bytes}
use Rattle.fields.proofs.Number.{length-le}
use Rattle.fields.proofs.Run.{take_sets}
use Rattle.fields.proofs.Field.{le_at-take, length-put, bytes-put, drop-put, get_put, get_put-other, after_Puts}
use Rattle.rules.specs.Layout.{page_size, last_key}
use Rattle.rules.specs.Page.{Page, page_in}
use Rattle.rules.specs.Table.{page_at, read, build, change, shrink, kind0, n0, number0, root0, previous0, birth0, set_number, set_root, beside_number, fit0}
use Rattle.rules.specs.Place.{root_place}
use Rattle.rules.proofs.Entries.Tests.{every_true, between-low, between-high}
use Rattle.rules.proofs.Bytes.Tables.{Has, Room, Spare, page_at-build-other, page_at-change-other, page_at-shrink-other}

-- ── Two tables with the same page 0 ─────────────────────────────────────────────────────────────────────────────

-- a field of page 0 is one of the table
pub le_at-page0 : (t : List ℕ) (off w : ℕ) → off + w ≤ page_size → le_at (page_at t 0) off w ≡ le_at t off w
unfolding page_at
le_at-page0 t off w h = le_at-take t page_size off w h

pub record Same0 (t u : List ℕ) : Type 0 where
  pub kind : kind0 t ≡ kind0 u
  pub n : n0 t ≡ n0 u
  pub number : number0 t ≡ number0 u
  pub root : root0 t ≡ root0 u
  pub previous : previous0 t ≡ previous0 u
  pub birth : birth0 t ≡ birth0 u

pub same0 : (t u : List ℕ) → page_at t 0 ≡ page_at u 0 → Same0 t u
unfolding kind0 n0 number0 root0 previous0 birth0
same0 t u e = record {
  kind = field 0 2 (lit≤ tt);
  n = field 2 2 (lit≤ tt);
  number = field 4 4 (lit≤ tt);
  root = field 8 2 (lit≤ tt);
  previous = field 10 2 (lit≤ tt);
  birth = field 12 4 (lit≤ tt);
}
  where
    field : (off w : ℕ) → off + w ≤ page_size → le_at t off w ≡ le_at u off w
    field off w h = sym (le_at-page0 t off w h) ∙ ap (λ (b : List ℕ). le_at b off w) e ∙ le_at-page0 u off w h

pub root_place-same : {t u : List ℕ} → Same0 t u → root_place t ≡ root_place u
unfolding root_place
root_place-same s = rw (s.root, s.previous, s.birth)

pub fit0-same : {t u : List ℕ} → Same0 t u → (n : ℕ) → fit0 n t ≡ fit0 n u
unfolding fit0
fit0-same s n = rw (s.kind, s.n, s.root, s.previous)

-- another page built or changed
module _ (t : List ℕ) (i : ℕ) (h : Has t i) (pos : 1 ≤ i) where
  pub same0_build : (p : Page) → Room p → Same0 (build t i p) t
  same0_build p r = same0 (build t i p) t (page_at-build-other t i p h r 0 (λ z. omega arith))

  pub same0_change : (p : Page) → Room p → Same0 (change t i p) t
  same0_change p r = same0 (change t i p) t (page_at-change-other t i p h r 0 (λ z. omega arith))

  pub same0_shrink : (p : Page) → Spare p → Same0 (shrink t i p) t
  same0_shrink p r = same0 (shrink t i p) t (page_at-shrink-other t i p h r 0 (λ z. omega arith))

-- ── What a fit page 0 tells of the table ────────────────────────────────────────────────────────────────────────

pub has-zero : (n : ℕ) (t : List ℕ) → length t ≡ n * page_size → fit0 n t ≡ true → page_size ≤ length t
unfolding fit0
has-zero n t l f =
    let r = (every_true _ f).1.1.0 in
    omega (arith, between-low 1 (n - 1) (root0 t) r, between-high 1 (n - 1) (root0 t) r)

pub root_previous_lem : (n : ℕ) (t : List ℕ) → fit0 n t ≡ true → (root_place t).previous < n
unfolding fit0 root_place
root_previous_lem n t f = ltb-true (previous0 t) n (every_true _ f).1.1.1.0

-- ── The number set ──────────────────────────────────────────────────────────────────────────────────────────────

pub length-set_number : (t : List ℕ) (x : ℕ) → length (set_number t x) ≡ length t
unfolding set_number
length-set_number t x = length-put t 4 4 x

pub bytes-set_number : (t : List ℕ) (x : ℕ) → Bytes t → Bytes (set_number t x)
unfolding set_number
bytes-set_number t x h = bytes-put t 4 4 x h

pub number0-set_number : (t : List ℕ) (x : ℕ) → page_size ≤ length t → x < 256 ^ 4 → number0 (set_number t x) ≡ x
unfolding number0 set_number
number0-set_number t x h b = get_put t 4 4 x (omega arith) b

module _ (t : List ℕ) (x : ℕ) where
  pub kind0-set_number : kind0 (set_number t x) ≡ kind0 t
  unfolding kind0 set_number
  kind0-set_number = simp after_Puts

  pub n0-set_number : n0 (set_number t x) ≡ n0 t
  unfolding n0 set_number
  n0-set_number = simp after_Puts

  pub root0-set_number : root0 (set_number t x) ≡ root0 t
  unfolding root0 set_number
  root0-set_number = simp after_Puts

  pub previous0-set_number : previous0 (set_number t x) ≡ previous0 t
  unfolding previous0 set_number
  previous0-set_number = simp after_Puts

  pub birth0-set_number : birth0 (set_number t x) ≡ birth0 t
  unfolding birth0 set_number
  birth0-set_number = simp after_Puts

  pub root_place-set_number : root_place (set_number t x) ≡ root_place t
  unfolding root_place
  root_place-set_number = rw (root0-set_number, previous0-set_number, birth0-set_number)

  pub fit0-set_number : (n : ℕ) → fit0 n (set_number t x) ≡ fit0 n t
  unfolding fit0
  fit0-set_number n = rw (kind0-set_number, n0-set_number, root0-set_number, previous0-set_number)

  -- other pages stay
  pub page_at-set_number : (i : ℕ) → 1 ≤ i → page_at (set_number t x) i ≡ page_at t i
  unfolding page_at set_number
  page_at-set_number i h = ap (take page_size) (drop-put t 4 4 x (i * page_size) (omega arith))

  pub read-set_number : (i : ℕ) → 1 ≤ i → read (set_number t x) i ≡ read t i
  unfolding read
  read-set_number i h = ap page_in (page_at-set_number i h)

-- ── The root set ────────────────────────────────────────────────────────────────────────────────────────────────

module _ (t : List ℕ) (root previous birth : ℕ) where
  pub length-set_root : length (set_root t root previous birth) ≡ length t
  unfolding set_root
  length-set_root = simp length-put

  pub bytes-set_root : Bytes t → Bytes (set_root t root previous birth)
  unfolding set_root
  bytes-set_root h =
      bytes-put (put_at (put_at t 8 2 root) 10 2 previous) 12 4 birth
      (bytes-put (put_at t 8 2 root) 10 2 previous (bytes-put t 8 2 root h))

  pub root0-set_root : page_size ≤ length t → root < 256 ^ 2 → root0 (set_root t root previous birth) ≡ root
  unfolding root0 set_root
  root0-set_root h b = simp (get_put-other, get_put t 8 2 root (omega arith) b)

  pub previous0-set_root : page_size ≤ length t → previous < 256 ^ 2 → previous0 (set_root t root previous birth) ≡ previous
  unfolding previous0 set_root
  previous0-set_root h b =
      simp (get_put-other, get_put (put_at t 8 2 root) 10 2 previous (rw length-put (omega arith)) b)

  pub birth0-set_root : page_size ≤ length t → birth < 256 ^ 4 → birth0 (set_root t root previous birth) ≡ birth
  unfolding birth0 set_root
  birth0-set_root h b =
      get_put (put_at (put_at t 8 2 root) 10 2 previous) 12 4 birth (rw (length-put, length-put) (omega arith)) b

  pub kind0-set_root : kind0 (set_root t root previous birth) ≡ kind0 t
  unfolding kind0 set_root
  kind0-set_root = simp after_Puts

  pub n0-set_root : n0 (set_root t root previous birth) ≡ n0 t
  unfolding n0 set_root
  n0-set_root = simp after_Puts

  pub number0-set_root : number0 (set_root t root previous birth) ≡ number0 t
  unfolding number0 set_root
  number0-set_root = simp after_Puts

  pub root_place-set_root : page_size ≤ length t → root < 256 ^ 2 → previous < 256 ^ 2 → birth < 256 ^ 4 → root_place (set_root t root previous birth) ≡ record { child = root; previous = previous; birth = birth; low = 0; high = last_key; want = 0 }
  unfolding root_place
  root_place-set_root h r p b = rw (root0-set_root h r, previous0-set_root h p, birth0-set_root h b)

  pub page_at-set_root : (i : ℕ) → 1 ≤ i → page_at (set_root t root previous birth) i ≡ page_at t i
  unfolding page_at set_root
  page_at-set_root i h =
      ap (take page_size)
      (drop-put (put_at (put_at t 8 2 root) 10 2 previous) 12 4 birth (i * page_size) (omega arith)
      ∙ drop-put (put_at t 8 2 root) 10 2 previous (i * page_size) (omega arith)
      ∙ drop-put t 8 2 root (i * page_size) (omega arith))

  pub read-set_root : (i : ℕ) → 1 ≤ i → read (set_root t root previous birth) i ≡ read t i
  unfolding read
  read-set_root i h = ap page_in (page_at-set_root i h)

-- ── Page 0 itself: a field put in the table is put in the page ──────────────────────────────────────────────────

take_sets_in : (vs l : List ℕ) (n i : ℕ) → i + length vs ≤ n → take n (sets l i vs) ≡ sets (take n l) i vs
take_sets_in [] l n i h = refl
take_sets_in (v ∷ vs) l n i h =
    take_sets_in vs (set l i v) n (suc i) (omega arith) ∙ ap (λ (r : List ℕ). sets r (suc i) vs) (take-set-lt n l i v (omega arith))

pub page0-put : (t : List ℕ) (off w v : ℕ) → off + w ≤ page_size → page_at (put_at t off w v) 0 ≡ put_at (page_at t 0) off w v
unfolding page_at put_at
page0-put t off w v h = take_sets_in (le w v) t page_size off (rw length-le h)

pub page0-set_number : (t : List ℕ) (x : ℕ) → page_at (set_number t x) 0 ≡ put_at (page_at t 0) 4 4 x
unfolding set_number
page0-set_number t x = page0-put t 4 4 x (lit≤ tt)

-- ── Page 0 but for its number ───────────────────────────────────────────────────────────────────────────────────

pub beside_same : (t u : List ℕ) → page_at t 0 ≡ page_at u 0 → beside_number t ≡ beside_number u
unfolding beside_number
beside_same t u e = ap (λ (b : List ℕ). take 4 b ++ drop 8 b) e

pub beside-set_number : (t : List ℕ) (x : ℕ) → beside_number (set_number t x) ≡ beside_number t
unfolding beside_number put_at
beside-set_number t x =
    let b = page_at t 0 in
    ap (λ (p : List ℕ). take 4 p ++ drop 8 p) (page0-set_number t x)
    ∙ (ap (λ (p : List ℕ). p ++ drop 8 (put_at b 4 4 x)) (take_sets (le 4 x) b 4 4 (omega arith))
    ∙ ap (λ (p : List ℕ). take 4 b ++ p) (drop-put b 4 4 x 8 (omega arith)))
