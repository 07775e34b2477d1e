-- One page of a whole table is written: the page reads as it was meant, every other as before, page 0 too, and the table is
-- whole again.
use Rattle.std.proofs.Common.{◌≡◌, ℕ, ◌-◌, ◌^◌, ◌<◌, ◌≤◌, true, eqb, ltb, ◌≢◌, List, length, ap, ◌∙◌, arith, lt-ltb}
use Rattle.rules.specs.Layout.{page_size, fewest_pages, most_pages, zero_kind, leaf_room, last_key}
use Rattle.rules.specs.Test.{between}
use Rattle.rules.specs.Page.{Page, is_leaf}
use Rattle.rules.specs.Table.{page_at, read, build, change, shrink, number0, fit0, set_root}
use Rattle.rules.specs.Place.{root_place}
use Rattle.rules.proofs.Bytes.Pages.{Wide, length-leaf_header, length-page_bytes, room-page_bytes}
use Rattle.rules.proofs.Bytes.Tables.{Has, Room, has-page, length-build, page_at-build-other, read-build-same, read-build-other, bytes-build, length-change, page_at-change-other, read-change-same, read-change-other, bytes-change, Spare, length-shrink, page_at-shrink-other, read-shrink-same, read-shrink-other, bytes-shrink}
use Rattle.rules.proofs.Bytes.PageZero.{Same0, root_place-same, fit0-same, same0_build, same0_change, same0_shrink, length-set_root, bytes-set_root, kind0-set_root, n0-set_root, root0-set_root, previous0-set_root, number0-set_root, root_place-set_root, read-set_root}
use Rattle.rules.proofs.Entries.Tests.{every_true, every_of, between-of}
use Rattle.rules.proofs.Entries.Sounds.{Sound}
use Rattle.rules.proofs.Demand3.Epochs.Store.{Whole}

-- a sound page has room for its bytes
pub room_of : {n low high : ℕ} {p : Page} → Wide p → Sound n low high p.view → Room p
room_of {p = p} w s = room-page_bytes p w.view.shaped s.certs_room s.children_room

-- a leaf that is not full has room for one certificate more
pub spare_of : {p : Page} → Wide p → is_leaf p.view ≡ true → length p.view.certs < leaf_room → Spare p
spare_of {p} w l h = omega (arith, length-page_bytes p, length-leaf_header p l, ap length (w.view.shaped.leaf l))

-- u is t but for page i, which is p
pub record Writes (n : ℕ) (t u : List ℕ) (i : ℕ) (p : Page) : Type 0 where
  pub whole : Whole n u
  pub here : read u i ≡ p
  pub others : (j : ℕ) → j ≢ i → read u j ≡ read t j
  pub root : root_place u ≡ root_place t
  pub number : number0 u ≡ number0 t
  pub zero : page_at u 0 ≡ page_at t 0

module _ {n : ℕ} {t : List ℕ} {i : ℕ} {p : Page} (h : Whole n t) (from : 1 ≤ i) (below : i < n) (w : Wide p) (r : Room p) where
  has : Has t i
  has = has-page t n i h.length_is below

  pub build_writes : Writes n t (build t i p) i p
  build_writes =
      let z : Same0 (build t i p) t = same0_build t i has from p r in
      record {
        whole = record {
          length_is = length-build t i p has r ∙ h.length_is;
          bytes = bytes-build t i p h.bytes;
          fit = fit0-same z n ∙ h.fit;
        };
        here = read-build-same t i p has r w;
        others = λ j d. read-build-other t i p has r j d;
        root = root_place-same z;
        number = z.number;
        zero = page_at-build-other t i p has r 0 (λ q. omega arith);
      }

  pub change_writes : Writes n t (change t i p) i p
  change_writes =
      let z : Same0 (change t i p) t = same0_change t i has from p r in
      record {
        whole = record {
          length_is = length-change t i p has r ∙ h.length_is;
          bytes = bytes-change t i p h.bytes;
          fit = fit0-same z n ∙ h.fit;
        };
        here = read-change-same t i p has r w;
        others = λ j d. read-change-other t i p has r j d;
        root = root_place-same z;
        number = z.number;
        zero = page_at-change-other t i p has r 0 (λ q. omega arith);
      }

pub shrink_writes : {n : ℕ} {t : List ℕ} {i : ℕ} {p : Page} → Whole n t → 1 ≤ i → i < n → Wide p → Spare p → Writes n t (shrink t i p) i p
shrink_writes {n} {t} {i} {p} h from below w r =
    let has : Has t i = has-page t n i h.length_is below in
    let z : Same0 (shrink t i p) t = same0_shrink t i has from p r in
    record {
      whole = record {
        length_is = length-shrink t i p has r ∙ h.length_is;
        bytes = bytes-shrink t i p h.bytes;
        fit = fit0-same z n ∙ h.fit;
      };
      here = read-shrink-same t i p has r w;
      others = λ j d. read-shrink-other t i p has r j d;
      root = root_place-same z;
      number = z.number;
      zero = page_at-shrink-other t i p has r 0 (λ q. omega arith);
    }

-- ── Page 0 names another root ───────────────────────────────────────────────────────────────────────────────────

-- u is t but for page 0, which names another root
pub record Roots (n : ℕ) (t u : List ℕ) (root previous birth : ℕ) : Type 0 where
  pub whole : Whole n u
  pub others : (j : ℕ) → 1 ≤ j → read u j ≡ read t j
  pub names : root_place u ≡ record { child = root; previous = previous; birth = birth; low = 0; high = last_key; want = 0 }
  pub number : number0 u ≡ number0 t

fit0-set_root : (n : ℕ) (t : List ℕ) (root previous birth : ℕ) → page_size ≤ length t → fit0 n t ≡ true → 1 ≤ root → root < n → previous < n
    → n ≤ most_pages → fit0 n (set_root t root previous birth) ≡ true
unfolding fit0
fit0-set_root n t root previous birth l h a b p m =
    let f = every_true _ h in
    every_of _ (
      ap (λ (x : ℕ). eqb x zero_kind) (kind0-set_root t root previous birth) ∙ f.0,
      (
        ap (λ (x : ℕ). eqb x n) (n0-set_root t root previous birth) ∙ f.1.0,
        (
          ap (between 1 (n - 1)) (root0-set_root t root previous birth l (omega arith)) ∙ between-of 1 (n - 1) root a (omega arith),
          (ap (λ (x : ℕ). ltb x n) (previous0-set_root t root previous birth l (omega arith)) ∙ lt-ltb previous n p, tt),
        ),
      ),
    )

pub root_writes : {n : ℕ} {t : List ℕ} (root previous birth : ℕ) → Whole n t → fewest_pages ≤ n → n ≤ most_pages → 1 ≤ root → root < n
    → previous < n → birth < 256 ^ 4 → Roots n t (set_root t root previous birth) root previous birth
root_writes {n} {t} root previous birth h few most a b p y = record {
  whole = record {
    length_is = length-set_root t root previous birth ∙ h.length_is;
    bytes = bytes-set_root t root previous birth h.bytes;
    fit = fit0-set_root n t root previous birth long h.fit a b p most;
  };
  others = λ j d. read-set_root t root previous birth j d;
  names = root_place-set_root t root previous birth long (omega arith) (omega arith) y;
  number = number0-set_root t root previous birth;
}
  where
    long : page_size ≤ length t
    long = omega (arith, h.length_is, few)
