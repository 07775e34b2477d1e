-- Format: the bytes that it leaves are a table with one empty leaf, whose opening is a store in which no key is present.
use Rattle.std.proofs.Common.{◌≡◌, ℕ, zero, suc, ◌+◌, ◌*◌, ◌<◌, ◌≤◌, List, [], ◌∷◌, length, get_or, take, drop, replicate, sym, refl, ap, ◌∙◌, subst, arith, lit≤, get_or-drop}
use mathlib.Core.Option.{Option, none}
use lib.ListN.{length-replicate}
use Rattle.fields.specs.Field.{number, le_at, put_at}
use Rattle.fields.proofs.Field.{length-put, drop-put}
use Rattle.rules.specs.Layout.{page_size, fewest_pages, most_pages, zero_kind, last_number}
use Rattle.rules.specs.Page.{Page, page_in}
use Rattle.rules.specs.Table.{page_at, read, number0, set_number, set_root}
use Rattle.rules.specs.Tree.{tree_of}
use Rattle.rules.specs.Marks.{opened}
use Rattle.rules.specs.Open.{opening}
use Rattle.rules.specs.Format.{formatted}
use Rattle.rules.proofs.Bytes.Tables.{Has, Room, read-build-other}
use Rattle.rules.proofs.Bytes.PageZero.{length-set_number, read-set_number, length-set_root, read-set_root}
use Rattle.rules.proofs.Bytes.Fresh.{fresh_leaf, read-formatted, root_place-formatted, length-formatted, bytes-formatted, fit0-formatted, number0-formatted}
use Rattle.rules.proofs.Cases.Computing.{rules}
use Rattle.rules.proofs.Demand3.Epochs.Store.{Whole, Safe}
use Rattle.rules.proofs.Demand3.Epochs.FirstLeaf.{FirstLeaf, first_alike, first_good, first_older, first-tells}
use Rattle.rules.proofs.Demand3.Ways.Ways.{Tells}
use Rattle.rules.proofs.Demand3.Mix.MixTheorem.{Older}
use Rattle.rules.proofs.Demand3.Epochs.Crashes.{alike-set_number}
use Rattle.rules.proofs.Demand3.Epochs.Openings.{raise, done, opening-done, opening-safe}

-- ── Zeros ───────────────────────────────────────────────────────────────────────────────────────────────────────

abbrev Zeros : List ℕ → Type 0
Zeros b = (i : ℕ) → get_or b i 0 ≡ 0

zeros_replicate : (k : ℕ) → Zeros (replicate k 0)
zeros_replicate zero i = refl
zeros_replicate (suc k) zero = refl
zeros_replicate (suc k) (suc i) = zeros_replicate k i

zeros_drop : (k : ℕ) (b : List ℕ) → Zeros b → Zeros (drop k b)
zeros_drop k b h i = get_or-drop k b i 0 ∙ h (k + i)

zeros_take : (k : ℕ) (b : List ℕ) → Zeros b → Zeros (take k b)
zeros_take zero b h i = refl
zeros_take (suc k) [] h i = refl
zeros_take (suc k) (x ∷ xs) h zero = h zero
zeros_take (suc k) (x ∷ xs) h (suc i) = zeros_take k xs (λ j. h (suc j)) i

zeros_number : (b : List ℕ) → Zeros b → number b ≡ 0
unfolding number
zeros_number [] h = refl
zeros_number (x ∷ xs) h = omega (arith, h zero, zeros_number xs (λ i. h (suc i)))

-- a page of zeros was never born
zeros_birth : (k i : ℕ) → (read (replicate k 0) i).birth ≡ 0
unfolding read page_in le_at page_at
zeros_birth k i =
    zeros_number (take 4 (drop 4 (take page_size (drop (i * page_size) (replicate k 0)))))
    (zeros_take 4 (drop 4 (take page_size (drop (i * page_size) (replicate k 0))))
    (zeros_drop 4 (take page_size (drop (i * page_size) (replicate k 0)))
    (zeros_take page_size (drop (i * page_size) (replicate k 0)) (zeros_drop (i * page_size) (replicate k 0) (zeros_replicate k)))))

-- ── What format leaves ──────────────────────────────────────────────────────────────────────────────────────────

fresh-room : Room fresh_leaf
unfolding rules
fresh-room = lit≤ tt

module _ (n : ℕ) (f : fewest_pages ≤ n) (m : n ≤ most_pages) where
  abbrev pub fresh-table : List ℕ
  fresh-table = formatted n (n * page_size)

  -- behind page 0 and the leaf nothing but zeros
  other-births : (i : ℕ) → 2 ≤ i → i < n → (read fresh-table i).birth ≡ 0
  unfolding formatted read page_at
  other-births i p q =
      ap (λ (x : Page). x.birth)
      (read-build-other (set_root (set_number named 2) 1 0 1) 1 fresh_leaf has fresh-room i (λ e. omega arith)
      ∙ (read-set_root (set_number named 2) 1 0 1 i (omega arith) ∙ (read-set_number named 2 i (omega arith) ∙ page)))
      ∙ zeros_birth (n * page_size) i
    where
      blanks : List ℕ
      blanks = replicate (n * page_size) 0

      named : List ℕ
      named = put_at (put_at blanks 0 2 zero_kind) 2 2 n

      has : Has (set_root (set_number named 2) 1 0 1) 1
      has =
          omega (
            arith,
            length-set_root (set_number named 2) 1 0 1,
            length-set_number named 2,
            length-put (put_at blanks 0 2 zero_kind) 2 2 n,
            length-put blanks 0 2 zero_kind,
            length-replicate {A = ℕ} (n * page_size) 0,
          )

      page : read named i ≡ read blanks i
      page =
          ap (λ (b : List ℕ). page_in (take page_size b))
          (drop-put (put_at blanks 0 2 zero_kind) 2 2 n (i * page_size) (omega arith) ∙ drop-put blanks 0 2 zero_kind (i * page_size) (omega arith))

  pub format-first : FirstLeaf n fresh-table
  format-first = record {
    two = omega arith;
    root = root_place-formatted n f m;
    leaf = read-formatted n f m;
    others = other-births;
  }

  pub format-whole : Whole n fresh-table
  format-whole = record { length_is = length-formatted n f m; bytes = bytes-formatted n f m; fit = fit0-formatted n f m }

  -- ── Its opening ─────────────────────────────────────────────────────────────────────────────────────────────────

  small : number0 fresh-table ≤ last_number
  small = omega (arith, number0-formatted n f m)

  pub first_opening : (w : List ℕ) → length w ≡ n * page_size → opening w fresh-table ≡ done n fresh-table
  first_opening w h = opening-done n w fresh-table f m h format-whole (first_good format-first) small

  first-raised : FirstLeaf n (raise fresh-table)
  first-raised = first_alike (alike-set_number n fresh-table (number0 fresh-table + 1)) format-first

  pub first-safe : Safe (opened n (number0 fresh-table) (tree_of n fresh-table)) (raise fresh-table) (raise fresh-table)
      (Tells n (raise fresh-table))
  first-safe =
      opening-safe n fresh-table f m format-whole (first_good format-first) small
      (subst (Older n (raise fresh-table)) (sym (number0-formatted n f m)) (first_older first-raised))

  pub first-told : {k : ℕ} {state : Option ℕ} → Tells n (raise fresh-table) k state → state ≡ none
  first-told x = first-tells first-raised x
