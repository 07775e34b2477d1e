-- Certificates copied into the two lists one by one. Assumes nothing.
use mathlib.Core.Path.{◌≡◌, refl, sym, ap, ◌∙◌}
use mathlib.Core.List.{List, [], ◌∷◌, ◌++◌}
use Prim.Native.Nat.{ℕ, zero, suc, ◌+◌, ◌*◌, ◌≤◌, ◌<◌}
use native.Mathlib.Nat.{mul-add, add_assoc}
use native.Mathlib.Numerals.{add-one}
use native.Mathlib.Omega.{arith}
use lib.ListN.{length, take, drop, get_or, set, length-append}
use lib.Seq.{paste, paste-suc, take-length, drop-drop}
use Rattle.rules.specs.Layout.{leaf_header, cert_size}
use Rattle.rules.specs.Entry.{Cert, keys}
use Rattle.rules.specs.Page.{cert_in, over}
use Rattle.rules.specs.List.{records_of}
use Rattle.rules.proofs.Bytes.Each.{length-read_each, read_each-at}
use Rattle.rules.proofs.Bytes.Over.{take-over, drop-over-behind}
use Rattle.rules.proofs.Entries.Rises.{length-keys, get_d_keys, keys-append}
use Rattle.head.specs.Head.{cert_at}
use Rattle.rules.specs.declared.Asked.{Asked}
use Rattle.fill.specs.Fills.{Lists, listing, lists_of, certs_from, listed, Roomy}

-- ── The records of certificates ─────────────────────────────────────────────────────────────────────────────────

length-records : (xs : List Cert) → length (records_of xs) ≡ length xs
unfolding records_of
length-records [] = refl
length-records (x ∷ xs) = ap suc (length-records xs)

get_d_records : (xs : List Cert) (i : ℕ) (d : Cert) → get_or (records_of xs) i d.value ≡ (get_or xs i d).value
unfolding records_of
get_d_records [] i d = refl
get_d_records (x ∷ xs) zero d = refl
get_d_records (x ∷ xs) (suc i) d = get_d_records xs i d

records-append : (xs ys : List Cert) → records_of (xs ++ ys) ≡ records_of xs ++ records_of ys
unfolding records_of
records-append [] ys = refl
records-append (x ∷ xs) ys = ap (λ (zs : List ℕ). x.value ∷ zs) (records-append xs ys)

-- ── The loop ────────────────────────────────────────────────────────────────────────────────────────────────────

nothing : Cert
nothing = record { key = 0; value = 0 }

-- one store more
copy-turn : (d e new : List ℕ) (at j v : ℕ) → e ≡ paste d at new j → at + j < length d → j < length new → v ≡ get_or new j 0
    → set e (at + j) v ≡ paste d at new (j + 1)
copy-turn d e new at j v p l m q = rw (p, q, add-one j) (paste-suc d at new j 0 l m)

module _ (b : List ℕ) (first many : ℕ) where
  length_from : length (certs_from b first many) ≡ many
  unfolding certs_from
  length_from = length-read_each cert_in cert_size many (drop (leaf_header + cert_size * first) b)

  cert_from : (j : ℕ) → j < many → get_or (certs_from b first many) j nothing ≡ cert_at b (first + j)
  unfolding certs_from cert_at
  cert_from j h =
      rw (read_each-at cert_in cert_size many (drop (leaf_header + cert_size * first) b) j nothing h, drop-drop, mul-add, add_assoc)

  module _ (d e : List ℕ) (at j v : ℕ) (h : j < many) (l : at + many ≤ length d) where
    pub key-turn : e ≡ paste d at (keys (certs_from b first many)) j → v ≡ (cert_at b (first + j)).key
        → set e (at + j) v ≡ paste d at (keys (certs_from b first many)) (j + 1)
    unfolding nothing
    key-turn p q =
        copy-turn d e (keys (certs_from b first many)) at j v p (omega arith) (omega (arith, length-keys (certs_from b first many), length_from))
        (q ∙ sym (get_d_keys (certs_from b first many) j nothing ∙ ap (λ (x : Cert). x.key) (cert_from j h)))

    pub record_turn : e ≡ paste d at (records_of (certs_from b first many)) j → v ≡ (cert_at b (first + j)).value
        → set e (at + j) v ≡ paste d at (records_of (certs_from b first many)) (j + 1)
    unfolding nothing
    record_turn p q =
        copy-turn d e (records_of (certs_from b first many)) at j v p (omega arith) (omega (arith, length-records (certs_from b first many), length_from))
        (q ∙ sym (get_d_records (certs_from b first many) j nothing ∙ ap (λ (x : Cert). x.value) (cert_from j h)))

  pub copied : (filled : ℕ) (ks xs us vs : List ℕ) (j : ℕ) → j ≡ many → us ≡ paste ks filled (keys (certs_from b first many)) j
      → vs ≡ paste xs filled (records_of (certs_from b first many)) j
      → listing (filled + many) us vs ≡ listed (certs_from b first many) filled ks xs
  unfolding listed
  copied filled ks xs us vs j i p q = rw (p, q, i, length_from)

-- ── A page's certificates ───────────────────────────────────────────────────────────────────────────────────────

same_lists : {m n : ℕ} {us vs ks xs : List ℕ} → m ≡ n → us ≡ ks → vs ≡ xs → listing m us vs ≡ listing n ks xs
same_lists p q r = cc

-- nothing was found
pub lists-none : (ks xs : List ℕ) → listing 0 ks xs ≡ lists_of ks xs []
unfolding lists_of over keys records_of
lists-none ks xs = refl

pub lists-count : (ks xs : List ℕ) (found : List Cert) (filled : ℕ) (us vs : List ℕ) → listing filled us vs ≡ lists_of ks xs found → filled ≡ length found
unfolding lists_of
lists-count ks xs found filled us vs e = ap (λ (l : Lists). l.filled) e

-- new ones behind those that stand over the start of a list stand over it with them
paste-over : (found new old : List ℕ) → paste (over found old) (length found) new (length new) ≡ over (found ++ new) old
unfolding over
paste-over found new old =
    rw (length-append found new)
    (ap (λ (l : List ℕ). l ++ take (length new) new ++ drop (length found + length new) (over found old)) (take-over found old)
    ∙ (ap (λ (l : List ℕ). found ++ l ++ drop (length found + length new) (over found old)) (take-length new)
    ∙ ap (λ (l : List ℕ). found ++ new ++ l) (drop-over-behind found old (length found + length new) (omega arith))))

stands-over : (found new old d : List ℕ) (at n : ℕ) → d ≡ over found old → at ≡ length found → n ≡ length new
    → paste d at new n ≡ over (found ++ new) old
stands-over found new old d at n p q r = rw (p, q, r) (paste-over found new old)

pub lists-more : (ks xs : List ℕ) (filled : ℕ) (us vs : List ℕ) (found new : List Cert) → listing filled us vs ≡ lists_of ks xs found
    → listed new filled us vs ≡ lists_of ks xs (found ++ new)
unfolding listed lists_of
lists-more ks xs filled us vs found new e =
    same_lists (ap (λ (k : ℕ). k + length new) count ∙ sym (length-append found new)) first second
  where
    count : filled ≡ length found
    count = ap (λ (l : Lists). l.filled) e

    first : paste us filled (keys new) (length new) ≡ over (keys (found ++ new)) ks
    first =
        stands-over (keys found) (keys new) ks us filled (length new) (ap (λ (l : Lists). l.keys) e) (count ∙ sym (length-keys found)) (sym (length-keys new))
        ∙ ap (λ (l : List ℕ). over l ks) (sym (keys-append found new))

    second : paste vs filled (records_of new) (length new) ≡ over (records_of (found ++ new)) xs
    second =
        stands-over (records_of found) (records_of new) xs vs filled (length new) (ap (λ (l : Lists). l.records) e) (count ∙ sym (length-records found)) (sym (length-records new))
        ∙ ap (λ (l : List ℕ). over l xs) (sym (records-append found new))

pub roomy-kept : {a : Asked} {us vs ms ns : List ℕ} → Roomy a us vs → length ms ≡ length us → length ns ≡ length vs → Roomy a ms ns
roomy-kept r p q = record { keys = omega (arith, r.keys, p); records = omega (arith, r.records, q) }
