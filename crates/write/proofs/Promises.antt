-- What the rule comes to, for every table. Assumes nothing.
use Rattle.std.specs.Prelude.{Ok, Err}
use Prim.Native.Nat.{ℕ, min, ◌^◌, ◌<◌}
use native.Mathlib.Omega.{arith}
use mathlib.Core.Path.{◌≡◌, refl, sym, ap, ◌∙◌}
use mathlib.Core.Bool.{Bool, true, false}
use mathlib.Core.List.{List}
use lib.Dec.{leb, lit<}
use lib.ListN.{length, take, drop}
use lib.Seq.{take_at}
use borrow.Author.Tests.{le-leb, lt-leb}
use Rattle.fields.specs.Field.{Bytes}
use Rattle.rules.specs.Layout.{last_key}
use Rattle.rules.specs.Page.{over}
use Rattle.rules.specs.Table.{fit0}
use Rattle.rules.specs.Call.{lengths_for}
use Rattle.rules.specs.Walk.{Walked, walk_of}
use Rattle.rules.specs.Reports.{once_tested, list_reported}
use Rattle.rules.specs.List.{up_from, list_done, list_refused, list_from, list}
use Rattle.rules.specs.declared.Session.{Session}
use Rattle.rules.proofs.Bytes.Lengths.{lengths_for_true}
use Rattle.exchange.specs.Written.{file_of}
use Rattle.exchange.specs.Judged.{judged}
use Rattle.exchange.proofs.Exact.{exact}
use Rattle.counts.specs.Tally.{everything}
use Rattle.write.specs.WriteFile.{Written, write_done, write_refused, write_whole, write_walked, write_file, write_reported, write_error_no, written_no, written_length}
use Rattle.write.specs.declared.WriteError.{WriteError}
use Rattle.write.specs.Promises.{AsListed, Answers, Promises}
use Rattle.write.proofs.Rooms.{room-same}
use Rattle.write.proofs.Listing.{listing-set}

-- ── As a listing ────────────────────────────────────────────────────────────────────────────────────────────────

-- session and tables, once the walk is done
record Leaves (s s' : Session) (w w' t t' : List ℕ) : Type 0 where
  session : s ≡ s'
  working : w ≡ w'
  stable : t ≡ t'

module _ (s : Session) (t : List ℕ) (v : Walked) (out : List ℕ) where
  write_leaves : let r = write_walked s t v out in Leaves r.session s r.working v.table r.stable t
  unfolding write_walked write_whole write_done write_refused
  write_leaves = go v.whole refl (leb (length (file_of v.found)) (length out)) refl
    where
      go : (a : Bool) → v.whole ≡ a → (b : Bool) → leb (length (file_of v.found)) (length out) ≡ b
          → let r = write_walked s t v out in Leaves r.session s r.working v.table r.stable t
      go false p b q = rw (write_walked, p) (record { session = refl; working = refl; stable = refl })
      go true p true q = rw (write_walked, p, write_whole, q) (record { session = refl; working = refl; stable = refl })
      go true p false q = rw (write_walked, p, write_whole, q) (record { session = refl; working = refl; stable = refl })

module _ (w t : List ℕ) (s : Session) (out ks xs : List ℕ) (f : 37240 < length ks) (g : 37240 < length xs) where
  abbrev walked : Walked
  walked = walk_of s.n s.c everything w

  least : 37240 < min (length ks) (length xs)
  least = omega (arith, f, g)

  same-walk : walk_of s.n s.c (up_from 0 ks xs) w ≡ walked
  unfolding up_from everything
  same-walk = room-same 0 last_key (min (length ks) (length xs)) 4294967295 s.n s.c w least (lit< tt)

  list-leaves : let r = list_from s w t 0 ks xs in Leaves r.session s r.working walked.table r.stable t
  unfolding list_from list_done list_refused
  list-leaves =
      let e = ap (λ (v : Walked). v.table) same-walk in
      go (walk_of s.n s.c (up_from 0 ks xs) w).whole refl e
    where
      go : (a : Bool) → (walk_of s.n s.c (up_from 0 ks xs) w).whole ≡ a → (walk_of s.n s.c (up_from 0 ks xs) w).table ≡ walked.table
          → let r = list_from s w t 0 ks xs in Leaves r.session s r.working walked.table r.stable t
      go true p e = rw (list_from, p) (record { session = refl; working = e; stable = refl })
      go false p e = rw (list_from, p) (record { session = refl; working = e; stable = refl })

  listed : AsListed w t s out ks xs
  unfolding write_file list write_refused list_refused write_reported list_reported
  listed =
      let told = ap (λ (v : Walked). once_tested s w t true v.report) (sym same-walk) in
      go (lengths_for s w t) refl (fit0 s.n w) refl told
    where
      go : (a : Bool) → lengths_for s w t ≡ a → (b : Bool) → fit0 s.n w ≡ b
          → once_tested s w t true walked.report ≡ once_tested s w t true (walk_of s.n s.c (up_from 0 ks xs) w).report → AsListed w t s out ks xs
      go false p b q e = record { session = rw (write_file, list, p); working = rw (write_file, list, p); stable = rw (write_file, list, p); report = e }
      go true p false q e = record { session = rw (write_file, list, p, q); working = rw (write_file, list, p, q); stable = rw (write_file, list, p, q); report = e }
      go true p true q e =
          let x = write_leaves s t walked out in
          let y = list-leaves in
          record {
            session = rw (write_file, list, p, q) (x.session ∙ sym y.session);
            working = rw (write_file, list, p, q) (x.working ∙ sym y.working);
            stable = rw (write_file, list, p, q) (x.stable ∙ sym y.stable);
            report = e;
          }

-- ── Accepted ────────────────────────────────────────────────────────────────────────────────────────────────────

refused_not : {a : Written} {k : ℕ} → (written_length a ≡ 0) → (written_no a ≡ 0 → ⊥) → a ≡ Ok k → ⊥
unfolding write_error_no
refused_not l n e = n (ap written_no e)

module _ (w t : List ℕ) (s : Session) (out : List ℕ) where
  abbrev found : List ℕ
  found = file_of (walk_of s.n s.c everything w).found

  -- a call that is done has written the file of what the walk found
  record Done (k : ℕ) : Type 0 where
    lengths : lengths_for s w t ≡ true
    fit : fit0 s.n w ≡ true
    long : length found ≡ k
    out-is : (write_file w t s out).out ≡ over found out

  done : (k : ℕ) → (write_file w t s out).answer ≡ Ok k → Done k
  unfolding write_file write_refused write_walked write_whole write_done write_error_no written_length
  done k h = go (lengths_for s w t) refl (fit0 s.n w) refl (walk_of s.n s.c everything w).whole refl (leb (length found) (length out)) refl
    where
      go : (a : Bool) → lengths_for s w t ≡ a → (b : Bool) → fit0 s.n w ≡ b → (d : Bool) → (walk_of s.n s.c everything w).whole ≡ d
          → (e : Bool) → leb (length found) (length out) ≡ e → Done k
      go false p b q d r e u = absurd (refused_not refl (λ z. omega (arith, z)) (rw (write_file, p) at h))
      go true p false q d r e u = absurd (refused_not refl (λ z. omega (arith, z)) (rw (write_file, p, q) at h))
      go true p true q false r e u = absurd (refused_not refl (λ z. omega (arith, z)) (rw (write_file, p, q, write_walked, r) at h))
      go true p true q true r false u = absurd (refused_not refl (λ z. omega (arith, z)) (rw (write_file, p, q, write_walked, r, write_whole, u) at h))
      go true p true q true r true u = record {
        lengths = p;
        fit = q;
        long = ap written_length (rw (write_file, p, q, write_walked, r, write_whole, u) at h);
        out-is = rw (write_file, p, q, write_walked, r, write_whole, u);
      }

  accepts : (k : ℕ) → Bytes w → s.c < 256 ^ 4 → (write_file w t s out).answer ≡ Ok k → judged (take k (write_file w t s out).out) ≡ Ok tt
  unfolding over
  accepts k bytes narrow h =
      let d = done k h in
      let z = lengths_for_true s w t d.lengths in
      let set = listing-set {n = s.n} {c = s.c} {t = w} (record { long = z.working; bytes = bytes; fit = d.fit; counter = narrow }) in
      let cs = (walk_of s.n s.c everything w).found in
      ap judged (ap (take k) d.out-is ∙ take_at found (drop (length found) out) k d.long) ∙ exact.written cs set

  -- ── Refused ─────────────────────────────────────────────────────────────────────────────────────────────────────

  stays : (written_no (write_file w t s out).answer ≡ 0 → ⊥) → (write_file w t s out).out ≡ out
  unfolding write_file write_refused write_walked write_whole write_done write_error_no
  stays h = go (lengths_for s w t) refl (fit0 s.n w) refl (walk_of s.n s.c everything w).whole refl (leb (length found) (length out)) refl
    where
      go : (a : Bool) → lengths_for s w t ≡ a → (b : Bool) → fit0 s.n w ≡ b → (d : Bool) → (walk_of s.n s.c everything w).whole ≡ d
          → (e : Bool) → leb (length found) (length out) ≡ e → (write_file w t s out).out ≡ out
      go false p b q d r e u = rw (write_file, p)
      go true p false q d r e u = rw (write_file, p, q)
      go true p true q false r e u = rw (write_file, p, q, write_walked, r)
      go true p true q true r false u = rw (write_file, p, q, write_walked, r, write_whole, u)
      go true p true q true r true u = absurd (h (rw (write_file, p, q, write_walked, r, write_whole, u)))

pub write_session : (w t : List ℕ) (s : Session) (out : List ℕ) → (write_file w t s out).session ≡ s
unfolding write_file write_refused
write_session w t s out = go (lengths_for s w t) refl (fit0 s.n w) refl
  where
    go : (a : Bool) → lengths_for s w t ≡ a → (b : Bool) → fit0 s.n w ≡ b → (write_file w t s out).session ≡ s
    go false p b q = rw (write_file, p)
    go true p false q = rw (write_file, p, q)
    go true p true q = rw (write_file, p, q) (write_leaves s t (walk_of s.n s.c everything w) out).session

no_length : (a : Written) → (written_no a ≡ 0 → ⊥) → written_length a ≡ 0
unfolding write_error_no written_length
no_length (Ok k) h = absurd (h refl)
no_length (Err WriteError.Length) h = refl
no_length (Err WriteError.Damaged) h = refl
no_length (Err WriteError.Short) h = refl

answers-are : (w t : List ℕ) (s : Session) (out : List ℕ) → Answers w t s out
unfolding write_file write_refused write_walked write_whole write_done
answers-are w t s out =
    let file = file_of (walk_of s.n s.c everything w).found in
    record {
      length_when = λ p. rw (write_file, p);
      zero_when = λ p q. rw (write_file, p, q);
      damaged_when = λ p q r. rw (write_file, p, q, write_walked, r);
      short_when = λ p q r l. rw (write_file, p, q, write_walked, r, write_whole, lt-leb (length file) (length out) l);
      done_when = λ p q r l. rw (write_file, p, q, write_walked, r, write_whole, le-leb (length file) (length out) l);
    }

pub promises : Promises
promises = record { answers = answers-are; as_listed = listed; accepted = accepts; session = write_session; untouched = stays; no_length = no_length }
