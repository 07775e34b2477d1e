-- Written by one call and read by the other, a store is carried over whole. Assumes nothing.
use Prim.Native.Nat.{ℕ, ◌≤◌}
use native.Mathlib.Omega.{arith}
use mathlib.Core.Path.{◌≡◌, refl, sym, ap, ◌∙◌, subst}
use mathlib.Core.List.{List}
use borrow.Author.Tests.{le-leb}
use lib.Dec.{lit≤}
use lib.ListN.{length, take, drop}
use lib.Seq.{take_at}
use Rattle.rules.specs.Entry.{Cert}
use Rattle.rules.specs.Page.{over}
use Rattle.rules.specs.Walk.{walk_of}
use Rattle.rules.specs.Call.{Left}
use Rattle.rules.specs.History.{run, start}
use Rattle.rules.specs.declared.Session.{Session}
use Rattle.exchange.specs.Written.{file_of}
use Rattle.exchange.specs.ReadFile.{Read, read_file}
use Rattle.counts.specs.Tally.{everything}
use Rattle.write.specs.WriteFile.{WriteLeft, write_done, write_whole, write_walked, written_length, write_file}
use Rattle.reading.specs.Agreeing.{held, Passes, HistoriesAgree}
use Rattle.reading.proofs.HistoriesAgree.{histories_agree}
use Rattle.roundtrip.specs.RoundTrip.{file_in, FindsAll, ListingFinds, RoundTrip}
use Rattle.roundtrip.specs.Carried.{file_from, written, CarriedOver, WriterWrites, CallsCarry}
use Rattle.roundtrip.proofs.Held.{listing-finds}
use Rattle.roundtrip.proofs.Trip.{round_trip}

finds-all : (w t : List ℕ) (s : Session) → Passes w t s → FindsAll w s (walk_of s.n s.c everything w)
unfolding ListingFinds everything
finds-all w t s p = listing-finds w t s p 4294967295 (lit≤ tt)

whole_is : (s : Session) (w t f out : List ℕ) → length f ≤ length out → write_whole s w t f out ≡ write_done s w t f out
unfolding write_whole
whole_is s w t f out h = rw (write_whole, le-leb (length f) (length out) h)

write_is : (w t : List ℕ) (s : Session) → Passes w t s → (out : List ℕ) → length (file_in s w) ≤ length out
    → write_file w t s out ≡ write_done s (walk_of s.n s.c everything w).table t (file_in s w) out
unfolding write_file write_walked file_in
write_is w t s p out h =
    let v = finds-all w t s p in
    let u = (walk_of s.n s.c everything w).table in
    rw (write_file, p.lengths, p.fit, write_walked, v.whole)
    (ap (λ (cs : List Cert). write_whole s u t (file_of cs) out) v.all ∙ whole_is s u t (file_of (held s w)) out h)

over-begins : (a b : List ℕ) → take (length a) (over a b) ≡ a
unfolding over
over-begins a b = take_at a (drop (length a) b) (length a) refl

pub writer_writes : WriterWrites
unfolding WriterWrites write_done written_length
writer_writes w t s p out h =
    let e = write_is w t s p out h in
    record {
      answer = ap (λ (r : WriteLeft). r.answer) e;
      file = ap file_from e ∙ over-begins (file_in s w) out;
    }

pub calls_carry : CallsCarry
unfolding CallsCarry RoundTrip HistoriesAgree WriterWrites
calls_carry n w s l h t z out room p w' s' l' done =
    let m = run h (start w s) in
    let A = histories_agree n w s l h t z in
    let f = file_in m.session m.working in
    let q : file_from (written m out) ≡ f = (writer_writes m.working m.stable m.session A.passes out room).file in
    let into : List ℕ → Left Read = λ g. (read_file (start w' s').working (start w' s').stable (start w' s').session g).left in
    let same = round_trip n w s l h t z p w' s' l' (sym (ap (λ (g : List ℕ). (into g).answer) q) ∙ done) in
    let again : (o : List ℕ) → length f ≤ length o → file_from (write_file (into f).working (into f).stable (into f).session o) ≡ f
    = λ o k.
    (writer_writes (into f).working (into f).stable (into f).session same.passes o (omega (arith, k, ap (λ (g : List ℕ). length g) same.bytes))).file
    ∙ same.bytes in
    subst (λ (g : List ℕ). CarriedOver m g (into g)) (sym q) (record { same = same; again = again })
