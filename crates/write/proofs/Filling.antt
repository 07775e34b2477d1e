-- The walk that writes: what was put and what is left to climb to come to what the rules' walk finds. Assumes nothing.
use Prim.Native.Nat.{ℕ, ◌-◌, ◌≤◌, ◌<◌}
use native.Mathlib.Omega.{arith}
use mathlib.Core.Path.{◌≡◌, refl, sym, ap, subst, ◌∙◌}
use mathlib.Core.Bool.{Bool, true, false}
use mathlib.Core.List.{List, [], ◌++◌}
use lib.Dec.{leb}
use lib.ListN.{length, length-append, take, drop}
use lib.Seq.{take_all, length-take-le}
use borrow.Author.Tests.{leb-true, leb-false}
use Rattle.std.specs.Prelude.{Option, Some, None, Result, Ok, Err}
use Rattle.rules.specs.Layout.{leaf_header, cert_size, last_key}
use Rattle.rules.specs.Entry.{Cert, cut}
use Rattle.rules.specs.Page.{read_each, cert_in}
use Rattle.rules.specs.Table.{page_at, read}
use Rattle.rules.specs.Walk.{Walked, stops, walk_of}
use Rattle.rules.specs.declared.Asked.{Asked}
use Rattle.rules.specs.declared.Report.{Report}
use Rattle.rules.proofs.Entries.Tests.{not_both}
use Rattle.climbs.specs.Ground.{Ground}
use Rattle.leaves.specs.Walks.{walk_over, stepping, step_of, keys_left}
use Rattle.leaves.specs.declared.Leaf.{Leaf}
use Rattle.leaves.specs.declared.Leaves.{Leaves}
use Rattle.leaves.proofs.Loops.{Reached}
use Rattle.leaves.proofs.Ranges.{walked_to}
use Rattle.leaves.proofs.Walks.{left_of, Walking, more, walking-begins, walking-room, walking-done, walking-damaged, walking-reached, walking-ends, walking-on, walking-less}
use Rattle.fill.specs.Fills.{HasRoom, certs_from}
use Rattle.fill.proofs.Fills.{reached-certs}
use Rattle.counts.specs.Tally.{no_tally, counted_all, Few}
use Rattle.counts.specs.declared.Tally.{Tally}
use Rattle.counts.proofs.Tallies.{few-none, few-all, all_append, all-grows}
use Rattle.sections.specs.Puts.{Put, putting, put_all, Lies}
use Rattle.write.specs.Calls.{wrote, wrote_in}
use Rattle.sections.specs.declared.Starts.{Starts}
use Rattle.sections.proofs.Puts.{lies_fewer, put-append, put-tally}
use Rattle.write.proofs.Extends.{Extends, rest_more}

-- a part that is shorter than it might be is the whole
take_short : (k : ℕ) (xs : List Cert) → length (take k xs) < k → take k xs ≡ xs
take_short k xs h = go (leb (length xs) k) refl
  where
    go : (b : Bool) → leb (length xs) k ≡ b → take k xs ≡ xs
    go true e = take_all k xs (leb-true (length xs) k e)
    go false e = absurd (omega (arith, leb-false (length xs) k e, length-take-le k xs (omega (arith, leb-false (length xs) k e))))

-- what was found so far is put, and the rest lies ahead
pub record Filling (n c : ℕ) (a : Asked) (s : Starts) (o out₀ t : List ℕ) (w : Leaves) (tally : Tally) (out : List ℕ) : Type 0 where
  pub found : List Cert
  pub walking : Walking n c a o t found w
  pub puts : putting tally out ≡ put_all s no_tally found out₀

module _ {n c : ℕ} {a : Asked} {s : Starts} {o out₀ : List ℕ} where
  pub filling-begins : Ground n c o → a.low ≤ a.high → a.high ≤ last_key → (w : Leaves) → w ≡ walk_over a.low a.high → (k : Tally) → k ≡ no_tally
      → Filling n c a s o out₀ o w k out₀
  unfolding put_all
  filling-begins g l h w e k q = record {
    found = [];
    walking = walking-begins g l h w e;
    puts = ap (λ (d : Tally). putting d out₀) q;
  }

  module _ {t : List ℕ} {w : Leaves} {tally : Tally} {out : List ℕ} (y : Filling n c a s o out₀ t w tally out) where
    tally_is : tally ≡ counted_all no_tally y.found
    tally_is = ap (λ (p : Put). p.tally) y.puts ∙ put-tally s no_tally y.found out₀

    pub filling-few : Few tally
    filling-few = subst Few (sym tally_is) (few-all no_tally y.found few-none)

    module _ (has : HasRoom a (walk_of n c a o)) (whole : (walk_of n c a o).whole ≡ true)
        {u : List ℕ} {r : Option (Result Leaf Report)} {v : Leaves} (f : stepping u r v ≡ step_of n c t w) where
      room : length y.found < a.room
      room = walking-room y.walking has

      -- the range has ended
      pub filling-done : r ≡ None → wrote u out v.report ≡ wrote_in s out₀ (walk_of n c a o)
      unfolding wrote_in
      filling-done e =
          ap (λ (p : Put). wrote u p.out v.report) y.puts
          ∙ ap (wrote_in s out₀) (walking-done y.walking f e)

      -- a walk that ends whole meets no damaged place
      pub filling-damaged : (x : Report) → r ≡ Some (Err x) → ⊥
      unfolding stops
      filling-damaged x e = not_both whole (sym (ap (λ (p : Walked). p.whole) (walking-damaged y.walking f (λ k q. room) x e)))

      module _ (l : Leaf) (e : r ≡ Some (Ok l)) where
        pub filling-reached : Reached n c l.from w.high w.report t u l
        filling-reached = walking-reached y.walking f (λ k q. room) l e

        -- the leaf's certificates from the key on
        abbrev shown : List Cert
        shown = cut l.from a.high (read_each cert_in cert_size l.count (drop leaf_header (page_at u l.child)))

        abbrev added : List Cert
        added = more a u l y.found

        further : Walking n c a o u (y.found ++ added) v
        further = walking-on y.walking f (λ k q. room) l e

        extends : Extends 37240 (y.found ++ added) (walk_of n c a o).found
        extends =
            subst (λ (p : Walked). Extends 37240 (y.found ++ added) p.found) further.comes
            (rest_more n c (left_of v.key a) (walked_to u (y.found ++ added) v.report))

        short : length added < a.room - length y.found
        short =
            let e = extends in
            omega (arith, has whole, ap length e.is, length-append (y.found ++ added) e.more, length-append y.found added, room)

        added_is : added ≡ shown
        unfolding certs_from
        added_is =
            take_short (a.room - length y.found) (cut l.from a.high (read u l.child).view.certs) short
            ∙ ap (cut l.from a.high) (sym (reached-certs filling-reached))

        pub filling-lies : {long : ℕ} → Lies s (counted_all no_tally (walk_of n c a o).found) long → Lies s (counted_all tally shown) long
        filling-lies {long} lies =
            let e = extends in
            let to : counted_all no_tally (y.found ++ added) ≡ counted_all tally shown
            = all_append no_tally y.found added
            ∙ ap (λ (d : Tally). counted_all d added) (sym tally_is)
            ∙ ap (counted_all tally) added_is in
            let up : counted_all no_tally (walk_of n c a o).found ≡ counted_all (counted_all no_tally (y.found ++ added)) e.more
            = ap (counted_all no_tally) e.is ∙ all_append no_tally (y.found ++ added) e.more in
            subst (λ (d : Tally). Lies s d long) to
            (lies_fewer (all-grows (counted_all no_tally (y.found ++ added)) e.more) (subst (λ (d : Tally). Lies s d long) up lies))

        module _ (d : Tally) (next : List ℕ) (g : putting d next ≡ put_all s tally shown out) where
          now : putting d next ≡ put_all s no_tally (y.found ++ added) out₀
          now =
              g
              ∙ ap (λ (xs : List Cert). put_all s tally xs out) (sym added_is)
              ∙ ap (λ (p : Put). put_all s p.tally added p.out) y.puts
              ∙ sym (put-append s no_tally y.found added out₀)

          -- the leaf at the end of the range is the last
          pub filling-ends : a.high ≤ l.high → wrote u next l.report ≡ wrote_in s out₀ (walk_of n c a o)
          unfolding wrote_in
          filling-ends h =
              ap (λ (p : Put). wrote u p.out l.report) now
              ∙ ap (wrote_in s out₀) (walking-ends y.walking f (λ k q. room) l e h)

          pub filling_on : Filling n c a s o out₀ u v d next
          filling_on = record { found = y.found ++ added; walking = further; puts = now }

        pub filling_less : keys_left v < keys_left w
        filling_less = walking-less y.walking f (λ k q. room) l e
