-- Leaf after leaf of a range: what was found and what is left to climb to come to what the rules' walk gives, whatever is
-- asked for still, and whatever key a step is to look up to. Assumes nothing.
use Prim.Native.Nat.{ℕ, ◌+◌, ◌-◌, ◌≤◌, ◌<◌}
use native.Mathlib.Omega.{arith}
use mathlib.Core.Path.{◌≡◌, refl, sym, ap, ◌∙◌}
use mathlib.Core.Bool.{Bool, true, false}
use mathlib.Core.List.{List, [], ◌++◌}
use lib.Dec.{leb}
use lib.ListN.{length, take}
use borrow.Author.Tests.{leb-true, leb-false}
use Rattle.std.specs.Prelude.{Ok, Err}
use Rattle.rules.specs.Layout.{last_key}
use Rattle.rules.specs.Entry.{Cert, cut}
use Rattle.rules.specs.Page.{Page}
use Rattle.rules.specs.Table.{read}
use Rattle.rules.specs.Report.{nothing}
use Rattle.rules.specs.Walk.{Way, Walked, way_of, way_report, finds, stops, walk_of}
use Rattle.rules.specs.declared.Asked.{Asked}
use Rattle.rules.specs.declared.Report.{Report}
use Rattle.climbs.specs.Rest.{rest}
use Rattle.climbs.specs.After.{after}
use Rattle.climbs.specs.Ground.{Ground, Asks}
use Rattle.climbs.proofs.Climb.{climb_leaf, climb_damaged}
use Rattle.climbs.proofs.Ends.{after_more, rest-begins, rest-full, rest_ended}
use Rattle.leaves.specs.Cursors.{no_cursor, Kept, nexting, next_of}
use Rattle.enter.specs.declared.Above.{Above}
use Rattle.leaves.specs.declared.Leaf.{Leaf}
use Rattle.leaves.proofs.Loops.{kept-start, Reached, next-damaged, next-leaf}

-- what a walk has come to that met no damage
abbrev pub walked_to : List ℕ → List Cert → Report → Walked
walked_to t found report = record { table = t; whole = true; found = found; report = report }

-- the table as it came and as it is, what is asked for still, what was found, the cursor, and the report so far
pub record Climbing (n c : ℕ) (a : Asked) (o t : List ℕ) (ask : Asked) (found : List Cert) (x : Above) (z : Report) : Type 0 where
  pub comes : rest n c ask (walked_to t found z) ≡ walk_of n c a o
  pub ground : Ground n c t
  pub kept : Kept n t x
  pub low : ask.low ≤ ask.high
  pub high : ask.high ≤ last_key

-- the certificates of a leaf that are asked for
abbrev pub more : Asked → List ℕ → ℕ → List Cert → List Cert
more ask u child found = take (ask.room - length found) (cut ask.low ask.high (read u child).view.certs)

module _ {n c : ℕ} {a : Asked} {o : List ℕ} where
  pub climbing-begins : Ground n c o → a.low ≤ a.high → a.high ≤ last_key → (x : Above) → x ≡ no_cursor
      → (z : Report) → z ≡ nothing → Climbing n c a o o a [] x z
  climbing-begins g l h x e z q = record {
    comes = ap (λ (r : Report). rest n c a (walked_to o [] r)) q ∙ sym (rest-begins n c a o);
    ground = g;
    kept = kept-start n o x e;
    low = l;
    high = h;
  }

  module _ {t : List ℕ} {ask : Asked} {found : List Cert} {x : Above} {z : Report} (y : Climbing n c a o t ask found x z) where
    pub climbing-full : ask.room ≤ length found → walked_to t found z ≡ walk_of n c a o
    climbing-full h = sym (rest-full n c ask (walked_to t found z) h) ∙ y.comes

    -- where a walk does not end for want of room there is room
    pub climbing-room : ((walk_of n c a o).whole ≡ true → length (walk_of n c a o).found < ask.room) → length found < ask.room
    climbing-room h = go (leb ask.room (length found)) refl
      where
        go : (b : Bool) → leb ask.room (length found) ≡ b → length found < ask.room
        go true q =
            let f = climbing-full (leb-true ask.room (length found) q) in
            let l = h (sym (ap (λ (w : Walked). w.whole) f)) in
            absurd (omega (arith, l, ap (λ (w : Walked). length w.found) f, leb-true ask.room (length found) q))
        go false q = leb-false ask.room (length found) q

    module _ (room : length found < ask.room) where
      asks : Asks ask (walked_to t found z)
      asks = record { low = y.low; high = y.high; whole = refl; room = room }

      within : ask.low ≤ last_key
      within = omega (arith, y.low, y.high)

      module _ (upto : ℕ) (u : List ℕ) where
        -- what is reported with this step
        abbrev told : Report
        told = way_report n c ask.low t z

        pub climbing-damaged : (r : Report) → nexting u (Err r) ≡ next_of ask.low upto (way_of n c ask.low t) told
            → stops (walked_to t found r) u ≡ walk_of n c a o
        climbing-damaged r f =
            let w = next-damaged y.ground within upto z r f in
            ap (λ (q : Report). stops (walked_to t found q) u) w.1
            ∙ ap (stops (walked_to t found told)) (sym (ap (λ (v : Way). v.table) w.0))
            ∙ sym (climb_damaged y.ground asks (ap (λ (v : Way). v.steps) w.0))
            ∙ y.comes

        module _ (l : Leaf) (f : nexting u (Ok l) ≡ next_of ask.low upto (way_of n c ask.low t) told) where
          pub reached : Reached n c ask.low upto z t u l
          reached = next-leaf y.ground within upto z l f

          -- what is left to climb to behind the leaf
          pub passed : rest n c (after l.high ask) (walked_to u (found ++ more ask u l.child found) l.report) ≡ walk_of n c a o
          unfolding finds
          passed =
              let r = reached in
              ap (λ (q : Report). rest n c (after l.high ask) (walked_to u (found ++ more ask u l.child found) q)) r.report
              ∙ ap (λ (k : ℕ). rest n c (after k ask) (walked_to u (found ++ more ask u l.child found) told)) r.high
              ∙ ap (λ (p : Page). rest n c (after r.leaf.place.high ask) (finds ask p.view (walked_to t found told) u)) r.here
              ∙ ap (λ (v : Way). rest n c (after r.leaf.place.high ask) (finds ask r.leaf.page.view (walked_to t found told) v.table)) (sym r.way)
              ∙ sym (climb_leaf y.ground asks r.leaf r.above (ap (λ (v : Way). v.steps) r.way))
              ∙ y.comes

          pub climbing-ends : ask.high ≤ l.high → walked_to u (found ++ more ask u l.child found) l.report ≡ walk_of n c a o
          climbing-ends h = sym (rest_ended n c l.high ask (walked_to u (found ++ more ask u l.child found) l.report) h) ∙ passed

          module _ (h : l.high < ask.high) where
            pub climbing-on : Climbing n c a o u (record { low = l.high + 1; high = ask.high; room = ask.room }) (found ++ more ask u l.child found) l.behind l.report
            climbing-on = record {
              comes =
                  ap (λ (b : Asked). rest n c b (walked_to u (found ++ more ask u l.child found) l.report)) (sym (after_more l.high ask h)) ∙ passed;
              ground = reached.ground;
              kept = reached.kept;
              low = omega arith;
              high = y.high;
            }

            pub climbing-less : ask.high + 1 - (l.high + 1) < ask.high + 1 - ask.low
            climbing-less = omega (arith, reached.up, reached.high, y.low)
