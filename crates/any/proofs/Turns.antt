-- Has-any goes from leaf to leaf while nothing is found: what is left to do is the rules' walk behind the last leaf, with the
-- report of the ways so far. Assumes nothing.
use Prim.Native.Nat.{ℕ, ◌≤◌, ◌<◌}
use native.Mathlib.Omega.{arith}
use mathlib.Core.Path.{◌≡◌, refl, sym, ap, ◌∙◌, subst}
use mathlib.Core.Bool.{Bool, true, false}
use mathlib.Core.List.{List, [], ◌∷◌}
use lib.ListN.{length, take}
use Rattle.std.specs.Prelude.{Option, Some, None, Result, Ok, Err}
use Rattle.rules.specs.Layout.{leaf_room, last_key}
use Rattle.rules.specs.Entry.{Cert, keys, cut}
use Rattle.rules.specs.Page.{Page}
use Rattle.rules.specs.Table.{page_at, read}
use Rattle.rules.specs.Walk.{stops, walk_of}
use Rattle.rules.specs.Call.{any_yes}
use Rattle.rules.specs.HasAny.{any_in}
use Rattle.rules.specs.Answer.{Any}
use Rattle.rules.specs.declared.AnyError.{AnyError}
use Rattle.rules.specs.declared.Report.{Report}
use Rattle.rules.proofs.Entries.Rises.{length-keys}
use Rattle.entries.specs.Spot.{spot_of}
use Rattle.entries.proofs.KeysIn.{spot-bound}
use Rattle.climbs.specs.Ground.{Ground}
use Rattle.leaves.specs.Walks.{walk_over, stepping, step_of, keys_left}
use Rattle.leaves.specs.declared.Leaf.{Leaf}
use Rattle.leaves.specs.declared.Leaves.{Leaves}
use Rattle.leaves.proofs.Loops.{Reached}
use Rattle.leaves.proofs.Walks.{Walking, walking-begins, walking-full, walking-done, walking-damaged, walking-reached, walking-on, walking-less}
use Rattle.any.specs.Anys.{first, holds_in, answer_of, seeing, seen}
use Rattle.any.proofs.Leaf.{holds_before, holds_read, holds_yes, holds_no}

-- ── Room for one ────────────────────────────────────────────────────────────────────────────────────────────────

abbrev no_cert_lem : Cert
no_cert_lem = record { key = 0; value = 0 }

any-one : (xs : List Cert) → any_in (take 1 xs) ≡ any_in xs
unfolding any_in
any-one [] = refl
any-one (x ∷ xs) = refl

found-one : (xs : List Cert) → any_in xs ≡ Ok true → 1 ≤ length xs
unfolding any_in any_yes
found-one [] h = absurd (omega (arith, ap any_yes h))
found-one (x ∷ xs) h = omega arith

found_none : (xs : List Cert) → any_in xs ≡ Ok false → xs ≡ []
unfolding any_in any_yes
found_none [] h = refl
found_none (x ∷ xs) h = absurd (omega (arith, ap any_yes h))

-- ── The turns ───────────────────────────────────────────────────────────────────────────────────────────────────

-- nothing is found yet
pub record Going (n c low high : ℕ) (t₀ t : List ℕ) (w : Leaves) : Type 0 where
  pub walking : Walking n c (first low high) t₀ t [] w

pub goes_first : {n c low high : ℕ} {t : List ℕ} {w : Leaves} → Ground n c t → low ≤ high → high ≤ last_key
    → w ≡ walk_over low high → Going n c low high t t w
goes_first {w = w} g h m q = record { walking = walking-begins g h m w q }

module _ {n c low high : ℕ} {t₀ t : List ℕ} {w : Leaves} (x : Going n c low high t₀ t w)
    {u : List ℕ} {r : Option (Result Leaf Report)} {v : Leaves} (f : stepping u r v ≡ step_of n c t w) where
  -- the range has ended
  pub ends_no : r ≡ None → seeing u (record { answer = Ok false; report = v.report }) ≡ seen (walk_of n c (first low high) t₀)
  unfolding answer_of any_in
  ends_no e = ap seen (walking-done x.walking f e)

  -- damage ends the walk
  pub ends-damaged : (y : Report) → r ≡ Some (Err y)
      → seeing u (record { answer = Err AnyError.Damaged; report = v.report }) ≡ seen (walk_of n c (first low high) t₀)
  unfolding answer_of stops
  ends-damaged y e = ap seen (walking-damaged x.walking f (λ k q. omega arith) y e)

  -- ── A leaf ────────────────────────────────────────────────────────────────────────────────────────────────────

  module _ (l : Leaf) (e : r ≡ Some (Ok l)) where
    pub reached : Reached n c l.from w.high w.report t u l
    reached = walking-reached x.walking f (λ k q. omega arith) l e

    abbrev certs : List Cert
    certs = reached.leaf.page.view.certs

    spot-within : l.spot ≤ length (read u l.child).view.certs
    spot-within =
        omega (arith, reached.spot, spot-bound w.high (keys certs), length-keys certs, ap (λ (p : Page). length p.view.certs) reached.here)

    pub spot-room : l.spot ≤ leaf_room
    spot-room = omega (arith, spot-within, reached.holds.room)

    further : Walking n c (first low high) t₀ u (take 1 (cut l.from high certs)) v
    further =
        subst (λ (p : Page). Walking n c (first low high) t₀ u (take 1 (cut l.from high p.view.certs)) v) reached.here
        (walking-on x.walking f (λ k q. omega arith) l e)

    -- each turn leaves fewer keys
    pub turns_less : keys_left v < keys_left w
    turns_less = walking-less x.walking f (λ k q. omega arith) l e

    module _ {b : Bool} (q : b ≡ holds_in l.from l.spot (page_at u l.child)) where
      held : b ≡ holds_before l.from l.spot certs no_cert_lem
      held =
          q
          ∙ (holds_read l.from l.spot u l.child no_cert_lem reached.holds spot-within
          ∙ ap (λ (p : Page). holds_before l.from l.spot p.view.certs no_cert_lem) reached.here)

      spot-is : l.spot ≡ spot_of high (keys certs)
      spot-is = reached.spot ∙ ap (λ (i : ℕ). spot_of i (keys certs)) x.walking.high

      spot-held : {a : Bool} → b ≡ a → holds_before l.from (spot_of high (keys certs)) certs no_cert_lem ≡ a
      spot-held h = ap (λ (i : ℕ). holds_before l.from i certs no_cert_lem) (sym spot-is) ∙ (sym held ∙ h)

      -- the leaf holds a certificate of the range
      pub ends_yes : b ≡ true → seeing u (record { answer = Ok true; report = v.report }) ≡ seen (walk_of n c (first low high) t₀)
      unfolding answer_of
      ends_yes h =
          let y = any-one (cut l.from high certs) ∙ holds_yes l.from high no_cert_lem certs reached.fits.sound.certs_rise (spot-held h) in
          ap (λ (a : Any). seeing u (record { answer = a; report = v.report })) (sym y)
          ∙ ap seen (walking-full further (found-one (take 1 (cut l.from high certs)) y))

      pub goes-next : b ≡ false → Going n c low high t₀ u v
      goes-next h =
          let y = any-one (cut l.from high certs) ∙ holds_no l.from high no_cert_lem certs reached.fits.sound.certs_rise (spot-held h) in
          record { walking = subst (λ (xs : List Cert). Walking n c (first low high) t₀ u xs v) (found_none (take 1 (cut l.from high certs)) y) further }
