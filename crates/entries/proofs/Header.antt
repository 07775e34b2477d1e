-- A header, and an entry, is its fields put one after the other.
-- Assumes nothing.
use mathlib.Core.Path.{◌≡◌}
use mathlib.Core.List.{List, ◌++◌}
use Prim.Native.Nat.{ℕ, ◌+◌}
use native.Mathlib.Nat.{add_assoc, add-zero}
use lib.Seq.{sets}
use Rattle.fields.specs.Field.{le, put_at}
use Rattle.rules.specs.Page.{cert_bytes, child_bytes}
use Rattle.rules.specs.Insert.{new_child}
use Rattle.entries.specs.Spot.{new_cert}
use Rattle.fields.proofs.Number.{length-le}
use Rattle.fields.proofs.Run.{sets_append}

pub header_at : (b : List ℕ) (at kind count birth built touched low high : ℕ)
    → sets b at (le 2 kind ++ (le 2 count ++ (le 4 birth ++ (le 4 built ++ (le 4 touched ++ (le 8 low ++ le 8 high))))))
    ≡ put_at (put_at (put_at (put_at (put_at (put_at (put_at b (at + 0) 2 kind) (at + 2) 2 count) (at + 4) 4 birth) (at + 8) 4 built) (at + 12) 4 touched) (at + 16) 8 low) (at + 24) 8 high
unfolding put_at
header_at b at kind count birth built touched low high = simp (sets_append, length-le, add_assoc, add-zero)

pub header-puts : (b : List ℕ) (kind count birth built touched low high : ℕ)
    → sets b 0 (le 2 kind ++ (le 2 count ++ (le 4 birth ++ (le 4 built ++ (le 4 touched ++ (le 8 low ++ le 8 high))))))
    ≡ put_at (put_at (put_at (put_at (put_at (put_at (put_at b 0 2 kind) 2 2 count) 4 4 birth) 8 4 built) 12 4 touched) 16 8 low) 24 8 high
header-puts b kind count birth built touched low high = header_at b 0 kind count birth built touched low high

pub cert_puts : (b : List ℕ) (at key x : ℕ) → sets b at (cert_bytes (new_cert key x)) ≡ put_at (put_at b at 8 key) (at + 8) 4 x
unfolding put_at cert_bytes new_cert
cert_puts b at key x = simp (sets_append, length-le)

pub child-puts : (b : List ℕ) (at key child previous birth : ℕ)
    → sets b at (child_bytes (new_child birth key child previous))
    ≡ put_at (put_at (put_at (put_at b at 8 key) (at + 8) 2 child) (at + 10) 2 previous) (at + 12) 4 birth
unfolding put_at child_bytes new_child
child-puts b at key child previous birth = simp (sets_append, length-le, add_assoc)
