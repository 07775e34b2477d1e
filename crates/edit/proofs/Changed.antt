-- What the bytes of a page changed where it stands are: its entries put over the old ones, its count and touched set.
-- Assumes nothing.
use mathlib.Core.Path.{◌≡◌, refl, sym, ap, ◌∙◌}
use mathlib.Core.List.{List, ◌∷◌, ◌++◌, append_assoc}
use Prim.Native.Nat.{ℕ, ◌+◌, ◌-◌, ◌*◌, ◌≤◌, ◌<◌}
use native.Mathlib.Nat.{add-zero, zero-add, mul-zero, mul-suc}
use native.Mathlib.Numerals.{add-one}
use native.Mathlib.Omega.{arith}
use lib.ListN.{length, take, drop, replicate, length-append, length-drop}
use lib.Seq.{sets, length-sets, take_all}
use Rattle.fields.specs.Field.{Bytes, number, le_at, put_at}
use Rattle.fields.proofs.Bytes.{bytes-append, bytes_sets}
use Rattle.fields.proofs.Field.{get_put-other, bytes-put, length-put}
use Rattle.fields.proofs.Run.{sets_append, part_sets_below, length_part}
use Rattle.rules.specs.Layout.{common_header, cert_size}
use Rattle.rules.specs.Page.{View, page_in, count, touch, header_bytes, page_bytes, change_bytes, shrink_bytes, over, read_each, write_each, cert_bytes, child_bytes}
use Rattle.rules.proofs.Bytes.Each.{length-read_each, write_each-append}
use Rattle.rules.proofs.Bytes.Pages.{bytes-replicate}
use Rattle.entries.proofs.Header.{header-puts}
use Rattle.entries.proofs.Ranges.{range-within, write_range}
use Rattle.entries.proofs.Sets.{sets_comm, sets_same, put_same, over_sets}

-- a header written over one that differs from it in count and touched alone
module _ (header : ℕ) (b es : List ℕ) (v : View) (c : ℕ) (n : common_header ≤ header) (h : Bytes (sets b header es)) (l : header ≤ length b) (e : v.kind ≡ le_at b 0 2) where
  header_part : (off w : ℕ) → off + w ≤ header → le_at b off w ≡ le_at (sets b header es) off w
  unfolding le_at
  header_part off w k = ap number (sym (part_sets_below es b header off w k))

  pub stamp-header : sets (sets b header es) 0 (header_bytes (touch c v (page_in b))) ≡ put_at (put_at (sets b header es) 2 2 (count v)) 12 4 c
  unfolding header_bytes touch page_in
  stamp-header =
      let q = sets b header es in
      let m : header ≤ length q = rw (length-sets b header es) l in
      let counted = put_at q 2 2 (count v) in
      let touched = put_at counted 12 4 c in
      let hc : Bytes counted = bytes-put q 2 2 (count v) h in
      let ht : Bytes touched = bytes-put counted 12 4 c hc in
      let mc : header ≤ length counted = rw (length-put q 2 2 (count v)) m in
      let mt : header ≤ length touched = rw (length-put counted 12 4 c) mc in
      let kind = put_same q 0 2 v.kind h (omega arith) (e ∙ header_part 0 2 (omega arith)) in
      let birth = put_same counted 4 4 (le_at b 4 4) hc (omega arith) (header_part 4 4 (omega arith) ∙ sym (get_put-other q 2 2 (count v) 4 4 refl)) in
      let built = put_same counted 8 4 (le_at b 8 4) hc (omega arith) (header_part 8 4 (omega arith) ∙ sym (get_put-other q 2 2 (count v) 8 4 refl)) in
      let low = put_same touched 16 8 (le_at b 16 8) ht (omega arith) (header_part 16 8 (omega arith) ∙ sym (get_put-other q 2 2 (count v) 16 8 refl) ∙ sym (get_put-other counted 12 4 c 16 8 refl)) in
      let high = put_same touched 24 8 (le_at b 24 8) ht (omega arith) (header_part 24 8 (omega arith) ∙ sym (get_put-other q 2 2 (count v) 24 8 refl) ∙ sym (get_put-other counted 12 4 c 24 8 refl)) in
      header-puts q v.kind (count v) (le_at b 4 4) (le_at b 8 4) c (le_at b 16 8) (le_at b 24 8) ∙ rw (kind, birth, built, low, high)

-- the header and what follows it, put over the page
module _ (header : ℕ) (b es : List ℕ) (v : View) (c : ℕ) (n : common_header ≤ header) (m : length (header_bytes (touch c v (page_in b))) ≡ header) (h : Bytes b) (e : v.kind ≡ le_at b 0 2) where
  over-bytes : (rest : List ℕ) → Bytes rest → header + length rest ≤ length b
      → over (header_bytes (touch c v (page_in b)) ++ rest) b ≡ put_at (put_at (sets b header rest) 2 2 (count v)) 12 4 c
  over-bytes rest k l =
      let hs = header_bytes (touch c v (page_in b)) in
      let long : length (hs ++ rest) ≡ header + length rest = length-append hs rest ∙ ap (λ (n : ℕ). n + length rest) m in
      over_sets (hs ++ rest) b (rw long l)
      ∙ sets_append hs rest b 0
      ∙ rw (m, zero-add) (sets_comm hs rest b 0 header (rw m (omega arith)))
      ∙ stamp-header header b rest v c n (bytes_sets rest b header h k) (omega arith) e

  module _ (k : Bytes es) (f : write_each cert_bytes v.certs ++ write_each child_bytes v.children ≡ es) where
    pub change_bytes_lem : header + length es ≤ length b
        → change_bytes (touch c v (page_in b)) b ≡ put_at (put_at (sets b header es) 2 2 (count v)) 12 4 c
    unfolding change_bytes page_bytes touch
    change_bytes_lem l = ap (λ (r : List ℕ). over (header_bytes (touch c v (page_in b)) ++ r) b) f ∙ over-bytes es k l

    -- with zeros in the place that was the last one's
    pub shrink_bytes_lem : header + length (es ++ replicate cert_size 0) ≤ length b
        → shrink_bytes (touch c v (page_in b)) b ≡ put_at (put_at (sets b header (es ++ replicate cert_size 0)) 2 2 (count v)) 12 4 c
    unfolding shrink_bytes page_bytes touch
    shrink_bytes_lem l =
        let hs = header_bytes (touch c v (page_in b)) in
        let zeros : List ℕ = replicate cert_size 0 in
        ap (λ (r : List ℕ). over ((hs ++ r) ++ zeros) b) f
        ∙ ap (λ (r : List ℕ). over r b) (append_assoc hs es zeros)
        ∙ over-bytes (es ++ zeros) (bytes-append es zeros k (bytes-replicate cert_size)) l

-- ── Entries written over a page's old ones ──────────────────────────────────────────────────────────────────────

-- those before and behind a new one are read off the page itself
module _ {A : Type 0} (read : List ℕ → A) (write : A → List ℕ) (size : ℕ) (sized : (x : A) → length (write x) ≡ size) (forth : (b : List ℕ) → Bytes b → size ≤ length b → write (read b) ≡ take size b) where
  -- the bytes of the first j entries, and of those from j on
  write_before : (b : List ℕ) (off k j : ℕ) → Bytes b → off + size * k ≤ length b → j ≤ k
      → write_each write (take j (read_each read size k (drop off b))) ≡ take (size * j) (drop off b)
  write_before b off k j h l m =
      write_range read write size forth b off k 0 j h l (omega arith) ∙ rw (mul-zero, add-zero)

  write_behind : (b : List ℕ) (off k j : ℕ) → Bytes b → off + size * k ≤ length b → j ≤ k
      → write_each write (drop j (read_each read size k (drop off b))) ≡ take (size * (k - j)) (drop (off + size * j) b)
  write_behind b off k j h l m =
      let xs = read_each read size k (drop off b) in
      let e : take (k - j) (drop j xs) ≡ drop j xs = take_all (k - j) (drop j xs) (rw (length-drop, length-read_each) (omega arith)) in
      ap (write_each write) (sym e) ∙ write_range read write size forth b off k j (k - j) h l (omega arith)

  -- a run of entries with one among them, in three runs of bytes
  write_around : (b : List ℕ) (off : ℕ) (xs ys : List A) (x : A) (j : ℕ) → off + size * j ≤ length b → write_each write xs ≡ take (size * j) (drop off b)
      → sets b off (write_each write (xs ++ (x ∷ ys))) ≡ sets (sets b (off + size * j + size) (write_each write ys)) (off + size * j) (write x)
  unfolding write_each
  write_around b off xs ys x j l e =
      let a = take (size * j) (drop off b) in
      let m : length a ≡ size * j = length_part (size * j) off b l in
      rw (write_each-append, e, sets_append, m, sets_same b off (size * j) l, sets_append, sized x)
      (sets_comm (write x) (write_each write ys) b (off + size * j) (off + size * j + size) (rw (sized x) (omega arith)))

  -- one more entry, at j: those behind it move up
  pub write_more : (b : List ℕ) (off k j : ℕ) (x : A) → Bytes b → off + size * k + size ≤ length b → j ≤ k
      → sets b off (write_each write (take j (read_each read size k (drop off b)) ++ (x ∷ drop j (read_each read size k (drop off b)))))
      ≡ sets (sets b (off + size * j + size) (take (size * (k - j)) (drop (off + size * j) b))) (off + size * j) (write x)
  write_more b off k j x h l m =
      let xs = read_each read size k (drop off b) in
      let w = range-within size j (k - j) k (omega arith) in
      write_around b off (take j xs) (drop j xs) x j (omega arith) (write_before b off k j h (omega arith) m)
      ∙ rw (write_behind b off k j h (omega arith) m)

  -- another entry at j: no other moves
  pub write_other : (b : List ℕ) (off k j : ℕ) (x : A) → Bytes b → off + size * k ≤ length b → j < k
      → sets b off (write_each write (take j (read_each read size k (drop off b)) ++ (x ∷ drop (j + 1) (read_each read size k (drop off b)))))
      ≡ sets b (off + size * j) (write x)
  write_other b off k j x h l m =
      let xs = read_each read size k (drop off b) in
      let w = range-within size (j + 1) (k - (j + 1)) k (omega arith) in
      let at : off + size * (j + 1) ≡ off + size * j + size = rw (add-one, mul-suc) (omega arith) in
      let same : sets b (off + size * j + size) (take (size * (k - (j + 1))) (drop (off + size * (j + 1)) b)) ≡ b =
      rw at (sets_same b (off + size * j + size) (size * (k - (j + 1))) (omega arith)) in
      write_around b off (take j xs) (drop (j + 1) xs) x j (omega arith) (write_before b off k j h l (omega arith))
      ∙ rw (write_behind b off k (j + 1) h l (omega arith), same)

  -- the entry at j taken out, and bytes put behind the last: those behind it move down
  pub write_less : (b : List ℕ) (off k j : ℕ) (z : List ℕ) → Bytes b → off + size * k ≤ length b → j < k
      → sets b off (write_each write (take j (read_each read size k (drop off b)) ++ drop (j + 1) (read_each read size k (drop off b))) ++ z)
      ≡ sets (sets b (off + size * j) (take (size * (k - (j + 1))) (drop (off + size * (j + 1)) b))) (off + size * j + size * (k - (j + 1))) z
  write_less b off k j z h l m =
      let w = range-within size (j + 1) (k - (j + 1)) k (omega arith) in
      let v = range-within size j 1 (j + 1) (omega arith) in
      let before = length_part (size * j) off b (omega arith) in
      let behind = length_part (size * (k - (j + 1))) (off + size * (j + 1)) b (omega arith) in
      rw (write_each-append, write_before b off k j h l (omega arith), write_behind b off k (j + 1) h l (omega arith), append_assoc, sets_append, before, sets_same b off (size * j) (omega arith), sets_append, behind)
