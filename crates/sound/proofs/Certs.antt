-- A leaf's certificates as code tests them: the first one, then those behind it, each by the one before it. Assumes nothing.
use Rattle.std.proofs.Common.{◌≡◌, ℕ, ◌+◌, ◌-◌, ◌<◌, ◌≤◌, Bool, true, false, not, ◌&&◌, ltb, List, drop, refl, sym, ap, ◌∙◌}
use Rattle.rules.specs.Layout.{leaf_header, cert_size}
use Rattle.rules.specs.Key.{good_key}
use Rattle.rules.specs.Entry.{Cert}
use Rattle.rules.specs.Page.{read_each, cert_in}
use Rattle.head.specs.Head.{cert_at}
use Rattle.sound.specs.Pass.{risen_on, certs_pass}
use Rattle.sound.proofs.Turn.{after, no_entries, first-low, first_bad, first_on}
use Rattle.sound.proofs.Rising.{goes_on, risen-read}

abbrev good : Cert → Bool
good x = good_key x.key

module _ (b : List ℕ) (count low high : ℕ) where
  abbrev answer : Bool
  answer = certs_pass low high (read_each cert_in cert_size count (drop leaf_header b))

  -- the answer is what is left to test from j on, behind the key `last`
  abbrev pub CertsLeft : ℕ → ℕ → Type 0
  CertsLeft last j = answer ≡ after cert_in leaf_header cert_size good b count low high last j

  pub no_cert : count ≡ 0 → true ≡ answer
  unfolding certs_pass
  no_cert h = no_entries cert_in leaf_header cert_size good b count low high h

  -- ── The first certificate ─────────────────────────────────────────────────────────────────────────────────────

  module _ (k : ℕ) (h : 0 < count) (e : k ≡ (cert_at b 0).key) where
    pub cert_below : k < low → false ≡ answer
    unfolding certs_pass cert_at
    cert_below l = first-low cert_in leaf_header cert_size good b count low high 0 h e refl refl l

    pub cert_bad : {g : Bool} → g ≡ good_key k → not g ≡ true → false ≡ answer
    unfolding certs_pass cert_at
    cert_bad f n = first_bad cert_in leaf_header cert_size good b count low high 0 h e (f ∙ ap good_key e) refl n

    pub certs-start : {g r : Bool} → g ≡ good_key k → low ≤ k → not g ≡ false
        → r ≡ risen_on (λ j. (cert_at b j).key) (λ j. good_key (cert_at b j).key) high k (count - 1) 1 → r ≡ answer
    unfolding certs_pass cert_at
    certs-start f l y z =
        z ∙ risen-read cert_in leaf_header cert_size good b high k (count - 1) 1
        ∙ sym (first_on cert_in leaf_header cert_size good b count low high 0 h e (f ∙ ap good_key e) refl l y)

  -- ── Each one behind it ────────────────────────────────────────────────────────────────────────────────────────

  module _ (last j k : ℕ) {f : Bool} (h : j < count) (e : k ≡ (cert_at b j).key) (q : f ≡ (ltb last k && good_key k)) (a : CertsLeft last j) where
    of_entry : f ≡ (ltb last k && good_key (cert_at b j).key)
    of_entry = q ∙ ap (λ (y : ℕ). ltb last k && good_key y) e

    -- one that follows and is good leaves those behind it
    pub certs_on : (next : ℕ) → next ≡ j + 1 → not f ≡ false → CertsLeft k next
    unfolding cert_at
    certs_on next s y =
        goes_on (λ (i : ℕ). (cert_at b i).key) (λ (i : ℕ). good_key (cert_at b i).key) high count last j k h e of_entry
        (a ∙ sym (risen-read cert_in leaf_header cert_size good b high last (count - j) j)) next s y
        ∙ risen-read cert_in leaf_header cert_size good b high k (count - next) next
