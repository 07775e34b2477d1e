-- The entry put at the end of the way, and with it all that the rules' insert leaves. Assumes nothing.
use Prim.Native.Nat.{ℕ, ◌+◌, ◌*◌, ◌≤◌}
use native.Mathlib.Omega.{arith}
use mathlib.Core.Path.{◌≡◌, sym, ap, ◌∙◌, subst}
use mathlib.Core.List.{List, [], ◌∷◌}
use lib.ListN.{length, take}
use Rattle.rules.specs.Layout.{page_size}
use Rattle.rules.specs.Table.{read}
use Rattle.rules.specs.Walk.{Step, numbers, certs_at}
use Rattle.rules.specs.Marks.{free_pages}
use Rattle.rules.specs.Insert.{new_pages, put_cert, changed, Making, making, split, insert_done}
use Rattle.rules.specs.declared.Session.{Session}
use Rattle.entries.specs.Spot.{new_cert}
use Rattle.edit.specs.Takes.{TakesCert}
use Rattle.way.specs.declared.Step as way
use Rattle.apply.specs.Leads.{Ready, steps_in, ReadyPages, done}
use Rattle.apply.proofs.Going.{Gone}
use Rattle.apply.proofs.Whole.{split-gone}
use Rattle.apply.proofs.Ends.{leaf-takes}
use Rattle.apply.proofs.Same.{agree-take, split-same}
use Rattle.apply.proofs.Handed.{ready-chosen}

-- the page at the end of a way that was split
pub record End (k : ℕ) (m : Making) : Type 0 where
  pub within : (m.at + 1) * page_size ≤ length m.table
  pub takes : TakesCert k (read m.table m.at).view

-- a way as it is split by the numbers of an array, which reads no more of them than it needs
way-gone : {k : ℕ} {t : List ℕ} {s : Session} (u : Step) (above : List Step) (pages : List ℕ) → Ready k t s (u ∷ above) pages
    → Gone s.n s.c k t u above (take (new_pages (u ∷ above)) pages) (split s.c k (u ∷ above) pages (making t s 0))
way-gone {k} {t} {s} u above pages R =
    let need = new_pages (u ∷ above) in
    subst (Gone s.n s.c k t u above (take need pages))
    (split-same s.c k (u ∷ above) (take need pages) pages (making t s 0) (agree-take need pages))
    (split-gone s R.whole u above (take need pages) R.short R.leads (ready-chosen R))

pub split-end : {k : ℕ} {t : List ℕ} {s : Session} (steps : List Step) (pages : List ℕ) → Ready k t s steps pages
    → End k (split s.c k steps pages (making t s 0))
unfolding certs_at
split-end [] pages R = absurd R.leads
split-end (u ∷ above) pages R =
    let gone = way-gone u above pages R in
    record {
      within = omega (arith, gone.whole.long, gone.onward.below);
      takes = leaf-takes gone R.ends R.absent;
    }

module _ {k : ℕ} {t : List ℕ} {s : Session} {steps : List Step} {pages : List ℕ} (R : Ready k t s steps pages)
    (t' : List ℕ) (s' : Session) (at : ℕ) (q : making t' s' at ≡ split s.c k steps pages (making t s 0)) where
  pub put-asks : ((at + 1) * page_size ≤ length t') × TakesCert k (read t' at).view
  put-asks =
      let e = subst (End k) (sym q) (split-end steps pages R) in
      (e.within, e.takes)

  pub all_done : (x : ℕ) (w : List ℕ) → w ≡ changed s.c (put_cert (new_cert k x)) t' at → (stable : List ℕ)
      → done s' w stable ≡ insert_done k x s steps t stable
  unfolding insert_done new_cert
  all_done x w z stable =
      let same = q ∙ split-same s.c k steps pages (free_pages s (numbers steps)) (making t s 0) R.lowest in
      ap (λ (v : List ℕ). done s' v stable) z
      ∙ ap (λ (m : Making). done m.session (changed s.c (put_cert (record { key = k; value = x })) m.table m.at) stable) same

-- the same, where of the session only the counter is at hand
pub pages-done : {c k : ℕ} {t : List ℕ} {w : List way.Step} {pages : List ℕ} (y : ReadyPages c k t w pages) (t' : List ℕ) (s' : Session) (at : ℕ)
    → making t' s' at ≡ split y.session.c k (steps_in t w) pages (making t y.session 0) → (x : ℕ) (v : List ℕ)
    → v ≡ changed c (put_cert (new_cert k x)) t' at → (stable : List ℕ)
    → done s' v stable ≡ insert_done k x y.session (steps_in t w) t stable
pages-done {k = k} y t' s' at q x v z stable =
    all_done y.ready.ready t' s' at q x v
    (z ∙ ap (λ (d : ℕ). changed d (put_cert (new_cert k x)) t' at) (sym y.counter)) stable
