-- Splits change a session's marks, and nothing else of it. Assumes nothing.
use Rattle.std.proofs.Common.{◌≡◌, ℕ, Bool, true, false, ◌&&◌, eqb, List, [], ◌∷◌, get_or, drop, refl, ◌∙◌}
use Rattle.rules.specs.Marks.{marking}
use Rattle.rules.specs.Walk.{Step}
use Rattle.rules.specs.Insert.{full, heirs, retire, Making, grow, halve, split}
use Rattle.rules.specs.declared.Session.{Session}

-- a session without its marks
abbrev pub unmarked : Session → Session
unmarked s = marking [] [] s

retire-unmarked : (c : ℕ) (s : Step) (m : Session) → unmarked (retire c s m) ≡ unmarked m
unfolding retire
retire-unmarked c s m = go (heirs c s && eqb s.page.birth c) refl
  where
    go : (b : Bool) → (heirs c s && eqb s.page.birth c) ≡ b → unmarked (retire c s m) ≡ unmarked m
    go true e = rw (e, retire)
    go false e = rw (e, retire)

halve-unmarked : (c k : ℕ) (s : Step) (lower upper : ℕ) (m : Making) → unmarked (halve c k s lower upper m).session ≡ unmarked m.session
unfolding halve
halve-unmarked c k s lower upper m = retire-unmarked c s _

grow-unmarked : (c : ℕ) (s : Step) (new : ℕ) (m : Making) → unmarked (grow c s new m).session ≡ unmarked m.session
unfolding grow
grow-unmarked c s new m = refl

pub split-unmarked : (c k : ℕ) (way : List Step) (new : List ℕ) (m : Making) → unmarked (split c k way new m).session ≡ unmarked m.session
unfolding split
split-unmarked c k [] new m = refl
split-unmarked c k (s ∷ []) new m = go (full s.page.view) refl
  where
    go : (b : Bool) → full s.page.view ≡ b → unmarked (split c k (s ∷ []) new m).session ≡ unmarked m.session
    go true e =
        rw (e, split)
        (halve-unmarked c k s (get_or new 0 0) (get_or new 1 0) (grow c s (get_or new 2 0) m) ∙ grow-unmarked c s (get_or new 2 0) m)
    go false e = rw (e, split)
split-unmarked c k (s ∷ (u ∷ above)) new m = go (full s.page.view) refl (split-unmarked c k (u ∷ above) (drop 2 new) m)
  where
    go : (b : Bool) → full s.page.view ≡ b → unmarked (split c k (u ∷ above) (drop 2 new) m).session ≡ unmarked m.session
        → unmarked (split c k (s ∷ (u ∷ above)) new m).session ≡ unmarked m.session
    go true e ih =
        rw (e, split)
        (halve-unmarked c k s (get_or new 0 0) (get_or new 1 0) (split c k (u ∷ above) (drop 2 new) m) ∙ ih)
    go false e ih = rw (e, split)
