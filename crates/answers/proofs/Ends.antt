-- Format, open, sync: each number exactly when document 01's table says. Assumes nothing.
use Prim.Native.Nat.{ℕ}
use mathlib.Core.Path.{◌≡◌, refl}
use mathlib.Core.Logic.{inl, inr}
use mathlib.Core.Bool.{Bool, true, false, ◌&&◌}
use mathlib.Core.List.{List}
use lib.Dec.{leb}
use Rattle.rules.specs.Layout.{last_number}
use Rattle.rules.specs.Table.{pages, good_lengths, fit0, number0}
use Rattle.rules.specs.Tree.{tree_of, good_tree}
use Rattle.rules.specs.Call.{formatted_no, opened_no, synced_no, lengths_for, length_error_no, open_error_no, sync_error_no}
use Rattle.rules.specs.Format.{format}
use Rattle.rules.specs.Open.{opening, open_refused, open_done}
use Rattle.rules.specs.Sync.{sync, sync_refused, sync_done}
use Rattle.rules.specs.declared.Session.{Session}
use Rattle.answers.specs.Given.{Given}
use Rattle.answers.specs.Causes.{format_causes, open_causes, sync_causes}
use Rattle.answers.proofs.Tells.{bad_tables, good-tables, bad_lengths, good_lengths_lem, bad_tree, good_tree_lem, spent, not_spent}

pub format-given : (w s : List ℕ) → Given (format_causes w s) (formatted_no (format w s).answer)
unfolding format length_error_no
format-given w s = go (good_lengths w s) refl
  where
    go : (a : Bool) → good_lengths w s ≡ a → Given (format_causes w s) (formatted_no (format w s).answer)
    go false p = inl (rw (p, format), bad_tables w s p)
    go true p = inr (good-tables w s p, rw (p, format))

pub open-given : (w s : List ℕ) → Given (open_causes w s) (opened_no (opening w s).answer)
unfolding opening open_refused open_done open_error_no
open-given w s =
    go (good_lengths w s) refl (fit0 (pages s) s && good_tree (tree_of (pages s) s)) refl (leb (number0 s) last_number) refl
  where
    go : (a : Bool) → good_lengths w s ≡ a
        → (b : Bool) → (fit0 (pages s) s && good_tree (tree_of (pages s) s)) ≡ b
        → (c : Bool) → leb (number0 s) last_number ≡ c
        → Given (open_causes w s) (opened_no (opening w s).answer)
    go false p b q c o = inl (rw (p, opening), bad_tables w s p)
    go true p false q c o = inr (good-tables w s p, inl (rw (p, opening, q), bad_tree s q))
    go true p true q false o =
        inr (good-tables w s p, inr (good_tree_lem s q, inl (rw (p, opening, q, o), spent (number0 s) o)))
    go true p true q true o =
        inr (good-tables w s p, inr (good_tree_lem s q, inr (not_spent (number0 s) o, rw (p, opening, q, o))))

pub sync-given : (w t : List ℕ) (s : Session) → Given (sync_causes w t s) (synced_no (sync w t s).answer)
unfolding sync sync_refused sync_done sync_error_no
sync-given w t s = go (lengths_for s w t) refl (leb s.c last_number) refl
  where
    go : (a : Bool) → lengths_for s w t ≡ a → (b : Bool) → leb s.c last_number ≡ b
        → Given (sync_causes w t s) (synced_no (sync w t s).answer)
    go false p b q = inl (rw (p, sync), bad_lengths w t s p)
    go true p false q = inr (good_lengths_lem w t s p, inl (rw (p, sync, q), spent s.c q))
    go true p true q = inr (good_lengths_lem w t s p, inr (not_spent s.c q, rw (p, sync, q)))
