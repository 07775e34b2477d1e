-- Open: the tests on page 0 and on the tree as it stands; one page write; a copy; a new session.
use Rattle.std.specs.Prelude.{ℕ, ◌+◌, true, false, ◌&&◌, List, nat_le, Ok, Err}
use Rattle.rules.specs.Layout.{last_number}
use Rattle.rules.specs.Table.{pages, good_lengths, fit0, number0, set_number}
use Rattle.rules.specs.Tree.{tree_of, good_tree}
use Rattle.rules.specs.Marks.{opened, nobody}
use Rattle.rules.specs.Call.{Left}
use Rattle.rules.specs.Answer.{Opened}
use Rattle.rules.specs.declared.OpenError.{OpenError}

unfoldable pub open_refused : Opened → List ℕ → List ℕ → Left Opened
open_refused answer w s = record { answer = answer; session = nobody; working = w; stable = s }

-- c = number; the number grows by one in stable's page 0; working becomes a copy
unfoldable pub open_done : List ℕ → Left Opened
open_done s =
    let raised = set_number s (number0 s + 1) in
    record {
      answer = Ok tt;
      session = opened (pages s) (number0 s) (tree_of (pages s) s);
      working = raised;
      stable = raised;
    }

unfoldable pub opening : List ℕ → List ℕ → Left Opened
opening w s =
    elim (good_lengths w s) [
      | false ↦ open_refused (Err OpenError.Length) w s
      | true ↦ elim (fit0 (pages s) s && good_tree (tree_of (pages s) s)) [
        | false ↦ open_refused (Err OpenError.Damaged) w s
        | true ↦ elim (nat_le (number0 s) last_number)
            [ false ↦ open_refused (Err OpenError.Spent) w s | true ↦ open_done s ]
      ]
    ]
