-- At the end of a way that was split the new certificate has its place. Assumes nothing.
use Prim.Native.Nat.{ℕ}
use mathlib.Core.Path.{◌≡◌, ◌∙◌}
use mathlib.Core.Bool.{true}
use mathlib.Core.List.{List}
use mathlib.Core.Option.{none}
use Rattle.rules.specs.Entry.{find}
use Rattle.rules.specs.Page.{is_leaf}
use Rattle.rules.specs.Table.{read}
use Rattle.rules.specs.Walk.{Step}
use Rattle.rules.specs.Insert.{Making}
use Rattle.rules.proofs.Entries.Views.{leaf-same}
use Rattle.edit.specs.Takes.{TakesCert}
use Rattle.edit.proofs.Callers.{takes_cert}
use Rattle.apply.proofs.Going.{Gone}

pub leaf-takes : {n c k : ℕ} {t : List ℕ} {s : Step} {above : List Step} {new : List ℕ} {m : Making} → Gone n c k t s above new m
    → is_leaf s.page.view ≡ true → find k s.page.view.certs ≡ none → TakesCert k (read m.table m.at).view
leaf-takes {k = k} {s = s} {m = m} g l f =
    let v = (read m.table m.at).view in
    takes_cert k v (leaf-same v s.page.view g.onward.kind ∙ l) g.onward.roomy (g.onward.holds ∙ f)
