-- `few::Few::push`: the places behind the new item stay as they were. Assumes nothing.
use Rattle.std.proofs.Common.{◌≡◌, ap, ◌+◌, ◌≤◌, length, take, length-set, arith}
use Rattle.std.proofs.lemmas.List.{drop-set-lt}
use lib.ListN.{set}
use Rattle.few.specs.Fields.{len_told}
use Rattle.few.proofs.Places.{still_spared}
use Rattle.few.proofs.Few.push.Goals as goal

pub invariant_of-self : goal.invariant_of-self
invariant_of-self g c =
    let f = c.self.inside in
    let h = c.self.invariant in
    let spare = g.T.Spare.spare_is in
    let len : length (take f.len f.items) ≡ f.len = len_told spare f.items f.len g.row.N h.0 h.1 in
    let room : f.len + 1 ≤ g.row.N = omega (arith, len, ap length c.self.view_is, c.requires) in
    still_spared spare f.items (set f.items f.len c.args.item) f.len (f.len + 1) g.row.N h (omega arith) room
    (length-set f.items f.len c.args.item) (drop-set-lt (f.len + 1) f.items f.len c.args.item (omega arith))
