-- `few::Few::extend_from_slice`: the places behind the new items stay as they were. Assumes nothing.
use Rattle.std.proofs.Common.{◌≡◌, ap, refl, ◌+◌, ◌-◌, ◌≤◌, length, take, arith}
use Rattle.std.proofs.lemmas.Slice.{put_mid-paste}
use Rattle.std.proofs.lemmas.List.Edits.{drop-paste, length-paste}
use lib.Seq.{paste}
use Rattle.few.specs.Fields.{len_told}
use Rattle.few.proofs.Places.{still_spared}
use Rattle.few.proofs.Few.extend_from_slice.Goals as goal

pub invariant_of-self : goal.invariant_of-self
invariant_of-self g c =
    let f = c.self.inside in
    let h = c.self.invariant in
    let more = c.args.more.now in
    let many = length more in
    let spare = g.T.Spare.spare_is in
    let len : length (take f.len f.items) ≡ f.len = len_told spare f.items f.len g.row.N h.0 h.1 in
    let room : f.len + many ≤ g.row.N = omega (arith, len, ap length c.self.view_is, c.requires) in
    let fits : f.len + many ≤ length f.items = omega (arith, room, h.1) in
    let wrote = put_mid-paste f.len (f.len + many - f.len) f.items c.copy_from_slice.new.self more many c.copy_from_slice.ensures.after (omega arith) refl in
    rw wrote (still_spared spare f.items (paste f.items f.len more many) f.len (f.len + many) g.row.N h (omega arith) room
    (length-paste f.items f.len more many fits (omega arith)) (drop-paste f.items f.len more many (omega (arith, fits)) (omega arith)))
