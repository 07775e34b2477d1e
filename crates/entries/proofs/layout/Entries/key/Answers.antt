-- `Entries::key`: the key is read where the entry starts.
-- Assumes nothing.
use mathlib.Core.Path.{sym}
use Rattle.entries.proofs.KeysIn.{key-at}
use Rattle.entries.proofs.layout.Entries.key.Goals as goal

pub returns : goal.returns
returns c = let a = c.args in rw (c.get64.ensures, c.at.ensures) (sym (key-at a.self.header a.self.size a.self.count a.j a.page.now c.requires.among))
