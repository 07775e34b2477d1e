-- A file is read into a store (K9): judged first, before anything is entered; then the certificates of an accepted one go in as
-- the items of a batch do, in the file's order, and the call says how many answered 0.
use Rattle.std.specs.Prelude.{ℕ, suc, true, false, List, [], ◌∷◌, eqb, Result, Ok, Err}
use Rattle.rules.specs.Entry.{Cert}
use Rattle.rules.specs.Report.{Reported, nothing}
use Rattle.rules.specs.Call.{Left, lengths_for, answer_no}
use Rattle.rules.specs.Batch.{BatchLeft, batch}
use Rattle.rules.specs.declared.Session.{Session}
use Rattle.rules.specs.declared.Item.{Item}
use Rattle.exchange.specs.Judged.{Judged, judged}
use Rattle.exchange.specs.Told.{cert_parts, certs_in}
use Rattle.exchange.specs.declared.Certificate.{Certificate}
use Rattle.exchange.specs.declared.ReadError.{ReadError}

-- what the call answers: how many were done, or why it was refused
abbrev pub Read : Type 0
Read = Result ℕ ReadError

-- a certificate as an item of a batch
unfoldable pub as_item : Certificate → Item
as_item c = record { model = c.model; serial = c.serial; issue = c.issue; value = c.«record»; answer = 0 }

unfoldable pub as_items : List Cert → List Item
as_items [] = []
as_items (e ∷ es) = as_item (cert_parts e) ∷ as_items es

-- how many items answered 0
unfoldable pub done_in : List Item → ℕ
done_in [] = 0
done_in (x ∷ xs) = elim (eqb x.answer 0) [ true ↦ suc (done_in xs) | false ↦ done_in xs ]

-- nothing is entered
abbrev pub read_refused : Read → List ℕ → List ℕ → Session → Reported (Left Read)
read_refused answer w t s = record {
  left = record { answer = answer; session = s; working = w; stable = t };
  report = nothing;
}

-- what a batch leaves, and how many of its items were done
abbrev pub read_done : Reported BatchLeft → Reported (Left Read)
read_done b = record {
  left = record {
    answer = Ok (done_in b.left.items);
    session = b.left.session;
    working = b.left.working;
    stable = b.left.stable;
  };
  report = b.report;
}

-- by the judgement of the file
unfoldable pub read_by : Judged → List ℕ → List ℕ → Session → List ℕ → Reported (Left Read)
read_by (Err at) w t s f = read_refused (Err (ReadError.File at)) w t s
read_by (Ok tt) w t s f = read_done (batch w t s (as_items (certs_in f)))

unfoldable pub read_file : List ℕ → List ℕ → Session → List ℕ → Reported (Left Read)
read_file w t s f =
    elim (lengths_for s w t) [ false ↦ read_refused (Err ReadError.Length) w t s | true ↦ read_by (judged f) w t s f ]

-- the paper's numbers: the answer, how many were done, and the byte place, which are 0 beside any other answer
unfoldable pub read_error_no : ReadError → ℕ
read_error_no ReadError.Length = 1
read_error_no (ReadError.File at) = 11

abbrev pub read_no : Read → ℕ
read_no = answer_no read_error_no

unfoldable pub read_count : Read → ℕ
read_count (Ok k) = k
read_count (Err e) = 0

unfoldable pub read_place : Read → ℕ
read_place (Ok k) = 0
read_place (Err ReadError.Length) = 0
read_place (Err (ReadError.File at)) = at
