-- `insert::insert`: the tests, the walk, then refused as decided, or done as `apply` does it.
-- Assumes nothing.
use Rattle.std.specs.Prelude.{Err}
use Prim.Native.Nat.{ℕ}
use mathlib.Core.Path.{◌≡◌, refl, sym, ap, ◌∙◌, subst}
use mathlib.Core.List.{List}
use native.Mathlib.Omega.{arith}
use Rattle.std.specs.Prelude.{Some}
use Rattle.rules.specs.Report.{Reported, nothing}
use Rattle.rules.specs.Walk.{way_report}
use Rattle.rules.specs.Marks.{counted}
use Rattle.rules.specs.Insert.{insert_key}
use Rattle.rules.specs.Reports.{key_report, insert_reported}
use Rattle.rules.specs.Answer.{Inserted}
use Rattle.rules.specs.declared.InsertError.{InsertError}
use Rattle.rules.specs.declared.Session.{Session}
use Rattle.rules.proofs.Bytes.Lengths.{lengths_for_true}
use Rattle.way.specs.Ways.{Walking, walking}
use Rattle.plan.specs.Plan.{splits_by, heads_of, chosen_by}
use Rattle.rules.specs.Handing.{left_as as left, leaving}
use Rattle.apply.specs.Leads.{marks_by, ReadySession, done}
use Rattle.insert.proofs.Along.{few}
use Rattle.insert.proofs.Call.{Passed, told_too, passed-report, nothing-told, test_refused, test_passed, Going, going, key-nowhere, deciding, key-refused, key-ready, key-done}
use Rattle.insert.proofs.insert.Goals as goal
use Rattle.insert.proofs.insert.Goals.{In-Ok, After-way_of-went, After-as_slice-steps, After-as_slice-pages}

pub returns-in_default : goal.returns-in_default
returns-in_default c =
    let args = c.args in
    let tested = c.tested-tests in
    let no = c.in_default.not-Ok tt in
    told_too args.working.now args.stable.now args.session args.model args.serial args.issue
    args.value
    (test_refused args.working.now args.stable.now args.session args.model args.serial args.issue
    args.value tested.result (tested.ensures args.session refl) no)
    (c.nothing.ensures
    ∙ sym (nothing-told args.working.now args.stable.now args.session args.model args.serial args.issue args.value tested.result (tested.ensures args.session refl) no))

-- ── What all that follows the tests knows ───────────────────────────────────────────────────────────────────────

passed : (c : In-Ok) → Passed c.args.working.now c.args.stable.now c.args.session c.args.model c.args.serial c.args.issue c.args.value
passed c =
    let args = c.args in
    test_passed args.working.now args.stable.now args.session args.model args.serial args.issue args.value
    c.tested-tests.result (c.tested-tests.ensures args.session refl) c.in-Ok.is

reported : (c : After-way_of-went) → Passed c.args.working.now c.args.stable.now c.args.session c.args.model c.args.serial c.args.issue c.args.value
    → c.way_of-went.result.report ≡ key_report c.args.working.now c.args.stable.now c.args.session c.args.model c.args.serial c.args.issue
reported c p =
    let args = c.args in
    ap (λ (y : Reported Walking). y.report) c.way_of-went.ensures
    ∙ (ap (λ (k : ℕ). way_report args.session.n args.session.c k args.working.now nothing) c.key_of-key.ensures
    ∙ sym (passed-report args.working.now args.stable.now args.session args.model args.serial args.issue args.value p))

-- what the walk left and answered, with what the rules make of an insert under the key
told-along : (c : After-way_of-went) → Passed c.args.working.now c.args.stable.now c.args.session c.args.model c.args.serial c.args.issue c.args.value
    → (a : Inserted) (r : Session) (v : List ℕ) → left a r v c.args.stable.now ≡ insert_key c.key_of-key.result c.args.value c.args.session c.args.working.now c.args.stable.now
    → leaving (record { answer = a; report = c.way_of-went.result.report; session = r }) v c.args.stable.now
    ≡ insert_reported c.args.working.now c.args.stable.now c.args.session c.args.model c.args.serial c.args.issue c.args.value
told-along c p a r v e =
    let args = c.args in
    told_too args.working.now args.stable.now args.session args.model args.serial args.issue args.value
    (e ∙ (ap (λ (k : ℕ). insert_key k args.value args.session args.working.now args.stable.now) c.key_of-key.ensures ∙ sym p.keyed))
    (reported c p)

known : (c : After-as_slice-steps) → Passed c.args.working.now c.args.stable.now c.args.session c.args.model c.args.serial c.args.issue c.args.value
    → Going c.key_of-key.result c.args.session c.args.working.now c.way_of-went.new.t c.as_slice-steps.result.now
known c p =
    let args = c.args in
    let l = lengths_for_true args.session args.working.now args.stable.now p.lengths in
    let u = c.way_of-went.new.t in
    let way-is = ap (λ (y : Reported Walking). y.left) c.way_of-went.ensures in
    let same = ap Some c.as_slice-steps.ensures.items ∙ sym c.in-Some.is in
    going c.key_of-key.result args.session args.working.now l.working p.zero c.slice_known-1.given (omega (arith, c.well_formed))
    (omega (arith, c.key_of-key.type_inv)) u c.as_slice-steps.result.now (ap (walking u) same ∙ way-is) l.most
    (omega (arith, c.way_of-went.auto.t, l.working)) c.slice_known-2-1.given

chosen : (c : After-as_slice-pages) → c.as_slice-pages.result.now ≡ chosen_by c.args.session c.as_slice-steps.result.now
chosen c = c.as_slice-pages.ensures.items ∙ c.choose-chosen.ensures

-- ── Step by step ────────────────────────────────────────────────────────────────────────────────────────────────

pub way_of-went-requires : goal.way_of-went-requires
way_of-went-requires c =
    let p = passed (goal.at.way_of-went-requires c).In-Ok in
    let l = lengths_for_true c.args.session c.args.working.now c.args.stable.now p.lengths in
    (l.working, p.zero)

pub returns-in_default-way : goal.returns-in_default-way
returns-in_default-way c =
    let args = c.args in
    let at = goal.at.returns-in_default-way c in
    let p = passed at.In-Ok in
    let l = lengths_for_true args.session args.working.now args.stable.now p.lengths in
    let u = c.way_of-went.new.t in
    let way-is = ap (λ (y : Reported Walking). y.left) c.way_of-went.ensures in
    told-along at.After-way_of-went p (Err InsertError.Damaged) args.session u
    (key-nowhere c.key_of-key.result args.session args.working.now l.working p.zero c.slice_known-1.given (omega (arith, c.well_formed))
    (omega (arith, c.key_of-key.type_inv)) u (ap (walking u) (sym c.in_default-way.is) ∙ way-is) args.value args.stable.now)

pub choose-chosen-requires : goal.choose-chosen-requires
choose-chosen-requires c =
    let at = goal.at.choose-chosen-requires c in
    let p = passed at.In-Ok in
    let l = lengths_for_true c.args.session c.args.working.now c.args.stable.now p.lengths in
    (l.most, few (known at.After-as_slice-steps p).walked)

pub decided-answer-requires : goal.decided-answer-requires
decided-answer-requires c =
    let at = goal.at.decided-answer-requires c in
    deciding (known at.After-as_slice-steps (passed at.In-Ok)) c.as_slice-pages.result.now (chosen at.After-as_slice-pages)

pub returns-in_default-answer : goal.returns-in_default-answer
returns-in_default-answer c =
    let at = goal.at.returns-in_default-answer c in
    let p = passed at.In-Ok in
    let G = known at.After-as_slice-steps p in
    let y = c.as_slice-pages.result.now in
    let q = chosen at.After-as_slice-pages in
    let a = c.decided-answer.result in
    told-along at.After-way_of-went p a c.args.session c.way_of-went.new.t
    (key-refused G y q a (c.decided-answer.ensures (deciding G y q)) c.args.value c.args.stable.now (c.in_default-answer.not-Ok tt))

pub apply-requires : goal.apply-requires
apply-requires c =
    let at = goal.at.apply-requires c in
    let G = known at.After-as_slice-steps (passed at.In-Ok) in
    let y = c.as_slice-pages.result.now in
    let q = chosen at.After-as_slice-pages in
    let ready = key-ready G y q c.decided-answer.result (c.decided-answer.ensures (deciding G y q)) c.in-Ok-answer.is in
    record { session = counted c.args.session; counter = refl; ready = ready }

pub marked-left-requires : goal.marked-left-requires
marked-left-requires c =
    let at = goal.at.marked-left-requires c in
    let G = known at.After-as_slice-steps (passed at.In-Ok) in
    let y = c.as_slice-pages.result.now in
    let q = chosen at.After-as_slice-pages in
    let ready = key-ready G y q c.decided-answer.result (c.decided-answer.ensures (deciding G y q)) c.in-Ok-answer.is in
    subst (λ (z : Session). ReadySession z c.as_slice-steps.result.now y) (sym c.count.ensures)
    (record { key = c.key_of-key.result; table = c.way_of-went.new.t; ready = ready })

pub returns : goal.returns
returns c =
    let at = goal.at.returns c in
    let p = passed at.In-Ok in
    let G = known at.After-as_slice-steps p in
    let w = c.as_slice-steps.result.now in
    let y = c.as_slice-pages.result.now in
    let q = chosen at.After-as_slice-pages in
    let a = c.decided-answer.result in
    let f = c.decided-answer.ensures (deciding G y q) in
    let ready = key-ready G y q a f c.in-Ok-answer.is in
    let v = c.apply.new.table in
    told-along at.After-way_of-went p a c.marked-left.result v
    (key-done G y q a f c.in-Ok-answer.is c.args.value c.args.stable.now c.marked-left.result v
    (ap (λ (z : Session). done z v c.args.stable.now) (c.marked-left.ensures ∙ ap (marks_by w y (splits_by (heads_of w))) c.count.ensures)
    ∙ c.apply.ensures (record { session = counted c.args.session; counter = refl; ready = ready }) c.args.stable.now))
