-- The bench cases of document 01 that are marked P, proved by computing.
use Rattle.std.proofs.Common.{◌≡◌, ℕ, ◌+◌, ◌*◌, ◌≤◌, Bool, true, false, eqb, List, [], ◌∷◌, length, refl, ap, ◌∙◌, arith, lit≤, Err}
use lib.ListN.{length-replicate}
use Rattle.rules.specs.Layout.{page_size, fewest_pages, most_pages}
use Rattle.rules.specs.Test.{between}
use Rattle.rules.specs.Table.{number0, root0, set_number}
use Rattle.rules.specs.Marks.{opened, marks}
use Rattle.rules.specs.Call.{Left, formatted_no, opened_no, inserted_no, withdrawn_no, looked_no, synced_no, length_error_no, open_error_no}
use Rattle.rules.specs.Format.{formatted, format}
use Rattle.rules.specs.Open.{open_refused, open_done, opening}
use Rattle.rules.specs.Answer.{Opened}
use Rattle.rules.specs.declared.LengthError.{LengthError}
use Rattle.rules.proofs.Bytes.Lengths.{lengths_bad}
use Rattle.rules.proofs.Bytes.PageZero.{number0-set_number}
use Rattle.rules.proofs.Bytes.Fresh.{length-formatted, number0-formatted, format-done, opening-formatted}
use Rattle.rules.proofs.Cases.Computing.{rules}
use Rattle.rules.specs.Cases.{left, table, store, inserting, loaded, finding, is_found, all_found, way_to, entries_at, kind_at, named, children_at, needed, unused, forty, synced40, synced41, reopened, split41, pages04, page0, page1, pages23, all_pages, recalled, restored, numbered, Case1, Case2, Case3, Case4, Case5, Before6, Case6, Case7, Case8, Case9, Case11, Recall, Cases}

case2 : Case2
unfolding rules
case2 = record { key = refl }

-- 3, by the laws of a fresh store: a table of 128 pages need not be computed
length-table : (n : ℕ) → length (table n) ≡ n * page_size
unfolding table
length-table n = length-replicate {A = ℕ} (n * page_size) 0

format-taken : (n : ℕ) → fewest_pages ≤ n → n ≤ most_pages → formatted_no (format (table n) (table n)).answer ≡ 0
unfolding length_error_no
format-taken n least most = rw (format-done n least most (table n) (table n) (length-table n) (length-table n))

open-taken : (n : ℕ) → fewest_pages ≤ n → n ≤ most_pages → opened_no (store n).answer ≡ 0
unfolding open_error_no store open_done
open-taken n least most =
    rw (format-done n least most (table n) (table n) (length-table n) (length-table n), opening-formatted n least most (table n) (length-table n))

-- 1, by the same laws
module _ (n : ℕ) (least : fewest_pages ≤ n) (most : n ≤ most_pages) where
  fresh : List ℕ
  fresh = formatted n (n * page_size)

  store_is : store n ≡ open_done fresh
  unfolding store fresh
  store_is =
      rw (format-done n least most (table n) (table n) (length-table n) (length-table n)) (opening-formatted n least most (table n) (length-table n))

  number : number0 (set_number fresh (number0 fresh + 1)) ≡ 3
  unfolding fresh
  number =
      rw (number0-formatted n least most)
      (number0-set_number (formatted n (n * page_size)) 3 (omega (arith, length-formatted n least most)) (omega arith))

  case1 : Case1 n
  unfolding open_done opened fresh
  case1 = record {
    c = ap (λ (r : Left Opened). r.session.c) store_is ∙ number0-formatted n least most;
    working = ap (λ (r : Left Opened). number0 r.working) store_is ∙ number;
    stable = ap (λ (r : Left Opened). number0 r.stable) store_is ∙ number;
  }

format-refused : (n : ℕ) → between fewest_pages most_pages n ≡ false → format (table n) (table n) ≡ record { answer = Err LengthError.Length; stable = table n }
unfolding format
format-refused n h = rw (lengths_bad (table n) (table n) n (length-table n) h, format)

open_refused_lem : (n : ℕ) → between fewest_pages most_pages n ≡ false → opened_no (store n).answer ≡ 1
unfolding open_error_no store opening open_refused
open_refused_lem n h = rw (format-refused n h, lengths_bad (table n) (table n) n (length-table n) h, opening)

case3 : Case3
unfolding between length_error_no
case3 = record {
  format_3 = rw (format-refused 3 refl);
  format_4 = format-taken 4 (lit≤ tt) (lit≤ tt);
  format_128 = format-taken 128 (lit≤ tt) (lit≤ tt);
  format_129 = rw (format-refused 129 refl);
  open_3 = open_refused_lem 3 refl;
  open_4 = open-taken 4 (lit≤ tt) (lit≤ tt);
  open_128 = open-taken 128 (lit≤ tt) (lit≤ tt);
  open_129 = open_refused_lem 129 refl;
}

-- 4, and 5 to 9: what a case shows is computed beside what it tells, all at once, so that a call which is named twice
-- is computed once. Cases 5 to 9 have the forty inserts in common.
record Four : Type 0 where
  held4 : Bool
  answer4 : ℕ
  new4 : ℕ
  free4 : ℕ

four : ◌≡◌ {A = Four} (record {
  held4 = all_found (forty 4) 1 40;
  answer4 = inserted_no (inserting (forty 4) 41).answer;
  new4 = needed (forty 4) 41;
  free4 = unused (forty 4) 41;
}) (record {
  held4 = true;
  answer4 = 7;
  new4 = 3;
  free4 = 2;
})
unfolding rules table store inserting loaded finding is_found all_found forty needed unused way_to
four = refl

case4 : Case4
case4 = record {
  held = ap (λ (r : Four). r.held4) four;
  answer = ap (λ (r : Four). r.answer4) four;
  new = ap (λ (r : Four). r.new4) four;
  free = ap (λ (r : Four). r.free4) four;
}

record Five : Type 0 where
  answer5 : ℕ
  lower5 : ℕ
  upper5 : ℕ
  lower_kind5 : ℕ
  upper_kind5 : ℕ
  root5 : ℕ
  over5 : ℕ
  children5 : List ℕ
  waiting5 : List Bool
  synced5 : ℕ
  inserted5 : ℕ
  opened6 : ℕ
  held6 : Bool
  mended6 : ℕ
  missing6 : ℕ
  opened7 : ℕ
  leaf7 : ℕ
  mended7 : ℕ
  opened8 : ℕ
  root8 : ℕ
  held8 : Bool
  missing8 : ℕ
  opened9 : ℕ
  held9 : Bool
  missing9 : ℕ
  answer_r : ℕ
  lower_r : ℕ
  total_r : ℕ
  missing_r : ℕ
  opened_r : ℕ
  found_r : Bool

five : ◌≡◌ {A = Five} (record {
  answer5 = inserted_no split41.answer;
  lower5 = entries_at (left split41) 2;
  upper5 = entries_at (left split41) 3;
  lower_kind5 = kind_at (left split41) 2;
  upper_kind5 = kind_at (left split41) 3;
  root5 = root0 split41.working;
  over5 = kind_at (left split41) 4;
  children5 = children_at (left split41) 4;
  waiting5 = split41.session.waiting;
  synced5 = synced_no synced40.answer;
  inserted5 = inserted_no synced41.answer;
  opened6 = opened_no (reopened pages04).answer;
  held6 = all_found (left (reopened pages04)) 1 40;
  mended6 = entries_at (left (finding (left (reopened pages04)) 21)) 3;
  missing6 = looked_no (finding (left (reopened pages04)) 41).answer;
  opened7 = opened_no (reopened page0).answer;
  leaf7 = kind_at (left (finding (left (reopened page0)) 21)) 4;
  mended7 = entries_at (left (finding (left (reopened page0)) 21)) 4;
  opened8 = opened_no (reopened pages23).answer;
  root8 = root0 (reopened pages23).working;
  held8 = all_found (left (reopened pages23)) 1 40;
  missing8 = looked_no (finding (left (reopened pages23)) 41).answer;
  opened9 = opened_no (reopened all_pages).answer;
  held9 = all_found (left (reopened all_pages)) 1 41;
  missing9 = looked_no (finding (left (reopened all_pages)) 42).answer;
  answer_r = withdrawn_no recalled.answer;
  lower_r = entries_at (left recalled) 2;
  total_r = recalled.session.total;
  missing_r = looked_no (finding (left recalled) 1).answer;
  opened_r = opened_no restored.answer;
  found_r = is_found 901 (finding (left restored) 1).answer;
}) (record {
  answer5 = 0;
  lower5 = 20;
  upper5 = 21;
  lower_kind5 = 1;
  upper_kind5 = 1;
  root5 = 4;
  over5 = 2;
  children5 = 2 ∷ (3 ∷ []);
  waiting5 = marks (eqb 1);
  synced5 = 0;
  inserted5 = 0;
  opened6 = 0;
  held6 = true;
  mended6 = 20;
  missing6 = 4;
  opened7 = 0;
  leaf7 = 1;
  mended7 = 40;
  opened8 = 0;
  root8 = 1;
  held8 = true;
  missing8 = 4;
  opened9 = 0;
  held9 = true;
  missing9 = 4;
  answer_r = 0;
  lower_r = 19;
  total_r = 40;
  missing_r = 4;
  opened_r = 0;
  found_r = true;
})
unfolding rules table store inserting loaded finding is_found all_found forty synced40 synced41 reopened split41 entries_at kind_at named children_at pages04 page0 page1 pages23 all_pages recalled restored
five = refl

case5 : Case5
case5 = record {
  answer = ap (λ (r : Five). r.answer5) five;
  lower = ap (λ (r : Five). r.lower5) five;
  upper = ap (λ (r : Five). r.upper5) five;
  leaves = (ap (λ (r : Five). r.lower_kind5) five, ap (λ (r : Five). r.upper_kind5) five);
  root = ap (λ (r : Five). r.root5) five;
  over = ap (λ (r : Five). r.over5) five;
  children = ap (λ (r : Five). r.children5) five;
  waiting = ap (λ (r : Five). r.waiting5) five;
}

before6 : Before6
before6 = record {
  synced = ap (λ (r : Five). r.synced5) five;
  inserted = ap (λ (r : Five). r.inserted5) five;
}

case6 : Case6
case6 = record {
  opened = ap (λ (r : Five). r.opened6) five;
  held = ap (λ (r : Five). r.held6) five;
  mended = ap (λ (r : Five). r.mended6) five;
  missing = ap (λ (r : Five). r.missing6) five;
}

case7 : Case7
case7 = record {
  opened = ap (λ (r : Five). r.opened7) five;
  leaf = ap (λ (r : Five). r.leaf7) five;
  mended = ap (λ (r : Five). r.mended7) five;
}

case8 : Case8
case8 = record {
  opened = ap (λ (r : Five). r.opened8) five;
  root = ap (λ (r : Five). r.root8) five;
  held = ap (λ (r : Five). r.held8) five;
  missing = ap (λ (r : Five). r.missing8) five;
}

case9 : Case9
case9 = record {
  opened = ap (λ (r : Five). r.opened9) five;
  held = ap (λ (r : Five). r.held9) five;
  missing = ap (λ (r : Five). r.missing9) five;
}

recall : Recall
recall = record {
  answer = ap (λ (r : Five). r.answer_r) five;
  lower = ap (λ (r : Five). r.lower_r) five;
  total = ap (λ (r : Five). r.total_r) five;
  missing = ap (λ (r : Five). r.missing_r) five;
  opened = ap (λ (r : Five). r.opened_r) five;
  found = ap (λ (r : Five). r.found_r) five;
}

case11 : Case11
unfolding rules table numbered
case11 = record { opens = refl; spent = refl }

pub cases : Cases
cases = record {
  case1 = case1;
  case2 = case2;
  case3 = case3;
  case4 = case4;
  case5 = case5;
  before6 = before6;
  case6 = case6;
  case7 = case7;
  case8 = case8;
  case9 = case9;
  case11 = case11;
  recall = recall;
}
