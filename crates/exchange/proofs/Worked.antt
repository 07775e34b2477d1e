-- Worked cases: a file byte by byte, and where files that are not one are bad. Assumes nothing.
use Rattle.std.specs.Prelude.{Ok, Err}
use mathlib.Core.Path.{◌≡◌, refl}
use mathlib.Core.List.{List, [], ◌∷◌, ◌++◌}
use Prim.Native.Nat.{ℕ}
use lib.ListN.{replicate}
use Rattle.rules.specs.Key.{key_of}
use Rattle.rules.specs.Entry.{Cert}
use Rattle.exchange.specs.Written.{file_of}
use Rattle.exchange.specs.Judged.{judged, checked}
use Rattle.exchange.specs.Told.{certs_in}
use Rattle.exchange.proofs.Computing.{exchange}

-- an empty store gives twelve zero bytes
no_certs : file_of [] ≡ replicate 12 0
unfolding exchange
no_certs = refl

no_certs-told : checked (replicate 12 0) ≡ Ok 0
unfolding exchange
no_certs-told = refl

-- ── Four certificates of three meters of two models ─────────────────────────────────────────────────────────────

cert : ℕ → ℕ → ℕ → ℕ → Cert
cert model serial issue record-number = record { key = key_of model serial issue; value = record-number }

four : List Cert
four = cert 7 1 1 901 ∷ cert 7 1 2 902 ∷ cert 7 258 1 903 ∷ cert 300 1 32768 904 ∷ []

models : List ℕ
models = 2 ∷ 0 ∷ 0 ∷ 0 ∷ 7 ∷ 0 ∷ 44 ∷ 1 ∷ []

meters : List ℕ
meters = 3 ∷ 0 ∷ 0 ∷ 0 ∷ 0 ∷ 0 ∷ 1 ∷ 0 ∷ 0 ∷ 0 ∷ 0 ∷ 0 ∷ 2 ∷ 1 ∷ 0 ∷ 0 ∷ 1 ∷ 0 ∷ 1 ∷ 0 ∷ 0 ∷ 0 ∷ []

certs : List ℕ
certs =
    4 ∷ 0 ∷ 0 ∷ 0
    ∷ 0 ∷ 0 ∷ 0 ∷ 0 ∷ 1 ∷ 0 ∷ 133 ∷ 3 ∷ 0 ∷ 0
    ∷ 0 ∷ 0 ∷ 0 ∷ 0 ∷ 2 ∷ 0 ∷ 134 ∷ 3 ∷ 0 ∷ 0
    ∷ 1 ∷ 0 ∷ 0 ∷ 0 ∷ 1 ∷ 0 ∷ 135 ∷ 3 ∷ 0 ∷ 0
    ∷ 2 ∷ 0 ∷ 0 ∷ 0 ∷ 0 ∷ 128 ∷ 136 ∷ 3 ∷ 0 ∷ 0
    ∷ []

file : List ℕ
file = models ++ (meters ++ certs)

written : file_of four ≡ file
unfolding exchange cert four models meters certs file
written = refl

read : checked file ≡ Ok 4
unfolding exchange models meters certs file
read = refl

told : certs_in file ≡ four
unfolding exchange cert four models meters certs file
told = refl

-- ── Bad files ───────────────────────────────────────────────────────────────────────────────────────────────────

-- no byte at all: the first count is cut off
nothing_there : judged [] ≡ Err 0
unfolding exchange
nothing_there = refl

-- a count larger than the file is not bad itself: the first model that is missing is
count_too_large : judged (255 ∷ 255 ∷ 255 ∷ 255 ∷ 7 ∷ 0 ∷ 44 ∷ []) ≡ Err 6
unfolding exchange
count_too_large = refl

-- the count of the meters is cut off; it would begin behind the file
meters-missing : judged models ≡ Err 8
unfolding exchange models
meters-missing = refl

-- a model that is zero, and one that is not above the one before it
model-zero : judged (1 ∷ 0 ∷ 0 ∷ 0 ∷ 0 ∷ 0 ∷ []) ≡ Err 4
unfolding exchange
model-zero = refl

model-again : judged (2 ∷ 0 ∷ 0 ∷ 0 ∷ 7 ∷ 0 ∷ 7 ∷ 0 ∷ []) ≡ Err 6
unfolding exchange
model-again = refl

-- a certificate that names a place beyond the meters
cert_beyond : judged (1 ∷ 0 ∷ 0 ∷ 0 ∷ 7 ∷ 0 ∷ 1 ∷ 0 ∷ 0 ∷ 0 ∷ 0 ∷ 0 ∷ 1 ∷ 0 ∷ 0 ∷ 0 ∷ 1 ∷ 0 ∷ 0 ∷ 0 ∷ 1 ∷ 0 ∷ 0 ∷ 0 ∷ 1 ∷ 0 ∷ 5 ∷ 0 ∷ 0 ∷ 0 ∷ []) ≡ Err 20
unfolding exchange
cert_beyond = refl

-- a model without a meter, when the meters end
model-bare : judged (models ++ (1 ∷ 0 ∷ 0 ∷ 0 ∷ 0 ∷ 0 ∷ 1 ∷ 0 ∷ 0 ∷ 0 ∷ [])) ≡ Err 18
unfolding exchange models
model-bare = refl

-- meters under the models 0, 2 and 1: the one under 2 passes over 1, whatever follows it
meter-passes : judged (3 ∷ 0 ∷ 0 ∷ 0 ∷ 7 ∷ 0 ∷ 8 ∷ 0 ∷ 9 ∷ 0 ∷ 3 ∷ 0 ∷ 0 ∷ 0 ∷ 0 ∷ 0 ∷ 1 ∷ 0 ∷ 0 ∷ 0 ∷ 2 ∷ 0 ∷ 1 ∷ 0 ∷ 0 ∷ 0 ∷ 1 ∷ 0 ∷ 1 ∷ 0 ∷ 0 ∷ 0 ∷ []) ≡ Err 20
unfolding exchange
meter-passes = refl

-- a meter without a certificate, when the certificates end, is told at the same byte as a surplus one
meter-bare : judged (models ++ (meters ++ (0 ∷ 0 ∷ 0 ∷ 0 ∷ []))) ≡ Err 34
unfolding exchange models meters
meter-bare = refl

surplus : judged (file ++ (0 ∷ [])) ≡ Err 74
unfolding exchange models meters certs file
surplus = refl
