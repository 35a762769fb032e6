-- Rows and hop records that are put, and a test by a quotient. Assumes nothing.
use mathlib.Core.Path.{◌≡◌, refl, sym, ap, ◌∙◌}
use mathlib.Core.Logic.{by_cases}
use mathlib.Core.List.{List, [], ◌∷◌, ◌++◌, append-nil, append_assoc}
use Prim.Native.Nat.{ℕ, zero, suc, ◌+◌, ◌*◌, ◌/◌, ◌≤◌, ◌<◌}
use native.Mathlib.Decide.{dec_lt}
use native.Mathlib.Omega.{arith}
use native.Mathlib.Numerals.{add-one}
use borrow.Author.Tests.{lt-ltb, le-ltb}
use lib.Dec.{ltb}
use lib.ListN.{length, take}
use lib.Seq.{take-suc, take_all}
use Rattle.text.specs.declared.writing.Output.{Output}
use Rattle.text.specs.Writing.{Writes}
use Rattle.text.proofs.Written.{writes_is, writes_append}
use Rattle.model.specs.declared.Hop.{Hop}
use Rattle.model.specs.Network.{no_hop, hop_at}
use Rattle.bench_store.specs.Values.{row_in}
use Rattle.bench_promises.specs.State.{joined}
use Rattle.call_replay.specs.Rules.{hop_numbers}
use Rattle.call_replay.specs.Claims.{rows_of}

-- one row more
joined_snoc : (n : ℕ) (f : ℕ → List ℕ) → joined (suc n) f ≡ joined n f ++ f n
unfolding joined
joined_snoc zero f = append-nil (f 0)
joined_snoc (suc n) f = ap (λ (l : List ℕ). f 0 ++ l) (joined_snoc n (λ i. f (suc i))) ∙ sym
    (append_assoc (f 0) (joined n (λ i. f (suc i))) (f (suc n)))

pub rows_more : (pairs : List (List (List ℕ))) (k : ℕ) {a b c : Output ℕ} (n : ℕ) (row : List ℕ) → row ≡ row_in pairs k n
    → Writes (rows_of n pairs k) a b → Writes row b c → Writes (rows_of (n + 1) pairs k) a c
unfolding rows_of
rows_more pairs k n row e v w =
    let rows : ℕ → List ℕ = row_in pairs k in
    writes_is (ap (λ (l : List ℕ). joined n rows ++ l) e ∙ sym (ap (λ (i : ℕ). joined i rows) (add-one n) ∙ joined_snoc n rows))
    (writes_append v w)

numbers_append : (xs ys : List Hop) → hop_numbers (xs ++ ys) ≡ hop_numbers xs ++ hop_numbers ys
unfolding hop_numbers
numbers_append [] ys = refl
numbers_append (x ∷ xs) ys = λ i. x.sender ∷ x.receiver ∷ x.sequence ∷ x.message ∷ x.state ∷ numbers_append xs ys i

-- one record more, and all of them
pub records-more : (hs : List Hop) {a b c : Output ℕ} (i : ℕ) → i < length hs
    → Writes (hop_numbers (take i hs)) a b → Writes (hop_numbers (hop_at hs i ∷ [])) b c
    → Writes (hop_numbers (take (i + 1) hs)) a c
unfolding hop_at
records-more hs i within v w =
    writes_is (sym (ap hop_numbers (ap (λ (n : ℕ). take n hs) (add-one i) ∙ take-suc hs i no_hop within)
    ∙ numbers_append (take i hs) _))
    (writes_append v w)

pub records-all : (hs : List Hop) {a b : Output ℕ} (i : ℕ) → length hs ≤ i
    → Writes (hop_numbers (take i hs)) a b → Writes (hop_numbers hs) a b
records-all hs i all w = writes_is (ap hop_numbers (take_all i hs all)) w

-- ---- numbers

-- the quotient is below a number where the whole is below its product
pub divided : (r n : ℕ) → ltb (r / 203) n ≡ ltb r (203 * n)
divided r n =
    by_cases (dec_lt r (203 * n)) (λ less. lt-ltb (r / 203) n (omega (arith, less)) ∙ sym (lt-ltb r (203 * n) less))
    (λ more. le-ltb (r / 203) n (omega (arith, more)) ∙ sym (le-ltb r (203 * n) (omega (arith, more))))
