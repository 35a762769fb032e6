-- Laws of the log book, of 200 numbers in each of 32 rows: one number logged, a row read back; and the fresh state. Assumes nothing.
use mathlib.Core.Path.{◌≡◌, refl, sym, ap, subst, ◌∙◌}
use mathlib.Core.Bool.{◌&&◌}
use mathlib.Core.List.{List, [], ◌∷◌, ◌++◌, append_assoc}
use Prim.Native.Nat.{ℕ, zero, suc, ◌+◌, ◌*◌, ◌≤◌, ◌<◌}
use native.Mathlib.Nat.{not-suc-le-zero, le_of_suc-le-suc, zero-add, suc-add, zero-mul, suc-mul, suc_inj, suc-ne-zero}
use native.Mathlib.Omega.{arith}
use borrow.Author.Tests.{lt-ltb, le-leb}
use lib.Dec.{ltb, leb}
use lib.ListN.{length, set, take, drop, replicate, length-append, replicate-append-replicate}
use lib.Seq.{set-append_left, take-append-le, drop-append-add, take-append_seam}
use Rattle.sets.proofs.Bools.{cond-true, and_both}
use Rattle.layout.specs.Tables.{tabulate}
use Rattle.layout.proofs.Tables.{same_tables}
use Rattle.model.specs.Network.{Plan, fresh_on, no_hop, no_message, ledger_of, messages_of, hops_of, log_of, sum_of, count_hops, pair_count}
use Rattle.model.specs.Network.{pair_taken}
use Rattle.model.specs.Rules.{route_total}
use Rattle.bench_store.specs.Values.{no_counts, logged}
use Rattle.bench_promises.specs.Machine.{fresh_bench}
use Rattle.bench_promises.specs.State.{padded, joined, hop_records, log_book, pair_table, message_column, message_list, totals_of}
use Rattle.bench_promises.specs.State.{plan_tables, bench_of}
use Rattle.bench_promises.proofs.Padding.{padded-none, padded-length, padded_snoc, get_d_constant, tabulate_constant}

module _ {A : Type 0} where
  -- ---- rows of one length, one after the other

  pub joined_length : (n k : ℕ) (f : ℕ → List A) → ((i : ℕ) → length (f i) ≡ k) → length (joined n f) ≡ n * k
  unfolding joined
  joined_length zero k f long = sym (zero-mul k)
  joined_length (suc n) k f long =
      omega (
        arith,
        length-append (f 0) (joined n (λ i. f (suc i))),
        long 0,
        joined_length n k (λ i. f (suc i)) (λ i. long (suc i)),
        suc-mul n k,
      )

  pub joined_same : (n : ℕ) (f g : ℕ → List A) → ((i : ℕ) → f i ≡ g i) → joined n f ≡ joined n g
  unfolding joined
  joined_same zero f g same = refl
  joined_same (suc n) f g same = λ i. same 0 i ++ joined_same n (λ j. f (suc j)) (λ j. g (suc j)) (λ j. same (suc j)) i

  pub joined_constant : (n k : ℕ) (x : A) → joined n (λ i. replicate k x) ≡ replicate (n * k) x
  unfolding joined
  joined_constant zero k x = ap (λ (i : ℕ). replicate i x) (sym (zero-mul k))
  joined_constant (suc n) k x =
      let e : k + n * k ≡ suc n * k = omega (arith, suc-mul n k) in
      ap (λ (l : List A). replicate k x ++ l) (joined_constant n k x) ∙ replicate-append-replicate k (n * k) x
      ∙ ap (λ (i : ℕ). replicate i x) e

  -- where row u of the rows after l begins
  row-start : (l : List A) (k u : ℕ) → length l ≡ k → suc u * k ≡ length l + u * k
  row-start l k u e = omega (arith, suc-mul u k)

  set_append_add : (l r : List A) (i : ℕ) (y : A) → set (l ++ r) (length l + i) y ≡ l ++ set r i y
  set_append_add [] r i y = ap (λ (k : ℕ). set r k y) (zero-add i)
  set_append_add (x ∷ l) r i y =
      ap (λ (k : ℕ). set (x ∷ (l ++ r)) k y) (suc-add (length l) i) ∙ ap (λ (t : List A). x ∷ t) (set_append_add l r i y)

  -- row u has y at place j, and the other rows are as they were
  pub joined-set : (n k : ℕ) (f g : ℕ → List A) (u j : ℕ) (y : A) → u < n → ((i : ℕ) → length (f i) ≡ k) → j < k
      → set (f u) j y ≡ g u → ((i : ℕ) → (i ≡ u → ⊥) → g i ≡ f i) → set (joined n f) (u * k + j) y ≡ joined n g
  unfolding joined
  joined-set zero k f g u j y b long c e other = absurd (not-suc-le-zero b)
  joined-set (suc n) k f g zero j y b long c e other =
      let first : zero * k + j ≡ j = omega (arith, zero-mul k) in
      let rest : List A = joined n (λ i. f (suc i)) in
      ap (λ (i : ℕ). set (f 0 ++ rest) i y) first
      ∙ set-append_left (f 0) rest j y (subst (λ (m : ℕ). j < m) (sym (long 0)) c)
      ∙ (λ i. e i ++ joined_same n (λ v. f (suc v)) (λ v. g (suc v)) (λ v. sym (other (suc v) (suc-ne-zero v))) i)
  joined-set (suc n) k f g (suc u) j y b long c e other =
      let next : suc u * k + j ≡ length (f 0) + (u * k + j) = omega (arith, row-start (f 0) k u (long 0)) in
      let rest : List A = joined n (λ i. f (suc i)) in
      ap (λ (i : ℕ). set (f 0 ++ rest) i y) next
      ∙ set_append_add (f 0) rest (u * k + j) y
      ∙ (λ i. sym (other 0 (λ p. suc-ne-zero u (sym p))) i
      ++ joined-set n k (λ v. f (suc v)) (λ v. g (suc v)) u j y (le_of_suc-le-suc b) (λ v. long (suc v)) c e
      (λ v p. other (suc v) (λ q. p (suc_inj q))) i)

  -- the first j of row u
  pub joined-part : (n k : ℕ) (f : ℕ → List A) (u j : ℕ) (rest : List A) → u < n
      → ((i : ℕ) → length (f i) ≡ k) → j ≤ k
      → take j (drop (u * k) (joined n f ++ rest)) ≡ take j (f u)
  unfolding joined
  joined-part zero k f u j rest b long c = absurd (not-suc-le-zero b)
  joined-part (suc n) k f zero j rest b long c =
      let more : List A = joined n (λ i. f (suc i)) in
      ap (λ (i : ℕ). take j (drop i (f 0 ++ more ++ rest))) (zero-mul k)
      ∙ ap (take j) (append_assoc (f 0) more rest)
      ∙ take-append-le j (f 0) (more ++ rest) (subst (λ (m : ℕ). j ≤ m) (sym (long 0)) c)
  joined-part (suc n) k f (suc u) j rest b long c =
      let more : List A = joined n (λ i. f (suc i)) in
      ap (λ (i : ℕ). take j (drop i (f 0 ++ more ++ rest))) (row-start (f 0) k u (long 0))
      ∙ ap (λ (l : List A). take j (drop (length (f 0) + u * k) l)) (append_assoc (f 0) more rest)
      ∙ ap (take j) (drop-append-add (f 0) (more ++ rest) (u * k))
      ∙ joined-part n k (λ i. f (suc i)) u j rest (le_of_suc-le-suc b) (λ i. long (suc i)) c

-- ---- the log book

row-length : (f : ℕ → List ℕ) → ((u : ℕ) → length (f u) ≤ 200) → (u : ℕ) → length (padded 200 0 (f u)) ≡ 200
row-length f short u = padded-length 200 0 (f u) (short u)

pub book-length : (f : ℕ → List ℕ) → ((u : ℕ) → length (f u) ≤ 200) → length (joined 32 (λ u. padded 200 0 (f u))) ≡ 6400
book-length f short = joined_length 32 200 (λ u. padded 200 0 (f u)) (row-length f short)

pub book-log : (f g : ℕ → List ℕ) (u m : ℕ) (rest : List ℕ) → u < 32
    → ((v : ℕ) → length (f v) ≤ 200) → length (f u) < 200
    → g u ≡ f u ++ m ∷ [] → ((v : ℕ) → (v ≡ u → ⊥) → g v ≡ f v)
    → logged u (length (f u)) m (joined 32 (λ v. padded 200 0 (f v)) ++ rest) ≡ joined 32 (λ v. padded 200 0 (g v)) ++ rest
unfolding logged
book-log f g u m rest b short room e other =
    let book : List ℕ = joined 32 (λ v. padded 200 0 (f v)) in
    let long : length (book ++ rest) ≡ 6400 + length rest = omega (arith, length-append book rest, book-length f short) in
    let fits : u * 200 + 200 ≤ length (book ++ rest) = omega arith in
    let within : u * 200 + length (f u) < length book = omega (arith, book-length f short) in
    cond-true _ _ _ (and_both (ltb u 32 && leb (u * 200 + 200) (length (book ++ rest))) _
    (and_both (ltb u 32) _ (lt-ltb u 32 b) (le-leb _ _ fits)) (lt-ltb _ _ room))
    ∙ set-append_left book rest (u * 200 + length (f u)) m within
    ∙ ap (λ (l : List ℕ). l ++ rest) (joined-set 32 200 (λ v. padded 200 0 (f v)) (λ v. padded 200 0 (g v)) u (length (f u)) m b
    (row-length f short) room (padded_snoc 200 0 m (f u) room ∙ ap (padded 200 0) (sym e)) (λ v n. ap (padded 200 0) (other v n)))

pub book-part : (f : ℕ → List ℕ) (u : ℕ) (rest : List ℕ) → u < 32 → ((v : ℕ) → length (f v) ≤ 200)
    → take (length (f u)) (drop (u * 200) (joined 32 (λ v. padded 200 0 (f v)) ++ rest)) ≡ f u
unfolding padded
book-part f u rest b short =
    joined-part 32 200 (λ v. padded 200 0 (f v)) u (length (f u)) rest b (row-length f short) (short u) ∙ take-append_seam (f u) _

-- ---- the fresh state

fresh-log : (P : Plan) (u : ℕ) → log_of u (fresh_on P) ≡ []
unfolding log_of fresh_on
fresh-log P u = get_d_constant 32 [] u

pub fresh-hops : (P : Plan) → hop_records (fresh_on P) ≡ replicate 2000 no_hop
unfolding hop_records hops_of fresh_on
fresh-hops P = padded-none 2000 no_hop

pub fresh-book : (P : Plan) → log_book (fresh_on P) ≡ replicate 6400 0
unfolding log_book
fresh-book P =
    joined_same 32 (λ u. padded 200 0 (log_of u (fresh_on P))) (λ u. replicate 200 0)
    (λ u. ap (padded 200 0) (fresh-log P u) ∙ padded-none 200 0)
    ∙ joined_constant 32 200 0

-- a table whose entries are all x
all_same : {A : Type 0} (n : ℕ) (f : ℕ → A) (x : A) → ((i : ℕ) → f i ≡ x) → tabulate n f ≡ replicate n x
all_same n f x same = same_tables n f (λ i. x) (λ i b. same i) ∙ tabulate_constant n x

none-counted : (f : ℕ → ℕ → ℕ) → ((s r : ℕ) → f s r ≡ 0) → pair_table f ≡ no_counts
unfolding pair_table no_counts
none-counted f none =
    all_same 32 (λ s. tabulate 32 (f s)) (replicate 32 0) (λ s. all_same 32 (f s) 0 (none s))

fresh-messages : message_list [] ≡ replicate 600 0
unfolding message_list message_column no_message
fresh-messages =
    let none : tabulate {A = ℕ} 200 (λ i. 0) ≡ replicate 200 0 = tabulate_constant 200 0 in
    (λ i. none i ++ (none i ++ none i)) ∙ ap (λ (l : List ℕ). replicate 200 0 ++ l) (replicate-append-replicate 200 200 0) ∙
    replicate-append-replicate 200 400 0

pub fresh-bench : (P : Plan) → bench_of (fresh_on P) ≡ fresh_bench P.units P.count P.groups P.parents
unfolding bench_of totals_of fresh_bench ledger_of hops_of messages_of fresh_on count_hops sum_of route_total pair_count pair_taken
fresh-bench P = λ i. record {
  totals = record { made = 0; taken = 0; sent = 0; routed = 0 };
  tables = plan_tables P;
  messages = fresh-messages i;
  pairs = none-counted (λ s r. pair_count s r []) (λ s r. refl) i ∷ none-counted (λ s r. pair_taken s r []) (λ s r. refl) i ∷ [];
  gauges = all_same 32 (λ u. length (log_of u (fresh_on P))) 0 (λ u. ap length (fresh-log P u)) i;
}
