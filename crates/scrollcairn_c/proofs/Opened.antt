-- `scrollcairn_open`: what it says of the lists and of the forest is the rule's answer; where it is turned away all stays, else the lists
-- lent begin with those of a fresh bench.
use mathlib.Core.Path.{◌≡◌, refl, sym, ap, ◌∙◌}
use mathlib.Core.Logic.{⊎_elim}
use mathlib.Core.Bool.{Bool, true, false}
use mathlib.Core.List.{List, [], ◌∷◌, ◌++◌, append-nil}
use Prim.Native.Nat.{ℕ, ◌≤◌}
use native.Mathlib.Nat.{suc-ne-zero, lt_irrefl, mod-eq_of_lt, zero-add}
use native.Mathlib.Omega.{arith}
use lib.ListN.{length, get_or, take, drop, replicate, length-replicate}
use lib.Seq.{sets, sets-eq, length-take-le}
use Rattle.std.specs.Prelude.{Result, Ok, Err}
use Rattle.std.proofs.lemmas.List.{drop_all}
use Rattle.text.specs.Writing.{reach}
use Rattle.text.proofs.Written.{written-full}
use Rattle.sets.proofs.Bools.{either}
use Rattle.sets.proofs.Visits.{lowest-within}
use Rattle.layout.proofs.Tables.{length-tabulate}
use Rattle.forest.specs.Calls.{refuse, groups_refusal, drawing_refusal, check_refusal, check_parents, counted, drawn}
use Rattle.forest.specs.Forest.{without_primary}
use Rattle.model.specs.declared.Hop.{Hop}
use Rattle.model.specs.Network.{Plan, Network, fresh_on, ledger_of, hops_of, messages_of, sum_of, count_hops}
use Rattle.model.specs.Rules.{route_total}
use Rattle.bench_promises.specs.declared.replies.ListTooShort.{ListTooShort}
use Rattle.bench_promises.specs.State.{Bench, hop_records, log_book, bench_of, totals_of}
use Rattle.bench_promises.specs.Promises.{fresh_network, FreshPromise}
use Rattle.c_answers.specs.Answers.{unless_refused}
use Rattle.c_answers.specs.Replies.{reply_of, open_numbers, low_bits}
use Rattle.c_answers.specs.declared.replies.Reply.{Reply}
use Rattle.scrollcairn_c.specs.Live.{step_of, Lists, lists, is_open_short, open_refusal, open_plan, fresh_in, OpenExported}
use Rattle.scrollcairn_c.specs.Opening.{group_table, drawing, unless_told, looked_at, no_totals, opened_as}
use Rattle.scrollcairn_c.specs.declared.opening.Opening.{Opening}
use Rattle.scrollcairn_c.proofs.Whole.{open_long, arrive-long, send-long, tables-length, messages-length}

-- ---- the first of a list, as a table

table-take : (n d : ℕ) (l : List ℕ) → n ≤ length l → sets (replicate n d) 0 l ≡ take n l
table-take n d l h =
    let none : drop n (replicate n d) ≡ [] = drop_all n (replicate n d) (omega (arith, length-replicate n d)) in
    let list : List ℕ = replicate n d in
    (written-full {t = l} {list = list} {left = sets list 0 l} {place = reach 0 (length l) (length list)}
    (record { ends = refl; holds = refl })).1
    ∙ rw (length-replicate n d, length-take-le n l h, none) (append-nil (take n l))

-- ---- the refusal of a drawn forest: its numbers have 16 bits, the first is not 0

record Told (l : List ℕ) : Type 0 where
  small : low_bits l ≡ l
  none : get_or l 0 0 ≡ 0 → l ≡ []

told-refuse : (t : Bool) (x y : List ℕ) → Told x → Told y → Told (refuse t x y)
unfolding refuse
told-refuse true x y p q = p
told-refuse false x y p q = q

told-check : (n c : ℕ) (gs ps : List ℕ) → Told (check_refusal n c gs ps)
unfolding check_refusal groups_refusal drawing_refusal low_bits
told-check n c gs ps =
    let low = lowest-within (without_primary c (counted c gs) (drawn n ps)) in
    told-refuse _ _ _ (record { small = refl; none = λ e. absurd (suc-ne-zero _ e) })
    (told-refuse _ _ _ (record { small = refl; none = λ e. absurd (suc-ne-zero _ e) })
    (told-refuse _ _ _ (record { small = refl; none = λ e. absurd (suc-ne-zero _ e) })
    (told-refuse _ _ _ (record { small = refl; none = λ e. absurd (suc-ne-zero _ e) })
    (told-refuse _ _ _ (record { small = refl; none = λ e. absurd (suc-ne-zero _ e) })
    (told-refuse _ _ _
    (record { small = ap (λ (x : ℕ). 11 ∷ x ∷ []) (mod-eq_of_lt (omega (arith, low))); none = λ e. absurd (suc-ne-zero _ e) })
    (record { small = refl; none = λ _. refl }))))))

-- ---- a forest that was looked at, by what it is told

reply_in : Reply → Result Opening Reply → Reply
reply_in other (Ok o) = other
reply_in other (Err r) = r

opening_in : Opening → Result Opening Reply → Opening
opening_in other (Ok o) = o
opening_in other (Err r) = other

told-refused : (l : List ℕ) (o : Opening) (r : Reply) → low_bits l ≡ l → unless_told l o ≡ Err r
    → r ≡ reply_of (open_numbers l)
unfolding unless_told reply_of open_numbers low_bits reply_in
told-refused [] o r small e = let z : ◌≡◌ {A = ℕ} 0 1 = cc in absurd (lt_irrefl 0 (omega arith))
told-refused (n ∷ vs) o r small e =
    ap (reply_in r) (sym e) ∙ ap (λ (l : List ℕ). reply_of (open_numbers l)) small

refused-stays : {A : Type 0} (l : List ℕ) (o : Opening) (r : Reply) (x y : A) → unless_told l o ≡ Err r → y ≡ unless_refused l x y
unfolding unless_told unless_refused
refused-stays [] o r x y e = let z : ◌≡◌ {A = ℕ} 0 1 = cc in absurd (lt_irrefl 0 (omega arith))
refused-stays (n ∷ vs) o r x y e = refl

told-accepted : (l : List ℕ) (o o' : Opening) → unless_told l o ≡ Ok o' → (l ≡ []) × (o' ≡ o)
unfolding unless_told opening_in
told-accepted [] o o' e = (refl, ap (opening_in o) (sym e))
told-accepted (n ∷ vs) o o' e = let z : ◌≡◌ {A = ℕ} 0 1 = cc in absurd (lt_irrefl 0 (omega arith))

-- ---- lists put first in longer ones

put_first : {A : Type 0} (n : ℕ) (l x : List A) → length x ≡ n → n ≤ length l → sets l 0 x ≡ x ++ drop n l
put_first n l x e h = sets-eq x l 0 (omega (arith, e, h)) ∙ ap (λ (i : ℕ). x ++ drop i l) (zero-add (length x) ∙ e)

-- ---- what the call says

module _ (units count : ℕ) (fs qs : List ℕ) (k : Lists) where
  abbrev short : Bool
  short = is_open_short fs qs k

  abbrev R : List ℕ
  R = open_refusal units count fs qs k

  abbrev P : Plan
  P = open_plan units count fs qs

  abbrev looked : Result Opening Reply
  looked = looked_at short units count fs qs

  -- the forest, as it stands in the tables
  abbrev forest : Opening
  forest = record { groups = group_table fs; parents = check_parents units count (group_table fs) (drawing qs) }

  -- the lengths, where no list is too short
  pub record Long : Type 0 where
    pub groups : 24 ≤ length fs
    pub parents : 32 ≤ length qs
    pub tables : 140 ≤ length k.tables
    pub messages : 600 ≤ length k.messages
    pub pairs : 2 ≤ length k.pairs
    pub gauges : 32 ≤ length k.gauges
    pub hops : 2000 ≤ length k.hops
    pub book : 6400 ≤ length k.book

  pub lengths : short ≡ false → Long
  lengths e =
      let x = open_long _ _ _ _ _ _ _ _ e in let y = arrive-long _ _ _ _ _ _ x.2 in let z = send-long _ _ _ _ y.2 in
      record {
        groups = x.0;
        parents = x.1;
        tables = z.0;
        messages = z.1;
        pairs = z.2;
        gauges = y.0;
        hops = z.3;
        book = y.1;
      }

  first-groups : Long → group_table fs ≡ take 24 fs
  unfolding group_table
  first-groups x = table-take 24 0 fs x.groups

  first-parents : Long → drawing qs ≡ take 32 qs
  unfolding drawing
  first-parents x = table-take 32 255 qs x.parents

  looked-told : looked ≡ unless_told R forest
  unfolding looked_at open_refusal
  looked-told = ⊎_elim
      (λ (e : short ≡ true). rw e)
      (λ (e : short ≡ false). let x = lengths e in rw (e, first-groups x, first-parents x))
      (either short)

  told : Told R
  unfolding open_refusal low_bits
  told = ⊎_elim
      (λ (e : short ≡ true). rw e (record { small = refl; none = λ p. absurd (suc-ne-zero _ p) }))
      (λ (e : short ≡ false). rw e (told-check units count (take 24 fs) (take 32 qs)))
      (either short)

  fresh-totals : no_totals ≡ (bench_of (fresh_on P)).totals
  unfolding no_totals bench_of totals_of fresh_on ledger_of hops_of messages_of sum_of count_hops route_total
  fresh-totals = refl

  answered : (r : Reply) → r ≡ reply_of (open_numbers R)
      → opened_as r ≡ step_of (bench_of (fresh_on P)).totals (open_numbers R)
  unfolding opened_as step_of
  answered r e = λ i. record { totals = fresh-totals i; reply = e i }

  pub open_refused : (r : Reply) → looked ≡ Err r → OpenExported units count fs qs k (opened_as r) k
  open_refused r e = let turned = sym looked-told ∙ e in record {
    answers = answered r (told-refused R forest r told.small turned);
    leaves = refused-stays R forest r _ k turned;
  }

  -- ---- and what it leaves where a bench is opened

  module _ (o : Opening) (opens : looked ≡ Ok o) where
    no_refusal : R ≡ []
    no_refusal = (told-accepted R forest o (sym looked-told ∙ opens)).0

    forest-is : o ≡ forest
    forest-is = (told-accepted R forest o (sym looked-told ∙ opens)).1

    whole : Long
    unfolding open_refusal
    whole = ⊎_elim
        (λ (e : short ≡ true). let p : R ≡ 1 ∷ [] = rw e in absurd (suc-ne-zero 0 (ap (λ (l : List ℕ). get_or l 0 0)
        (sym p ∙ no_refusal))))
        (λ (e : short ≡ false). lengths e)
        (either short)

    module _ (r : Result Unit ListTooShort) (X : Bench) (hs : List Hop) (bk : List ℕ)
        (promise : FreshPromise units count o.groups o.parents k.hops k.book r X hs bk) where
      plan-is : fresh_network units count o.groups o.parents ≡ fresh_on P
      unfolding open_plan
      plan-is = ap (λ (q : Opening). fresh_network units count q.groups q.parents) forest-is
          ∙ (λ i. fresh_on (record {
            units = units;
            count = count;
            groups = first-groups whole i;
            parents = check_parents units count (first-groups whole i) (first-parents whole i);
          }))

      bench-is : X ≡ bench_of (fresh_on P)
      bench-is = promise.bench ∙ ap bench_of plan-is

      pub open_made : (s : Reply) → s ≡ reply_of (0 ∷ 8 ∷ 0 ∷ []) → OpenExported units count fs qs k (opened_as s)
          (lists (sets k.tables 0 X.tables) (sets k.messages 0 X.messages) (sets k.pairs 0 X.pairs)
          (sets k.gauges 0 X.gauges) hs bk)
      unfolding open_numbers unless_refused fresh_in bench_of fresh_on ledger_of
      open_made s e = record {
        answers = answered s (e ∙ ap (λ (l : List ℕ). reply_of (open_numbers l)) (sym no_refusal));
        leaves = made ∙ sym (ap (λ (l : List ℕ). unless_refused l (fresh_in P k) k) no_refusal);
      }
        where
          put : {A : Type 0} (n : ℕ) (f : Bench → List A) (l : List A) → length (f (bench_of (fresh_on P))) ≡ n → n ≤ length l
              → sets l 0 (f X) ≡ f (bench_of (fresh_on P)) ++ drop n l
          put n f l e h = ap (λ (b : Bench). sets l 0 (f b)) bench-is ∙ put_first n l (f (bench_of (fresh_on P))) e h

          made : lists (sets k.tables 0 X.tables) (sets k.messages 0 X.messages) (sets k.pairs 0 X.pairs)
              (sets k.gauges 0 X.gauges) hs bk ≡ fresh_in P k
          made = λ i. record {
            tables = put 140 (λ b. b.tables) k.tables (tables-length P.units P.count P.groups P.parents) whole.tables i;
            messages = put 600 (λ b. b.messages) k.messages (messages-length _) whole.messages i;
            pairs = put 2 (λ b. b.pairs) k.pairs refl whole.pairs i;
            gauges = put 32 (λ b. b.gauges) k.gauges (length-tabulate 32 _) whole.gauges i;
            hops = ((promise.whole whole.hops whole.book).1 ∙ ap (λ (W : Network). hop_records W ++ drop 2000 k.hops) plan-is) i;
            book = ((promise.whole whole.hops whole.book).2 ∙ ap (λ (W : Network). log_book W ++ drop 6400 k.book) plan-is) i;
          }
