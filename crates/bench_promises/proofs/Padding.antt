-- Laws of lists padded to a fixed length, and of the tables of a bench: one message more, one count changed. Assumes nothing.
use mathlib.Core.Path.{◌≡◌, refl, sym, ap, subst, ◌∙◌}
use mathlib.Core.Logic.{by_cases}
use mathlib.Core.Bool.{true}
use mathlib.Core.List.{List, [], ◌∷◌, ◌++◌, append-nil, append_assoc}
use Prim.Native.Nat.{ℕ, zero, suc, ◌+◌, ◌-◌, ◌≤◌, ◌<◌}
use native.Mathlib.Nat.{le_of_lt}
use native.Mathlib.Numerals.{add-one}
use native.Mathlib.Decide.{ℕ_discrete}
use native.Mathlib.Omega.{arith}
use borrow.Author.Tests.{lt-ltb}
use lib.Dec.{ltb}
use lib.ListN.{length, get_or, set, take, drop, replicate, length-append, length-set, length-replicate, replicate-append-replicate}
use lib.Seq.{append_snoc, set-append_seam, set-append_left, set_at, take_at, drop_at, drop-cons, get_or-set_same, get_or-set_other}
use Rattle.sets.proofs.Bools.{cond-true, and_both}
use Rattle.layout.specs.Tables.{tabulate}
use Rattle.layout.proofs.Tables.{length-tabulate, get_d_tabulate, tabulated, same_tables}
use Rattle.model.specs.declared.Message.{Message}
use Rattle.model.specs.Network.{no_message, message_at}
use Rattle.model.proofs.Hops.{length_snoc}
use Rattle.bench_store.specs.Values.{capped, plus, byte, filled, item_at, column_at, with_column, added, is_pair, count_in, added_in}
use Rattle.bench_promises.specs.State.{padded, pair_table, message_column, message_list}
-- laws of other libraries under this crate's names
pub use lib.ListN.{get_or-append as append_at}
pub use lib.Seq.{set-append_left as append-set}
pub use Rattle.layout.proofs.Tables.{get_d_tabulate as tabulate-at}

-- ---- numbers within their width

pub capped_small : (n : ℕ) → n < 65536 → capped n ≡ n
unfolding capped
capped_small n h = omega (arith, h)

pub plus-small : (a b : ℕ) → a + b < 65536 → plus a b ≡ a + b
unfolding plus
plus-small a b h = capped_small (a + b) h

pub byte_small : (n : ℕ) → n < 256 → byte n ≡ n
unfolding byte
byte_small n h = cond-true _ _ _ (lt-ltb n 256 h)

module _ {A : Type 0} where
  -- ---- padded lists

  pub padded-none : (n : ℕ) (x : A) → padded n x [] ≡ replicate n x
  unfolding padded
  padded-none n x = ap (λ (k : ℕ). replicate k x) (let e : n - 0 ≡ n = omega arith in e)

  pub padded-length : (n : ℕ) (x : A) (l : List A) → length l ≤ n → length (padded n x l) ≡ n
  unfolding padded
  padded-length n x l h = omega (arith, length-append l (replicate (n - length l) x), length-replicate (n - length l) x)

  pub padded_snoc : (n : ℕ) (x y : A) (l : List A) → length l < n → set (padded n x l) (length l) y ≡ padded n x (l ++ y ∷ [])
  unfolding padded
  padded_snoc n x y l h =
      let k : ℕ = n - suc (length l) in
      let e : n - length l ≡ suc k = omega arith in
      let e' : k ≡ n - length (l ++ y ∷ []) = omega (arith, length_snoc l y) in
      ap (λ (i : ℕ). set (l ++ replicate i x) (length l) y) e
      ∙ set-append_seam l x (replicate k x) y
      ∙ sym (append_snoc l y (replicate k x))
      ∙ ap (λ (i : ℕ). (l ++ y ∷ []) ++ replicate i x) e'

  pub padded-set : (n : ℕ) (x y : A) (l : List A) (i : ℕ) → i < length l → set (padded n x l) i y ≡ padded n x (set l i y)
  unfolding padded
  padded-set n x y l i h =
      set-append_left l _ i y h ∙ ap (λ (k : ℕ). set l i y ++ replicate (n - k) x) (sym (length-set l i y))

  pub get_d_constant : (n : ℕ) (x : A) (i : ℕ) → get_or (replicate n x) i x ≡ x
  get_d_constant zero x i = refl
  get_d_constant (suc n) x zero = refl
  get_d_constant (suc n) x (suc i) = get_d_constant n x i

  padding_at : (n : ℕ) (x : A) (l : List A) (i : ℕ) → get_or (l ++ replicate n x) i x ≡ get_or l i x
  padding_at n x [] i = get_d_constant n x i
  padding_at n x (y ∷ l) zero = refl
  padding_at n x (y ∷ l) (suc i) = padding_at n x l i

  pub padded-at : (n : ℕ) (x : A) (l : List A) (i : ℕ) → get_or (padded n x l) i x ≡ get_or l i x
  unfolding padded
  padded-at n x l i = padding_at (n - length l) x l i

  -- ---- a list whose first places were filled

  pub filled-whole : (n : ℕ) (x : A) (l : List A) → n ≤ length l → filled n x l ≡ replicate n x ++ drop n l
  unfolding filled
  filled-whole zero x l h = refl
  filled-whole (suc n) x l h =
      ap (λ (r : List A). set r n x) (filled-whole n x l (le_of_lt h) ∙ ap (λ (r : List A). replicate n x ++ r) (drop-cons l n x h))
      ∙ set_at (replicate n x) (get_or l n x) (drop (suc n) l) x n (length-replicate n x)
      ∙ sym (append_snoc (replicate n x) x (drop (suc n) l))
      ∙ ap (λ (r : List A). r ++ drop (suc n) l) (replicate-append-replicate n 1 x ∙ ap (λ (k : ℕ). replicate k x) (add-one n))

  -- ---- tables

  pub tabulate_constant : (n : ℕ) (x : A) → tabulate n (λ i. x) ≡ replicate n x
  unfolding tabulate
  tabulate_constant zero x = refl
  tabulate_constant (suc n) x = ap (λ (l : List A). x ∷ l) (tabulate_constant n x)

  pub tabulate-set : (n : ℕ) (f g : ℕ → A) (i : ℕ) (y : A) → i < n → g i ≡ y
      → ((k : ℕ) → k < n → (k ≡ i → ⊥) → g k ≡ f k)
      → set (tabulate n f) i y ≡ tabulate n g
  tabulate-set n f g i y b e other =
      tabulated n g (set (tabulate n f) i y) y (length-set (tabulate n f) i y ∙ length-tabulate n f)
      (λ k c. by_cases (ℕ_discrete k i)
      (λ p. ap (λ (j : ℕ). get_or (set (tabulate n f) i y) j y) p
      ∙ get_or-set_same (tabulate n f) i y y (subst (λ (m : ℕ). i < m) (sym (length-tabulate n f)) b) ∙ sym e ∙ ap g (sym p))
      (λ p. get_or-set_other (tabulate n f) i k y y p ∙ get_d_tabulate n f k y c ∙ sym (other k c p)))

-- ---- rows

added-at : (f g : ℕ → ℕ) (r n : ℕ) → r < 32 → f r + n < 65536 → g r ≡ f r + n
    → ((k : ℕ) → k < 32 → (k ≡ r → ⊥) → g k ≡ f k)
    → added (tabulate 32 f) r n ≡ tabulate 32 g
unfolding added
added-at f g r n b small e other =
    tabulate-set 32 f g r _ b
    (e ∙ sym (ap (λ (x : ℕ). plus x n) (get_d_tabulate 32 f r 0 b) ∙ plus-small (f r) n small)) other

-- ---- tables of pairs

-- both are units
pair_in : (s r : ℕ) → s < 32 → r < 32 → is_pair s r ≡ true
unfolding is_pair
pair_in s r b c = and_both (ltb s 32) (ltb r 32) (lt-ltb s 32 b) (lt-ltb r 32 c)

row_at : (f : ℕ → ℕ → ℕ) (s : ℕ) → s < 32 → get_or (pair_table f) s [] ≡ tabulate 32 (f s)
unfolding pair_table
row_at f s b = get_d_tabulate 32 (λ a. tabulate 32 (f a)) s [] b

-- the count of a pair in array k of a list
pub count_at : (ps : List (List (List ℕ))) (k : ℕ) (f : ℕ → ℕ → ℕ) (s r : ℕ) → ltb k (length ps) ≡ true
    → get_or ps k [] ≡ pair_table f
    → s < 32 → r < 32 → count_in ps k s r ≡ f s r
unfolding count_in
count_at ps k f s r within e b c =
    cond-true _ _ _ (and_both (ltb k (length ps)) (is_pair s r) within (pair_in s r b c))
    ∙ ap (λ (t : List (List ℕ)). get_or (get_or t s []) r 0) e ∙ ap (λ (l : List ℕ). get_or l r 0) (row_at f s b)
    ∙ get_d_tabulate 32 (f s) r 0 c

pair_set : (f g : ℕ → ℕ → ℕ) (s : ℕ) (row : List ℕ) → s < 32 → row ≡ tabulate 32 (g s)
    → ((a b : ℕ) → a < 32 → b < 32 → (a ≡ s → ⊥) → g a b ≡ f a b) → set (pair_table f) s row ≡ pair_table g
unfolding pair_table
pair_set f g s row b e other =
    tabulate-set 32 (λ a. tabulate 32 (f a)) (λ a. tabulate 32 (g a)) s row b (sym e)
    (λ a c n. same_tables 32 (g a) (f a) (λ k d. other a k c d n))

-- n more for the pair s, r in array k of a list
pub pair-added : (ps : List (List (List ℕ))) (k : ℕ) (f g : ℕ → ℕ → ℕ) (s r n : ℕ) → ltb k (length ps) ≡ true
    → get_or ps k [] ≡ pair_table f → s < 32 → r < 32 → f s r + n < 65536 → g s r ≡ f s r + n
    → ((b : ℕ) → (b ≡ r → ⊥) → g s b ≡ f s b) → ((a b : ℕ) → (a ≡ s → ⊥) → g a b ≡ f a b)
    → added_in ps k s r n ≡ set ps k (pair_table g)
unfolding added_in
pair-added ps k f g s r n within e bs br small more row others =
    cond-true _ _ _ (and_both (ltb k (length ps)) (is_pair s r) within (pair_in s r bs br))
    ∙ ap (λ (t : List (List ℕ)). set ps k (set t s (added (get_or t s []) r n))) e
    ∙ ap (set ps k) (pair_set f g s _ bs
    (ap (λ (l : List ℕ). added l r n) (row_at f s bs) ∙ added-at (f s) (g s) r n br small more (λ b bb ne. row b ne))
    (λ a b ba bb ne. others a b ne))

pub pair_same : (f g : ℕ → ℕ → ℕ) → ((a b : ℕ) → a < 32 → b < 32 → f a b ≡ g a b) → pair_table f ≡ pair_table g
unfolding pair_table
pair_same f g same =
    same_tables 32 (λ a. tabulate 32 (f a)) (λ a. tabulate 32 (g a)) (λ a c. same_tables 32 (f a) (g a) (λ k d. same a k c d))

-- ---- the messages

-- message number n + 1 is x, those before it stay
message-new : (ms : List Message) (x : Message) → get_or (ms ++ x ∷ []) (length ms) no_message ≡ x
message-new [] x = refl
message-new (y ∷ ms) x = message-new ms x

message-old : (ms : List Message) (x : Message) (i : ℕ) → (i ≡ length ms → ⊥)
    → get_or (ms ++ x ∷ []) i no_message ≡ get_or ms i no_message
message-old [] x zero ne = absurd (ne refl)
message-old [] x (suc i) ne = refl
message-old (y ∷ ms) x zero ne = refl
message-old (y ∷ ms) x (suc i) ne = message-old ms x i (λ e. ne (ap suc e))

-- one message more in a column
column_snoc : (f : Message → ℕ) (ms : List Message) (x : Message) → length ms < 200
    → set (message_column f ms) (length ms) (f x) ≡ message_column f (ms ++ x ∷ [])
unfolding message_column
column_snoc f ms x h =
    tabulate-set 200 (λ i. f (get_or ms i no_message)) (λ i. f (get_or (ms ++ x ∷ []) i no_message)) (length ms) (f x) h
    (ap f (message-new ms x)) (λ k b ne. ap f (message-old ms x k ne))

-- a number in the column b of a list
column_set : (a b c : List ℕ) (k n i x : ℕ) → length a ≡ k → length b ≡ n
    → with_column (a ++ (b ++ c)) k n i x ≡ a ++ (set b i x ++ c)
unfolding with_column
column_set a b c k n i x ea eb =
    ap (λ (l : List ℕ). l ++ (set (take n (drop k (a ++ (b ++ c)))) i x ++ drop n (drop k (a ++ (b ++ c))))) (take_at a (b ++ c) k ea)
    ∙ ap (λ (l : List ℕ). a ++ (set (take n l) i x ++ drop n l)) (drop_at a (b ++ c) k ea)
    ∙ ap (λ (l : List ℕ). a ++ (set l i x ++ drop n (b ++ c))) (take_at b c n eb)
    ∙ ap (λ (l : List ℕ). a ++ (set b i x ++ l)) (drop_at b c n eb)

column_length : (f : Message → ℕ) (ms : List Message) → length (message_column f ms) ≡ 200
unfolding message_column
column_length f ms = length-tabulate 200 _

-- one message more: a number in each column
pub messages_snoc : (ms : List Message) (x : Message) → length ms < 200
    → with_column (with_column (with_column (message_list ms) 0 200 (length ms) x.source) 200 200 (length ms) x.group) 400 200
    (length ms) x.word
    ≡ message_list (ms ++ x ∷ [])
unfolding message_list
messages_snoc ms x b =
    let n : ℕ = length ms in let all : List Message = ms ++ x ∷ [] in
    let source : Message → ℕ = λ y. y.source in let group : Message → ℕ = λ y. y.group in
    let word : Message → ℕ = λ y. y.word in
    let A : List ℕ = message_column source ms in let B : List ℕ = message_column group ms in let C : List ℕ = message_column word ms
    in
    let A' : List ℕ = message_column source all in let B' : List ℕ = message_column group all in
    let C' : List ℕ = message_column word all in
    let first : with_column (A ++ (B ++ C)) 0 200 n x.source ≡ A' ++ (B ++ C) =
    column_set [] A (B ++ C) 0 200 n x.source refl (column_length source ms) ∙ ap (λ (l : List ℕ). l ++ (B ++ C))
    (column_snoc source ms x b) in
    let second : with_column (A' ++ (B ++ C)) 200 200 n x.group ≡ A' ++ (B' ++ C) =
    column_set A' B C 200 200 n x.group (column_length source all) (column_length group ms)
    ∙ ap (λ (l : List ℕ). A' ++ (l ++ C))
    (column_snoc group ms x b) in
    let both : length (A' ++ B') ≡ 400 = omega (arith, length-append A' B', column_length source all, column_length group all) in
    let third : with_column (A' ++ (B' ++ C)) 400 200 n x.word ≡ A' ++ (B' ++ C') =
    ap (λ (l : List ℕ). with_column l 400 200 n x.word) (ap (λ (l : List ℕ). A' ++ (B' ++ l)) (sym (append-nil C)) ∙ sym
    (append_assoc A' B' (C ++ [])))
    ∙ column_set (A' ++ B') C [] 400 200 n x.word both (column_length word ms)
    ∙ append_assoc A' B' (set C n x.word ++ []) ∙ ap (λ (l : List ℕ). A' ++ (B' ++ l))
    (append-nil (set C n x.word) ∙ column_snoc word ms x b) in
    ap (λ (l : List ℕ). with_column (with_column l 200 200 n x.group) 400 200 n x.word) first ∙ ap
    (λ (l : List ℕ). with_column l 400 200 n x.word) second ∙ third

-- the group of message m
pub group_at : (ms : List Message) (m : ℕ) → m ≤ 200 → column_at (message_list ms) 200 200 (m - 1) ≡ (message_at ms m).group
unfolding item_at message_list message_column tabulate message_at
group_at ms m few = get_d_tabulate 200 (λ i. (get_or ms i no_message).group) (m - 1) 0 (omega arith)
