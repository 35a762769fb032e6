-- What the functions on a bench's lists answer and leave. Definitions only.
use Rattle.std.specs.Prelude.{ℕ, zero, suc, ◌+◌, ◌*◌, min, Bool, ◌&&◌, cond, List, [], ◌++◌, length, get_or, set}
use Rattle.std.specs.Prelude.{take, drop, replicate, ltb, leb}

-- a number in 16 bits; 65,535 for every greater one
unfoldable pub capped : ℕ → ℕ
capped n = min n 65535

-- the sum, as far as 16 bits hold it
unfoldable pub plus : ℕ → ℕ → ℕ
plus a b = capped (a + b)

-- a number below 256; 0 for any other
unfoldable pub byte : ℕ → ℕ
byte n = cond (ltb n 256) n 0

-- the first n places hold x
unfoldable pub filled : {A : Type 0} → ℕ → A → List A → List A
filled zero x l = l
filled (suc n) x l = set (filled n x l) n x

-- ---- columns: n numbers from place k on

-- number i; `none` where there is none
unfoldable pub item_at : {A : Type 0} → A → List A → (k n i : ℕ) → A
item_at none l k n i = get_or (take n (drop k l)) i none

abbrev pub column_at : List ℕ → (k n i : ℕ) → ℕ
column_at l k n i = item_at 0 l k n i

-- another number i
unfoldable pub with_column : {A : Type 0} → List A → (k n i : ℕ) → A → List A
with_column l k n i x = take k l ++ (set (take n (drop k l)) i x ++ drop n (drop k l))

-- ---- pair counts: rows of receivers, by sender

-- a row with n more at a receiver
unfoldable pub added : List ℕ → ℕ → ℕ → List ℕ
added row r n = set row r (plus (get_or row r 0) n)

unfoldable pub no_counts : List (List ℕ)
no_counts = replicate 32 (replicate 32 0)

-- both are units
unfoldable pub is_pair : ℕ → ℕ → Bool
is_pair s r = ltb s 32 && ltb r 32

-- the row of a sender with one more for a pair
unfoldable pub raised_row : List (List ℕ) → ℕ → ℕ → List ℕ
raised_row grid s r = cond (is_pair s r) (added (get_or grid s []) r 1) (replicate 32 0)

-- ---- a list of such arrays

-- the count of a pair in array k
unfoldable pub count_in : List (List (List ℕ)) → (k s r : ℕ) → ℕ
count_in pairs k s r = cond (ltb k (length pairs) && is_pair s r) (get_or (get_or (get_or pairs k []) s []) r 0) 0

-- n more for a pair
unfoldable pub added_in : List (List (List ℕ)) → (k s r n : ℕ) → List (List (List ℕ))
added_in pairs k s r n =
    cond (ltb k (length pairs) && is_pair s r) (set pairs k (set (get_or pairs k []) s (added (get_or (get_or pairs k []) s []) r n))) pairs

-- the counts of a sender
unfoldable pub row_in : List (List (List ℕ)) → (k s : ℕ) → List ℕ
row_in pairs k s = cond (ltb k (length pairs) && ltb s 32) (get_or (get_or pairs k []) s []) (replicate 32 0)

-- ---- the log book

-- message m at place n of the row of unit u, where the book has that row
unfoldable pub logged : ℕ → ℕ → ℕ → List ℕ → List ℕ
logged u n m book = cond (ltb u 32 && leb (u * 200 + 200) (length book) && ltb n 200) (set book (u * 200 + n) m) book
