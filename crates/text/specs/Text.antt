-- Rules of text (document 01, its first paragraph and "The bench file"; document 02, #101): decimal numbers, and lists with a separator. A
-- text is a list of bytes. Definitions only.
use Rattle.std.specs.Prelude.{ℕ, zero, suc, ◌+◌, ◌-◌, ◌*◌, ◌/◌, ◌%◌, Bool, true, false, ◌&&◌, cond, length}
use Rattle.std.specs.Prelude.{drop, ltb, leb, eqb}
use mathlib.Core.List.{List, [], ◌∷◌, ◌++◌, foldl}

-- ---- decimal numbers

-- stands for what is no number: badly written, or above 4,294,967,295. A place that takes less has its own limit.
abbrev pub not_a_number : ℕ
not_a_number = 4294967296

-- byte b behind the digits of n
unfoldable pub digit : ℕ → ℕ → ℕ
digit n b = cond (leb 48 b && leb b 57 && ltb (n * 10 + (b - 48)) not_a_number) (n * 10 + (b - 48)) not_a_number

-- a decimal number: `0`, or digits the first of which is not 0, up to 4,294,967,295
unfoldable pub number : List ℕ → ℕ
number [] = not_a_number
number (b ∷ []) = digit 0 b
number (b ∷ c ∷ bs) = cond (eqb b 48) not_a_number (foldl digit 0 (b ∷ c ∷ bs))

-- the digits of n, of which k are enough
unfoldable pub decimal_within : ℕ → ℕ → List ℕ
decimal_within zero n = []
decimal_within (suc k) n = cond (ltb n 10) ((48 + n) ∷ []) (decimal_within k (n / 10) ++ (48 + n % 10) ∷ [])

unfoldable pub decimal : ℕ → List ℕ
decimal n = decimal_within 10 n

-- ---- lists with a separator

-- a byte in front of the first piece
unfoldable pub in_front : ℕ → List (List ℕ) → List (List ℕ)
in_front b [] = (b ∷ []) ∷ []
in_front b (p ∷ ps) = (b ∷ p) ∷ ps

-- the pieces between the separators c, one more than there are separators
unfoldable pub split : ℕ → List ℕ → List (List ℕ)
split c [] = [] ∷ []
split c (b ∷ bs) = let rest = split c bs in cond (eqb b c) ([] ∷ rest) (in_front b rest)

-- the pieces with c between them
unfoldable pub join : ℕ → List (List ℕ) → List ℕ
join c [] = []
join c (p ∷ []) = p
join c (p ∷ q ∷ ps) = p ++ c ∷ join c (q ∷ ps)

-- ---- keys and words

unfoldable pub starts_with : List ℕ → List ℕ → Bool
starts_with [] text = true
starts_with (k ∷ ks) [] = false
starts_with (k ∷ ks) (b ∷ bs) = eqb k b && starts_with ks bs

-- what stands behind a key
unfoldable pub after : List ℕ → List ℕ → List ℕ
after key text = drop (length key) text

-- the text is that word and no more
unfoldable pub is_word : List ℕ → List ℕ → Bool
is_word word text = eqb (length text) (length word) && starts_with word text

-- some number of the list passes the test
unfoldable pub some : (ℕ → Bool) → List ℕ → Bool
some test [] = false
some test (n ∷ ns) = cond (test n) true (some test ns)
