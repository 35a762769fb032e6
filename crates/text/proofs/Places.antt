-- Laws of the functions that read: a byte's place, keys, digits and numbers, each from a place of the text on. Assumes nothing.
use mathlib.Core.Path.{◌≡◌, refl, sym, ◌∙◌}
use mathlib.Core.Logic.{by_cases}
use mathlib.Core.Bool.{cond, and-false}
use mathlib.Core.List.{List, [], ◌∷◌, foldl}
use Prim.Native.Nat.{ℕ, suc, ◌+◌, ◌-◌, ◌*◌, ◌≤◌, ◌<◌}
use native.Mathlib.Decide.{dec_lt}
use native.Mathlib.Numerals.{add-one}
use native.Mathlib.Omega.{arith}
use borrow.Author.Tests.{lt-ltb, le-ltb, le-leb, eq-eqb, ne_eqb}
use lib.Dec.{eqb, ltb}
use lib.ListN.{length, take, drop, get_or, drop_of_length-le}
use lib.Seq.{drop-cons}
use Rattle.std.specs.Cmp.Lexicographic.{pointwise}
use Rattle.std.specs.List.{position_or_len}
use Rattle.std.specs.Option.{unwrap_or}
use Rattle.std.specs.Prelude.{Some, None}
use Rattle.std.proofs.lemmas.List.Recursion.{is_position_or_len}
use Rattle.text.specs.Text.{not_a_number, digit, number, starts_with}
use Rattle.text.specs.Writing.{place_of}
use Rattle.text.proofs.Pieces.{place_le}

-- the text from a place on: the byte there, and the text from the next place on
drop-next : (text : List ℕ) (at : ℕ) → at < length text → drop at text ≡ get_or text at 0 ∷ drop (at + 1) text
drop-next text at h = rw add-one (drop-cons text at 0 h)

-- ---- a byte's place, and keys and words, in the words of std

place_is : (c : ℕ) (text : List ℕ) → position_or_len (λ b. eqb b c) text ≡ place_of c text
unfolding place_of
place_is c text = sym (is_position_or_len (place_of c) (λ b. eqb b c) refl (λ b bs. simp suc-is refl) text)
  where
    suc-is : (n : ℕ) → suc n ≡ 1 + n
    suc-is n = omega arith

-- the place that std finds, or the length where it finds none
pub place_found : (c : ℕ) (text : List ℕ) → (p : ℕ) → p ≡ position_or_len (λ b. eqb b c) text
    → unwrap_or (cond (ltb p (length text)) (Some p) None) (length text) ≡ place_of c text
place_found c text p e = by_cases (dec_lt p (length text))
    (λ h. rw (lt-ltb p (length text) h) (e ∙ place_is c text))
    (λ h. rw (le-ltb p (length text) (omega arith))
    (let l : place_of c text ≤ length text = place_le c text in let q : p ≡ place_of c text = e ∙ place_is c text in omega arith))

pub key_is : (key text : List ℕ) → pointwise eqb key (take (length key) text) ≡ starts_with key text
unfolding starts_with
key_is [] text = refl
key_is (k ∷ ks) [] = refl
key_is (k ∷ ks) (b ∷ bs) = rw (key_is ks bs) refl

-- ---- digits

digit-high : (n b : ℕ) → not_a_number ≤ n * 10 + (b - 48) → digit n b ≡ not_a_number
unfolding digit
digit-high n b h = simp (le-ltb (n * 10 + (b - 48)) not_a_number h, and-false)

pub digit-more : (n b : ℕ) → 48 ≤ b → b ≤ 57 → n * 10 + (b - 48) < not_a_number → digit n b ≡ n * 10 + (b - 48)
unfolding digit
digit-more n b l u h = rw (le-leb 48 b l, le-leb b 57 u, lt-ltb (n * 10 + (b - 48)) not_a_number h)

digits-next : (n : ℕ) (text : List ℕ) (at : ℕ) → at < length text
    → foldl digit n (drop at text) ≡ foldl digit (digit n (get_or text at 0)) (drop (at + 1) text)
digits-next n text at h = rw (drop-next text at h)

pub digits-end : (n : ℕ) (text : List ℕ) (at : ℕ) → length text ≤ at → foldl digit n (drop at text) ≡ n
digits-end n text at h = rw (drop_of_length-le text h)

-- what is no number stays none
digits-none : (text : List ℕ) → foldl digit not_a_number text ≡ not_a_number
digits-none [] = refl
digits-none (b ∷ bs) = rw (digit-high not_a_number b (omega arith)) (digits-none bs)

-- a byte that makes no number
pub digits-stop : (n : ℕ) (text : List ℕ) (at : ℕ) → at < length text → digit n (get_or text at 0) ≡ not_a_number
    → foldl digit n (drop at text) ≡ not_a_number
digits-stop n text at h e = digits-next n text at h ∙ rw e (digits-none (drop (at + 1) text))

-- ---- a number

pub number_empty : (text : List ℕ) → length text ≡ 0 → number text ≡ not_a_number
unfolding number
number_empty [] h = refl
number_empty (b ∷ bs) h = absurd (omega arith)

pub number_zero : (text : List ℕ) → get_or text 0 0 ≡ 48 → 1 < length text → number text ≡ not_a_number
unfolding number
number_zero [] e h = absurd (omega arith)
number_zero (b ∷ []) e h = absurd (omega arith)
number_zero (b ∷ c ∷ bs) e h = rw (eq-eqb b 48 e)

pub number_digits : (text : List ℕ) → 0 < length text → (get_or text 0 0 ≡ 48 → length text ≤ 1)
    → number text ≡ foldl digit 0 text
unfolding number
number_digits [] h z = absurd (omega arith)
number_digits (b ∷ []) h z = refl
number_digits (b ∷ c ∷ bs) h z = rw (ne_eqb b 48 (λ e. let l : suc (suc (length bs)) ≤ 1 = z e in omega arith))
