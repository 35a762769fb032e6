-- Laws of the entries of parents: an entry read and written again, a parent written and read back. Assumes nothing.
use mathlib.Core.Path.{◌≡◌, refl, sym, ap, ap₂, ◌∙◌}
use mathlib.Core.Logic.{◌⊎◌, inl, inr, ⊎_elim, by_cases}
use mathlib.Core.Bool.{true, false, ◌&&◌, true≢false}
use mathlib.Core.List.{List, [], ◌∷◌, map, map-map}
use Prim.Native.Nat.{ℕ, zero, suc, ◌≤◌, ◌<◌, zero-le, suc-le-suc}
use native.Mathlib.Nat.{zero-lt-suc}
use native.Mathlib.Decide.{ℕ_discrete}
use native.Mathlib.Omega.{arith}
use lib.ListN.{length, get_or, get_or-map}
use lib.Dec.{ltb, leb, eqb}
use borrow.Author.Tests.{le-ltb, eq-eqb, ne_eqb, ltb-false}
use Rattle.sets.proofs.Bools.{either, not-true-false}
use Rattle.text.specs.Text.{number, decimal, split, join, is_word, some}
use Rattle.text.proofs.Keys.{word-is, word_same}
use Rattle.text.proofs.Numbers.{number-decimal, decimal-number, decimal-without}
use Rattle.text.proofs.Pieces.{none_cons, Without, join-split}
use Rattle.lines.specs.Lines.{root_word, commas, entry, entries_in, parent_of, parent_text}
use Rattle.lines.proofs.Faults.{none-at}
use Rattle.lines.proofs.Values.{map-again, split-commas}

-- ---- one entry

entry-root : (t : List ℕ) → is_word root_word t ≡ true → entry t ≡ 0
unfolding entry
entry-root t h = simp h

entry-unit : (t : List ℕ) → is_word root_word t ≡ false → entry t ≡ suc (number t)
unfolding entry
entry-unit t h = simp h

pub text-root : (p : ℕ) → p ≡ 255 → parent_text p ≡ root_word
unfolding parent_text
text-root p h = simp (eq-eqb p 255 h)

pub text-unit : (p : ℕ) → (p ≡ 255 → ⊥) → parent_text p ≡ decimal p
unfolding parent_text
text-unit p h = simp (ne_eqb p 255 h)

-- a byte that no parent's text has
pub text-without : (c p : ℕ) → (leb 48 c && leb c 57) ≡ false → eqb 45 c ≡ false → Without c (parent_text p)
unfolding root_word some
text-without c p h e = by_cases (ℕ_discrete p 255) (λ q. rw (text-root p q, e)) (λ q. rw (text-unit p q) (decimal-without c p h))

entry-written : (t : List ℕ) → ltb 32 (entry t) ≡ false → parent_text (parent_of (entry t)) ≡ t
unfolding parent_of
entry-written t h = ⊎_elim
    (λ (w : is_word root_word t ≡ true).
    ap (λ (e : ℕ). parent_text (parent_of e)) (entry-root t w) ∙ text-root 255 refl ∙ sym (word-is root_word t w))
    (λ (w : is_word root_word t ≡ false).
    let e = entry-unit t w in let l : entry t ≤ 32 = ltb-false 32 (entry t) h
    in ap (λ (x : ℕ). parent_text (parent_of x)) e ∙ text-unit (number t) (λ z. omega arith)
    ∙ decimal-number 31 (omega arith) t (le-ltb 31 (number t) (omega arith)))
    (either (is_word root_word t))

-- a number is no root
decimal_no_root : (p : ℕ) → is_word root_word (decimal p) ≡ false
unfolding root_word some
decimal_no_root p = not-true-false (is_word root_word (decimal p))
    (λ h. true≢false (ap (some (λ b. eqb b 45)) (sym (word-is root_word (decimal p) h)) ∙ decimal-without 45 p refl))

record Parent (n p : ℕ) : Type 0 where
  low : entry (parent_text p) ≤ n
  is : parent_of (entry (parent_text p)) ≡ p

parent-read : (n p : ℕ) → n ≤ 32 → (p ≡ 255) ⊎ (p < n) → Parent n p
unfolding parent_of
parent-read n p f (inl e) =
    let z : entry (parent_text p) ≡ 0 = ap entry (text-root p e) ∙ entry-root root_word (word_same root_word)
    in record { low = omega arith; is = ap parent_of z ∙ sym e }
parent-read n p f (inr l) =
    let z : entry (parent_text p) ≡ suc p =
    ap entry (text-unit p (λ z. omega arith)) ∙ entry-unit (decimal p) (decimal_no_root p) ∙ ap suc (number-decimal p (omega arith))
    in record { low = omega arith; is = ap parent_of z }

-- ---- all entries

pub entries_written : (v : List ℕ) → some (ltb 32) (entries_in v) ≡ false
    → commas (map parent_text (map parent_of (entries_in v))) ≡ v
unfolding commas entries_in
entries_written v h =
    ap (join 44) (map-map parent_text parent_of (entries_in v)
    ∙ map-again entry (λ e. parent_text (parent_of e)) entry (ltb 32) entry-written (split 44 v) h) ∙ join-split 44 v

-- the parent of a good entry is a root or a unit
pub entry-parent : (n : ℕ) (es : List ℕ) (u : ℕ) → some (ltb n) es ≡ false
    → (get_or (map parent_of es) u 255 ≡ 255) ⊎ (get_or (map parent_of es) u 255 < n)
unfolding parent_of
entry-parent n es u h = rw (get_or-map parent_of es u 0) (cases (get_or es u 0)
    (ltb-false n _ (none-at (ltb n) 0 es u (le-ltb n 0 zero-le) h)))
  where
    cases : (e : ℕ) → e ≤ n → (parent_of e ≡ 255) ⊎ (parent_of e < n)
    cases zero l = inl refl
    cases (suc p) l = inr l

-- entries of good parents
pub record EntriesOf (n : ℕ) (es ps : List ℕ) : Type 0 where
  pub low : some (ltb n) es ≡ false
  pub are : map parent_of es ≡ ps

texts_entries : (n : ℕ) (ps : List ℕ) → n ≤ 32
    → ((u : ℕ) → u < length ps → (get_or ps u 255 ≡ 255) ⊎ (get_or ps u 255 < n))
    → EntriesOf n (map entry (map parent_text ps)) ps
unfolding some
texts_entries n [] f h = record { low = refl; are = refl }
texts_entries n (p ∷ ps) f h =
    let first = parent-read n p f (h 0 (zero-lt-suc (length ps))) in
    let rest = texts_entries n ps f (λ u l. h (suc u) (suc-le-suc l))
    in record {
      low = none_cons (ltb n) _ (map entry (map parent_text ps)) (le-ltb n _ first.low) rest.low;
      are = ap₂ (λ (x : ℕ) (xs : List ℕ). x ∷ xs) first.is rest.are;
    }

pub entries_read : (n : ℕ) (ps : List ℕ) → n ≤ 32 → (ps ≡ [] → ⊥)
    → ((u : ℕ) → u < length ps → (get_or ps u 255 ≡ 255) ⊎ (get_or ps u 255 < n))
    → EntriesOf n (entries_in (commas (map parent_text ps))) ps
unfolding entries_in
entries_read n ps f e h = rw (split-commas parent_text ps (λ p. text-without 44 p refl refl) e) (texts_entries n ps f h)
