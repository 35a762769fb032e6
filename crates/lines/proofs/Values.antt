-- Laws of values: a key and what stands behind it, and texts with commas between them, written and read back. Assumes nothing.
use mathlib.Core.Path.{◌≡◌, refl, sym, ap, ◌∙◌}
use mathlib.Core.Bool.{Bool, true, false}
use mathlib.Core.List.{List, [], ◌∷◌, ◌++◌, map, append-nil, map-id}
use Prim.Native.Nat.{ℕ, ◌<◌}
use native.Mathlib.Nat.{lt_of_le_of_lt}
use lib.Dec.{ltb, eqb}
use borrow.Author.Tests.{ltb-false}
use Rattle.text.specs.Text.{not_a_number, number, decimal, split, join, starts_with, after, some}
use Rattle.text.proofs.Keys.{starts-split}
use Rattle.text.proofs.Numbers.{number-decimal, decimal-number, decimal-without}
use Rattle.text.proofs.Pieces.{none-parts, Without, AllWithout, none, more, split-some, join-split, split-join, join-without}
use Rattle.lines.specs.Lines.{commas, numbers_in}

-- a line is its key and its value
pub key_written : (key line v : List ℕ) → starts_with key line ≡ true → v ≡ after key line → key ++ v ≡ line
key_written key line v h e = ap (λ (t : List ℕ). key ++ t) e ∙ sym (starts-split key line h)

-- ---- texts made of numbers

-- a byte that is in none of the texts, nor in those behind them
pub map-without : {A : Type 0} (c : ℕ) (f : A → List ℕ) (xs : List A) (ls : List (List ℕ))
    → ((x : A) → Without c (f x)) → AllWithout c ls
    → AllWithout c (map f xs ++ ls)
map-without c f [] ls w r = r
map-without c f (x ∷ xs) ls w r = more (w x) (map-without c f xs ls w r)

pub texts_without : {A : Type 0} (c : ℕ) (f : A → List ℕ) (xs : List A) → ((x : A) → Without c (f x)) → AllWithout c (map f xs)
texts_without c f xs w = rw append-nil at (map-without c f xs [] w none)

pub commas-without : (c : ℕ) (write : ℕ → List ℕ) (ns : List ℕ) → eqb 44 c ≡ false → ((n : ℕ) → Without c (write n))
    → Without c (commas (map write ns))
unfolding commas
commas-without c write ns e h = join-without 44 c (map write ns) e (texts_without c write ns h)

-- the texts of a value are those joined
pub split-commas : (write : ℕ → List ℕ) (ns : List ℕ) → ((n : ℕ) → Without 44 (write n)) → (ns ≡ [] → ⊥)
    → split 44 (commas (map write ns)) ≡ map write ns
unfolding commas
split-commas write [] h f = absurd (f refl)
split-commas write (n ∷ ns) h f = split-join 44 (write n) (map write ns) (texts_without 44 write (n ∷ ns) h)

-- good texts that are read are written again, and good numbers that are written are read again
pub map-again : {A B : Type 0} (f : A → B) (g : B → A) (key : A → ℕ) (bad : ℕ → Bool)
    → ((x : A) → bad (key x) ≡ false → g (f x) ≡ x)
    → (xs : List A) → some bad (map key xs) ≡ false → map g (map f xs) ≡ xs
map-again f g key bad e [] h = refl
map-again f g key bad e (x ∷ xs) h = let p = none-parts bad (key x) (map key xs) h in cc (e x p.0, map-again f g key bad e xs p.1)

-- ---- numbers

-- within a limit of the reader's
module _ (most : ℕ) (below : most < not_a_number) where
  pub numbers-written : (v : List ℕ) → some (ltb most) (numbers_in v) ≡ false → commas (map decimal (numbers_in v)) ≡ v
  unfolding commas numbers_in
  numbers-written v h =
      ap (join 44) (map-again number decimal number (ltb most) (decimal-number most below) (split 44 v) h) ∙ join-split 44 v

  pub numbers-read : (ns : List ℕ) → (ns ≡ [] → ⊥) → some (ltb most) ns ≡ false → numbers_in (commas (map decimal ns))
      ≡ ns
  unfolding numbers_in
  numbers-read ns f h =
      ap (map number) (split-commas decimal ns (λ n. decimal-without 44 n refl) f)
      ∙ map-again decimal number (λ n. n) (ltb most) (λ n e. number-decimal n (lt_of_le_of_lt (ltb-false most n e) below)) ns
      (rw map-id h)

-- a value has a first number
pub numbers-some : (v : List ℕ) → (n : ℕ) × (ns : List ℕ) × (numbers_in v ≡ n ∷ ns)
unfolding numbers_in
numbers-some v = let p = split-some 44 v in (number p.0, map number p.1, ap (map number) p.2)
