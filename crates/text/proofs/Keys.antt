-- Laws of keys and words: a text that starts with a key is the key and what stands behind it. Assumes nothing.
use mathlib.Core.Path.{◌≡◌, refl, sym, ap, ◌∙◌}
use mathlib.Core.Bool.{Bool, true, false≢true, and-eq-true_iff}
use mathlib.Core.List.{List, [], ◌∷◌, ◌++◌, append-nil}
use Prim.Native.Nat.{ℕ, ◌≤◌}
use native.Mathlib.Nat.{le_of_eq}
use native.Mathlib.Omega.{arith}
use lib.ListN.{length, length-append, drop_of_length-le}
use lib.Seq.{drop-append_seam}
use lib.Dec.{eqb}
use borrow.Author.Tests.{eq-eqb, eqb-true}
use Rattle.std.proofs.Common.{rules}
use Rattle.std.proofs.lemmas.Slice.Eq.{bytes_eq-Decides}
use Rattle.std.specs.Bool.{Decides}
use Rattle.std.specs.Str.{bytes_eq}
use Rattle.text.specs.Text.{starts_with, after, is_word}

pub starts_append : (k v : List ℕ) → starts_with k (k ++ v) ≡ true
unfolding starts_with
starts_append [] v = refl
starts_append (b ∷ k) v = simp (eq-eqb b b refl) (starts_append k v)

pub after_append : (k v : List ℕ) → after k (k ++ v) ≡ v
unfolding after
after_append k v = drop-append_seam k v

pub starts-split : (k t : List ℕ) → starts_with k t ≡ true → t ≡ k ++ after k t
unfolding starts_with after
starts-split [] t h = refl
starts-split (b ∷ k) [] h = absurd (false≢true h)
starts-split (b ∷ k) (d ∷ t) h =
    let both = (and-eq-true_iff (eqb b d) (starts_with k t)).0 h in cc (eqb-true b d both.0, starts-split k t both.1)

pub starts-length : (k t : List ℕ) → starts_with k t ≡ true → length k ≤ length t
starts-length k t h = omega (arith, ap length (starts-split k t h), length-append k (after k t))

pub word-is : (w t : List ℕ) → is_word w t ≡ true → t ≡ w
unfolding is_word after
word-is w t h =
    let both = (and-eq-true_iff (eqb (length t) (length w)) (starts_with w t)).0 h
    in starts-split w t both.1
    ∙ ap (λ (s : List ℕ). w ++ s) (drop_of_length-le t (le_of_eq (eqb-true (length t) (length w) both.0))) ∙ append-nil w

pub word_same : (w : List ℕ) → is_word w w ≡ true
unfolding is_word
word_same w = simp (eq-eqb (length w) (length w) refl) (ap (starts_with w) (sym (append-nil w)) ∙ starts_append w [])

-- as std compares two texts
pub word_equal : (w t : List ℕ) → bytes_eq t w ≡ is_word w t
word_equal w t = compared (is_word w t) (word-is w t, λ e. rw e (word_same w))
  where
    compared : (r : Bool) → Decides r (t ≡ w) → bytes_eq t w ≡ r
    compared r h = search (rules, bytes_eq-Decides)
