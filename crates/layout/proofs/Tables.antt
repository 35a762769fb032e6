-- Laws of tables. Assumes nothing.
use mathlib.Core.Path.{◌≡◌, refl, sym, ap, subst, ◌∙◌}
use mathlib.Core.List.{List, ◌∷◌}
use Prim.Native.Nat.{ℕ, zero, suc, ◌≤◌, ◌<◌, zero-le, suc-le-suc}
use native.Mathlib.Nat.{not-suc-le-zero, le_of_suc-le-suc}
use lib.ListN.{length, get_or, get_or-eq_default}
use lib.Seq.{ext_get_or}
use Rattle.layout.specs.Tables.{tabulate}

pub length-tabulate : {A : Type 0} (n : ℕ) (f : ℕ → A) → length (tabulate n f) ≡ n
unfolding tabulate
length-tabulate zero f = refl
length-tabulate (suc n) f = ap suc (length-tabulate n (λ i. f (suc i)))

pub get_d_tabulate : {A : Type 0} (n : ℕ) (f : ℕ → A) (i : ℕ) (d : A) → i < n → get_or (tabulate n f) i d ≡ f i
unfolding tabulate
get_d_tabulate zero f i d h = absurd (not-suc-le-zero h)
get_d_tabulate (suc n) f zero d h = refl
get_d_tabulate (suc n) f (suc i) d h = get_d_tabulate n (λ j. f (suc j)) i d (le_of_suc-le-suc h)

-- past the table stands the default
pub get_d_past : {A : Type 0} (n : ℕ) (f : ℕ → A) (i : ℕ) (d : A) → n ≤ i → get_or (tabulate n f) i d ≡ d
get_d_past n f i d h = get_or-eq_default (tabulate n f) d (subst (λ (x : ℕ). x ≤ i) (sym (length-tabulate n f)) h)

-- a list is a table where it has the table's length and entries
pub tabulated : {A : Type 0} (n : ℕ) (f : ℕ → A) (l : List A) (d : A) → length l ≡ n
    → ((i : ℕ) → i < n → get_or l i d ≡ f i) → l ≡ tabulate n f
tabulated n f l d e h =
    ext_get_or d l (tabulate n f) (e ∙ sym (length-tabulate n f))
    (λ i b. let b' : i < n = subst (λ (x : ℕ). i < x) e b in h i b' ∙ sym (get_d_tabulate n f i d b'))

pub same_tables : {A : Type 0} (n : ℕ) (f g : ℕ → A) → ((i : ℕ) → i < n → f i ≡ g i) → tabulate n f ≡ tabulate n g
unfolding tabulate
same_tables zero f g h = refl
same_tables (suc n) f g h = λ j. h 0 (suc-le-suc zero-le) j ∷ same_tables n (λ i. f (suc i)) (λ i. g (suc i))
    (λ i b. h (suc i) (suc-le-suc b)) j
