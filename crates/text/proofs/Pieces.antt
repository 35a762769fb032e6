-- Laws of lists with a separator: bytes that pass no test, the place of the first separator, the pieces of a text, and the pieces joined.
-- Assumes nothing.
use mathlib.Core.Path.{◌≡◌, refl, sym, ap, ◌∙◌}
use mathlib.Core.Logic.{⊎_elim, by_cases}
use mathlib.Core.Bool.{Bool, true, false, cond, true≢false}
use mathlib.Core.List.{List, [], ◌∷◌, ◌++◌}
use Prim.Native.Nat.{ℕ, suc, ◌+◌, ◌-◌, ◌≤◌, ◌<◌, zero-le, suc-le-suc}
use native.Mathlib.Nat.{le_of_suc-le-suc, not-suc-le-zero, suc_inj, suc-ne-zero}
use native.Mathlib.Decide.{dec_lt}
use native.Mathlib.Omega.{arith}
use lib.ListN.{length, take, drop, length-drop}
use lib.Seq.{take_all, drop-drop}
use lib.Dec.{leb, eqb, leb-zero}
use borrow.Author.Tests.{eq-eqb, eqb-true, le-leb, lt-leb}
use Rattle.sets.proofs.Bools.{either}
use Rattle.text.specs.Text.{split, join, in_front, some}
use Rattle.text.specs.Writing.{place_of}

-- ---- no number of a list passes a test

pub none_cons : (f : ℕ → Bool) (n : ℕ) (ns : List ℕ) → f n ≡ false → some f ns ≡ false → some f (n ∷ ns) ≡ false
unfolding some
none_cons f n ns h r = simp h r

pub none-parts : (f : ℕ → Bool) (n : ℕ) (ns : List ℕ) → some f (n ∷ ns) ≡ false → (f n ≡ false) × (some f ns ≡ false)
unfolding some
none-parts f n ns h =
    ⊎_elim (λ (e : f n ≡ true). absurd (true≢false (simp e at h))) (λ (e : f n ≡ false). (e, simp e at h)) (either (f n))

-- ---- texts without a byte

-- the text has no byte c
abbrev pub Without : ℕ → List ℕ → Type 0
Without c t = some (λ b. eqb b c) t ≡ false

pub without_cons : (c b : ℕ) (t : List ℕ) → eqb b c ≡ false → Without c t → Without c (b ∷ t)
without_cons c = none_cons (λ b. eqb b c)

without_head : (c b : ℕ) (t : List ℕ) → Without c (b ∷ t) → eqb b c ≡ false
without_head c b t w = (none-parts (λ x. eqb x c) b t w).0

without-tail : (c b : ℕ) (t : List ℕ) → Without c (b ∷ t) → Without c t
without-tail c b t w = (none-parts (λ x. eqb x c) b t w).1

pub without_append : (c : ℕ) (s t : List ℕ) → Without c s → Without c t → Without c (s ++ t)
without_append c [] t h r = r
without_append c (b ∷ s) t h r =
    without_cons c b (s ++ t) (without_head c b s h) (without_append c s t (without-tail c b s h) r)

-- ---- one byte more in front: of the place of the first separator, and of the pieces

module _ (c b : ℕ) (t : List ℕ) where
  place-separator : eqb b c ≡ true → place_of c (b ∷ t) ≡ 0
  unfolding place_of
  place-separator h = simp h

  place_other : eqb b c ≡ false → place_of c (b ∷ t) ≡ suc (place_of c t)
  unfolding place_of
  place_other h = simp h

  split-separator : eqb b c ≡ true → split c (b ∷ t) ≡ [] ∷ split c t
  unfolding split
  split-separator h = simp h

  split-other : eqb b c ≡ false → split c (b ∷ t) ≡ in_front b (split c t)
  unfolding split
  split-other h = simp h

-- ---- the first piece

pub place_le : (c : ℕ) (t : List ℕ) → place_of c t ≤ length t
unfolding place_of
place_le c [] = zero-le
place_le c (b ∷ t) = ⊎_elim
    (λ h. rw (place-separator c b t h) zero-le)
    (λ h. rw (place_other c b t h) (suc-le-suc (place_le c t)))
    (either (eqb b c))

-- a text with a separator: its first piece, and the pieces of the rest
pub split-place : (c : ℕ) (t : List ℕ) → place_of c t < length t → split c t ≡ take (place_of c t) t ∷
    split c (drop (suc (place_of c t)) t)
unfolding in_front
split-place c [] l = absurd (not-suc-le-zero l)
split-place c (b ∷ t) l = ⊎_elim
    (λ h. split-separator c b t h ∙ rw (place-separator c b t h))
    (λ h. split-other c b t h ∙ rw (place_other c b t h, split-place c t (le_of_suc-le-suc (rw (place_other c b t h) at l))))
    (either (eqb b c))

pub split-none : (c : ℕ) (t : List ℕ) → place_of c t ≡ length t → split c t ≡ t ∷ []
unfolding split in_front
split-none c [] e = refl
split-none c (b ∷ t) e = ⊎_elim
    (λ h. absurd (suc-ne-zero (length t) (sym e ∙ place-separator c b t h)))
    (λ h. split-other c b t h ∙ ap (in_front b) (split-none c t (suc_inj (sym (place_other c b t h) ∙ e))))
    (either (eqb b c))

pub split_append : (c : ℕ) (p t : List ℕ) → Without c p → split c (p ++ c ∷ t) ≡ p ∷ split c t
unfolding in_front
split_append c [] t w = split-separator c c t (eq-eqb c c refl)
split_append c (b ∷ p) t w =
    split-other c b (p ++ c ∷ t) (without_head c b p w) ∙ ap (in_front b) (split_append c p t (without-tail c b p w))

split-alone : (c : ℕ) (p : List ℕ) → Without c p → split c p ≡ p ∷ []
unfolding split in_front
split-alone c [] w = refl
split-alone c (b ∷ p) w = split-other c b p (without_head c b p w) ∙ ap (in_front b) (split-alone c p (without-tail c b p w))

-- ---- all pieces

-- every piece is without the separator
pub data AllWithout (c : ℕ) : List (List ℕ) → Type 0 where
  none : AllWithout c []
  more : {p : List ℕ} {ps : List (List ℕ)} → Without c p → AllWithout c ps → AllWithout c (p ∷ ps)

-- there is a first piece
pub split-some : (c : ℕ) (t : List ℕ) → (p : List ℕ) × (ps : List (List ℕ)) × (split c t ≡ p ∷ ps)
unfolding split in_front
split-some c [] = ([], [], refl)
split-some c (b ∷ t) = ⊎_elim
    (λ h. ([], split c t, split-separator c b t h))
    (λ h. front (split-some c t) h)
    (either (eqb b c))
  where
    front : ((p : List ℕ) × (ps : List (List ℕ)) × (split c t ≡ p ∷ ps)) → eqb b c ≡ false
        → (p : List ℕ) × (ps : List (List ℕ)) × (split c (b ∷ t) ≡ p ∷ ps)
    front (p, ps, e) h = (b ∷ p, ps, split-other c b t h ∙ ap (in_front b) e)

-- ---- joined again

join_front : (c b : ℕ) (ps : List (List ℕ)) → join c (in_front b ps) ≡ b ∷ join c ps
unfolding join in_front
join_front c b [] = refl
join_front c b (p ∷ []) = refl
join_front c b (p ∷ q ∷ ps) = refl

pub join-split : (c : ℕ) (t : List ℕ) → join c (split c t) ≡ t
unfolding join split
join-split c [] = refl
join-split c (b ∷ t) = ⊎_elim
    (λ h. ap (join c) (split-separator c b t h) ∙ empty-first (split-some c t) ∙ cc (eqb-true b c h, join-split c t))
    (λ h. ap (join c) (split-other c b t h) ∙ join_front c b (split c t) ∙ ap (λ (s : List ℕ). b ∷ s) (join-split c t))
    (either (eqb b c))
  where
    empty-first : ((p : List ℕ) × (ps : List (List ℕ)) × (split c t ≡ p ∷ ps))
        → join c ([] ∷ split c t) ≡ c ∷ join c (split c t)
    empty-first (p, ps, e) = rw e

pub split-join : (c : ℕ) (p : List ℕ) (ps : List (List ℕ)) → AllWithout c (p ∷ ps) → split c (join c (p ∷ ps)) ≡ p ∷ ps
unfolding join
split-join c p [] (more w r) = split-alone c p w
split-join c p (q ∷ ps) (more w r) = split_append c p (join c (q ∷ ps)) w
    ∙ ap (λ (qs : List (List ℕ)). p ∷ qs) (split-join c q ps r)

pub join-without : (c d : ℕ) (ps : List (List ℕ)) → eqb c d ≡ false → AllWithout d ps → Without d (join c ps)
unfolding join some
join-without c d [] h r = refl
join-without c d (p ∷ []) h (more w r) = w
join-without c d (p ∷ q ∷ ps) h (more w r) =
    without_append d p (c ∷ join c (q ∷ ps)) w (without_cons d c (join c (q ∷ ps)) h (join-without c d (q ∷ ps) h r))

-- ---- the pieces from a place on, for a loop over them

-- none where the place is past the end
unfoldable pub pieces_from : (c at : ℕ) (v : List ℕ) → List (List ℕ)
pieces_from c at v = cond (leb at (length v)) (split c (drop at v)) []

pub pieces_start : (c : ℕ) (v : List ℕ) → pieces_from c 0 v ≡ split c v
unfolding pieces_from
pieces_start c v = simp (leb-zero (length v))

pub pieces_end : (c at : ℕ) (v : List ℕ) → length v < at → pieces_from c at v ≡ []
unfolding pieces_from
pieces_end c at v h = simp (lt-leb at (length v) h)

pieces_within : (c at : ℕ) (v : List ℕ) → at ≤ length v → pieces_from c at v ≡ split c (drop at v)
unfolding pieces_from
pieces_within c at v h = simp (le-leb at (length v) h)

pieces_rest : (c at p : ℕ) (v : List ℕ) → at + p < length v → split c (drop (suc p) (drop at v)) ≡ pieces_from c (at + p + 1) v
pieces_rest c at p v h =
    let e : at + suc p ≡ at + p + 1 = omega arith
    in ap (split c) (drop-drop (suc p) at v ∙ ap (λ (k : ℕ). drop k v) e) ∙ sym (pieces_within c (at + p + 1) v (omega arith))

pub pieces_turn : (c at : ℕ) (v : List ℕ) → at ≤ length v
    → pieces_from c at v ≡ take (place_of c (drop at v)) (drop at v) ∷ pieces_from c (at + place_of c (drop at v) + 1) v
pieces_turn c at v h =
    let t = drop at v in let p = place_of c t in let n : length t ≡ length v - at = length-drop at v in
    let l : p ≤ length t = place_le c t
    in pieces_within c at v h ∙ by_cases (dec_lt p (length t))
    (λ m. split-place c t m ∙ ap (λ (r : List (List ℕ)). take p t ∷ r) (pieces_rest c at p v (omega arith)))
    (λ m. split-none c t (omega arith) ∙ cc (take_all p t (omega arith), pieces_end c (at + p + 1) v (omega arith)))
