-- What the proofs of the functions share. Assumes nothing.
use mathlib.Core.Path.{◌≡◌, refl, sym, ap, subst, ◌∙◌}
use mathlib.Core.Logic.{by_cases}
use mathlib.Core.Bool.{Bool, true, false, not, ◌||◌, cond}
use mathlib.Core.List.{List, [], ◌∷◌, ◌++◌}
use Prim.Native.Nat.{ℕ, zero, suc, ◌-◌, ◌^◌, ◌≤◌, ◌<◌}
use native.Mathlib.Decide.{dec_lt}
use native.Mathlib.Omega.{arith}
use borrow.Author.Tests.{lt-ltb, le-ltb}
use lib.Dec.{ltb, eqb}
use lib.Arith.{lt-one}
use lib.Pow.{pow_pos}
use lib.Bits.{or_zero_l, or_zero_r}
use lib.ListN.{length, get_or, take, drop, replicate}
use Rattle.std.proofs.lemmas.List.{length-take-le, length-replicate, length-append, length-drop, get_or_append_left, get_or-append_right}
use Rattle.std.proofs.lemmas.List.{get_or-take, get_or-replicate}
use borrow.Rule.Slice.PartMut.{put_mid}
use Rattle.std.specs.Prelude.{min, Err}
use Rattle.sets.specs.Sets.{member, union, difference, including}
use Rattle.sets.proofs.Bools.{cond-true, cond-false}
use Rattle.sets.proofs.Laws.{union-below, difference_below, including-below}
use Rattle.sets.proofs.Laws.{member_union, member-including, same-members}
use Rattle.forest.specs.Forest.{parent, ancestors_within, ancestors}
use Rattle.forest.specs.Calls.{refusal_numbers, parents_of, counted_at, counted, bad_counts, empty_groups, outside_groups}
use Rattle.forest.specs.Calls.{refuse, groups_refusal, or_roots}
use Rattle.forest.specs.declared.Refusal.{Refusal}
use Rattle.forest.specs.declared.Refusal.TheVariants.{BadCounts, EmptyGroup, OutsideUnits, OwnAncestor, NoPrimary}
use Rattle.layout.specs.Tables.{tabulate}
use Rattle.layout.proofs.Tables.{get_d_tabulate, same_tables, tabulated}
use Rattle.layout.proofs.Loops.{get_d_any}
use Rattle.forest.proofs.Ancestry.{ancestors-below}

-- ---- the empty set

pub no_difference : (t : ℕ) → difference 0 t ≡ 0
no_difference t = lt-one (difference_below 0 0 t (omega arith))

-- a member may be added to either side of a union
pub including-passes : (s t u : ℕ) → s < 2 ^ 32 → t < 2 ^ 32 → union s (including t u) ≡ union (including s u) t
including-passes s t u hs ht =
    same-members 32 _ _ (union-below 32 _ _ hs (including-below t u ht)) (union-below 32 _ _ (including-below s u hs) ht)
    (λ v b. simp (member_union, member-including) (or_swap (member s v) (member t v) _))
  where
    or_swap : (a b d : Bool) → (a || (b || d)) ≡ ((a || d) || b)
    or_swap true b d = refl
    or_swap false true true = refl
    or_swap false true false = refl
    or_swap false false true = refl
    or_swap false false false = refl

-- ---- climbing from a unit: what was met and what is still above make up the ancestors

-- nothing is above what is no unit
pub no_ancestors : (k : ℕ) (ps : List ℕ) (u : ℕ) → 32 ≤ u → ancestors_within k ps u ≡ 0
unfolding ancestors_within
no_ancestors zero ps u h = refl
no_ancestors (suc k) ps u h = rw (le-ltb u 32 h)

pub record Climbed (ps : List ℕ) (unit s u left : ℕ) : Type 0 where
  pub bounded : s < 2 ^ 32
  pub right : union s (ancestors_within left ps u) ≡ ancestors ps unit

pub climbed_none : (ps : List ℕ) (u : ℕ) → Climbed ps u 0 u 32
unfolding union ancestors
climbed_none ps u = record { bounded = pow_pos 32; right = or_zero_l (ancestors_within 32 ps u) }

-- nothing is left above
pub climbed_all : {ps : List ℕ} {unit s u left : ℕ} → Climbed ps unit s u left → ancestors_within left ps u ≡ 0
    → s ≡ ancestors ps unit
unfolding union
climbed_all {ps} {unit} {s} {u} {left} h e = sym (or_zero_r s) ∙ ap (union s) (sym e) ∙ h.right

pub climbed_turn : {ps : List ℕ} {unit s u left next r : ℕ} → Climbed ps unit s u left → suc next ≡ left
    → u < 32 → u < length ps → r ≡ including s u
    → Climbed ps unit r (get_or ps u 0) next
unfolding ancestors_within parent
climbed_turn {ps} {unit} {s} {u} {left} {next} {r} h k l m e =
    let rest : ℕ = ancestors_within next ps (get_or ps u 0) in
    let step : ancestors_within left ps u ≡ including rest u =
    ap (λ (n : ℕ). ancestors_within n ps u) (sym k) ∙ simp (lt-ltb u 32 l, get_d_any ps u 255 0 m) in
    record {
      bounded = subst (λ (x : ℕ). x < 2 ^ 32) (sym e) (including-below s u h.bounded);
      right =
          ap (λ (x : ℕ). union x rest) e ∙ sym (including-passes s rest u h.bounded (ancestors-below next ps (get_or ps u 0)))
          ∙ ap (union s) (sym step) ∙ h.right;
    }

-- ---- refusals

-- the parents beside a refusal are those that the rule gives
pub parents-refused : (e : Refusal) (ps : List ℕ) → parents_of (Err e) ≡ or_roots (refusal_numbers e) ps
unfolding parents_of or_roots refusal_numbers
parents-refused BadCounts ps = refl
parents-refused EmptyGroup ps = refl
parents-refused OutsideUnits ps = refl
parents-refused OwnAncestor ps = refl
parents-refused (NoPrimary g) ps = refl

-- a refusal has a number
pub numbered : (e : Refusal) → refusal_numbers e ≡ [] → ⊥
unfolding refusal_numbers
numbered BadCounts h = cc
numbered EmptyGroup h = cc
numbered OutsideUnits h = cc
numbered OwnAncestor h = cc
numbered (NoPrimary g) h = cc

-- the three tests of the groups, in turn
unfoldable tested : Bool → Bool → Bool → List ℕ → List ℕ
tested a b d rest = refuse a (5 ∷ 0 ∷ []) (refuse b (4 ∷ 0 ∷ []) (refuse d (6 ∷ 0 ∷ []) rest))

-- good groups are refused for nothing but what is left
pub good-groups : (n c : ℕ) (gs rest : List ℕ) → groups_refusal n c gs [] ≡ [] → groups_refusal n c gs rest ≡ rest
unfolding groups_refusal tested refuse
good-groups n c gs rest = passed (bad_counts n c) (not (eqb (empty_groups c gs) 0)) (not (eqb (outside_groups n gs) 0))
  where
    passed : (a b d : Bool) → tested a b d [] ≡ [] → tested a b d rest ≡ rest
    passed true b d h = cc
    passed false true d h = cc
    passed false false true h = cc
    passed false false false h = refl

-- and what bad groups are refused for stands before it
pub bad-groups : (e : Refusal) (n c : ℕ) (gs rest : List ℕ) → refusal_numbers e ≡ groups_refusal n c gs []
    → refusal_numbers e ≡ groups_refusal n c gs rest
unfolding groups_refusal tested refuse
bad-groups e n c gs rest = stopped (bad_counts n c) (not (eqb (empty_groups c gs) 0)) (not (eqb (outside_groups n gs) 0))
  where
    stopped : (a b d : Bool) → refusal_numbers e ≡ tested a b d [] → refusal_numbers e ≡ tested a b d rest
    stopped true b d h = h
    stopped false true d h = h
    stopped false false true h = h
    stopped false false false h = absurd (numbered e h)

-- ---- tables

-- a table of n entries of which those from c on are overwritten
pub overwritten : (n a c d e : ℕ) (l ys : List ℕ) → length l ≡ n → a ≡ min c n
    → ys ≡ replicate (length (take (n - a) (drop a l))) d
    → put_mid a (n - a) l ys ≡ tabulate n (λ i. cond (ltb i c) (get_or l i e) d)
overwritten n a c d e l ys long ea ey =
    let front : length (take a l) ≡ a = length-take-le a l (omega arith) in
    let back : length (take (n - a) (drop a l)) ≡ n - a = length-take-le (n - a) (drop a l) (omega (arith, length-drop a l)) in
    let part : length ys ≡ n - a = ap length ey ∙ length-replicate _ d ∙ back in
    let tail = drop (n - a) (drop a l) in
    tabulated n _ _ e (simp (length-append, length-drop, front, part, long) (omega arith))
    (λ i b. by_cases (dec_lt i c)
    (λ (h : i < c).
    let k : i < a = omega arith in
    get_or_append_left (take a l) (ys ++ tail) e i (omega (arith, front)) ∙ get_or-take a l i e k
    ∙ sym (cond-true (ltb i c) _ _ (lt-ltb i c h)))
    (λ (h : i < c → ⊥).
    get_or-append_right (take a l) (ys ++ tail) a i e front (omega arith) ∙ get_or_append_left ys tail e (i - a) (omega (arith, part))
    ∙ ap (λ (x : List ℕ). get_or x (i - a) e) ey ∙ get_or-replicate _ (i - a) d e (omega (arith, back))
    ∙ sym (cond-false (ltb i c) _ _ (le-ltb i c (omega arith)))))

-- ---- the groups that count

pub counted-group : (c : ℕ) (gs : List ℕ) (g : ℕ) → c ≤ 24 → g < c → get_or (counted c gs) g 0 ≡ get_or gs g 0
unfolding counted counted_at
counted-group c gs g few b =
    get_d_tabulate 24 (counted_at c gs) g 0 (let z : g < 24 = omega arith in z) ∙ cond-true (ltb g c) (get_or gs g 0) 0 (lt-ltb g c b)

-- what is past them is not read
pub same-counted : (c : ℕ) (gs gs' : List ℕ) → ((i : ℕ) → i < c → get_or gs i 0 ≡ get_or gs' i 0)
    → counted c gs ≡ counted c gs'
unfolding counted counted_at
same-counted c gs gs' same = same_tables 24 (counted_at c gs) (counted_at c gs') (λ i small. by_cases (dec_lt i c)
    (λ counts. let t = lt-ltb i c counts in
    cond-true (ltb i c) (get_or gs i 0) 0 t ∙ same i counts ∙ sym (cond-true (ltb i c) (get_or gs' i 0) 0 t))
    (λ past. let f = le-ltb i c (let z : c ≤ i = omega (arith, past) in z) in
    cond-false (ltb i c) (get_or gs i 0) 0 f ∙ sym (cond-false (ltb i c) (get_or gs' i 0) 0 f)))
