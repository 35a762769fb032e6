-- What holds of every unrefused `build` and `check`, over what the calls answer; when they refuse is in Exactly.antt. Assumes nothing.
use mathlib.Core.Path.{◌≡◌, refl, sym, ap, subst, ◌∙◌}
use mathlib.Core.Logic.{inl, inr, ⊎_elim, by_cases}
use mathlib.Core.Bool.{Bool, true, false, not, ◌||◌, and-false, true≢false}
use mathlib.Core.List.{List, [], ◌∷◌}
use Prim.Native.Nat.{ℕ, ◌≤◌, ◌<◌, ◌^◌}
use native.Mathlib.Nat.{lt_of_lt_of_le, lt_of_le_of_lt}
use native.Mathlib.Decide.{ℕ_discrete, dec_lt}
use native.Mathlib.Omega.{arith}
use lib.ListN.{length, get_or}
use lib.Dec.{ltb, leb, eqb, lit≤}
use borrow.Author.Tests.{lt-ltb, ltb-false, lt-leb, le-leb, eq-eqb, eqb-true, eqb-false, ne_eqb}
use Rattle.sets.specs.Sets.{member, difference, lowest, below}
use Rattle.sets.proofs.Bools.{either, clash, and_both, or_none, not_of_false}
use Rattle.sets.proofs.Laws.{member-difference, below_in, lowest_of_some, not-empty, below-below, difference-none}
use Rattle.sets.proofs.Laws.{collect-none, none-collect}
use Rattle.forest.specs.Forest.{parent, has_primary, cyclic_units, without_primary}
use Rattle.layout.specs.Build.{built, Laid}
use Rattle.layout.specs.Inside.{ExactlyInside}
use Rattle.forest.specs.Calls.{counted_at, counted, drawn, bad_counts, empty_at, empty_groups, outside_at}
use Rattle.forest.specs.Calls.{outside_groups, outside_parent, outside_parents, refuse, groups_refusal, drawing_refusal, or_roots}
use Rattle.forest.specs.Calls.{build_refusal, build_parents, check_refusal, check_parents}
use Rattle.forest.specs.Claims.{Within, AcceptedForest, LaidByRule, ComponentsAreParts}
use Rattle.layout.proofs.Tables.{length-tabulate, get_d_past}
use Rattle.forest.proofs.Shared.{no_difference, good-groups}
use Rattle.forest.proofs.Ancestry.{acyclic_of, of_acyclic, ends-at-root}
use Rattle.forest.proofs.Primaries.{primary-is, primary-unique, on-route, route-has, members-on-route, parent-on-route}
use Rattle.forest.proofs.Primaries.{without-primary-none, none-without-primary}
use Rattle.layout.proofs.Laid.{Bench, in_rest, root-small, bench-part, bench-component, rest_part, rest-component}
use Rattle.layout.proofs.Laid.{laid-facts, laid-once, lonely-root}
use Rattle.layout.proofs.GroupsInside.{groups-inside as laid-groups-inside}
use Rattle.forest.proofs.Accepted.{past_drawn, built-cut, built-parent, rule-parent, lonely_childless}
use Rattle.forest.proofs.Accepted.{built-acyclic, built-within, built-primary}

-- ---- what an unrefused input is

refuse-none : (b : Bool) (x : ℕ) (xs rest : List ℕ) → refuse b (x ∷ xs) rest ≡ [] → (b ≡ false) × (rest ≡ [])
unfolding refuse
refuse-none true x xs rest e = absurd (true≢false (cc))
refuse-none false x xs rest e = (refl, e)

pub zero-set : (s : ℕ) → not (eqb s 0) ≡ false → s ≡ 0
zero-set s h = eqb-true s 0
    (⊎_elim (λ a. a) (λ (a : eqb s 0 ≡ false). absurd (clash (not_of_false (eqb s 0) a) h)) (either (eqb s 0)))

-- the groups are good: 1 to 32 units, at most 24 groups, none empty, all members units
pub record GoodGroups (n c : ℕ) (gs : List ℕ) : Type 0 where
  pub some : 0 < n
  pub few : n ≤ 32
  pub count : c ≤ 24
  pub bench : Bench n gs
  pub filled : (i : ℕ) → i < c → (u : ℕ) × (member (get_or gs i 0) u ≡ true)

pub counts-good : (n c : ℕ) → bad_counts n c ≡ false → (0 < n) × (n ≤ 32) × (c ≤ 24)
unfolding bad_counts
counts-good n c h =
    let z = or_none (eqb n 0 || ltb 32 n) (ltb 24 c) h in
    let y = or_none (eqb n 0) (ltb 32 n) z.0 in
    let p = eqb-false n 0 y.0 in
    (pos n p, ltb-false 32 n y.1, ltb-false 24 c z.1)
  where
    pos : (m : ℕ) → (m ≡ 0 → ⊥) → 0 < m
    pos m f = omega arith

-- no member outside the units: a set of units
pub inside-units : (n g : ℕ) → difference g (below n) ≡ 0 → (g < 2 ^ 32) × ((u : ℕ) → member g u ≡ true → u < n)
inside-units n g e = (
  lt_of_le_of_lt (difference-none g (below n) e) (below-below n),
  λ u m. ⊎_elim
      (below_in n u)
      (λ (a : member (below n) u ≡ false). absurd (not-empty (difference g (below n)) u
      (member-difference g (below n) u ∙ and_both (member g u) (not (member (below n) u)) m (not_of_false (member (below n) u) a)) e))
      (either (member (below n) u)),
)

-- a place past the table is empty
pub past_table : (c : ℕ) (gs : List ℕ) (i : ℕ) → 24 ≤ i → get_or (counted c gs) i 0 ≡ 0
unfolding counted
past_table c gs i h = get_d_past 24 (counted_at c gs) i 0 h

counted-long : (c : ℕ) (gs : List ℕ) → length (counted c gs) ≡ 24
unfolding counted
counted-long c gs = length-tabulate 24 (counted_at c gs)

pub groups-good : (n c : ℕ) (gs rest : List ℕ) → groups_refusal n c (counted c gs) rest ≡ []
    → GoodGroups n c (counted c gs) × (rest ≡ [])
unfolding groups_refusal empty_groups empty_at outside_groups outside_at
groups-good n c gs rest e =
    let five = refuse-none (bad_counts n c) 5 _ _ e in
    let four = refuse-none (not (eqb (empty_groups c (counted c gs)) 0)) 4 _ _ five.1 in
    let six = refuse-none (not (eqb (outside_groups n (counted c gs)) 0)) 6 _ _ four.1 in
    let counts = counts-good n c five.0 in
    let units : (i : ℕ) → difference (get_or (counted c gs) i 0) (below n) ≡ 0 = λ i. by_cases (dec_lt i 32)
    (λ b. zero-set _ (collect-none 32 (outside_at n (counted c gs)) (lit≤ tt) (zero-set _ six.0) i b))
    (λ b. ap (λ (g : ℕ). difference g (below n)) (past_table c gs i (omega arith)) ∙ no_difference (below n)) in (
      record {
        some = counts.0;
        few = counts.1;
        count = counts.2;
        bench = record {
          few = counts.1;
          table = record { long = counted-long c gs; bounded = λ i. (inside-units n _ (units i)).0 };
          within = λ i u m. (inside-units n _ (units i)).1 u m;
        };
        filled = λ i b.
            let some = lowest_of_some (get_or (counted c gs) i 0) (inside-units n _ (units i)).0
            (λ z. clash (and_both (ltb i c) (eqb (get_or (counted c gs) i 0) 0) (lt-ltb i c b) (eq-eqb (get_or (counted c gs) i 0) 0 z))
            (collect-none 32 (empty_at c (counted c gs)) (lit≤ tt) (zero-set _ four.0) i (let l = counts.2 in omega arith))) in
            (lowest (get_or (counted c gs) i 0), some.1);
      },
      six.1,
    )

-- ---- what an unrefused drawing is

parents-good : (n c : ℕ) (gs ps : List ℕ) → drawing_refusal n c gs ps ≡ []
    → (outside_parents n ps ≡ 0) × (cyclic_units ps ≡ 0) × (without_primary c gs ps ≡ 0)
unfolding drawing_refusal
parents-good n c gs ps e =
    let six = refuse-none (not (eqb (outside_parents n ps) 0)) 6 _ _ e in
    let ten = refuse-none (not (eqb (cyclic_units ps) 0)) 10 _ _ six.1 in
    let eleven = refuse-none (not (eqb (without_primary c gs ps) 0)) 11 _ _ ten.1 in
    (zero-set _ six.0, zero-set _ ten.0, zero-set _ eleven.0)

good-parents : (n c : ℕ) (gs ps : List ℕ) → outside_parents n ps ≡ 0 → cyclic_units ps ≡ 0 → without_primary c gs ps ≡ 0
    → drawing_refusal n c gs ps ≡ []
unfolding drawing_refusal refuse
good-parents n c gs ps six ten eleven = simp (six, ten, eleven)

-- ---- what `build` answers

built-answer : (n c : ℕ) (gs : List ℕ) → build_refusal n c gs ≡ [] → build_parents n c gs ≡ built n (counted c gs)
unfolding build_parents or_roots
built-answer n c gs e = ap (λ (l : List ℕ). or_roots l (built n (counted c gs))) e

-- the built forest is laid out by document 01's rule
pub built-by-rule : (n c : ℕ) (gs : List ℕ) → build_refusal n c gs ≡ [] → LaidByRule n (counted c gs) (build_parents n c gs)
unfolding build_refusal
built-by-rule n c gs e =
    let bench = (groups-good n c gs [] e).0.bench in
    rw (built-answer n c gs e) (record {
      root_of = rule-parent n (counted c gs) bench;
      once = λ u w w'. laid-once n (counted c gs) bench w.laid w'.laid u w.is-root w'.is-root;
      lonely = λ u h none. (
        built-parent n (counted c gs) u bench.few h ∙ lonely-root n (counted c gs) bench u h none,
        lonely_childless n (counted c gs) bench u h none,
      );
    })

pub components_are_parts : (n c : ℕ) (gs : List ℕ) → build_refusal n c gs ≡ [] → ComponentsAreParts n (counted c gs)
unfolding build_refusal
components_are_parts n c gs e =
    let bench = (groups-good n c gs [] e).0.bench in
    record {
      whole_part = bench-part n (counted c gs) bench;
      whole-only = bench-component n (counted c gs) bench;
      smaller-part = λ {s} {live} {top} {r} l q u m.
          let f = laid-facts n (counted c gs) bench l in
          let i = in_rest s r u (root-small n (counted c gs) bench s live r f q.inside) m in
          rest_part n (counted c gs) bench s live r f q.inside u i.0 i.1;
      smaller-only = λ {s} {live} {top} {r} l q p. rest-component n (counted c gs) bench s live r (laid-facts n (counted c gs) bench l)
          q.inside p;
    }

-- of every part that is laid out for a table: the groups not set aside that meet it are those inside it
pub groups-inside : (n c : ℕ) (gs : List ℕ) → build_refusal n c gs ≡ [] → {s live top : ℕ} → Laid n (counted c gs) s live top
    → ExactlyInside (counted c gs) live s
unfolding build_refusal
groups-inside n c gs e = laid-groups-inside n (counted c gs) (groups-good n c gs [] e).0.bench

-- ---- what `build` answers is accepted

-- parents that are units or none are no refusal
within-good : (n : ℕ) (ps : List ℕ) → Within n ps → outside_parents n ps ≡ 0
unfolding outside_parents outside_parent
within-good n ps h = none-collect 32 (outside_parent n ps) (λ u b. ⊎_elim
    (λ (e : parent ps u ≡ 255). simp (eq-eqb (parent ps u) 255 e) (and-false (leb n (parent ps u))))
    (λ w. simp (lt-leb n (parent ps u) w.1))
    (h.parents u))

built-refusal : (n c : ℕ) (gs : List ℕ) → GoodGroups n c gs → drawing_refusal n c gs (built n gs) ≡ []
built-refusal n c gs good =
    good-parents n c gs (built n gs) (within-good n (built n gs) (built-within n gs good.bench))
    (of_acyclic (built n gs) (built-acyclic n gs good.bench))
    (none-without-primary c gs (built n gs) (λ i b l. let w = good.filled i b in built-primary n gs good.bench i w.0 w.1))

-- `check` accepts what `build` answers, and answers it unchanged
pub build_accepted : (n c : ℕ) (gs : List ℕ) → build_refusal n c gs ≡ []
    → (check_refusal n c gs (build_parents n c gs) ≡ []) × (check_parents n c gs (build_parents n c gs) ≡ build_parents n c gs)
unfolding build_refusal check_refusal check_parents or_roots
build_accepted n c gs e =
    let good = (groups-good n c gs [] e).0 in
    let cut : drawn n (build_parents n c gs) ≡ built n (counted c gs) =
    ap (drawn n) (built-answer n c gs e) ∙ built-cut n (counted c gs) in
    let none : check_refusal n c gs (build_parents n c gs) ≡ [] =
    good-groups n c (counted c gs) _ e ∙ ap (drawing_refusal n c (counted c gs)) cut ∙ built-refusal n c (counted c gs) good in
    (none, ap (λ (l : List ℕ). or_roots l (drawn n (build_parents n c gs))) none ∙ cut ∙ sym (built-answer n c gs e))

-- ---- an accepted forest

-- parents that are no refusal are units or none
pub good-within : (n : ℕ) (ps : List ℕ) → n ≤ 32 → outside_parents n (drawn n ps) ≡ 0 → Within n (drawn n ps)
unfolding outside_parents outside_parent
good-within n ps few e = record {
  few = few;
  parents = λ u. by_cases (dec_lt u n)
      (λ b. by_cases (ℕ_discrete (parent (drawn n ps) u) 255) (λ z. inl z)
      (λ z. inr (
        b,
        by_cases (dec_lt (parent (drawn n ps) u) n) (λ l. l)
            (λ l. absurd (clash
            (and_both (leb n (parent (drawn n ps) u)) (not (eqb (parent (drawn n ps) u) 255))
            (le-leb n (parent (drawn n ps) u) (omega arith))
            (not_of_false (eqb (parent (drawn n ps) u) 255) (ne_eqb (parent (drawn n ps) u) 255 z)))
            (collect-none 32 (outside_parent n (drawn n ps)) (lit≤ tt) e u (lt_of_lt_of_le b few)))),
      )))
      (λ b. inl (past_drawn n ps u (omega arith)));
}

pub check-accepted : (n c : ℕ) (gs ps : List ℕ) → check_refusal n c gs ps ≡ []
    → AcceptedForest n c (counted c gs) (check_parents n c gs ps)
unfolding check_refusal check_parents or_roots
check-accepted n c gs ps e =
    let both = groups-good n c gs (drawing_refusal n c (counted c gs) (drawn n ps)) e in
    let good = both.0 in
    let faultless = parents-good n c (counted c gs) (drawn n ps) both.1 in
    let within = good-within n ps good.few faultless.0 in
    let acyclic = acyclic_of (drawn n ps) faultless.1 in
    let bounded = good.bench.table.bounded in
    let has : (i : ℕ) → i < c → has_primary (drawn n ps) (get_or (counted c gs) i 0) ≡ true =
    λ i b. without-primary-none c (counted c gs) (drawn n ps) faultless.2 i b (let l = good.count in omega arith) in
    subst (λ (l : List ℕ). AcceptedForest n c (counted c gs) (or_roots l (drawn n ps))) (sym e) (record {
      within = within;
      acyclic = acyclic;
      ends = ends-at-root within acyclic;
      primary-of = λ i b. primary-is (drawn n ps) (get_or (counted c gs) i 0) (bounded i) (has i b);
      unique = λ g p q. primary-unique acyclic;
      way = λ g u. (on-route (drawn n ps) g u, route-has (drawn n ps) g u);
      members = λ i u b m. members-on-route (drawn n ps) (get_or (counted c gs) i 0) u (bounded i) (has i b) m;
      parents = λ i u b m k. parent-on-route (drawn n ps) (get_or (counted c gs) i 0) u m k;
    })

-- so a built forest has all that an accepted one has
pub build_forest : (n c : ℕ) (gs : List ℕ) → build_refusal n c gs ≡ [] → AcceptedForest n c (counted c gs) (build_parents n c gs)
build_forest n c gs e =
    let accepts = build_accepted n c gs e in
    subst (AcceptedForest n c (counted c gs)) accepts.1 (check-accepted n c gs (build_parents n c gs) accepts.0)
