-- When `build` and `check` refuse, and when they accept: both ways, for every input. Assumes nothing.
use mathlib.Core.Path.{◌≡◌, refl, sym, ap, subst, ◌∙◌}
use mathlib.Core.Logic.{◌⊎◌, inl, inr, ⊎_elim, by_cases, ◌↔◌}
use mathlib.Core.Bool.{Bool, true, false, not, ◌||◌, cond}
use mathlib.Core.List.{List, [], ◌∷◌}
use Prim.Native.Nat.{ℕ, zero, suc, ◌≤◌, ◌<◌, ◌^◌, ◌*◌}
use native.Mathlib.Nat.{lt_of_lt_of_le, zero-lt-suc, pow-suc}
use native.Mathlib.Decide.{dec_lt}
use native.Mathlib.Omega.{arith}
use borrow.Author.Tests.{lt-ltb, le-ltb, ltb-true, leb-true, eq-eqb, eqb-true, eqb-false, not-false}
use lib.ListN.{get_or}
use lib.Dec.{ltb, leb, eqb, lit≤}
use Rattle.sets.specs.Sets.{member, difference, lowest, collect, below}
use Rattle.sets.proofs.Bools.{either, clash, not-true-false, and_left, and_right, and_both, or_cases, or_none}
use Rattle.sets.proofs.Bools.{false_of_not, cond-true, cond-false}
use Rattle.sets.proofs.Laws.{member-difference, member-collect, in_below, some-member, not-empty}
use Rattle.sets.proofs.Laws.{lowest_of_some, lowest-least, collect-below, collect-none}
use Rattle.layout.proofs.Tables.{get_d_tabulate}
use Rattle.forest.specs.Forest.{parent, primary, has_primary, own_ancestor, cyclic_units, lacks_primary, without_primary}
use Rattle.forest.specs.Calls.{refusal, refusal_numbers, counted_at, counted, drawn, bad_counts, empty_at, empty_groups, outside_at}
use Rattle.forest.specs.Calls.{outside_groups}
use Rattle.forest.specs.Calls.{outside_parent, outside_parents, refuse, groups_refusal, drawing_refusal, build_refusal, check_refusal}
use Rattle.forest.specs.Claims.{Acyclic, IsPrimary, CountsWithin, NoneEmpty, MembersWithin, ParentsWithin, SomeEmpty}
use Rattle.forest.specs.Claims.{OutsideMember, OutsideParent, SelfAncestor, HavePrimaries, FirstWithout}
use Rattle.forest.specs.Claims.{BuiltExactly, CheckedExactly}
use Rattle.std.specs.Prelude.{Result, Ok, Err}
use Rattle.forest.specs.declared.Refusal.{Refusal}
use Rattle.forest.specs.declared.Refusal.TheVariants.{BadCounts, EmptyGroup, OutsideUnits, OwnAncestor, NoPrimary}
use Rattle.forest.proofs.Shared.{counted-group}
use Rattle.forest.proofs.Ancestry.{above-unit, own_ancestor-sound, acyclic_of}
use Rattle.forest.proofs.Primaries.{primary-is, has-primary}
use Rattle.forest.proofs.Accepted.{past_drawn, drawn-entry}
use Rattle.forest.proofs.Theorems.{zero-set, counts-good, inside-units, past_table, good-within}

-- ---- five tests in turn, each of them asked where the ones before found nothing

-- asked where `given` holds, the test says whether `bad` or `good` does
record Decides (given : Type 0) (test : Bool) (bad good : Type 0) : Type 0 where
  from-bad : bad → given
  from-good : good → given
  found : given → test ≡ true → bad
  passed : given → test ≡ false → good
  apart : good → bad → ⊥

says-bad : {given bad good : Type 0} {test : Bool} → Decides given test bad good → bad → test ≡ true
says-bad {test = test} d b = ⊎_elim (λ t. t) (λ f. absurd (d.apart (d.passed (d.from-bad b) f) b)) (either test)

says-good : {given bad good : Type 0} {test : Bool} → Decides given test bad good → good → test ≡ false
says-good {test = test} d g = not-true-false test (λ t. d.apart g (d.found (d.from-good g) t))

-- the first test that finds something refuses
unfoldable judged : Bool → Bool → Bool → Bool → Bool → ℕ → List ℕ
judged a b d e f g =
    refuse a (5 ∷ 0 ∷ []) (refuse b (4 ∷ 0 ∷ []) (refuse d (6 ∷ 0 ∷ []) (refuse e (10 ∷ []) (refuse f (11 ∷ g ∷ []) []))))

-- what a call says: nothing is refused, or what is
abbrev Verdict : Type 0
Verdict = Result Unit Refusal

abbrev accepted : Verdict
accepted = Ok tt

-- the verdict that the numbers of a refusal stand for
unfoldable verdict : List ℕ → Verdict
verdict [] = accepted
verdict (x ∷ xs) = Err (cond (eqb x 5) BadCounts (cond (eqb x 4) EmptyGroup (cond (eqb x 6) OutsideUnits
    (cond (eqb x 10) OwnAncestor (NoPrimary (get_or xs 0 0))))))

verdict_of : (v : Verdict) → verdict (refusal v) ≡ v
unfolding verdict refusal refusal_numbers
verdict_of (Ok x) = refl
verdict_of (Err BadCounts) = refl
verdict_of (Err EmptyGroup) = refl
verdict_of (Err OutsideUnits) = refl
verdict_of (Err OwnAncestor) = refl
verdict_of (Err (NoPrimary g)) = refl

module _ {B5 G5 B4 G4 B6 G6 B10 G10 G11 : Type 0} {B11 : ℕ → Type 0} {a b d e f : Bool} {g : ℕ} (d5 : Decides Unit a B5 G5)
    (d4 : Decides G5 b B4 G4) (d6 : Decides G4 d B6 G6) (d10 : Decides G6 e B10 G10) (d11 : Decides G10 f ((i : ℕ) × B11 i) G11)
    (only : (i : ℕ) → f ≡ true → B11 i → i ≡ g) where
  -- what a verdict says
  unfoldable Says : Verdict → Type 0
  Says (Ok x) = G11
  Says (Err BadCounts) = B5
  Says (Err EmptyGroup) = B4
  Says (Err OutsideUnits) = B6
  Says (Err OwnAncestor) = B10
  Says (Err (NoPrimary i)) = B11 i

  past_groups : G6 → judged a b d e f g ≡ refuse e (10 ∷ []) (refuse f (11 ∷ g ∷ []) [])
  unfolding judged refuse
  past_groups m =
      let m4 = d6.from-good m in
      rw (says-good d5 (d4.from-good m4), says-good d4 m4, says-good d6 m)

  says-refusal : (v : Verdict) → Says v → judged a b d e f g ≡ refusal v
  unfolding Says judged refuse refusal refusal_numbers
  says-refusal (Err BadCounts) m = rw (says-bad d5 m)
  says-refusal (Err EmptyGroup) m = rw (says-good d5 (d4.from-bad m), says-bad d4 m)
  says-refusal (Err OutsideUnits) m =
      let m4 = d6.from-bad m in
      rw (says-good d5 (d4.from-good m4), says-good d4 m4, says-bad d6 m)
  says-refusal (Err OwnAncestor) m = past_groups (d10.from-bad m) ∙ rw (says-bad d10 m)
  says-refusal (Err (NoPrimary i)) m =
      let m10 = d11.from-bad (i, m) in
      let t = says-bad d11 (i, m) in
      past_groups (d10.from-good m10) ∙ rw (says-good d10 m10, t) (ap (λ (x : ℕ). 11 ∷ x ∷ []) (sym (only i t m)))
  says-refusal (Ok x) m =
      let m10 = d11.from-good m in
      past_groups (d10.from-good m10) ∙ rw (says-good d10 m10, says-good d11 m)

  first_found : (v : Verdict) × Says v
  unfolding Says
  first_found =
      ⊎_elim (λ t. (Err BadCounts, d5.found tt t)) (λ t5.
      let m5 = d5.passed tt t5 in
      ⊎_elim (λ t. (Err EmptyGroup, d4.found m5 t)) (λ t4.
      let m4 = d4.passed m5 t4 in
      ⊎_elim (λ t. (Err OutsideUnits, d6.found m4 t)) (λ t6.
      let m6 = d6.passed m4 t6 in
      ⊎_elim (λ t. (Err OwnAncestor, d10.found m6 t)) (λ t10.
      let m10 = d10.passed m6 t10 in
      ⊎_elim (λ t. let w = d11.found m10 t in (Err (NoPrimary w.0), w.1)) (λ t11. (accepted, d11.passed m10 t11))
      (either f)) (either e)) (either d)) (either b)) (either a)

  refusal-says : (v : Verdict) → judged a b d e f g ≡ refusal v → Says v
  refusal-says v h =
      let w = first_found in
      subst Says (sym (verdict_of w.0) ∙ ap verdict (sym (says-refusal w.0 w.1) ∙ h) ∙ verdict_of v) w.1

  exactly : {l : List ℕ} → l ≡ judged a b d e f g → (v : Verdict) → (l ≡ refusal v) ↔ Says v
  exactly q v = (λ h. refusal-says v (sym q ∙ h), λ m. q ∙ says-refusal v m)

-- ---- what a test over places says of them

lt_pow : (n : ℕ) → n < 2 ^ n
lt_pow zero = zero-lt-suc 0
lt_pow (suc n) = let p : 2 ^ suc n ≡ 2 ^ n * 2 = pow-suc 2 n in omega (arith, lt_pow n)

has-member : (s : ℕ) → (s ≡ 0 → ⊥) → (u : ℕ) × (member s u ≡ true)
has-member s h = let m = some-member s s (lt_pow s) h in (m.0, m.2)

not-zero : (s : ℕ) → not (eqb s 0) ≡ true → s ≡ 0 → ⊥
not-zero s t = eqb-false s 0 (false_of_not (eqb s 0) t)

-- the lowest place that passes a test, where one does
lowest-passes : (f : ℕ → Bool) → not (eqb (collect 32 f) 0) ≡ true
    → (lowest (collect 32 f) < 32) × (f (lowest (collect 32 f)) ≡ true)
lowest-passes f t =
    let r = lowest_of_some (collect 32 f) (collect-below 32 f) (not-zero _ t) in
    (r.0, and_right (ltb (lowest (collect 32 f)) 32) _ (sym (member-collect 32 f (lowest (collect 32 f)) (lit≤ tt)) ∙ r.1))

lower_fails : (f : ℕ → Bool) (i : ℕ) → i < 32 → i < lowest (collect 32 f) → f i ≡ false
lower_fails f i b l = not-true-false (f i) (λ t.
    let least = lowest-least (collect 32 f) i b (member-collect 32 f i (lit≤ tt) ∙ and_both (ltb i 32) (f i) (lt-ltb i 32 b) t) in
    omega arith)

-- no place passes the test
none_passes : (f : ℕ → Bool) → not (eqb (collect 32 f) 0) ≡ false → (i : ℕ) → i < 32 → f i ≡ false
none_passes f t = collect-none 32 f (lit≤ tt) (zero-set (collect 32 f) t)

-- ---- what the calls read

counted_past : (c : ℕ) (gs : List ℕ) (i : ℕ) → c ≤ i → get_or (counted c gs) i 0 ≡ 0
unfolding counted counted_at
counted_past c gs i h = by_cases (dec_lt i 24)
    (λ b. get_d_tabulate 24 (counted_at c gs) i 0 b ∙ cond-false (ltb i c) (get_or gs i 0) 0 (le-ltb i c h))
    (λ b. past_table c gs i (omega arith))

drawn_in : (n : ℕ) (ps : List ℕ) (u : ℕ) → n ≤ 32 → u < n → parent (drawn n ps) u ≡ parent ps u
unfolding parent
drawn_in n ps u h b = drawn-entry n ps u (lt_of_lt_of_le b h) ∙ cond-true (ltb u n) (get_or ps u 255) 255 (lt-ltb u n b)

-- ---- the tests

counts_decided : (n c : ℕ) → Decides Unit (bad_counts n c) ((n ≡ 0) ⊎ (32 < n) ⊎ (24 < c)) (CountsWithin n c)
unfolding bad_counts
counts_decided n c = record {
  from-bad = λ b. tt;
  from-good = λ g. tt;
  found = λ z t. ⊎_elim
      (λ l. ⊎_elim (λ e. inl (eqb-true n 0 e)) (λ h. inr (inl (ltb-true 32 n h))) (or_cases (eqb n 0) (ltb 32 n) l))
      (λ h. inr (inr (ltb-true 24 c h))) (or_cases (eqb n 0 || ltb 32 n) (ltb 24 c) t);
  passed = λ z t. let k = counts-good n c t in record { some = k.0; few = k.1; count = k.2 };
  apart = λ g.
      let some = g.some in
      let few = g.few in
      let count = g.count in
      ⊎_elim (λ e. omega arith) (⊎_elim (λ l. omega arith) (λ l. omega arith));
}

empty_decided : (n c : ℕ) (gs : List ℕ)
    → Decides (CountsWithin n c) (not (eqb (empty_groups c (counted c gs)) 0)) (CountsWithin n c × SomeEmpty c gs) (NoneEmpty n c gs)
unfolding empty_groups empty_at SomeEmpty
empty_decided n c gs = record {
  from-bad = λ b. b.0;
  from-good = λ g. g.counts;
  found = λ k t.
      let p = lowest-passes (empty_at c (counted c gs)) t in
      let i : ℕ = lowest (collect 32 (empty_at c (counted c gs))) in
      let b = ltb-true i c (and_left (ltb i c) _ p.1) in
      let e = sym (counted-group c gs i k.count b) ∙ eqb-true _ 0 (and_right (ltb i c) _ p.1) in
      (k, (i, b, λ u m. not-empty (get_or gs i 0) u m e));
  passed = λ k t. record {
    counts = k;
    filled = λ i b. has-member (get_or gs i 0) (λ e.
        let count = k.count in
        clash (and_both (ltb i c) _ (lt-ltb i c b) (eq-eqb _ 0 (counted-group c gs i count b ∙ e)))
        (none_passes (empty_at c (counted c gs)) t i (omega arith)));
  };
  apart = λ g b. let m = g.filled b.1.0 b.1.1 in b.1.2 m.0 m.1;
}

members_decided : (n c : ℕ) (gs : List ℕ)
    → Decides (NoneEmpty n c gs) (not (eqb (outside_groups n (counted c gs)) 0)) (NoneEmpty n c gs × OutsideMember n c gs)
    (MembersWithin n c gs)
unfolding outside_groups outside_at OutsideMember
members_decided n c gs = record {
  from-bad = λ b. b.0;
  from-good = λ g. g.none-empty;
  found = λ k t.
      let i : ℕ = lowest (collect 32 (outside_at n (counted c gs))) in
      let s : ℕ = get_or (counted c gs) i 0 in
      let w = has-member (difference s (below n)) (not-zero _ (lowest-passes (outside_at n (counted c gs)) t).1) in
      let both = sym (member-difference s (below n) w.0) ∙ w.1 in
      let inside = and_left (member s w.0) _ both in
      let few = k.counts.few in
      let b : i < c = by_cases (dec_lt i c) (λ l. l) (λ l. absurd (not-empty s w.0 inside (counted_past c gs i (omega arith)))) in
      let out : n ≤ w.0 = by_cases (dec_lt w.0 n)
      (λ l. absurd (clash (in_below n w.0 (omega arith) l)
      (false_of_not (member (below n) w.0) (and_right (member s w.0) _ both))))
      (λ l. omega arith) in
      (k, (i, b, w.0, out, ap (λ (x : ℕ). member x w.0) (sym (counted-group c gs i k.counts.count b)) ∙ inside));
  passed = λ k t. record {
    none-empty = k;
    members = λ i u b m.
        let count = k.counts.count in
        let none = zero-set _ (none_passes (outside_at n (counted c gs)) t i (omega arith)) in
        (inside-units n _ none).1 u (ap (λ (x : ℕ). member x u) (counted-group c gs i count b) ∙ m);
  };
  apart = λ g b.
      let w = b.1 in
      let l = g.members w.0 w.2 w.1 w.4 in
      let h = w.3 in
      omega arith;
}

-- where the members are units, a group that counts is a set of 32 places
group-bounded : (n c : ℕ) (gs : List ℕ) → MembersWithin n c gs → (i : ℕ) → i < c → get_or (counted c gs) i 0 < 2 ^ 32
unfolding outside_groups outside_at
group-bounded n c gs k i b =
    let count = k.none-empty.counts.count in
    let none = none_passes (outside_at n (counted c gs)) (says-good (members_decided n c gs) k) i (omega arith) in
    (inside-units n _ (zero-set _ none)).0

parents_decided : (n c : ℕ) (gs ps : List ℕ)
    → Decides (MembersWithin n c gs) (not (eqb (outside_parents n (drawn n ps)) 0)) (MembersWithin n c gs × OutsideParent n ps)
    (ParentsWithin n c gs ps)
unfolding outside_parents outside_parent OutsideParent
parents_decided n c gs ps = record {
  from-bad = λ b. b.0;
  from-good = λ g. g.groups;
  found = λ k t.
      let u : ℕ = lowest (collect 32 (outside_parent n (drawn n ps))) in
      let p : ℕ = parent (drawn n ps) u in
      let both = (lowest-passes (outside_parent n (drawn n ps)) t).1 in
      let out = leb-true n p (and_left (leb n p) _ both) in
      let no-root = eqb-false p 255 (false_of_not (eqb p 255) (and_right (leb n p) _ both)) in
      let b : u < n = by_cases (dec_lt u n) (λ l. l) (λ l. absurd (no-root (past_drawn n ps u (omega arith)))) in
      let e = drawn_in n ps u k.none-empty.counts.few b in
      (k, (u, b, subst (λ (x : ℕ). n ≤ x) e out, λ r. no-root (e ∙ r)));
  passed = λ k t. record {
    groups = k;
    parents = λ u b.
        let few = k.none-empty.counts.few in
        let e = drawn_in n ps u few b in
        ⊎_elim (λ r. inl (sym e ∙ r)) (λ w. inr (subst (λ (x : ℕ). x < n) e w.1))
        ((good-within n ps few (zero-set _ t)).parents u);
  };
  apart = λ g b.
      let w = b.1 in
      let h = w.2 in
      ⊎_elim w.3 (λ l. omega arith) (g.parents w.0 w.1);
}

ancestry_decided : (n c : ℕ) (gs ps : List ℕ)
    → Decides (ParentsWithin n c gs ps) (not (eqb (cyclic_units (drawn n ps)) 0)) (ParentsWithin n c gs ps × SelfAncestor n (drawn n ps))
    (ParentsWithin n c gs ps × Acyclic (drawn n ps))
unfolding cyclic_units SelfAncestor Acyclic
ancestry_decided n c gs ps = record {
  from-bad = λ b. b.0;
  from-good = λ g. g.0;
  found = λ k t.
      let u : ℕ = lowest (collect 32 (own_ancestor (drawn n ps))) in
      let r = own_ancestor-sound (drawn n ps) u (lowest-passes (own_ancestor (drawn n ps)) t).1 in
      let l = (above-unit r).1 in
      let b : u < n = by_cases (dec_lt u n) (λ b. b) (λ b. let past = past_drawn n ps u (omega arith) in absurd (omega arith)) in
      (k, (u, b, r));
  passed = λ k t. (k, acyclic_of (drawn n ps) (zero-set _ t));
  apart = λ g b. let w = b.1 in g.1 w.0 (above-unit w.2).0 w.2;
}

-- a member or a parent
outside_decided : (n c : ℕ) (gs ps : List ℕ)
    → Decides (NoneEmpty n c gs) (not (eqb (outside_groups n (counted c gs)) 0) || not (eqb (outside_parents n (drawn n ps)) 0))
    (NoneEmpty n c gs × (OutsideMember n c gs ⊎ OutsideParent n ps)) (ParentsWithin n c gs ps)
outside_decided n c gs ps =
    let ms = members_decided n c gs in
    let qs = parents_decided n c gs ps in
    let out-m = not (eqb (outside_groups n (counted c gs)) 0) in
    let out-p = not (eqb (outside_parents n (drawn n ps)) 0) in
    record {
      from-bad = λ b. b.0;
      from-good = λ g. g.groups.none-empty;
      found = λ k t. ⊎_elim (λ m. (k, inl (ms.found k m).1))
          (λ m. (k, inr (qs.found (ms.passed k m) (simp m at t)).1)) (either out-m);
      passed = λ k t. let none = or_none out-m out-p t in qs.passed (ms.passed k none.0) none.1;
      apart = λ g b. ⊎_elim (λ w. ms.apart g.groups (b.0, w)) (λ w. qs.apart g (g.groups, w)) b.1;
    }

-- what 11 with g says
unfoldable Eleven : ℕ → ℕ → List ℕ → List ℕ → ℕ → Type 0
Eleven n c gs ps g = ParentsWithin n c gs ps × Acyclic (drawn n ps) × FirstWithout c gs (drawn n ps) g

module _ (n c : ℕ) (gs ps : List ℕ) where
  -- a group that counts and is not found to lack a primary has one
  primary-there : MembersWithin n c gs → (i : ℕ) → i < c → lacks_primary c (counted c gs) (drawn n ps) i ≡ false
      → (p : ℕ) × IsPrimary (drawn n ps) (get_or gs i 0) p
  unfolding lacks_primary
  primary-there k i b h =
      let s : ℕ = get_or (counted c gs) i 0 in
      let has = not-false (has_primary (drawn n ps) s) (simp (lt-ltb i c b) at h) in (
        primary (drawn n ps) s,
        subst (λ (x : ℕ). IsPrimary (drawn n ps) x (primary (drawn n ps) s))
            (counted-group c gs i k.none-empty.counts.count b) (primary-is (drawn n ps) s (group-bounded n c gs k i b) has),
      )

  -- and the lowest that is found to lack one has none
  first_lacking : MembersWithin n c gs → not (eqb (without_primary c (counted c gs) (drawn n ps)) 0) ≡ true
      → FirstWithout c gs (drawn n ps) (lowest (without_primary c (counted c gs) (drawn n ps)))
  unfolding without_primary lacks_primary FirstWithout HavePrimaries
  first_lacking k t =
      let f : ℕ → Bool = lacks_primary c (counted c gs) (drawn n ps) in
      let g : ℕ = lowest (collect 32 f) in
      let s : ℕ = get_or (counted c gs) g 0 in
      let count = k.none-empty.counts.count in
      let both = (lowest-passes f t).1 in
      let b : g < c = ltb-true g c (and_left (ltb g c) _ both) in
      let lacks = false_of_not (has_primary (drawn n ps) s) (and_right (ltb g c) _ both) in (
        b,
        λ p r. clash (has-primary (drawn n ps) s p (group-bounded n c gs k g b)
            (subst (λ (x : ℕ). IsPrimary (drawn n ps) x p) (sym (counted-group c gs g count b)) r)) lacks,
        λ i l. primary-there k i (omega arith) (lower_fails f i (omega arith) l),
      )

  first-once : (g h : ℕ) → FirstWithout c gs (drawn n ps) g → FirstWithout c gs (drawn n ps) h → g ≡ h
  unfolding FirstWithout HavePrimaries
  first-once g h v w = by_cases (dec_lt g h) (λ l. absurd (let p = w.2 g l in v.1 p.0 p.1))
      (λ m. by_cases (dec_lt h g) (λ l. absurd (let p = v.2 h l in w.1 p.0 p.1)) (λ l. omega arith))

  primaries_decided : Decides (ParentsWithin n c gs ps × Acyclic (drawn n ps))
      (not (eqb (without_primary c (counted c gs) (drawn n ps)) 0))
      ((g : ℕ) × Eleven n c gs ps g) (ParentsWithin n c gs ps × Acyclic (drawn n ps) × HavePrimaries c gs (drawn n ps))
  unfolding without_primary Eleven FirstWithout HavePrimaries
  primaries_decided = record {
    from-bad = λ b. (b.1.0, b.1.1);
    from-good = λ g. (g.0, g.1);
    found = λ k t. (lowest (without_primary c (counted c gs) (drawn n ps)), (k.0, k.1, first_lacking k.0.groups t));
    passed = λ k t. (
      k.0,
      k.1,
      λ i b.
          let count = k.0.groups.none-empty.counts.count in
          primary-there k.0.groups i b (none_passes (lacks_primary c (counted c gs) (drawn n ps)) t i (omega arith)),
    );
    apart = λ g b.
        let w = b.1.2 in
        let p = g.2 b.0 w.0 in
        w.1 p.0 p.1;
  }

  named : (i : ℕ) → not (eqb (without_primary c (counted c gs) (drawn n ps)) 0) ≡ true → Eleven n c gs ps i
      → i ≡ lowest (without_primary c (counted c gs) (drawn n ps))
  unfolding Eleven
  named i t m = first-once i _ m.2 (first_lacking m.0.groups t)

  checked-judged : check_refusal n c gs ps ≡ judged (bad_counts n c) (not (eqb (empty_groups c (counted c gs)) 0))
      (not (eqb (outside_groups n (counted c gs)) 0) || not (eqb (outside_parents n (drawn n ps)) 0))
      (not (eqb (cyclic_units (drawn n ps)) 0))
      (not (eqb (without_primary c (counted c gs) (drawn n ps)) 0)) (lowest (without_primary c (counted c gs) (drawn n ps)))
  unfolding check_refusal groups_refusal drawing_refusal judged refuse
  checked-judged =
      ap (λ (l : List ℕ). refuse (bad_counts n c) (5 ∷ 0 ∷ [])
      (refuse (not (eqb (empty_groups c (counted c gs)) 0)) (4 ∷ 0 ∷ []) l))
      (either_refuses (not (eqb (outside_groups n (counted c gs)) 0)) (not (eqb (outside_parents n (drawn n ps)) 0)) _ _)
    where
      either_refuses : (a b : Bool) (x l : List ℕ) → refuse a x (refuse b x l) ≡ refuse (a || b) x l
      either_refuses true b x l = refl
      either_refuses false b x l = refl

  pub checked-exactly : CheckedExactly n c gs ps
  unfolding Says Eleven refusal refusal_numbers
  checked-exactly =
      let at = exactly (counts_decided n c) (empty_decided n c gs) (outside_decided n c gs ps) (ancestry_decided n c gs ps)
      primaries_decided named checked-judged in
      record {
        refused = record { five = at (Err BadCounts); four = at (Err EmptyGroup); six = at (Err OutsideUnits) };
        ten = at (Err OwnAncestor);
        eleven = λ g. at (Err (NoPrimary g));
        accepted = at accepted;
      }

-- a test that finds nothing
nothing_decided : (A B : Type 0) → (B → ⊥) → Decides A false B A
nothing_decided A B h = record {
  from-bad = λ b. absurd (h b);
  from-good = λ a. a;
  found = λ a t. absurd (clash t refl);
  passed = λ a t. a;
  apart = λ a b. h b;
}

built-judged : (n c : ℕ) (gs : List ℕ) → build_refusal n c gs
    ≡ judged (bad_counts n c) (not (eqb (empty_groups c (counted c gs)) 0))
    (not (eqb (outside_groups n (counted c gs)) 0)) false false 0
unfolding build_refusal groups_refusal judged refuse
built-judged n c gs = refl

pub built-exactly : (n c : ℕ) (gs : List ℕ) → BuiltExactly n c gs
unfolding Says refusal refusal_numbers
built-exactly n c gs =
    let at = exactly {B11 = λ i. ⊥} (counts_decided n c) (empty_decided n c gs) (members_decided n c gs)
    (nothing_decided (MembersWithin n c gs) ⊥ (λ b. b)) (nothing_decided (MembersWithin n c gs) ((i : ℕ) × ⊥) (λ b. b.1))
    (λ i t. absurd (clash t refl)) (built-judged n c gs) in
    record {
      refused = record { five = at (Err BadCounts); four = at (Err EmptyGroup); six = at (Err OutsideUnits) };
      unrefused = at accepted;
    }
