-- What the loops that lay out parts one by one keep, and what they come to. Assumes nothing.
use mathlib.Core.Path.{◌≡◌, refl, sym, ap, subst, ◌∙◌, fun_ext}
use mathlib.Core.Logic.{⊎_elim, by_cases}
use mathlib.Core.Bool.{true, false, not}
use mathlib.Core.List.{List}
use Prim.Native.Nat.{ℕ, zero, suc, ◌≤◌, ◌<◌, ◌^◌}
use native.Mathlib.Nat.{le_refl, not-suc-le-zero}
use native.Mathlib.Decide.{ℕ_discrete, dec_lt}
use native.Mathlib.Omega.{arith}
use lib.ListN.{length, get_or, set, length-set}
use lib.Seq.{get_or-set_same, get_or-set_other}
use lib.Dec.{lit≤}
use Rattle.sets.specs.Sets.{member, difference, excluding, size, lowest, below}
use Rattle.sets.proofs.Bools.{either, clash, and_left, and_right, and_both, or_left, or_right, not_of_false, false_of_not}
use Rattle.sets.proofs.Bools.{not-true-false}
use Rattle.sets.proofs.Laws.{Subset, member_below, member_union, member-difference, member-empty, union-below, difference_below}
use Rattle.sets.proofs.Laws.{excluding-below, size_subset, size_less, size-excluding, size-empty, lowest_of_some}
use Rattle.sets.proofs.Laws.{not-empty, not-member, none-collect}
use Rattle.layout.specs.Tables.{tabulate}
use Rattle.layout.specs.Build.{holds_at, groups_of, degree, set_aside, component, largest_within, root, built_parent}
use Rattle.layout.specs.Build.{IsRoot, Laid, smaller}
use Rattle.layout.specs.Layout.{Table, grouped_within, degrees_of, degree_in, inside_of, Layable, LaidOut}
use Rattle.layout.proofs.Tables.{tabulated, get_d_tabulate, get_d_past, same_tables}
use Rattle.layout.proofs.Parts.{place-below, component_keeps, component_self, component-same}
use Rattle.layout.proofs.Roots.{root_is}
use Rattle.layout.proofs.Laid.{Bench, Facts, in_rest, rest_in, rest_part, whole_part, laid-facts, laid-some}
use Rattle.layout.proofs.Laid.{laid-parent, lonely-root}
use Rattle.layout.proofs.GroupsInside.{rest-groups, groups-inside, inside-stays, component-inside}

-- The parts of the units `all` are laid out; `rest` has the units that are still to be laid. `live` is the code's set of groups: all of
-- them, or those inside `all`.
pub record Laying (gs : List ℕ) (live all : ℕ) (before table : List ℕ) (rest : ℕ) : Type 0 where
  pub long : length table ≡ 32
  pub bounded : rest < 2 ^ 32
  pub within : (u : ℕ) → member rest u ≡ true → member all u ≡ true
  pub closed : (u v : ℕ) → member rest u ≡ true → member (component gs live u) v ≡ true → member rest v ≡ true
  pub done : (u : ℕ) → member all u ≡ true → member rest u ≡ false → get_or table u 255 ≡ built_parent gs u
  pub kept : (u : ℕ) → member all u ≡ false → get_or table u 255 ≡ get_or before u 255

-- every part of the units `all`, by the code's set of groups, is laid below `top`
unfoldable pub PartsLaid : List ℕ → ℕ → ℕ → ℕ → Type 0
PartsLaid gs live all top = (u : ℕ) → member all u ≡ true → (l : ℕ) × Laid 32 gs (component gs live u) l top

pub laying_none : {gs : List ℕ} {live all : ℕ} {before : List ℕ} → length before ≡ 32 → all < 2 ^ 32
    → ((u v : ℕ) → member all u ≡ true → member (component gs live u) v ≡ true → member all v ≡ true)
    → Laying gs live all before before all
laying_none l b h = record {
  long = l;
  bounded = b;
  within = λ u m. m;
  closed = h;
  done = λ u m f. absurd (clash m f);
  kept = λ u f. refl;
}

module _ {gs : List ℕ} {live all : ℕ} {before table : List ℕ} {rest : ℕ} (tab : Table gs) (h : Laying gs live all before table rest)
    (some : rest ≡ 0 → ⊥) where
  low : (lowest rest < 32) × (member rest (lowest rest) ≡ true)
  low = lowest_of_some rest h.bounded some

  part_in-rest : (u : ℕ) → member (component gs live (lowest rest)) u ≡ true → member rest u ≡ true
  part_in-rest u m = h.closed (lowest rest) u low.1 m

  -- the next part is one that comes to be laid out
  laying_layable : {degrees : List ℕ} {top : ℕ} → degrees ≡ tabulate 32 (degree gs) → PartsLaid gs live all top
      → Layable gs degrees (component gs live (lowest rest)) top table
  unfolding PartsLaid
  laying_layable e parts =
      let part = parts (lowest rest) (h.within (lowest rest) low.1) in
      record { groups = tab; counts = e; live = part.0; laid = part.1; long = h.long }

  -- it is no larger than what there is to lay
  laying_size : size (component gs live (lowest rest)) ≤ size all
  unfolding Subset
  laying_size = size_subset (component gs live (lowest rest)) all (λ u m. h.within u (part_in-rest u m))

  laying_less : size (difference rest (component gs live (lowest rest))) < size rest
  unfolding Subset
  laying_less =
      size_less (difference rest (component gs live (lowest rest))) rest (lowest rest)
      (λ u m. and_left (member rest u) _ (sym (member-difference rest (component gs live (lowest rest)) u) ∙ m)) low.0 low.1
      (member-difference rest (component gs live (lowest rest)) (lowest rest)
      ∙ simp (low.1, component_self gs live tab (lowest rest) low.0))

  laying_turn : {after : List ℕ} → LaidOut gs (component gs live (lowest rest)) table after
      → Laying gs live all before after (difference rest (component gs live (lowest rest)))
  laying_turn {after} o = record {
    long = o.long;
    bounded = difference_below 32 rest part h.bounded;
    within = λ u m. h.within u (left u m).0;
    closed = λ u v m a. put v (h.closed u v (left u m).0 a) (not-true-false (member part v)
        (λ p. clash (same u v m a p) (left u m).1));
    done = λ u m f. ⊎_elim (o.inside u)
        (λ (p : member part u ≡ false). o.outside u p ∙ h.done u m (not-true-false (member rest u) (λ q. clash (put u q p) f)))
        (either (member part u));
    kept = λ u f. o.outside u (not-true-false (member part u) (λ p. clash (h.within u (part_in-rest u p)) f)) ∙ h.kept u f;
  }
    where
      part : ℕ
      part = component gs live (lowest rest)

      left : (u : ℕ) → member (difference rest part) u ≡ true → (member rest u ≡ true) × (member part u ≡ false)
      left u m =
          let both = sym (member-difference rest part u) ∙ m in (
            and_left (member rest u) (not (member part u)) both,
            false_of_not (member part u)
                (and_right (member rest u) (not (member part u)) both),
          )

      put : (u : ℕ) → member rest u ≡ true → member part u ≡ false → member (difference rest part) u ≡ true
      put u m f = member-difference rest part u ∙ and_both (member rest u) (not (member part u)) m (not_of_false (member part u) f)

      -- a unit whose component meets the part is in it
      same : (u v : ℕ) → member (difference rest part) u ≡ true → member (component gs live u) v ≡ true → member part v ≡ true
          → member part u ≡ true
      same u v m a p =
          let b = member_below 32 rest u h.bounded (left u m).0 in
          ap (λ (x : ℕ). member x u) (sym (component-same gs live tab (lowest rest) v low.0 p) ∙ component-same gs live tab u v b a)
          ∙ component_self gs live tab u b

-- the same of a turn of the code: u is the lowest unit left, and `part` its component
module _ {gs : List ℕ} {live all : ℕ} {before table : List ℕ} {rest : ℕ} (tab : Table gs) (h : Laying gs live all before table rest)
    (some : rest ≡ 0 → ⊥) {u part : ℕ} (low-unit : u ≡ lowest rest) (next : part ≡ component gs live u) where
  this : component gs live (lowest rest) ≡ part
  this = ap (component gs live) (sym low-unit) ∙ sym next

  pub turn_layable : {degrees : List ℕ} {top : ℕ} → degrees ≡ tabulate 32 (degree gs) → PartsLaid gs live all top
      → Layable gs degrees part top table
  turn_layable {degrees} {top} e parts =
      subst (λ (x : ℕ). Layable gs degrees x top table) this (laying_layable tab h some e parts)

  pub turn-size : size part ≤ size all
  turn-size = subst (λ (x : ℕ). size x ≤ size all) this (laying_size tab h some)

  pub turn-less : {rest' : ℕ} → rest' ≡ difference rest part → size rest' < size rest
  turn-less e = subst (λ (x : ℕ). size x < size rest) (ap (difference rest) this ∙ sym e) (laying_less tab h some)

  pub turn-again : {rest' : ℕ} {after : List ℕ} → rest' ≡ difference rest part → LaidOut gs part table after
      → Laying gs live all before after rest'
  turn-again {rest'} {after} e o =
      subst (λ (x : ℕ). Laying gs live all before after x) (ap (difference rest) this ∙ sym e)
      (laying_turn tab h some (subst (λ (x : ℕ). LaidOut gs x table after) (sym this) o))

-- ---- one part

table-bench : (gs : List ℕ) → Table gs → Bench 32 gs
table-bench gs tab = record { few = le_refl 32; table = tab; within = λ i u m. member_below 32 (get_or gs i 0) u (tab.bounded i) m }

-- the root by the table of degrees
root-by-table : (gs : List ℕ) (part : ℕ) → Table gs → largest_within 32 (degree_in (tabulate 32 (degree gs))) part ≡ root gs part
unfolding root degree_in degree groups_of holds_at
root-by-table gs part tab = ap (λ (f : ℕ → ℕ). largest_within 32 f part) (fun_ext (λ u. by_cases (dec_lt u 32)
    (λ b. get_d_tabulate 32 (degree gs) u 0 b)
    (λ b. get_d_past 32 (degree gs) u 0 (omega arith) ∙ sym (ap size (none-collect 24 (holds_at gs u)
    (λ i _. not-member 32 (get_or gs i 0) u (tab.bounded i) (omega arith))) ∙ size-empty))))

pub layable_some : {gs degrees parents : List ℕ} {part top : ℕ} → Layable gs degrees part top parents → 0 < part
layable_some {gs} {part = part} h =
    let w = laid-some 32 gs (table-bench gs h.groups) h.laid in
    let z = not-empty part w.0 w.1 in omega arith

-- the code's root r, and the units left
module _ {gs degrees parents : List ℕ} {part top r all : ℕ} (h : Layable gs degrees part top parents)
    (top-unit : r ≡ largest_within 32 (degree_in degrees) part) (others : all ≡ excluding part r) where
  bench : Bench 32 gs
  bench = table-bench gs h.groups

  facts : Facts 32 gs part h.live
  facts = laid-facts 32 gs bench h.laid

  is-root : IsRoot gs part r
  is-root =
      let w = laid-some 32 gs bench h.laid in
      let e = top-unit ∙ ap (λ (l : List ℕ). largest_within 32 (degree_in l) part) h.counts ∙ root-by-table gs part h.groups in
      subst (IsRoot gs part) (sym e) (root_is gs part w.0 facts.bounded w.1)

  pub lay_below : r < 32
  lay_below = facts.units r is-root.inside

  pub lay_smaller : size all < size part
  lay_smaller = rw others (size-excluding part r lay_below is-root.inside)

  pub lay_starts : {live : ℕ} → live ≡ inside_of gs all → Laying gs live all (set parents r top) (set parents r top) all
  lay_starts left = rw left (laying_none (length-set parents r top ∙ h.long) (rw others (excluding-below 32 part r facts.bounded))
      (inside-stays gs h.groups all))

  -- a part of the rest over the groups wholly inside it is one over the groups left, and is laid below the root
  pub lay_parts : {live : ℕ} → live ≡ inside_of gs all → PartsLaid gs live all r
  unfolding PartsLaid
  lay_parts left = rw (left, others) (λ u m.
      let fewer : ℕ = set_aside gs h.live r in
      let i = in_rest part r u lay_below m in (
        fewer,
        subst (λ (x : ℕ). Laid 32 gs x fewer r)
            (sym (component-inside gs h.groups (excluding part r) fewer
            (rest-groups gs h.live part r h.groups lay_below (groups-inside 32 gs bench h.laid)) u (facts.units u i.0) m))
            (smaller r h.laid is-root (rest_part 32 gs bench part h.live r facts is-root.inside u i.0 i.1)),
      ))

  -- the root has been set, and each smaller part is laid
  pub lay_ends : {live rest : ℕ} {table : List ℕ} → Laying gs live all (set parents r top) table rest → rest ≡ 0
      → LaidOut gs part parents table
  lay_ends {table = table} y e = record {
    inside = λ u m. by_cases (ℕ_discrete u r)
        (λ q. subst (λ (x : ℕ). get_or table x 255 ≡ built_parent gs x) (sym q)
        (y.kept r (rw others (not-true-false (member (excluding part r) r) (λ a. (in_rest part r r lay_below a).1 refl)))
        ∙ get_or-set_same parents r top 255 (subst (λ (x : ℕ). r < x) (sym h.long) lay_below)
        ∙ sym (laid-parent 32 gs bench h.laid r is-root)))
        (λ q. y.done u (rw others (rest_in part r u m q)) (ap (λ (x : ℕ). member x u) e ∙ member-empty u));
    outside = λ u f. y.kept u (rw others (not-true-false (member (excluding part r) u)
        (λ a. clash (in_rest part r u lay_below a).0 f)))
        ∙ get_or-set_other parents r u top 255 (λ q. clash is-root.inside (ap (member part) (sym q) ∙ f));
    long = y.long;
  }

-- ---- the whole bench

-- a unit that a group holds is among those that groups hold
in_grouped : (gs : List ℕ) (k i u : ℕ) → i < k → member (get_or gs i 0) u ≡ true → member (grouped_within k gs) u ≡ true
unfolding grouped_within
in_grouped gs zero i u h m = absurd (not-suc-le-zero h)
in_grouped gs (suc k) i u h m = member_union (grouped_within k gs) (get_or gs k 0) u ∙ by_cases (ℕ_discrete i k)
    (λ e. or_right (member (grouped_within k gs) u) (member (get_or gs k 0) u) (subst (λ (x : ℕ). member (get_or gs x 0) u ≡ true) e
    m))
    (λ e. or_left (member (grouped_within k gs) u) (member (get_or gs k 0) u) (in_grouped gs k i u (omega arith) m))

grouped_below : (gs : List ℕ) → Table gs → (k : ℕ) → grouped_within k gs < 2 ^ 32
unfolding grouped_within
grouped_below gs tab zero = lit≤ tt
grouped_below gs tab (suc k) = union-below 32 (grouped_within k gs) (get_or gs k 0) (grouped_below gs tab k) (tab.bounded k)

-- no group holds a unit that is not among them
not_grouped : (gs : List ℕ) → Table gs → (u : ℕ) → member (grouped_within 24 gs) u ≡ false
    → (i : ℕ) → member (get_or gs i 0) u ≡ true → ⊥
not_grouped gs tab u f i m = clash (in_grouped gs 24 i u (place-below gs tab i u m) m) f

-- their degrees are all degrees there are
pub all_degrees : {gs degrees : List ℕ} {all : ℕ} → Table gs → all ≡ grouped_within 24 gs → degrees ≡ degrees_of gs all
    → degrees ≡ tabulate 32 (degree gs)
unfolding degrees_of degree groups_of holds_at
all_degrees {gs} tab f e = e ∙ rw f (same_tables 32 _ (degree gs) (λ u b. ⊎_elim
    (λ (m : member (grouped_within 24 gs) u ≡ true). simp m)
    (λ (m : member (grouped_within 24 gs) u ≡ false). simp m (sym (ap size
    (none-collect 24 (holds_at gs u) (λ i _. not-true-false (holds_at gs u i) (not_grouped gs tab u m i))) ∙ size-empty)))
    (either (member (grouped_within 24 gs) u))))

pub all-starts : {gs before : List ℕ} {live all : ℕ} → Table gs → all ≡ grouped_within 24 gs → length before ≡ 32
    → Laying gs live all before before all
all-starts {gs} {live = live} tab f l = rw f (laying_none l (grouped_below gs tab 24)
    (λ u v m. component_keeps gs live tab (λ w. member (grouped_within 24 gs) w ≡ true)
    (λ i w x l a b k. in_grouped gs 24 i x (place-below gs tab i x b) b) u m v))

pub all-parts : {gs : List ℕ} {live all : ℕ} → Table gs → live ≡ below 24 → all ≡ grouped_within 24 gs
    → PartsLaid gs live all 255
unfolding PartsLaid
all-parts {gs} tab e f = rw (e, f) (λ u m.
    (below 24, whole_part 32 gs (table-bench gs tab) u (member_below 32 (grouped_within 24 gs) u (grouped_below gs tab 24) m)))

pub all-ends : {gs before table : List ℕ} {live all rest : ℕ} → Table gs → all ≡ grouped_within 24 gs
    → ((u : ℕ) → u < 32 → get_or before u 255 ≡ 255) → Laying gs live all before table rest → rest ≡ 0
    → table ≡ tabulate 32 (built_parent gs)
all-ends {gs} {table = table} {all = all} tab f roots y z = tabulated 32 (built_parent gs) table 255 y.long (λ u b. ⊎_elim
    (λ (m : member all u ≡ true). y.done u m (ap (λ (x : ℕ). member x u) z ∙ member-empty u))
    (λ (m : member all u ≡ false). y.kept u m ∙ roots u b ∙ sym (lonely-root 32 gs (table-bench gs tab) u b
    (not_grouped gs tab u (ap (λ (x : ℕ). member x u) (sym f) ∙ m))))
    (either (member all u)))
