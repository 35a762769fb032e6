-- The search for the pair's next hop after a copy was taken finds what the rule finds. Assumes nothing.
use mathlib.Core.Path.{◌≡◌, refl, sym, ap, subst, ◌∙◌}
use mathlib.Core.Logic.{⊎_elim, by_cases}
use mathlib.Core.Bool.{true, false, cond}
use mathlib.Core.List.{List, ◌++◌}
use Prim.Native.Nat.{ℕ, zero, suc, ◌+◌, ◌-◌, ◌≤◌, ◌<◌}
use native.Mathlib.Omega.{arith}
use native.Mathlib.Decide.{ℕ_discrete, dec_lt}
use borrow.Author.Tests.{lt-ltb, eqb-true, eqb-false}
use lib.Dec.{ltb, eqb}
use lib.ListN.{length}
use Rattle.sets.proofs.Bools.{either, clash, cond-true, cond-false}
use Rattle.model.specs.declared.Hop.{Hop}
use Rattle.model.specs.declared.Message.{Message}
use Rattle.model.specs.Network.{Ledger, Network, network, no_hop, hop_at, hops_of, is_pair, is_held, set_state, pair_count, pair_taken}
use Rattle.model.specs.Rules.{children_on, forward}
use Rattle.model.proofs.Hops.{length-state}
use Rattle.model.proofs.Sequences.{Next}
use Rattle.model.proofs.Idle.{Idle}
use Rattle.model.proofs.Sound.{Forest}
use Rattle.model.proofs.Rest.{TakenFirst}
use Rattle.model.proofs.Progress.{pair-at, forward-old, forward-apart, taken-within, equal_idle, after_next, after-idle, after-some}
use Rattle.hops.specs.Access.{next_of_pair}
use Rattle.bench_promises.specs.declared.arrival.Arrival.{Arrival}
use Rattle.bench_promises.specs.Machine.{search_from, search_end, move_to, moved_to, place_of_next, next_arrival}
use Rattle.bench_promises.specs.State.{padded}
use Rattle.bench_promises.proofs.Copies.{arrival_of, record_at, child-apart}

-- ---- the first hop of a pair from a place on

-- p is it, among the places from i on that are below e; e where there is none
pub record FirstFrom (s r i e : ℕ) (hs : List Hop) (p : ℕ) : Type 0 where
  pub from : i ≤ p
  pub none_before : (x : ℕ) → i ≤ x → x < p → is_pair s r (hop_at hs x) ≡ false
  pub found : (p ≡ e → ⊥) → is_pair s r (hop_at hs p) ≡ true
  pub until : p ≤ e

pub search-first : (k s r i : ℕ) (hs : List Hop) → FirstFrom s r i (i + k) hs (next_of_pair k s r i hs)
unfolding next_of_pair
search-first zero s r i hs = record {
  from = omega arith;
  none_before = λ x a b. absurd (omega arith);
  found = λ ne. absurd (ne (omega arith));
  until = omega arith;
}
search-first (suc k) s r i hs = ⊎_elim
    (λ (t : is_pair s r (hop_at hs i) ≡ true). subst (FirstFrom s r i (i + suc k) hs) (sym (cond-true (is_pair s r (hop_at hs i)) _ _ t))
    (record {
      from = omega arith;
      none_before = λ x a b. absurd (omega arith);
      found = λ ne. t;
      until = omega arith;
    }))
    (λ (t : is_pair s r (hop_at hs i) ≡ false). subst (FirstFrom s r i (i + suc k) hs)
    (sym (cond-false (is_pair s r (hop_at hs i)) _ _ t))
    (later t (search-first k s r (suc i) hs)))
    (either (is_pair s r (hop_at hs i)))
  where
    later : is_pair s r (hop_at hs i) ≡ false → {p : ℕ} → FirstFrom s r (suc i) (suc i + k) hs p
        → FirstFrom s r i (i + suc k) hs p
    later t {p} F = record {
      from = omega (arith, F.from);
      none_before = λ x a b. by_cases (ℕ_discrete x i)
          (λ e. subst (λ (y : ℕ). is_pair s r (hop_at hs y) ≡ false) (sym e) t) (λ ne. F.none_before x (omega arith) b);
      found = λ ne. F.found (λ e. ne (omega (arith, e)));
      until = omega (arith, F.until);
    }

-- ---- after one copy

-- the arrival goes on to a place: that of the pair's next hop to be taken, or the end where there is none
pub record Onward (W : Network) (s r j end n : ℕ) (lent : List Hop) : Type 0 where
  pub place : ℕ
  pub moves : next_arrival (arrival_of W s r j end n) lent ≡ arrival_of W s r place end n
  pub rises : j < place
  pub until : place ≤ end
  pub next : place < end → Next s r (hops_of W) place
  pub idle : end ≤ place → Idle (hops_of W) s r

-- the hops of a pair stand below a place
unfoldable pub PairBelow : ℕ → ℕ → ℕ → List Hop → Type 0
PairBelow s r end hs = (i : ℕ) → i < length hs → is_pair s r (hop_at hs i) ≡ true → i < end

module _ (L : Ledger) (forest : Forest L.in_use) (ms : List Message) (hs : List Hop) (ls : List (List ℕ)) (s r j : ℕ)
    (N : Next s r hs j)
    (first : TakenFirst hs) (end : ℕ) (below : PairBelow s r end hs) (m way : ℕ) where
  abbrev cs : List ℕ
  cs = children_on L.in_use.parents way r

  abbrev hs' : List Hop
  hs' = forward r m cs (set_state j 2 hs)

  pub copy-below : PairBelow s r end hs'
  unfolding PairBelow
  copy-below i b p = by_cases (dec_lt i (length hs))
      (λ c.
      let old = forward-old r m cs (set_state j 2 hs) i (omega (arith, c, length-state j 2 hs)) in
      below i c (sym (pair-at s r j 2 hs i) ∙ sym (ap (is_pair s r) old) ∙ p))
      (λ c. absurd (clash p (forward-apart s r r m cs (set_state j 2 hs) (child-apart L.in_use forest way s r) i
      (omega (arith, length-state j 2 hs)) b)))

  module _ (few : length hs' ≤ 2000) (rest : List Hop) (n : ℕ) (within : j < end) where
    abbrev W' : Network
    W' = network L ms hs' ls

    abbrev lent : List Hop
    lent = padded 2000 no_hop hs' ++ rest

    abbrev a : Arrival
    a = arrival_of W' s r j end n

    abbrev left : ℕ
    left = pair_count s r hs' - pair_taken s r hs'

    abbrev q : ℕ
    q = place_of_next a lent

    moved : next_arrival a lent ≡ arrival_of W' s r (cond (eqb left 0) end (cond (is_held (hop_at lent q)) q end)) end n
    unfolding next_arrival moved_to move_to arrival_of hops_of is_held
    moved = refl

    -- none is left
    all-taken : eqb left 0 ≡ true → Onward W' s r j end n lent
    unfolding hops_of
    all-taken t = record {
      place = end;
      moves = moved ∙ ap (λ (i : ℕ). arrival_of W' s r i end n) (cond-true (eqb left 0) _ _ t);
      rises = within;
      until = omega arith;
      next = λ b. absurd (omega arith);
      idle = λ b. equal_idle s r hs' (omega (arith, eqb-true left 0 t, taken-within s r hs'));
    }

    search : eqb left 0 ≡ false → FirstFrom s r (suc j) end lent q
    unfolding place_of_next search_end search_from arrival_of hops_of
    search t =
        subst (λ (e : ℕ). FirstFrom s r (suc j) e lent q) (let z : suc j + (end - suc j) ≡ end = omega arith in z)
        (subst (λ (i : ℕ). FirstFrom s r (suc j) (suc j + (end - suc j)) lent i) (sym same)
        (search-first (end - suc j) s r (suc j) lent))
      where
        same : q ≡ next_of_pair (end - suc j) s r (suc j) lent
        same =
            ap (λ (i : ℕ). next_of_pair (cond (eqb left 0) 0 end - i) s r i lent) (cond-true (ltb j end) _ _ (lt-ltb j end within))
            ∙ ap (λ (e : ℕ). next_of_pair (e - suc j) s r (suc j) lent) (cond-false (eqb left 0) 0 end t)

    -- one is left: the search finds it
    some_left : eqb left 0 ≡ false → Onward W' s r j end n lent
    unfolding hops_of PairBelow
    some_left t =
        let F = search t in
        let (x, after, inside, pair) = after-some s r r m cs hs j N
        (omega (arith, eqb-false left 0 t, taken-within s r hs')) in
        let at_x : is_pair s r (hop_at lent x) ≡ true = ap (is_pair s r) (record_at hs' rest x inside few) ∙ pair in
        let early : q ≤ x = by_cases (dec_lt x q) (λ l. absurd (clash at_x (F.none_before x (omega arith) l))) (λ l. omega arith) in
        let under : x < end = copy-below x inside pair in
        let same : hop_at lent q ≡ hop_at hs' q = record_at hs' rest q (omega arith) few in
        let found : is_pair s r (hop_at hs' q) ≡ true = sym (ap (is_pair s r) same) ∙ F.found (λ e. absurd (omega arith)) in
        let between : (i : ℕ) → j < i → i < q → is_pair s r (hop_at hs' i) ≡ false = λ i a l.
        sym (ap (is_pair s r) (record_at hs' rest i (omega arith) few)) ∙ F.none_before i (omega arith) l in
        let go : (i : ℕ) → cond (is_held (hop_at lent q)) q end ≡ i → next_arrival a lent ≡ arrival_of W' s r i end n =
        λ i e. moved ∙ ap (λ (i : ℕ). arrival_of W' s r i end n) (cond-false (eqb left 0) _ _ t ∙ e) in
        ⊎_elim
        (λ (h : is_held (hop_at lent q) ≡ true). record {
          place = q;
          moves = go q (cond-true (is_held (hop_at lent q)) q end h);
          rises = omega (arith, F.from);
          until = omega arith;
          next = λ b. after_next s r r m cs hs j N q (omega (arith, F.from)) (omega arith) found between (sym (ap is_held same) ∙ h);
          idle = λ b. absurd (omega arith);
        })
        (λ (h : is_held (hop_at lent q) ≡ false). record {
          place = end;
          moves = go end (cond-false (is_held (hop_at lent q)) q end h);
          rises = within;
          until = omega arith;
          next = λ b. absurd (omega arith);
          idle = λ b. after-idle s r r m cs hs j N q (omega (arith, F.from)) (omega arith) found between first
              (sym (ap is_held same) ∙ h);
        })
        (either (is_held (hop_at lent q)))

    pub onward : Onward W' s r j end n lent
    onward = ⊎_elim all-taken some_left (either (eqb left 0))
