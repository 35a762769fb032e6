-- The hops to the members of a set, made from the lowest on, are the hops to its members in rising order. Assumes nothing.
use mathlib.Core.Path.{◌≡◌, refl, sym, ap, subst, ◌∙◌}
use mathlib.Core.Logic.{by_cases}
use mathlib.Core.Bool.{Bool, true, false, not, ◌&&◌, and-false, and-true}
use mathlib.Core.List.{List, [], ◌∷◌, ◌++◌}
use Prim.Native.Nat.{ℕ, zero, suc, ◌+◌, ◌≤◌, ◌<◌, ◌^◌}
use native.Mathlib.Numerals.{add-one}
use native.Mathlib.Omega.{arith}
use native.Mathlib.Decide.{ℕ_discrete}
use borrow.Author.Tests.{lt-ltb, eq-eqb, ne_eqb}
use lib.Dec.{ltb, eqb}
use lib.ListN.{length, set}
use Rattle.sets.specs.Sets.{member, lowest, size, excluding}
use Rattle.sets.proofs.Bools.{cond-true, cond-false, not-true-false}
use Rattle.sets.proofs.Laws.{member-empty, member-excluding, excluding-below, lowest_of_some, lowest-least, size-excluding}
use Rattle.model.specs.declared.Hop.{Hop}
use Rattle.model.specs.Network.{no_hop, pair_count, new_hop, made}
use Rattle.model.specs.Rules.{push, rising, forward}
use Rattle.model.proofs.Hops.{length_snoc}
use Rattle.model.proofs.Progress.{forward_longer}
use Rattle.hops.specs.Access.{Forwarding, is_left, next_hop, forwarding_after_next, forwarded, forwarded_hops}
use Rattle.bench_promises.specs.State.{padded, pair_table}
use Rattle.bench_promises.proofs.Padding.{plus-small, padded-length, padded_snoc, append-set}
use Rattle.bench_promises.proofs.Sends.{counts-made, next-number, count-few}

-- ---- rising lists

pub rising-same : (k i : ℕ) (t u : ℕ → Bool) → ((c : ℕ) → i ≤ c → c < i + k → t c ≡ u c)
    → rising k i t ≡ rising k i u
unfolding rising
rising-same zero i t u same = refl
rising-same (suc k) i t u same =
    ap (λ (b : Bool). push b i (rising k (suc i) t)) (same i (omega arith) (omega arith))
    ∙ ap (push (u i) i) (rising-same k (suc i) t u (λ c a b. same c (omega arith) (omega arith)))

rising_none : (k i : ℕ) (t : ℕ → Bool) → ((c : ℕ) → i ≤ c → c < i + k → t c ≡ false) → rising k i t ≡ []
unfolding rising push
rising_none zero i t none = refl
rising_none (suc k) i t none =
    ap (λ (b : Bool). push b i (rising k (suc i) t)) (none i (omega arith) (omega arith))
    ∙ rising_none k (suc i) t (λ c a b. none c (omega arith) (omega arith))

-- the first that passes, and then the others
rising-first : (k i c : ℕ) (t u : ℕ → Bool) → i ≤ c → c < i + k → t c ≡ true → u c ≡ false
    → ((d : ℕ) → i ≤ d → d < c → t d ≡ false)
    → ((d : ℕ) → i ≤ d → d < i + k → (d ≡ c → ⊥) → u d ≡ t d) → rising k i t ≡ c ∷ rising k i u
unfolding rising push
rising-first zero i c t u a b tc uc below others = absurd (omega arith)
rising-first (suc k) i c t u a b tc uc below others = by_cases (ℕ_discrete i c)
    (λ e.
    let here : t i ≡ true = ap t e ∙ tc in
    let gone : u i ≡ false = ap u e ∙ uc in
    ap (λ (b : Bool). push b i (rising k (suc i) t)) here
    ∙ ap (λ (d : ℕ). d ∷ rising k (suc i) t) e
    ∙ ap (λ (l : List ℕ). c ∷ l)
    (rising-same k (suc i) t u (λ d x y. sym (others d (omega arith) (omega arith) (λ f. absurd (omega arith))))
    ∙ ap (λ (b : Bool). push b i (rising k (suc i) u)) (sym gone)))
    (λ ne.
    let skip : t i ≡ false = below i (omega arith) (omega arith) in
    ap (λ (b : Bool). push b i (rising k (suc i) t)) skip
    ∙ rising-first k (suc i) c t u (omega arith) (omega arith) tc uc (λ d x y. below d (omega arith) y)
    (λ d x y. others d (omega arith) (omega arith))
    ∙ ap (λ (b : Bool). c ∷ push b i (rising k (suc i) u)) (sym (others i (omega arith) (omega arith) ne ∙ skip)))

-- the members of a set
unfoldable pub members_of : ℕ → List ℕ
members_of x = rising 32 0 (member x)

members-none : members_of 0 ≡ []
unfolding members_of
members-none = rising_none 32 0 (member 0) (λ c a b. member-empty c)

members-some : (x : ℕ) → x < 2 ^ 32 → (x ≡ 0 → ⊥) → members_of x ≡ lowest x ∷ members_of (excluding x (lowest x))
unfolding members_of
members-some x b some =
    let low = lowest_of_some x b some in
    rising-first 32 0 (lowest x) (member x) (member (excluding x (lowest x))) (omega arith) (omega (arith, low.0)) low.1
    (member-excluding x (lowest x) (lowest x)
    ∙ ap (λ (t : Bool). member x (lowest x) && not (t && eqb (lowest x) (lowest x))) (lt-ltb (lowest x) 32 low.0)
    ∙ ap (λ (t : Bool). member x (lowest x) && not t) (eq-eqb (lowest x) (lowest x) refl) ∙ and-false (member x (lowest x)))
    (λ d a l. not-true-false (member x d) (λ t. absurd (omega (arith, lowest-least x d (omega (arith, low.0)) t))))
    (λ d a l ne. member-excluding x (lowest x) d
    ∙ ap (λ (t : Bool). member x d && not (ltb (lowest x) 32 && t)) (ne_eqb (lowest x) d (λ e. ne (sym e)))
    ∙ ap (λ (t : Bool). member x d && not t) (and-false (ltb (lowest x) 32)) ∙ and-true (member x d))

-- ---- one hop after another

-- the counts of hops made, beside an array t
unfoldable pub pairs_of : List Hop → List (List ℕ) → List (List (List ℕ))
pairs_of hs t = pair_table (λ a c. pair_count a c hs) ∷ t ∷ []

-- the hops still to be made from v to the members of x, `hs` being made
unfoldable pub forwarding_of : List (List ℕ) → ℕ → ℕ → ℕ → List Hop → Forwarding
forwarding_of t v m x hs = record { sender = v; message = m; children = x; made = length hs; pairs = pairs_of hs t }

-- what stays when all are made
size-falls : (x : ℕ) → x < 2 ^ 32 → (x ≡ 0 → ⊥) → size (excluding x (lowest x)) < size x
size-falls x b some = let low = lowest_of_some x b some in size-excluding x (lowest x) low.0 low.1

length-made : (v c m : ℕ) (hs : List Hop) → length (made v c m hs) ≡ suc (length hs)
unfolding made
length-made v c m hs = length_snoc hs (new_hop v c m hs)

module _ (t : List (List ℕ)) (v m x : ℕ) (hs : List Hop) (unit : v < 32) (b : x < 2 ^ 32) (some : x ≡ 0 → ⊥)
    (few : length hs < 65535)
  where
    abbrev child : ℕ
    child = lowest x

    child-unit : child < 32
    child-unit = (lowest_of_some x b some).0

    next-is : next_hop (forwarding_of t v m x hs) ≡ new_hop v child m hs
    unfolding next_hop forwarding_of pairs_of new_hop
    next-is = λ i. record {
      sender = v;
      receiver = lowest x;
      sequence = next-number hs t v (lowest x) unit child-unit (omega (arith, few, count-few v (lowest x) hs)) i;
      message = m;
      state = 0;
    }

    after_is : forwarding_after_next (forwarding_of t v m x hs) ≡ forwarding_of t v m (excluding x child) (made v child m hs)
    unfolding forwarding_after_next forwarding_of pairs_of
    after_is = λ i. record {
      sender = v;
      message = m;
      children = excluding x (lowest x);
      made = (plus-small (length hs) 1 (omega (arith, few)) ∙ add-one (length hs) ∙ sym (length-made v (lowest x) m hs)) i;
      pairs = counts-made hs t v (lowest x) m unit child-unit (omega (arith, few, count-few v (lowest x) hs)) i;
    }

left-some : (t : List (List ℕ)) (v m x : ℕ) (hs : List Hop) → (x ≡ 0 → ⊥) → is_left (forwarding_of t v m x hs) ≡ true
unfolding is_left forwarding_of
left-some t v m x hs some = ap not (ne_eqb x 0 some)

left-none : (t : List (List ℕ)) (v m : ℕ) (hs : List Hop) → is_left (forwarding_of t v m 0 hs) ≡ false
unfolding is_left forwarding_of
left-none t v m hs = refl

-- none left: nothing changes
none-forwarded : (t : List (List ℕ)) (k v m : ℕ) (hs : List Hop)
    → forwarded k (forwarding_of t v m 0 hs) ≡ forwarding_of t v m 0 (forward v m (members_of 0) hs)
unfolding forwarded forward
none-forwarded t zero v m hs = ap (λ (l : List ℕ). forwarding_of t v m 0 (forward v m l hs)) (sym members-none)
none-forwarded t (suc k) v m hs =
    cond-false (is_left (forwarding_of t v m 0 hs)) _ _ (left-none t v m hs)
    ∙ ap (λ (l : List ℕ). forwarding_of t v m 0 (forward v m l hs)) (sym members-none)

none_listed : (t : List (List ℕ)) (k v m : ℕ) (hs rest : List Hop)
    → forwarded_hops k (forwarding_of t v m 0 hs) (padded 2000 no_hop hs ++ rest)
    ≡ padded 2000 no_hop (forward v m (members_of 0) hs) ++ rest
unfolding forwarded_hops forward
none_listed t zero v m hs rest = ap (λ (l : List ℕ). padded 2000 no_hop (forward v m l hs) ++ rest) (sym members-none)
none_listed t (suc k) v m hs rest =
    cond-false (is_left (forwarding_of t v m 0 hs)) _ _ (left-none t v m hs)
    ∙ ap (λ (l : List ℕ). padded 2000 no_hop (forward v m l hs) ++ rest) (sym members-none)

no_fuel : (x : ℕ) → x < 2 ^ 32 → size x ≤ 0 → (x ≡ 0 → ⊥) → ⊥
no_fuel x b fuel ne = absurd (omega (arith, size-falls x b ne))

-- a child that is left gets a hop, so there is room for it
forward-some : (v m x : ℕ) (hs : List Hop) → x < 2 ^ 32 → (x ≡ 0 → ⊥) → length (forward v m (members_of x) hs) ≤ 2000
    → (length hs < 2000) × (length (forward v m (members_of (excluding x (lowest x))) (made v (lowest x) m hs)) ≤ 2000)
unfolding forward
forward-some v m x hs b ne few =
    let rest = subst (λ (l : List ℕ). length (forward v m l hs) ≤ 2000) (members-some x b ne) few in
    let longer = forward_longer v m (members_of (excluding x (lowest x))) (made v (lowest x) m hs) in
    (omega (arith, rest, longer, length-made v (lowest x) m hs), rest)

-- the state once all are made
abbrev Forwarded : List (List ℕ) → ℕ → ℕ → ℕ → List Hop → ℕ → Type 0
Forwarded t k v m hs x = forwarded k (forwarding_of t v m x hs) ≡ forwarding_of t v m 0 (forward v m (members_of x) hs)

pub forwarded-all : (t : List (List ℕ)) (k v m x : ℕ) (hs : List Hop) → v < 32 → x < 2 ^ 32 → size x ≤ k
    → length (forward v m (members_of x) hs) ≤ 2000 → Forwarded t k v m hs x
unfolding forwarded forward
forwarded-all t zero v m x hs unit b fuel few = by_cases (ℕ_discrete x 0)
    (λ e. subst (λ (y : ℕ). Forwarded t 0 v m hs y) (sym e) (none-forwarded t 0 v m hs))
    (λ ne. absurd (no_fuel x b fuel ne))
forwarded-all t (suc k) v m x hs unit b fuel few = by_cases (ℕ_discrete x 0)
    (λ e. subst (λ (y : ℕ). Forwarded t (suc k) v m hs y) (sym e) (none-forwarded t (suc k) v m hs))
    (λ ne.
    let falls = size-falls x b ne in
    let fewer = forward-some v m x hs b ne few in
    cond-true (is_left (forwarding_of t v m x hs)) _ _ (left-some t v m x hs ne)
    ∙ ap (forwarded k) (after_is t v m x hs unit b ne (omega (arith, fewer.0)))
    ∙ forwarded-all t k v m (excluding x (lowest x)) (made v (lowest x) m hs) unit (excluding-below 32 x (lowest x) b) (omega
    (arith, falls))
    fewer.1
    ∙ ap (λ (l : List ℕ). forwarding_of t v m 0 (forward v m l hs)) (sym (members-some x b ne)))

-- the next hop, stored at the end of the hops made
stored : (t : List (List ℕ)) (v m x : ℕ) (hs rest : List Hop) → v < 32 → x < 2 ^ 32 → (x ≡ 0 → ⊥)
    → length hs < 2000 → length hs < 65535
    → set (padded 2000 no_hop hs ++ rest) (length hs) (next_hop (forwarding_of t v m x hs)) ≡ padded 2000 no_hop (made v
    (lowest x) m hs) ++ rest
unfolding made
stored t v m x hs rest unit b ne room small =
    ap (set (padded 2000 no_hop hs ++ rest) (length hs)) (next-is t v m x hs unit b ne small)
    ∙ append-set (padded 2000 no_hop hs) rest (length hs) _
    (subst (λ (n : ℕ). length hs < n) (sym (padded-length 2000 no_hop hs (omega (arith, room)))) room)
    ∙ ap (λ (l : List Hop). l ++ rest) (padded_snoc 2000 no_hop _ hs room)

-- the lent hops once all are made
abbrev Listed : List (List ℕ) → ℕ → ℕ → ℕ → List Hop → List Hop → ℕ → Type 0
Listed t k v m hs rest x =
    forwarded_hops k (forwarding_of t v m x hs) (padded 2000 no_hop hs ++ rest) ≡ padded 2000 no_hop (forward v m (members_of x) hs)
    ++ rest

pub listed_all : (t : List (List ℕ)) (k v m x : ℕ) (hs rest : List Hop) → v < 32 → x < 2 ^ 32 → size x ≤ k
    → length (forward v m (members_of x) hs) ≤ 2000 → Listed t k v m hs rest x
unfolding forwarded_hops forward forwarding_of
listed_all t zero v m x hs rest unit b fuel few = by_cases (ℕ_discrete x 0)
    (λ e. subst (λ (y : ℕ). Listed t 0 v m hs rest y) (sym e) (none_listed t 0 v m hs rest)) (λ ne. absurd (no_fuel x b fuel ne))
listed_all t (suc k) v m x hs rest unit b fuel few = by_cases (ℕ_discrete x 0)
    (λ e. subst (λ (y : ℕ). Listed t (suc k) v m hs rest y) (sym e) (none_listed t (suc k) v m hs rest))
    (λ ne.
    let falls = size-falls x b ne in
    let fewer = forward-some v m x hs b ne few in
    let room = fewer.0 in
    let small : length hs < 65535 = omega (arith, room) in
    cond-true (is_left (forwarding_of t v m x hs)) _ _ (left-some t v m x hs ne)
    ∙ ap (λ (f : Forwarding). forwarded_hops k f (set (padded 2000 no_hop hs ++ rest) (length hs) (next_hop (forwarding_of t v m x hs))))
    (after_is t v m x hs unit b ne small)
    ∙ ap (forwarded_hops k (forwarding_of t v m (excluding x (lowest x)) (made v (lowest x) m hs)))
    (stored t v m x hs rest unit b ne room small)
    ∙ listed_all t k v m (excluding x (lowest x)) (made v (lowest x) m hs) rest unit (excluding-below 32 x (lowest x) b) (omega
    (arith, falls))
    fewer.1
    ∙ ap (λ (l : List ℕ). padded 2000 no_hop (forward v m l hs) ++ rest) (sym (members-some x b ne)))
