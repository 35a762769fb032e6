-- Laws of `forwarded` and `forwarded_hops` as the loop over the children uses them. What is left (f, with the list zs) leads to the same
-- end as the start, within k more hops, where k is at least the number of children left. A hop to the lowest child leaves fewer children
-- and takes one from k; where no child is left, the end is reached for every k. Assumes nothing.
use mathlib.Core.Path.{◌≡◌, refl, sym, ap, ◌∙◌}
use mathlib.Core.Bool.{true, false, not}
use mathlib.Core.List.{List}
use Prim.Native.Nat.{ℕ, zero, suc, ◌≤◌, ◌<◌, ◌^◌}
use native.Mathlib.Omega.{arith}
use borrow.Author.Tests.{ne_eqb, eq-eqb}
use lib.ListN.{set}
use Rattle.sets.specs.Sets.{lowest, excluding, size}
use Rattle.sets.proofs.Bools.{cond-true, cond-false}
use Rattle.sets.proofs.Laws.{lowest_of_some, size-excluding, size_below, excluding-below}
use Rattle.model.specs.declared.Hop.{Hop}
use Rattle.hops.specs.declared.forwarding.Outgoing.{Outgoing}
use Rattle.hops.specs.Access.{Forwarding, with_pairs, is_left, next_hop, forwarding_after_next, forwarded, forwarded_hops}

-- the children `left` have no hop yet, `made` hops were made in all, and these are the counts
abbrev pub forwarding_at : Outgoing → (left made : ℕ) → List (List (List ℕ)) → Forwarding
forwarding_at o left made pairs =
    record { sender = o.sender; message = o.message; children = left; made = made; pairs = pairs }

-- the hop to a child, with its sequence number
abbrev pub hop_to : Outgoing → (child sequence : ℕ) → Hop
hop_to o child sequence =
    record { sender = o.sender; receiver = child; sequence = sequence; message = o.message; state = 0 }

pub record Reaches (start : Forwarding) (hs : List Hop) (k : ℕ) (f : Forwarding) (zs : List Hop) : Type 0 where
  pub fits : f.children < 2 ^ 32
  pub enough : size f.children ≤ k
  pub same : forwarded k f ≡ forwarded 32 start
  pub same-hops : forwarded_hops k f zs ≡ forwarded_hops 32 start hs

pub at-start : (o : Outgoing) (pairs : List (List (List ℕ))) (hs : List Hop) → o.children < 2 ^ 32
    → Reaches (with_pairs pairs o) hs 32 (forwarding_at o o.children o.made pairs) hs
unfolding with_pairs
at-start o pairs hs fits = record { fits = fits; enough = size_below o.children; same = refl; same-hops = refl }

module _ {start : Forwarding} {hs : List Hop} where
  -- a child is left: the hop to the lowest
  pub turned : (k : ℕ) (f : Forwarding) (zs : List Hop) → 0 < f.children → Reaches start hs k f zs
      → (j : ℕ) × Reaches start hs j (forwarding_after_next f) (set zs f.made (next_hop f))
  unfolding forwarded forwarded_hops forwarding_after_next is_left
  turned k f zs some r = go k r.enough r.same r.same-hops
    where
      none : f.children ≡ 0 → ⊥
      none e = omega (arith, some, e)

      fewer : size (excluding f.children (lowest f.children)) < size f.children
      fewer = let m = lowest_of_some f.children r.fits none in size-excluding f.children (lowest f.children) m.0 m.1

      goes : is_left f ≡ true
      goes = ap not (ne_eqb f.children 0 none)

      go : (k : ℕ) → size f.children ≤ k → forwarded k f ≡ forwarded 32 start
          → forwarded_hops k f zs ≡ forwarded_hops 32 start hs
          → (j : ℕ) × Reaches start hs j (forwarding_after_next f) (set zs f.made (next_hop f))
      go zero enough same same-hops = absurd (omega (arith, fewer, enough))
      go (suc k) enough same same-hops = (
        k,
        record {
          fits = excluding-below 32 f.children (lowest f.children) r.fits;
          enough = omega (arith, fewer, enough);
          same = sym (cond-true (is_left f) (forwarded k (forwarding_after_next f)) f goes) ∙ same;
          same-hops = sym (cond-true (is_left f) (forwarded_hops k (forwarding_after_next f) (set zs f.made (next_hop f))) zs goes)
              ∙ same-hops;
        },
      )

  -- no child is left
  pub over : (k : ℕ) (f : Forwarding) (zs : List Hop) → f.children ≡ 0 → Reaches start hs k f zs
      → (f ≡ forwarded 32 start) × (zs ≡ forwarded_hops 32 start hs)
  unfolding forwarded forwarded_hops is_left
  over zero f zs none r = (r.same, r.same-hops)
  over (suc k) f zs none r =
      let stops : is_left f ≡ false = ap not (eq-eqb f.children 0 none) in (
        sym (cond-false (is_left f) (forwarded k (forwarding_after_next f)) f stops) ∙ r.same,
        sym (cond-false (is_left f) (forwarded_hops k (forwarding_after_next f) (set zs f.made (next_hop f))) zs stops) ∙ r.same-hops,
      )
