-- Laws of the members of a group: what the members read one after the other say is what the rules say of them all. Assumes nothing.
use Rattle.sets.specs.Sets.{including}
use mathlib.Core.Path.{◌≡◌, refl, sym, ap, ◌∙◌}
use mathlib.Core.Logic.{by_cases}
use mathlib.Core.Bool.{Bool, true, false, not, ◌||◌, cond, or-false}
use mathlib.Core.List.{List, [], ◌∷◌, foldl}
use Prim.Native.Nat.{ℕ, suc}
use native.Mathlib.Decide.{dec_lt}
use native.Mathlib.Omega.{arith}
use lib.Dec.{ltb, leb}
use borrow.Author.Tests.{lt-ltb, le-ltb, le-leb, lt-leb}
use Rattle.text.specs.Text.{some}
use Rattle.lines.specs.Lines.{refuse, group_key, numbers_in, rises_from, group_in, group_fault}
use Rattle.lines.specs.Fields.{fault_number, first_line, fault_at, Keyed, Keyless, Says, no_members, with_member, members_fault}
use Rattle.lines.specs.declared.Fault.{Fault}
use Rattle.lines.specs.declared.members.Members.{Members}
use Rattle.lines.proofs.Ends.{keyless, said, refused}
use Rattle.lines.proofs.Folds.{flag_is}

-- ---- all members

below_or : (a : Bool) (n k : ℕ) (c : Bool) → ((a || ltb n k) || not c) ≡ (a || not (cond (leb k n) c false))
below_or true n k c = refl
below_or false n k c = by_cases (dec_lt n k)
    (λ h. rw (lt-ltb n k h, lt-leb k n h))
    (λ h. rw (le-ltb n k (omega arith), le-leb k n (omega arith)))

module _ (units : ℕ) where
  falls-is : (ns : List ℕ) (m : Members) → (foldl (with_member units) m ns).falls ≡ (m.falls || not (rises_from m.least ns))
  unfolding with_member rises_from
  falls-is [] m = sym (or-false m.falls)
  falls-is (n ∷ ns) m = falls-is ns (with_member units m n) ∙ below_or m.falls n m.least (rises_from (suc n) ns)

  set_is : (ns : List ℕ) (m : Members) → (foldl (with_member units) m ns).set ≡ foldl including m.set ns
  unfolding with_member
  set_is [] m = refl
  set_is (n ∷ ns) m = set_is ns (with_member units m n)

  fault_is : (ns : List ℕ) → members_fault (foldl (with_member units) no_members ns)
      ≡ refuse (some (ltb 65535) ns) 4 (refuse (some (leb units) ns) 6 (refuse (not (rises_from 0 ns)) 7 0))
  unfolding members_fault with_member no_members
  fault_is ns = rw (
    flag_is (with_member units) (λ m. m.bad) (ltb 65535) (λ m n. refl) ns no_members,
    flag_is (with_member units) (λ m. m.outside) (leb units) (λ m n. refl) ns no_members,
    falls-is ns no_members,
  )

-- ---- the line `group=`

pub group-missing : {rest : List ℕ} {f : Fault} (units : ℕ) → Keyless group_key rest f
    → fault_number f ≡ fault_at (group_fault units) rest
unfolding group_fault refuse
group-missing units k = keyless k (group_fault units) (λ line h. simp h)

-- the members m read from the value of the line
module _ {rest value : List ℕ} {used : ℕ} (k : Keyed group_key rest value used) (units : ℕ) {m : Members}
    (read : m ≡ foldl (with_member units) no_members (numbers_in value)) where
  group-fault : group_fault units (first_line rest) ≡ members_fault m
  unfolding group_fault refuse
  group-fault = simp (k.begins, ← k.is) (sym (ap members_fault read ∙ fault_is units (numbers_in value)))

  pub group-faulty : (f : Fault) → fault_number f ≡ members_fault m → fault_number f ≡ fault_at (group_fault units) rest
  group-faulty f h = refused k (group_fault units) (group-fault ∙ sym h)

  pub group-good : {s : ℕ} → (members_fault m ≡ 0) × (s ≡ m.set)
      → Says (group_fault units) group_in rest (record { value = s; used = used })
  unfolding group_in no_members
  group-good h = said k (group-fault ∙ h.0)
      (h.1 ∙ ap (λ (x : Members). x.set) read ∙ set_is units (numbers_in value) no_members
      ∙ ap (λ (v : List ℕ). foldl including 0 (numbers_in v)) k.is)
