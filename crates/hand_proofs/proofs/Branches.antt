-- The branches and the loop that the walks meet, each as one step that goes on with what follows it.
--     if-then      `if c { a }` before the rest: a runs where the test holds, and the rest where it fails. Where a ends without returning,
--                  it goes on by `exec`
--     while-test   the test at the head of a `while` loop's turn: the turn goes on where it holds, and the loop is left where it fails
--     Turned       what a turn of a `while` loop comes to: the invariant I at a state below i, or the code after the loop
use mathlib.Core.Bool.{Bool, not}
use mathlib.Core.List.{List}
use Prim.Native.Nat.{ℕ}
use lib.Dec.{T}
use seplogic.Ra.Ura.{Ura}
use mir.Syntax.{Opd as Operand, Body, skip, seq, cond, exit}
use mir.Val.{Val, vbool}
use base.Logic.{SProp}
use prog.Wp.{Env, Calls, Loops, Tables, Out, Wp, after_seq, after_block, after_turn, at_return, exits}
use types.Logic.{Logic}
use types.Kit.{Item, Post, post, any_q, prop, runs, Seq, ◌$◌}
use types.Run.{Opd, Below, first, branches, skips, jumps}

module _ {M : Type 1} {𝓤 : Ura M} {𝓛 : Logic 𝓤} {K : Type 0} {Γ : List (Item 𝓤)}
    {E : Env 𝓤 𝓛.H} {C : Calls 𝓤 𝓛.H}
    {Λ : Loops 𝓤 𝓛.H} {q : Post 𝓤 𝓛.H} {c : Operand} {rest : Body} {y : Bool} where
  open 𝓛 use {H}

  pub if_then : K → {a : Body} → Opd K 𝓛 Γ E c (vbool y)
      → (T y → Seq K 𝓛 Γ (runs C Λ E a (any_q (after_seq 𝓤 H (Wp 𝓤 H C Λ E rest (post 𝓤 H q)) (post 𝓤 H q)))))
      → (T (not y) → Seq K 𝓛 Γ (runs C Λ E rest q)) → Seq K 𝓛 Γ (runs C Λ E (seq (cond c a skip) rest) q)
  if_then t test then else' = first t $ branches t test then (λ fails. skips t $ record { prf = (else' fails).prf })

  pub while_test : K → {n : ℕ} → Opd K 𝓛 Γ E c (vbool y) → (T y → Seq K 𝓛 Γ (runs C Λ E rest q))
      → (T (not y) → Seq K 𝓛 Γ (prop (post 𝓤 H q (exits n))))
      → Seq K 𝓛 Γ (runs C Λ E (seq (cond c skip (exit n)) rest) q)
  while_test t test goes_on leaves = first t $ branches t test (λ holds. skips t $ record { prf = (goes_on holds).prf })
      (λ fails. jumps t $ record { prf = (leaves fails).prf })

abbrev pub Turned : {M : Type 1} {𝓤 : Ura M} (𝓛 : Logic 𝓤) (𝓣 : Tables 𝓤 𝓛.H) (E : Env 𝓤 𝓛.H) (rest : Body)
    (Kf : Val → SProp 𝓤) {X : Type 0} → (X → X → Type 0)
    → (X → List (Item 𝓤)) → X → Out → SProp 𝓤
Turned {𝓤 = 𝓤} 𝓛 𝓣 E rest Kf ≺ I i = after_turn 𝓤 𝓛.H (Below 𝓛 ≺ I i)
    (after_block 𝓤 𝓛.H (after_seq 𝓤 𝓛.H (Wp 𝓤 𝓛.H 𝓣.C 𝓣.Λ E rest (at_return 𝓤 𝓛.H E Kf))
    (at_return 𝓤 𝓛.H E Kf)))
