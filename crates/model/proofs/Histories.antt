-- Histories of a bench: messages sent and copies taken, newest first. Definitions only; their laws are in Order.antt.
use mathlib.Core.Path.{◌≡◌}
use Prim.Native.Nat.{ℕ, ◌≤◌, ◌<◌}
use mathlib.Core.Bool.{Bool, true, not, ◌&&◌, cond}
use mathlib.Core.List.{List, [], ◌∷◌}
use lib.Dec.{eqb}
use Rattle.model.specs.Demand3.{In, Before}
use Rattle.model.specs.Rules.{push}

-- Of each message its era (the place of its forest), its source, its primary and the units of its route; in each era the parent and the
-- depth of each unit. Towards the parent, and from a route's units to its primary, the depth falls.
pub record Scheme : Type 0 where
  pub era : ℕ → ℕ
  pub parent : ℕ → ℕ → ℕ
  pub depth : ℕ → ℕ → ℕ
  pub source : ℕ → ℕ
  pub primary : ℕ → ℕ
  pub on : ℕ → ℕ → Bool
  pub parent-falls : (m u : ℕ) → on m u ≡ true → depth (era m) (parent (era m) u) < depth (era m) u
  pub primary-falls : (m u : ℕ) → on m u ≡ true → (u ≡ primary m → ⊥) → depth (era m) (primary m) < depth (era m) u

-- the parent and the depth of u in the forest of message m
abbrev pub parent_for : Scheme → ℕ → ℕ → ℕ
parent_for S m u = S.parent (S.era m) u

abbrev pub depth_for : Scheme → ℕ → ℕ → ℕ
depth_for S m u = S.depth (S.era m) u

-- message m was sent; unit u took message m
pub data History : Type 0 where
  start : History
  sent : (m : ℕ) → History → History
  took : (m u : ℕ) → History → History

-- the messages sent, newest first
unfoldable pub mail : History → List ℕ
mail start = []
mail (sent m H) = m ∷ mail H
mail (took m u H) = mail H

-- the messages that u took, newest first
unfoldable pub taken : History → ℕ → List ℕ
taken start u = []
taken (sent m H) u = taken H u
taken (took m v H) u = push (eqb v u) m (taken H u)

-- message m goes straight from its source s to its primary u
unfoldable pub enters : Scheme → ℕ → ℕ → ℕ → Bool
enters S m s u = eqb (S.source m) s && eqb (S.primary m) u

-- message m goes from v, which took it, to its child u on the route
unfoldable pub passes : Scheme → ℕ → ℕ → ℕ → Bool
passes S m v u = eqb (parent_for S m u) v && (S.on m u && not (eqb u (S.primary m)))

-- the messages of the hops from s to u, newest first
unfoldable pub queue : Scheme → History → ℕ → ℕ → List ℕ
queue S start s u = []
queue S (sent m H) s u = push (enters S m s u) m (queue S H s u)
queue S (took m v H) s u = push (eqb v s && passes S m v u) m (queue S H s u)

-- who sends message m to u
unfoldable pub sender : Scheme → ℕ → ℕ → ℕ
sender S m u = cond (eqb u (S.primary m)) (S.source m) (parent_for S m u)

-- every unit of its route took message m
unfoldable pub Finished : Scheme → History → ℕ → Type 0
Finished S H m = (u : ℕ) → S.on m u ≡ true → In m (taken H u)

-- the messages of a list are of eras up to now, and those of earlier eras are finished
unfoldable pub Current : Scheme → History → ℕ → List ℕ → Type 0
Current S H now l = (x : ℕ) → In x l → (S.era x ≤ now) × (S.era x < now → Finished S H x)

-- each message is sent once, in no era before an older one's, when those of earlier eras are finished; a copy is taken once, and after
-- all older ones of its queue
pub data Legal (S : Scheme) : History → Type 0 where
  legal-start : Legal S start
  legal-sent : {m : ℕ} {H : History} → Legal S H → (In m (mail H) → ⊥) → S.on m (S.primary m) ≡ true
      → Current S H (S.era m) (mail H)
      → Legal S (sent m H)
  legal-took : {m u : ℕ} {H : History} → Legal S H → (s : ℕ) → In m (queue S H s u) → (In m (taken H u) → ⊥)
      → ((x : ℕ) → Before m x (queue S H s u) → In x (taken H u)) → Legal S (took m u H)
