-- The number of a refusal fits 16 bits: that of an event that is run, and that of a forest. Assumes nothing.
use mathlib.Core.Bool.{Bool, true, false, cond}
use mathlib.Core.List.{List, [], ◌∷◌, ◌++◌, map}
use Prim.Native.Nat.{ℕ, ◌<◌}
use native.Mathlib.Nat.{le_refl}
use native.Mathlib.Omega.{arith}
use lib.ListN.{get_or}
use Rattle.forest.specs.Calls.{refuse, groups_refusal, drawing_refusal, build_refusal, check_refusal}
use Rattle.model.specs.declared.Hop.{Hop}
use Rattle.model.specs.Network.{Plan, Network}
use Rattle.model.specs.Rules.{Answer, Refused, Sent, Repeat, Held, Taken, answer_of}
use Rattle.model.specs.Calls.{Call, Answered, answered, Run, call, step, run_from, network_of, history_of}
use Rattle.model.specs.Claims.{SendAnswer, no_source, no_group, too_many, too_far, accepted, ArriveAnswer, not_made, repeats, waits, takes}
use Rattle.model.proofs.Replies.{send-answers, arrive-answers}
use Rattle.model.proofs.Progress.{step-history}
use Rattle.lines.specs.Lines.{Event, Send, Arrive}
use Rattle.benchfile.specs.declared.Content.{Content}
use Rattle.runner.specs.Printed.{call_for, forest_refusal}

-- ---- of an event

abbrev pub Small : Answer → Type 0
Small (Refused number) = number < 65536
Small (Sent m) = Unit {0}
Small Repeat = Unit {0}
Small Held = Unit {0}
Small (Taken n) = Unit {0}

pub data AllSmall : List Answered → Type 0 where
  none : AllSmall []
  more : {c : Call} {a : Answer} {past : List Answered} → Small a → AllSmall past → AllSmall (answered c a ∷ past)

small-send : {s g messages routes : ℕ} {P : Plan} {a : Answer} → SendAnswer s g P messages routes a → Small a
small-send (no_source h) = omega arith
small-send (no_group h k) = omega arith
small-send (too_many h k l) = omega arith
small-send (too_far h k l m) = omega arith
small-send (accepted h k l m) = tt

small-arrive : {j : ℕ} {hs : List Hop} {a : Answer} → ArriveAnswer j hs a → Small a
small-arrive (not_made h) = omega arith
small-arrive (repeats h k) = tt
small-arrive (waits h k) = tt
small-arrive (takes n h k) = tt

small-event : (e : Event) (W : Network) → Small (answer_of (call (call_for e) W))
unfolding call_for
small-event (Send s g w) W = small-send (send-answers s g w 2000 W (le_refl 2000))
small-event (Arrive hop) W = small-arrive (arrive-answers hop 2000 6400 W (le_refl 2000) (le_refl 6400))

small_snoc : (c : Call) (a : Answer) {past : List Answered} → AllSmall past → Small a → AllSmall (past ++ answered c a ∷ [])
small_snoc c a none h = more h none
small_snoc c a (more k rest) h = more k (small_snoc c a rest h)

pub small-run : (es : List Event) (r : Run) → AllSmall (history_of r) → AllSmall (history_of (run_from (map call_for es) r))
unfolding run_from
small-run [] r h = h
small-run (e ∷ es) r h =
    small-run es (step (call_for e) r) (rw (step-history (call_for e) r) (small_snoc _ _ h (small-event e (network_of r))))

-- ---- of a forest

abbrev SmallHead : List ℕ → Type 0
SmallHead refusal = get_or refusal 0 0 < 65536

small-either : (b : Bool) (l r : List ℕ) → SmallHead l → SmallHead r → SmallHead (refuse b l r)
unfolding refuse
small-either true l r h k = h
small-either false l r h k = k

small-groups : (n c : ℕ) (gs rest : List ℕ) → SmallHead rest → SmallHead (groups_refusal n c gs rest)
unfolding groups_refusal
small-groups n c gs rest h =
    small-either _ _ _ (omega arith) (small-either _ _ _ (omega arith) (small-either _ _ _ (omega arith) h))

small-drawing : (n c : ℕ) (gs ps : List ℕ) → SmallHead (drawing_refusal n c gs ps)
unfolding drawing_refusal
small-drawing n c gs ps =
    small-either _ _ _ (omega arith) (small-either _ _ _ (omega arith) (small-either _ _ _ (omega arith) (omega arith)))

pub small-forest : (c : Content) → SmallHead (forest_refusal c)
unfolding forest_refusal build_refusal check_refusal
small-forest c = either_way c.build _ _ (small-groups _ _ _ [] (omega arith)) (small-groups _ _ _ _ (small-drawing _ _ _ _))
  where
    either_way : (b : Bool) (l r : List ℕ) → SmallHead l → SmallHead r → SmallHead (cond b l r)
    either_way true l r h k = h
    either_way false l r h k = k
