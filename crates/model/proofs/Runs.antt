-- What every list of calls keeps: the network is sound, the messages are those read off the calls and answers, the copies taken are those
-- that the answers count, and no pair has a copy left to be taken. Assumes nothing.
use mathlib.Core.Path.{◌≡◌, refl, sym, ap, ◌∙◌}
use mathlib.Core.Logic.{⊎_elim}
use mathlib.Core.Bool.{Bool, true, false, ◌||◌}
use mathlib.Core.List.{List, [], ◌∷◌, ◌++◌, append-nil, append_assoc, map, map-append}
use Prim.Native.Nat.{ℕ, suc, ◌+◌, ◌≤◌, ◌<◌}
use native.Mathlib.Omega.{arith}
use borrow.Author.Tests.{ltb-false, leb-false}
use lib.ListN.{length}
use lib.Dec.{ltb, leb}
use Rattle.sets.proofs.Bools.{either}
use Rattle.model.specs.declared.Hop.{Hop}
use Rattle.model.specs.declared.Message.{Message}
use Rattle.model.specs.Network.{sum_of, bit, Plan, group_of, primary_of, route_size_of, no_plan, plan_at, Ledger, forests_of, Network}
use Rattle.model.specs.Network.{network, fresh_on, hop_at, ledger_of, plan_in_use, messages_of, hops_of, is_out, is_taken, with_state}
use Rattle.model.specs.Network.{set_state, count_hops, new_hop, made}
use Rattle.model.specs.Rules.{Answer, Refused, Sent, Repeat, Outcome, outcome, left_of, refuse, refused, route_total, send, settle}
use Rattle.model.specs.Rules.{hold, arrive}
use Rattle.model.specs.Calls.{Call, Send, Arrive, call, Answered, answered, Run, ran, recorded, step, run_from, run, network_of}
use Rattle.model.specs.Calls.{history_of}
use Rattle.model.specs.Demand3.{SentMessage, sent_as, sent_by, plan_after, sent, carried, taken_total}
use Rattle.model.specs.Claims.{call_of}
use Rattle.model.proofs.Hops.{length-state, count_snoc, count-state, count-length}
use Rattle.model.proofs.Sequences.{own_pair, out-untaken}
use Rattle.model.proofs.Logs.{down_from}
use Rattle.model.proofs.Replies.{refuse-either, settle-ledger}
use Rattle.model.proofs.Sound.{Forest, sound-fresh}
use Rattle.model.proofs.Idle.{Idle, idle-made, OthersIdle, others-state, all-idle, holds}
use Rattle.model.proofs.Readings.{numbered_as, enumerate, enumerate_snoc, plan_now, now_snoc, sent_snoc, total_snoc}
use Rattle.model.proofs.Networks.{plan-last, plan_snoc, Valid, state-lawful, sent-lawful}
use Rattle.model.proofs.Settling.{SettlesAs, settles}
use Rattle.model.proofs.Planning.{no_forest}
use Rattle.model.proofs.Progress.{step-history}

-- ---- what a list of calls keeps

-- a call that sends nothing and leaves the plan
unfoldable Quiet : Answered → Type 0
Quiet x = (P : Plan) → (sent_by P x ≡ []) × (plan_after P x ≡ P)

-- P is the plan that the list starts with
pub record Kept (P : Plan) (past : List Answered) (W : Network) : Type 0 where
  pub valid : Valid W
  pub plan : plan_now P past ≡ plan_in_use W
  pub sends : sent P past ≡ enumerate (forests_of (ledger_of W)) 1 (messages_of W)
  pub takes : taken_total past ≡ count_hops is_taken (hops_of W)
  pub idle : (s r : ℕ) → Idle (hops_of W) s r

-- W becomes W' by a call that answers a and leaves forests and messages
record Moved (W : Network) (a : Answer) (W' : Network) : Type 0 where
  valid : Valid W'
  ledger : ledger_of W' ≡ ledger_of W
  messages : messages_of W' ≡ messages_of W
  takes : count_hops is_taken (hops_of W) + carried a ≡ count_hops is_taken (hops_of W')
  idle : (s r : ℕ) → Idle (hops_of W') s r

module _ (P : Plan) (past : List Answered) where
  unfoldable KeptBy : Call → Outcome → Type 0
  KeptBy c (outcome a W) = Kept P (past ++ answered c a ∷ []) W

  module _ (W : Network) (K : Kept P past W) (c : Call) where
    kept-moved : (a : Answer) (W' : Network) → Quiet (answered c a) → Moved W a W' → Kept P (past ++ answered c a ∷ []) W'
    unfolding Quiet
    kept-moved a W' quiet X = record {
      valid = X.valid;
      plan = now_snoc P past (answered c a) ∙ (quiet (plan_now P past)).1 ∙ K.plan ∙ ap (λ (L : Ledger). L.in_use) (sym X.ledger);
      sends = sent_snoc P past (answered c a) ∙ ap (λ (l : List SentMessage). sent P past ++ l) (quiet (plan_now P past)).0
          ∙ append-nil (sent P past) ∙ K.sends ∙ ap (λ (L : Ledger). enumerate (forests_of L) 1 (messages_of W)) (sym X.ledger)
          ∙ ap (enumerate (forests_of (ledger_of W')) 1) (sym X.messages);
      takes = total_snoc past c a ∙ ap (λ (n : ℕ). n + carried a) K.takes ∙ X.takes;
      idle = X.idle;
    }

    -- one that changes nothing
    kept_same : (a : Answer) → Quiet (answered c a) → carried a ≡ 0 → Kept P (past ++ answered c a ∷ []) W
    kept_same a quiet none = kept-moved a W quiet
        (record { valid = K.valid; ledger = refl; messages = refl; takes = omega arith; idle = K.idle })

    kept-refused : (b : Bool) (k : ℕ) (o : Outcome) → (b ≡ false → KeptBy c o) → KeptBy c (refuse b (refused k W) o)
    unfolding refused KeptBy Quiet sent_by sent_as plan_after carried
    kept-refused b k o f = refuse-either (KeptBy c) b _ _ (λ t. kept_same (Refused k) (quiet c) refl) f
      where
        quiet : (d : Call) → Quiet (answered d (Refused k))
        quiet (Send s g w hops) P = (refl, refl)
        quiet (Arrive j hops book) P = (refl, refl)

  -- ---- each call

  module _ (L : Ledger) (ms : List Message) (hs : List Hop) (ls : List (List ℕ)) (K : Kept P past (network L ms hs ls)) where
    kept-sent : (s g w hops : ℕ) → s < L.in_use.units → g < L.in_use.count → length ms < 200
        → route_total (forests_of L) ms + route_size_of L.in_use g ≤ 2000
        → Kept P (past ++ answered (Send s g w hops) (Sent (suc (length ms))) ∷ [])
        (network L (ms ++ record { source = s; group = g; word = w; forest = length L.earlier } ∷ [])
        (made s (primary_of L.in_use g) (suc (length ms)) hs) ls)
    unfolding Valid ledger_of messages_of hops_of sent_by sent_as plan_after carried made is_taken new_hop bit numbered_as
    kept-sent s g w hops source group few room =
        let x : Message = record { source = s; group = g; word = w; forest = length L.earlier } in
        let x_as : Plan → ℕ → SentMessage =
        λ Q n. record { number = n; source = s; group = g; members = group_of Q g; route_size = route_size_of Q g } in record {
          valid = sent-lawful L ms hs ls K.valid s g w source group few room;
          plan = now_snoc P past _ ∙ K.plan;
          sends =
              sent_snoc P past _ ∙ ap (λ (l : List SentMessage). l ++ x_as (plan_now P past) (suc (length ms)) ∷ []) K.sends
              ∙ ap (λ (Q : Plan). enumerate (forests_of L) 1 ms ++ x_as Q (suc (length ms)) ∷ []) (K.plan ∙ sym (plan-last L))
              ∙ ap (λ (n : ℕ). enumerate (forests_of L) 1 ms ++ numbered_as (forests_of L) n x ∷ [])
              (let e : suc (length ms) ≡ length ms + 1 = omega arith in e) ∙ sym (enumerate_snoc (forests_of L) 1 ms x);
          takes = total_snoc past _ _ ∙ omega (
            arith,
            K.takes,
            count_snoc is_taken hs
                (new_hop s (primary_of L.in_use g) (suc (length ms)) hs),
          );
          idle = λ a b. idle-made s (primary_of L.in_use g) (suc (length ms)) hs a b (K.idle a b);
        }

    kept_send : (s g w hops : ℕ) → KeptBy (Send s g w hops) (send s g w (network L ms hs ls))
    unfolding send KeptBy
    kept_send s g w hops =
        let Q = L.in_use in
        let refusal = kept-refused (network L ms hs ls) K (Send s g w hops) in
        refusal (leb Q.units s) 12 _ (λ b12. refusal (leb Q.count g) 13 _ (λ b13. refusal (leb 200 (length ms)) 14 _ (λ b14.
        refusal (ltb 2000 (route_total (forests_of L) ms + route_size_of Q g)) 15 _ (λ b15.
        kept-sent s g w hops (leb-false Q.units s b12) (leb-false Q.count g b13) (leb-false 200 (length ms) b14)
        (ltb-false 2000 _ b15)))))

    -- a hop that is out becomes held, and its pair is settled
    held-settles : (k j : ℕ) → j < length hs → is_out (hop_at hs j) ≡ true
        → SettlesAs ms (hop_at hs j).sender (hop_at hs j).receiver (count_hops is_taken hs)
        (count_hops (holds (hop_at hs j).sender (hop_at hs j).receiver) (set_state j 1 hs) ≤ k)
        (settle k (hop_at hs j).sender (hop_at hs j).receiver 0 (hold j (network L ms hs ls)))
    unfolding hold Valid hops_of OthersIdle with_state bit is_taken
    held-settles k j b out =
        let waits = out-untaken (hop_at hs j) out in
        let s = (hop_at hs j).sender in
        let r = (hop_at hs j).receiver in
        settles k s r 0 (count_hops is_taken hs) L ms (set_state j 1 hs) ls
        (state-lawful L ms hs ls K.valid j 1 b waits (omega arith))
        (omega (arith, count-state is_taken j 1 hs b, ap bit waits))
        (others-state hs s r j 1 (own_pair (hop_at hs j)) (λ a c d. K.idle a c)) (λ e. e)

    kept-settled : (j hops book s r : ℕ) {enough : Type 0} (o : Outcome) → enough → SettlesAs ms s r (count_hops is_taken hs) enough o
        → ledger_of (left_of o) ≡ L → KeptBy (Arrive j hops book) o
    unfolding SettlesAs KeptBy Quiet sent_by plan_after ledger_of messages_of hops_of left_of
    kept-settled j hops book s r (outcome a W') e X leaves =
        kept-moved (network L ms hs ls) K (Arrive j hops book) a W' (λ P. (refl, refl)) (record {
          valid = X.valid;
          ledger = leaves;
          messages = X.messages;
          takes = X.takes;
          idle = all-idle (hops_of W') s r X.others (X.own e);
        })

    -- there are no more held hops than hops
    enough : (j : ℕ) → count_hops (holds (hop_at hs j).sender (hop_at hs j).receiver) (set_state j 1 hs) ≤ length hs
    enough j = omega (arith, count-length (holds (hop_at hs j).sender (hop_at hs j).receiver) (set_state j 1 hs), length-state j 1 hs)

    kept-arrive : (j hops book : ℕ) → KeptBy (Arrive j hops book) (arrive j (network L ms hs ls))
    unfolding arrive hold ledger_of KeptBy Quiet sent_by plan_after carried
    kept-arrive j hops book =
        let W = network L ms hs ls in
        let c = Arrive j hops book in
        kept-refused W K c (leb (length hs) j) 16 _ (λ made. ⊎_elim
        (λ (out : is_out (hop_at hs j) ≡ true). simp out
        (kept-settled j hops book _ _ _ (enough j) (held-settles (length hs) j (leb-false (length hs) j made) out)
        (settle-ledger (length hs) _ _ 0 (hold j W))))
        (λ (out : is_out (hop_at hs j) ≡ false). simp out (kept_same W K c Repeat (λ P. (refl, refl)) refl))
        (either (is_out (hop_at hs j))))

  kept-call : (W : Network) (c : Call) → Kept P past W → KeptBy c (call c W)
  unfolding call
  kept-call (network L ms hs ls) (Send s g w hops) K =
      kept-refused _ K _ (ltb hops 2000) 1 _ (λ b. kept_send L ms hs ls K s g w hops)
  kept-call (network L ms hs ls) (Arrive j hops book) K =
      kept-refused _ K _ (ltb hops 2000 || ltb book 6400) 1 _ (λ b. kept-arrive L ms hs ls K j hops book)

-- ---- lists

module _ (P : Plan) where
  abbrev KeptRun : Run → Type 0
  KeptRun r = Kept P (history_of r) (network_of r)

  kept_step : (c : Call) (r : Run) → KeptRun r → KeptRun (step c r)
  unfolding step recorded history_of network_of KeptBy
  kept_step c (ran W past) K = record_kept (call c W) (kept-call P past W c K)
    where
      record_kept : (o : Outcome) → KeptBy P past c o → KeptRun (recorded c past o)
      record_kept (outcome a W') X = X

  kept_from : (cs : List Call) (r : Run) → KeptRun r → KeptRun (run_from cs r)
  unfolding run_from
  kept_from [] r K = K
  kept_from (c ∷ cs) r K = kept_from cs (step c r) (kept_step c r K)

  pub kept_run : Forest P → (cs : List Call) → Kept P (history_of (run P cs)) (network_of (run P cs))
  unfolding run history_of network_of fresh_on forests_of Valid sent enumerate ledger_of messages_of taken_total count_hops sum_of hops_of
      Idle
      plan_now route_total down_from plan_at no_plan
  kept_run forest cs = kept_from cs (ran (fresh_on P) []) (record {
    valid = record {
      planted = plan_snoc Forest [] P (λ f. no_forest) forest;
      grown = plan_snoc (λ Q. Q.units ≤ P.units) [] P (λ f. omega arith) (omega arith);
      few = omega arith;
      room = omega arith;
      sound = λ F T b c planted. sound-fresh F planted T;
    };
    plan = refl;
    sends = refl;
    takes = refl;
    idle = λ s r j N. absurd (omega (arith, N.within));
  })

-- ---- the reading of a list

step-calls : (c : Call) (r : Run) → map call_of (history_of (step c r)) ≡ map call_of (history_of r) ++ c ∷ []
unfolding call_of
step-calls c r = ap (map call_of) (step-history c r) ∙ map-append call_of (history_of r) (_ ∷ [])

calls-from : (cs : List Call) (r : Run) → map call_of (history_of (run_from cs r)) ≡ map call_of (history_of r) ++ cs
unfolding run_from
calls-from [] r = sym (append-nil (map call_of (history_of r)))
calls-from (c ∷ cs) r =
    calls-from cs (step c r) ∙ ap (λ (l : List Call). l ++ cs) (step-calls c r) ∙ append_assoc (map call_of (history_of r)) (c ∷ [])
    cs

-- the calls recorded are those of the list
pub run-calls : (P : Plan) (cs : List Call) → map call_of (history_of (run P cs)) ≡ cs
unfolding run history_of
run-calls P cs = calls-from cs (ran (fresh_on P) [])
