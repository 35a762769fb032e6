-- Messages as the calls and answers of a list tell them. Assumes nothing.
use mathlib.Core.Path.{◌≡◌, refl, sym, ap, ◌∙◌}
use mathlib.Core.Bool.{true}
use mathlib.Core.List.{List, [], ◌∷◌, ◌++◌, append-nil, append_assoc, map}
use Prim.Native.Nat.{ℕ, suc, ◌+◌}
use native.Mathlib.Omega.{arith}
use lib.ListN.{length}
use Rattle.model.specs.declared.Message.{Message}
use Rattle.model.specs.Network.{Plan, members_for, route_size_for}
use Rattle.model.specs.Rules.{Answer, push, rising}
use Rattle.model.specs.Calls.{Call, Answered, answered}
use Rattle.model.specs.Demand3.{SentMessage, sent_by, plan_after, sent, carried, carried_by, taken_total}
use Rattle.model.proofs.Hops.{sum_snoc}

-- ---- messages as they were sent

-- message number i
unfoldable pub numbered_as : List Plan → ℕ → Message → SentMessage
numbered_as Fs i x = record { number = i; source = x.source; group = x.group; members = members_for Fs x; route_size = route_size_for Fs x }

unfoldable pub enumerate : List Plan → ℕ → List Message → List SentMessage
enumerate Fs i [] = []
enumerate Fs i (x ∷ xs) = numbered_as Fs i x ∷ enumerate Fs (suc i) xs

pub enumerate_snoc : (Fs : List Plan) (i : ℕ) (ms : List Message) (x : Message)
    → enumerate Fs i (ms ++ x ∷ []) ≡ enumerate Fs i ms ++ numbered_as Fs (length ms + i) x ∷ []
unfolding enumerate
enumerate_snoc Fs i [] x = ap (λ (n : ℕ). numbered_as Fs n x ∷ []) (let e : i ≡ 0 + i = omega arith in e)
enumerate_snoc Fs i (y ∷ ms) x =
    let e : length ms + suc i ≡ suc (length ms) + i = omega arith in
    ap (λ (l : List SentMessage). numbered_as Fs i y ∷ l)
    (enumerate_snoc Fs (suc i) ms x ∙ ap (λ (n : ℕ). enumerate Fs (suc i) ms ++ numbered_as Fs n x ∷ []) e)

-- the plan after the calls
unfoldable pub plan_now : Plan → List Answered → Plan
plan_now P [] = P
plan_now P (x ∷ past) = plan_now (plan_after P x) past

pub now_snoc : (P : Plan) (past : List Answered) (x : Answered) → plan_now P (past ++ x ∷ []) ≡ plan_after (plan_now P past) x
unfolding plan_now
now_snoc P [] x = refl
now_snoc P (y ∷ past) x = now_snoc (plan_after P y) past x

pub sent_snoc : (P : Plan) (past : List Answered) (x : Answered) → sent P (past ++ x ∷ []) ≡ sent P past
    ++ sent_by (plan_now P past) x
unfolding sent plan_now
sent_snoc P [] x = append-nil (sent_by P x)
sent_snoc P (y ∷ past) x =
    ap (λ (l : List SentMessage). sent_by P y ++ l) (sent_snoc (plan_after P y) past x)
    ∙ sym (append_assoc (sent_by P y) (sent (plan_after P y) past) (sent_by (plan_now (plan_after P y) past) x))

pub total_snoc : (past : List Answered) (c : Call) (a : Answer) → taken_total (past ++ answered c a ∷ [])
    ≡ taken_total past + carried a
unfolding taken_total carried_by
total_snoc past c a = sum_snoc carried_by past (answered c a)

pub enumerate-numbers : (Fs : List Plan) (i : ℕ) (ms : List Message)
    → map (λ x. x.number) (enumerate Fs i ms) ≡ rising (length (enumerate Fs i ms)) i (λ n. true)
unfolding enumerate numbered_as rising push
enumerate-numbers Fs i [] = refl
enumerate-numbers Fs i (x ∷ ms) = ap (λ (l : List ℕ). i ∷ l) (enumerate-numbers Fs (suc i) ms)
