-- Wrong rules that document 01 asks to try ("For those who test"). No contract uses them: must-fail edits put them in the rules' place.
use Rattle.std.specs.Prelude.{ℕ, Bool, cond, [], ◌∷◌, ◌++◌, get_or}
use Rattle.sets.specs.Sets.{member}
use Rattle.model.specs.Network.{group_of, Network, network, plan_in_use}
use Rattle.model.specs.Rules.{Answer, Refused, Sent, Repeat, Held, Taken, Outcome, outcome, answer_of, left_of, send}
use Rattle.layout.specs.Tables.{tabulate}

-- message m at the end of the log of each unit that passes a test
unfoldable pub log_at : (ℕ → Bool) → ℕ → Network → Network
log_at test m (network L ms hs ls) = network L ms hs (tabulate 32 (λ u. cond (test u) (get_or ls u [] ++ m ∷ []) (get_or ls u [])))

-- a message that was sent is logged at every member at once
unfoldable pub log_if_sent : (ℕ → Bool) → Answer → Network → Network
log_if_sent test (Refused k) W = W
log_if_sent test (Sent m) W = log_at test m W
log_if_sent test Repeat W = W
log_if_sent test Held W = W
log_if_sent test (Taken n) W = W

unfoldable pub send_logging : (source group word : ℕ) → Network → Outcome
send_logging s g w W = let o = send s g w W in outcome (answer_of o) (log_if_sent (member (group_of (plan_in_use W) g)) (answer_of o)
    (left_of o))
