-- What the functions below `scrollcairn_open` say of their results: each is a step of the code. Nothing here need be believed. Definitions
-- only.
use Rattle.std.specs.Prelude.{ℕ, Bool, cond, List, [], ◌∷◌, replicate, Result, Ok, Err}
use Rattle.std.proofs.lemmas.List.Edits.{sets}
use Rattle.forest.specs.Calls.{check_refusal, check_parents}
use Rattle.bench_promises.specs.declared.Totals.{Totals}
use Rattle.c_answers.specs.Replies.{reply_of, open_numbers, low_bits}
use Rattle.c_answers.specs.declared.replies.Reply.{Reply}
use Rattle.scrollcairn_c.specs.declared.opening.Opening.{Opening}
use Rattle.scrollcairn_c.specs.declared.steps.Step.{Step}

-- the first 24 groups, the first 32 parents; 0 and 255 past the end
unfoldable pub group_table : List ℕ → List ℕ
group_table groups = sets (replicate 24 0) 0 groups

unfoldable pub drawing : List ℕ → List ℕ
drawing parents = sets (replicate 32 255) 0 parents

-- what a refusal, its number with its values, makes of a forest: the reply that tells it; where there is none, the forest is accepted
unfoldable pub unless_told : List ℕ → Opening → Result Opening Reply
unless_told [] o = Ok o
unless_told (number ∷ values) o = Err (reply_of (open_numbers (low_bits (number ∷ values))))

-- a forest that was looked at
unfoldable pub looked_at : Bool → (units count : ℕ) (groups parents : List ℕ) → Result Opening Reply
looked_at short units count groups parents =
    unless_told (cond short (1 ∷ []) (check_refusal units count (group_table groups) (drawing parents)))
    (record { groups = group_table groups; parents = check_parents units count (group_table groups) (drawing parents) })

unfoldable pub no_totals : Totals
no_totals = record { made = 0; taken = 0; sent = 0; routed = 0 }

unfoldable pub opened_as : Reply → Step
opened_as reply = record { totals = no_totals; reply = reply }
