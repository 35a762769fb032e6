-- The rules give every outcome of the table P1 to P10, by computation. So its forests meet the premise of demand 3, and `run` prints P8 and
-- P10. Assumes nothing.
use mathlib.Core.Path.{◌≡◌, refl, ap, ◌∙◌}
use mathlib.Core.List.{List, [], ◌∷◌, map}
use Prim.Native.Nat.{ℕ}
use lib.ListN.{get_or, take}
use lib.Count.{ones_in, count_trailing_zeros}
use Rattle.sets.specs.Sets.{member, single, below, union, intersection, difference, including, including_if, size, lowest, collect}
use Rattle.layout.specs.Tables.{tabulate}
use Rattle.layout.specs.Build.{holds_at, absorbed, groups_of, degree, set_aside, spread, rounds, component, better_of, largest_within, root}
use Rattle.layout.specs.Build.{parent_within, built_parent, built as built-forest}
use Rattle.forest.specs.Forest.{on_route, lacks_primary, parent, ancestors_within, ancestors, above, own_ancestor, above_every, above_some}
use Rattle.forest.specs.Forest.{primary, has_primary, route, forwarders, route_size, cyclic_units, without_primary}
use Rattle.forest.specs.Calls.{counted_at, drawn_at, empty_at, outside_at, outside_parent, counted, drawn, bad_counts, empty_groups}
use Rattle.forest.specs.Calls.{outside_groups, outside_parents, refuse, groups_refusal, drawing_refusal, or_roots, build_refusal}
use Rattle.forest.specs.Calls.{build_parents}
use Rattle.forest.specs.Calls.{check_refusal, check_parents}
use Rattle.model.specs.Network.{sum_of, bit, group_of, primary_of, route_of, route_size_of, no_plan, plan_at, forests_of, fresh_on}
use Rattle.model.specs.Network.{no_message}
use Rattle.model.specs.Network.{ledger_of, message_at, hop_at, log_of, hops_of, is_out, messages_of, is_held, is_taken, with_state}
use Rattle.model.specs.Network.{set_state}
use Rattle.model.specs.Network.{is_pair, count_hops, pair_count, new_hop, made}
use Rattle.model.specs.Rules.{refuse as refuse-call, refused, route_total, send, push, rising, children_on, forward, logged, take_hop}
use Rattle.model.specs.Rules.{lower, lowest_untaken, place_of, is_held_at, next_held, tally, settle, hold, arrive, all_taken, quiescent}
use Rattle.model.specs.Calls.{call, recorded, step as step_call, run_from, run, log, rest}
use Rattle.model.specs.Claims.{call_of}
use Rattle.model.specs.Demand3.{Planned, built, checked}
use Rattle.text.specs.Text.{digit, number, decimal_within, decimal, in_front, split, join, starts_with, after, is_word, some}
use Rattle.lines.specs.Lines.{refuse as refuse-line, units_key, groups_key, group_key, parents_key, send_key, arrive_key, build_word}
use Rattle.lines.specs.Lines.{root_word}
use Rattle.lines.specs.Lines.{numbers_in, count_in, count_fault, units_fault, groups_fault, count_line, rises_from, group_in, group_fault}
use Rattle.lines.specs.Lines.{entry as entry_in, entries_in, parent_of, parents_in, parents_fault, is_build, parents_table, bad_send}
use Rattle.lines.specs.Lines.{event_fault, event_in}
use Rattle.benchfile.specs.File.{next, step, finish, steps, read_file, ended}
use Rattle.benchfile.specs.Calls.{WroteBytes, content_of}
use Rattle.output_lines.specs.Output.{refused_key, log_key, hops_key, rest_key, answer_word, refused_line, message_texts, log_line}
use Rattle.output_lines.specs.Output.{hops_line}
use Rattle.output_lines.specs.Output.{rest_line}
use Rattle.runner.specs.Printed.{forest_refusal, forest_parents, plan_of, call_for, result_of_run, on_forest, result_of, result, refused_as}
use Rattle.runner.specs.Printed.{refused_events, log_lines, run_lines, result_lines, printed, RunReply, run_answer, RunPromise}
use Rattle.runner.proofs.Theorems.{run-bytes}
use Rattle.worked_examples.specs.Table.{Outcome, Refusal, Parents, Prints, Bench, Built, Drawn, bench_refusal, bench_plan}
use Rattle.worked_examples.specs.Table.{unless_refused, route_outcome, run_outcome, outcome, unit_set, filled, groups}
use Rattle.worked_examples.specs.Table.{root as rootParent, drawing, forest, sends, arrives, message, out, taken, bytes, lines}
use Rattle.worked_examples.specs.Table.{bench_p1, bench_p2, groups_c, built_c, drawn_c, bench_p5, bench_p6, bench_p7, calls_p7, calls_p8}
use Rattle.worked_examples.specs.Table.{hops_p8, logs_p8, file_p8, send_p7, no_logs, prints_p8, calls_p9, file_p10, prints_p10, table}
use Rattle.worked_examples.specs.Table.{stated, computed}

pub table-holds : map computed table ≡ map stated table
unfolding ones_in count_trailing_zeros member single below union intersection difference including including_if size lowest collect tabulate
    holds_at absorbed groups_of degree set_aside spread rounds component better_of largest_within root parent_within built_parent
    built-forest
    on_route lacks_primary parent ancestors_within ancestors above own_ancestor above_every above_some primary has_primary route forwarders
    route_size cyclic_units without_primary counted_at drawn_at empty_at outside_at outside_parent counted drawn bad_counts empty_groups
    outside_groups outside_parents refuse groups_refusal drawing_refusal or_roots build_refusal build_parents check_refusal check_parents
    sum_of bit
    group_of primary_of route_of route_size_of no_plan plan_at forests_of fresh_on no_message ledger_of message_at hop_at log_of messages_of
    hops_of is_out
    is_held is_taken with_state set_state is_pair count_hops pair_count new_hop made refuse-call refused route_total send push rising
    children_on
    forward logged take_hop lower lowest_untaken place_of is_held_at next_held tally settle hold arrive all_taken quiescent call recorded
    step_call run_from run log rest digit number decimal_within decimal in_front split join starts_with after is_word some refuse-line
    units_key groups_key group_key parents_key send_key arrive_key build_word root_word numbers_in count_in count_fault units_fault
    groups_fault
    count_line rises_from group_in group_fault entry_in entries_in parent_of parents_in parents_fault is_build parents_table bad_send
    event_fault
    event_in next step finish steps read_file ended content_of refused_key log_key hops_key rest_key answer_word refused_line message_texts
    log_line
    hops_line rest_line forest_refusal forest_parents plan_of call_for result_of_run on_forest result_of result refused_as refused_events
    log_lines run_lines
    result_lines printed bench_refusal bench_plan unless_refused route_outcome run_outcome outcome unit_set filled groups rootParent drawing
    forest sends arrives call_of message out taken bytes lines bench_p1 bench_p2 groups_c built_c drawn_c bench_p5 bench_p6 bench_p7 send_p7
    calls_p7
    calls_p8 hops_p8 logs_p8 file_p8 prints_p8 calls_p9 no_logs file_p10 prints_p10 table stated computed
table-holds = refl

-- ---- the premise of demand 3 is met, by a check and by a build

unrefused : (refusal parents given : List ℕ) → unless_refused refusal (Parents parents) ≡ Parents given → refusal ≡ []
unfolding unless_refused
unrefused [] ps qs e = refl
unrefused (number ∷ values) ps qs e = cc

planned : (b : Bench) → bench_refusal b ≡ [] → Planned (bench_plan b)
unfolding bench_refusal bench_plan
planned (Built n c gs) e = built e refl
planned (Drawn n c gs ps) e = checked ps e refl

-- the outcome of the table's entry i
entry-holds : (i : ℕ) → get_or (map computed table) i (Refusal []) ≡ get_or (map stated table) i (Refusal [])
entry-holds i = ap (λ (l : List Outcome). get_or l i (Refusal [])) table-holds

-- P4's forest, and P1's
pub C-planned : Planned (bench_plan drawn_c)
unfolding table computed stated outcome forest
C-planned = planned drawn_c (unrefused _ _ _ (entry-holds 4))

pub P1-planned : Planned (bench_plan bench_p1)
unfolding table computed stated outcome forest
P1-planned = planned bench_p1 (unrefused _ _ _ (entry-holds 0))

-- ---- what `run` prints

-- the bytes that `run` leaves for a file, as many as it answers
abbrev pub RunPrints : (file text : List ℕ) → Type 0
RunPrints file text = (out : List ℕ) (r : RunReply) (left : List ℕ) → RunPromise file out r left
    → (n : ℕ) → run_answer r ≡ WroteBytes n → take n left ≡ text

run-prints : (file text : List ℕ) → Prints (printed file) ≡ Prints text → RunPrints file text
run-prints file text e out r left p n q = let same : printed file ≡ text = cc in (run-bytes file out r left p n q).0 ∙ same

pub p8_printed : RunPrints file_p8 prints_p8
unfolding table computed stated outcome
p8_printed = run-prints file_p8 prints_p8 (entry-holds 11)

pub p10_printed : RunPrints (file_p10 "parents=build") prints_p10 × RunPrints (file_p10 "parents=-") prints_p10
unfolding table computed stated outcome
p10_printed = (run-prints _ prints_p10 (entry-holds 14), run-prints _ prints_p10 (entry-holds 15))
