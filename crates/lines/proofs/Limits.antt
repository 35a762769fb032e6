-- Each place of a line has its own limit: a number above it is 4. Assumes nothing.
use mathlib.Core.Path.{◌≡◌, sym, ap, subst, ◌∙◌}
use mathlib.Core.Logic.{⊎_elim, by_cases}
use mathlib.Core.Bool.{true, false, true≢false, or-true}
use mathlib.Core.List.{List, [], ◌∷◌, cons≢nil}
use Prim.Native.Nat.{ℕ, ◌<◌, zero-le}
use native.Mathlib.Decide.{dec_lt}
use native.Mathlib.Omega.{arith}
use lib.ListN.{get_or}
use lib.Dec.{ltb}
use borrow.Author.Tests.{lt-ltb, le-ltb}
use Rattle.sets.proofs.Bools.{either}
use Rattle.text.specs.Text.{not_a_number, number, join, starts_with, after, is_word, some}
use Rattle.text.proofs.Keys.{starts-split}
use Rattle.text.proofs.Numbers.{decimal-number}
use Rattle.lines.specs.Lines.{refuse, units_key, groups_key, group_key, parents_key, send_key, arrive_key, build_word, commas, numbers_in}
use Rattle.lines.specs.Lines.{count_in, count_fault, units_fault, groups_fault, group_fault, entries_in, parents_fault, bad_send}
use Rattle.lines.specs.Lines.{event_fault}
use Rattle.lines.specs.Limits.{Above, PlacesLimited}
use Rattle.lines.proofs.Faults.{none-at}
use Rattle.lines.proofs.Values.{numbers-read}

-- ---- numbers of a value

-- one of them is above a limit
some-above : (most : ℕ) (ns : List ℕ) (u : ℕ) → most < get_or ns u 0 → some (ltb most) ns ≡ true
some-above most ns u h = ⊎_elim (λ y. y)
    (λ n. absurd (true≢false (sym (lt-ltb most _ h) ∙ none-at (ltb most) 0 ns u (le-ltb most 0 zero-le) n)))
    (either (some (ltb most) ns))

-- the first is, so the whole value is no number within the limit
whole_above : (v : List ℕ) → 65535 < get_or (numbers_in v) 0 0 → 65535 < number v
unfolding commas join some
whole_above v h = by_cases (dec_lt (number v) not_a_number)
    (λ l.
    let fits : ltb 4294967295 (number v) ≡ false = le-ltb 4294967295 (number v) (omega arith) in
    let written = decimal-number 4294967295 (omega arith) v fits in
    let one : numbers_in v ≡ number v ∷ [] =
    ap numbers_in (sym written) ∙ numbers-read 4294967295 (omega arith) (number v ∷ []) cons≢nil (simp fits) in
    subst (λ (ns : List ℕ). 65535 < get_or ns 0 0) one h)
    (λ l. omega arith)

-- ---- the places

count-above : (key : List ℕ) (least most : ℕ) (line : List ℕ) → Above key 0 65535 line → count_fault key least most line ≡ 4
unfolding count_fault count_in refuse
count-above key least most line a = simp (a.begins, lt-ltb 65535 _ (whole_above (after key line) a.above))

member-above : (n u : ℕ) (line : List ℕ) → Above group_key u 65535 line → group_fault n line ≡ 4
unfolding group_fault refuse
member-above n u line a = simp (a.begins, some-above 65535 (numbers_in (after group_key line)) u a.above)

parent_above : (n u : ℕ) (line : List ℕ) → starts_with parents_key line ≡ true → is_word build_word (after parents_key line)
    ≡ false
    → 65536 < get_or (entries_in (after parents_key line)) u 0 → parents_fault n line ≡ 4
unfolding parents_fault refuse
parent_above n u line s w h = simp (s, w, some-above 65536 (entries_in (after parents_key line)) u h)

-- a send is refused where its numbers are
send-bad : (k : ℕ) (line : List ℕ) → starts_with send_key line ≡ true → bad_send (numbers_in (after send_key line)) ≡ true
    → event_fault k line ≡ 4
unfolding event_fault refuse
send-bad k line s b = simp (s, b)

hop-above : (k : ℕ) (line : List ℕ) → Above arrive_key 0 65535 line → event_fault k line ≡ 4
unfolding event_fault refuse send_key arrive_key starts_with
hop-above k line a =
    let no_send : starts_with send_key line ≡ false = ap (starts_with send_key) (starts-split arrive_key line a.begins) in
    simp (no_send, a.begins, lt-ltb 65535 _ (whole_above (after arrive_key line) a.above))

pub places_limited : PlacesLimited
unfolding units_fault groups_fault bad_send
places_limited = record {
  units = count-above units_key 1 32;
  groups = count-above groups_key 0 24;
  member = member-above;
  parent = parent_above;
  source = λ k line a. send-bad k line a.begins (simp (lt-ltb 65534 _ a.above, or-true));
  group = λ k line a. send-bad k line a.begins (simp (lt-ltb 65535 _ a.above, or-true));
  word = λ k line a. send-bad k line a.begins (simp (lt-ltb 4294967295 _ a.above, or-true));
  hop = hop-above;
}
