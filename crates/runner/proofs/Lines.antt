-- Where a file is refused: the number, at most 9, and the line, which fits 16 bits. Assumes nothing.
use mathlib.Core.Path.{◌≡◌, refl}
use mathlib.Core.Logic.{⊎_elim}
use mathlib.Core.Bool.{true, false}
use mathlib.Core.List.{List, [], ◌∷◌, ◌++◌}
use Prim.Native.Nat.{ℕ, zero, suc, ◌+◌, ◌≤◌, ◌<◌, zero-le, suc-le-suc}
use native.Mathlib.Nat.{le_refl, suc-ne-zero}
use native.Mathlib.Omega.{arith}
use lib.ListN.{length}
use lib.Dec.{ltb, eqb}
use borrow.Author.Tests.{ltb-false}
use Rattle.sets.proofs.Bools.{either}
use Rattle.text.specs.Text.{split, in_front}
use Rattle.lines.specs.Lines.{refuse, units_key, groups_key, count_in, units_fault, groups_fault, group_fault, group_in, parents_fault}
use Rattle.lines.specs.Lines.{parents_in}
use Rattle.lines.specs.Lines.{event_fault, event_in}
use Rattle.lines.proofs.Faults.{FaultNumber}
use Rattle.lines.proofs.RoundTrip.{count_fault-number, group_fault-number, parents_fault-number, event_fault-number}
use Rattle.benchfile.specs.File.{State, UnitsDue, GroupsDue, GroupDue, EventDue, Stopped, next, step, Outcome, Refused, Good, finish}
use Rattle.benchfile.specs.File.{steps, read_file}

-- ---- the pieces of a text are at most one more than its bytes

front_length : (b : ℕ) (ps : List (List ℕ)) → length (in_front b ps) ≤ suc (length ps)
unfolding in_front
front_length b [] = le_refl 1
front_length b (p ∷ ps) = omega arith

split-length : (c : ℕ) (t : List ℕ) → length (split c t) ≤ suc (length t)
unfolding split
split-length c [] = le_refl 1
split-length c (b ∷ t) = ⊎_elim
    (λ (h : eqb b c ≡ true). simp h (suc-le-suc (split-length c t)))
    (λ (h : eqb b c ≡ false). simp h (omega (arith, front_length b (split c t), split-length c t)))
    (either (eqb b c))

-- ---- the line of a refusal

-- a refusal is document 01's number and a line that fits 16 bits
abbrev pub AtLine : List ℕ → Type 0
AtLine refusal =
    (number : ℕ) × (line : ℕ) × (refusal ≡ number ∷ line ∷ []) × (1 ≤ number) × (line < 65536) × (number ≤ 9)

refused-at : (number line : ℕ) → 1 ≤ number → number ≤ 9 → line < 65536 → AtLine (number ∷ line ∷ [])
refused-at number line some few fits = (number, line, refl, some, fits, few)

missing_at : (line : ℕ) → line < 65536 → AtLine (3 ∷ line ∷ [])
missing_at line fits = refused-at 3 line (omega arith) (omega arith) fits

-- where the reading stopped, it stopped at a line
abbrev IfStopped : State → Type 0
IfStopped UnitsDue = Unit {0}
IfStopped (GroupsDue n) = Unit {0}
IfStopped (GroupDue n due gs) = Unit {0}
IfStopped (EventDue n gs ps es) = Unit {0}
IfStopped (Stopped refusal) = AtLine refusal

-- where the file is refused, it is refused at a line
abbrev IfRefused : Outcome → Type 0
IfRefused (Refused refusal) = AtLine refusal
IfRefused (Good F) = Unit {0}

next-line : (fault k : ℕ) (s : State) → FaultNumber fault → k < 65536 → IfStopped s → IfStopped (next fault k s)
unfolding next
next-line zero k s n h i = i
next-line (suc f) k s n h i =
    refused-at (suc f) k (suc-le-suc zero-le) (⊎_elim (λ e. absurd (suc-ne-zero f e)) (λ b. b.1) n) h

step_line : (k : ℕ) (line : List ℕ) (s : State) → k < 65536 → IfStopped s → IfStopped (step k line s)
unfolding step units_fault groups_fault
step_line k line UnitsDue h i =
    next-line (units_fault line) k (GroupsDue (count_in units_key line)) (count_fault-number units_key 1 32 line) h tt
step_line k line (GroupsDue n) h i =
    next-line (groups_fault line) k (GroupDue n (count_in groups_key line) []) (count_fault-number groups_key 0 24 line) h tt
step_line k line (GroupDue n zero gs) h i =
    next-line (parents_fault n line) k (EventDue n gs (parents_in line) []) (parents_fault-number n line) h tt
step_line k line (GroupDue n (suc due) gs) h i =
    next-line (group_fault n line) k (GroupDue n due (gs ++ group_in line ∷ [])) (group_fault-number n line) h tt
step_line k line (EventDue n gs ps es) h i =
    next-line (event_fault (length es) line) k (EventDue n gs ps (es ++ event_in line ∷ [])) (event_fault-number (length es) line) h tt
step_line k line (Stopped refusal) h i = i

finish-line : (k : ℕ) (rest : List ℕ) (s : State) → k < 65536 → IfStopped s → IfRefused (finish k rest s)
unfolding finish
finish-line k rest UnitsDue h i = missing_at k h
finish-line k rest (GroupsDue n) h i = missing_at k h
finish-line k rest (GroupDue n due gs) h i = missing_at k h
finish-line k [] (EventDue n gs ps es) h i = tt
finish-line k (b ∷ bs) (EventDue n gs ps es) h i = missing_at k h
finish-line k rest (Stopped refusal) h i = i

steps-line : (k : ℕ) (pieces : List (List ℕ)) (s : State) → k + length pieces < 65536 → IfStopped s → IfRefused (steps k pieces s)
unfolding steps
steps-line k [] s h i = finish-line k [] s (omega arith) i
steps-line k (rest ∷ []) s h i = finish-line k rest s (omega arith) i
steps-line k (line ∷ l ∷ ls) s h i = steps-line (suc k) (l ∷ ls) (step k line s) (omega arith) (step_line k line s (omega arith) i)

read-line : (file : List ℕ) → IfRefused (read_file 9000 file)
unfolding read_file refuse
read-line file = ⊎_elim
    (λ (h : ltb 32768 (length file) ≡ true). simp h (refused-at 2 0 (omega arith) (omega arith) (omega arith)))
    (λ (h : ltb 32768 (length file) ≡ false).
    simp h (steps-line 1 (split 10 file) UnitsDue (omega (arith, split-length 10 file, ltb-false 32768 (length file) h)) tt))
    (either (ltb 32768 (length file)))

pub refusal-line : (file : List ℕ) (refusal : List ℕ) → read_file 9000 file ≡ Refused refusal → AtLine refusal
refusal-line file refusal e = rw e at (read-line file)
