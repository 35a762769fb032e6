-- Laws of the lines of events: one event more, a faulty line, one event too many, the end of the file. Assumes nothing.
use mathlib.Core.Path.{◌≡◌, refl, sym, ap, ◌∙◌}
use mathlib.Core.Logic.{by_cases}
use mathlib.Core.Bool.{Bool, true, false, cond}
use mathlib.Core.List.{List, [], ◌∷◌, ◌++◌, append_assoc, append-nil}
use Prim.Native.Nat.{ℕ, ◌+◌, ◌-◌, ◌*◌, ◌≤◌, ◌<◌}
use native.Mathlib.Nat.{add-suc, not-suc-le-zero}
use native.Mathlib.Numerals.{add-one}
use native.Mathlib.Decide.{dec_lt}
use native.Mathlib.Omega.{arith}
use borrow.Author.Tests.{le-leb, lt-leb, eq-eqb, ne_eqb}
use lib.ListN.{length, take, drop, length-append}
use lib.Seq.{take_at}
use lib.Dec.{leb, eqb}
use Rattle.text.specs.Text.{split}
use Rattle.text.specs.Writing.{Written, place_of}
use Rattle.text.proofs.Written.{written_none, written_append, written-fits}
use Rattle.lines.specs.Lines.{refuse, Parents, Event, event_fault, event_in, event_numbers}
use Rattle.lines.specs.Fields.{fault_number, first_line, fault_at, Says, said_in}
use Rattle.lines.specs.declared.Fault.{Fault}
use Rattle.lines.specs.declared.Fault.TheVariants.{TooManyEvents}
use Rattle.lines.specs.declared.Line.{Line}
use Rattle.lines.proofs.Ends.{rest-is, fault_line, fault_none}
use Rattle.benchfile.specs.File.{EventDue, step, steps, finish}
use Rattle.benchfile.specs.Calls.{numbers_of}
use Rattle.benchfile.specs.Steps.{EventsRead, EventsRefused, NumbersPut}
use Rattle.benchfile.proofs.Contents.{numbers-length}
use Rattle.benchfile.proofs.Lines.{Due, fault_some, read_fault, read-good}

-- ---- the fault of an event that others came before

-- the faults of an event by its three tests: its key, its numbers, how many came before it
abbrev tests_fault : Bool → Bool → Bool → ℕ
tests_fault a b c = refuse a 3 (refuse b 4 (refuse c 9 0))

-- a fault of the line stays; a good line is one too many after 3,000
tests_later : (a b c : Bool) → tests_fault a b c ≡ cond (eqb (tests_fault a b false) 0) (refuse c 9 0) (tests_fault a b false)
unfolding refuse
tests_later true b c = refl
tests_later false true c = refl
tests_later false false c = refl

event-later : (k : ℕ) (line : List ℕ) → event_fault k line ≡ cond (eqb (event_fault 0 line) 0)
    (refuse (leb 3000 k) 9 0) (event_fault 0 line)
unfolding event_fault
event-later k line = tests_later _ _ (leb 3000 k)

-- the line's fault where k events came before it
module _ (rest : List ℕ) (k : ℕ) where
  later-is : fault_at (event_fault k) rest ≡ cond (eqb (fault_at (event_fault 0) rest) 0) (refuse (leb 3000 k) 9 0)
      (fault_at (event_fault 0) rest)
  later-is = by_cases (dec_lt (place_of 10 rest) (length rest))
      (λ h. rw (fault_line (event_fault k) rest h, fault_line (event_fault 0) rest h) (event-later k (first_line rest)))
      (λ h. let l : length rest ≤ place_of 10 rest = omega arith in rw
      (fault_none (event_fault k) rest l, fault_none (event_fault 0) rest l) refl)

  later_fault : (f : Fault) → fault_number f ≡ fault_at (event_fault 0) rest → fault_number f ≡ fault_at (event_fault k) rest
  later_fault f e = sym (later-is ∙ rw (← e) (simp (ne_eqb (fault_number f) 0 (fault_some f))))

  module _ {value : List ℕ → List ℕ} {line : Line (List ℕ)} (g : Says (event_fault 0) value rest line) where
    later-full : 3000 ≤ k → fault_number TooManyEvents ≡ fault_at (event_fault k) rest
    unfolding refuse fault_number
    later-full h = sym (later-is ∙ simp (eq-eqb _ 0 g.good, le-leb 3000 k h))

    later-good : k < 3000 → Says (event_fault k) value rest line
    unfolding refuse
    later-good h = record { good = later-is ∙ simp (eq-eqb _ 0 g.good, lt-leb 3000 k h); says = g.says; takes = g.takes }

-- ---- the loop

event_due : (k : ℕ) (rest : List ℕ) → 0 < length rest → (n : ℕ) (gs : List ℕ) (ps : Parents) (es : List Event)
    → Due k rest (EventDue n gs ps es) (event_fault (length es)) (λ line. EventDue n gs ps (es ++ event_in line ∷ []))
unfolding step finish
event_due k [] h n gs ps es = absurd (not-suc-le-zero h)
event_due k (b ∷ rest) h n gs ps es = record { reads = λ line. refl; missing = refl }

-- so many events were read, and their numbers written; `rest` is left
pub record ReadSoFar (text list : List ℕ) (rest : List ℕ) (count next : ℕ) (left : List ℕ) : Type 0 where
  pub few : count ≤ 3000
  pub events : List Event
  pub many : length events ≡ count
  pub written : Written (numbers_of events) 0 list next left
  pub same : (k n : ℕ) (gs : List ℕ) (ps : Parents) → steps k (split 10 text) (EventDue n gs ps [])
      ≡ steps (k + count) (split 10 rest) (EventDue n gs ps events)

pub read_none : (text list : List ℕ) → ReadSoFar text list text 0 0 list
unfolding numbers_of
read_none text list = record {
  few = omega arith;
  events = [];
  many = refl;
  written = written_none 0 list;
  same = λ k n gs ps. let e : k ≡ k + 0 = omega arith in ap (λ (x : ℕ). steps x (split 10 text) (EventDue n gs ps [])) e;
}

numbers_append : (es ds : List Event) → numbers_of (es ++ ds) ≡ numbers_of es ++ numbers_of ds
unfolding numbers_of
numbers_append [] ds = refl
numbers_append (e ∷ es) ds =
    ap (λ (ns : List ℕ). event_numbers e ++ ns) (numbers_append es ds)
    ∙ sym (append_assoc (event_numbers e) (numbers_of es) (numbers_of ds))

none_left : (l : List ℕ) → length l ≡ 0 → l ≡ []
none_left [] e = refl
none_left (x ∷ l) e = absurd (omega arith)

module _ {text list rest : List ℕ} {count next : ℕ} {left : List ℕ} (so : ReadSoFar text list rest count next left) where
  -- the end of the file
  pub read_all : length rest ≡ 0 → EventsRead text (NumbersPut list left) count
  unfolding split steps finish
  read_all e = record {
    few = so.few;
    events = so.events;
    many = so.many;
    held = (next, so.written);
    goes = λ k n gs ps. so.same k n gs ps ∙ rw (none_left rest e) refl;
  }

  module _ (more : 0 < length rest) where
    line_due : (k n : ℕ) (gs : List ℕ) (ps : Parents)
        → Due k rest (EventDue n gs ps so.events) (event_fault count) (λ x. EventDue n gs ps (so.events ++ event_in x ∷ []))
    line_due k n gs ps = rw so.many at (event_due k rest more n gs ps so.events)

    refused_with : (first : ℕ) (f : Fault) → fault_number f ≡ fault_at (event_fault count) rest
        → EventsRefused text first (record { fault = f; line = first + count })
    refused_with first f e n gs ps = rw (so.same first n gs ps) (read_fault (line_due (first + count) n gs ps) f e)

    -- a line with a fault
    pub line-bad : (first : ℕ) (f : Fault) → fault_number f ≡ fault_at (event_fault 0) rest
        → EventsRefused text first (record { fault = f; line = first + count })
    line-bad first f e = refused_with first f (later_fault rest count f e)

    module _ {line : Line (List ℕ)} (g : Says (event_fault 0) said_in rest line) where
      -- one event too many
      pub line-full : (first : ℕ) → 3000 ≤ count → EventsRefused text first (record { fault = TooManyEvents; line = first + count })
      line-full first h = refused_with first TooManyEvents (later-full rest count g h)

      -- one event more
      pub line-good : count < 3000 → {place : ℕ} {last : List ℕ} → Written line.value next left place last
          → ReadSoFar text list (take (length rest - line.used) (drop line.used rest)) (count + 1) place last
      unfolding numbers_of
      line-good h {place} {last} w =
          let x : Event = event_in (first_line rest) in
          let one : numbers_of (x ∷ []) ≡ event_numbers x = append-nil (event_numbers x) in
          let more-written : Written (event_numbers x) next left place last = rw g.says at w in record {
            few = omega arith;
            events = so.events ++ x ∷ [];
            many = length-append so.events _ ∙ ap (λ (n : ℕ). n + 1) so.many;
            written = rw (numbers_append so.events (x ∷ []), one) (written_append so.written more-written);
            same = λ k n gs ps. so.same k n gs ps
                ∙ rw (add-one count, add-suc k count, rest-is) (read-good (later-good rest count g h) (line_due (k + count) n gs ps));
          }

-- ---- stored

-- the numbers of the events that are held are copied
pub stored : {rest kept mid list left : List ℕ} {count place : ℕ} → EventsRead rest (NumbersPut kept mid) count
    → 9000 ≤ length kept → Written (take (3 * count) mid) 0 list place left → EventsRead rest (NumbersPut list left) count
stored {rest} {kept} {mid} {list} {left} {count} {place} r room w =
    let long : length (numbers_of r.events) ≡ 3 * count = numbers-length r.events ∙ ap (λ (k : ℕ). 3 * k) r.many in
    let held = (written-fits r.held.1 (omega (arith, r.few))).1 in record {
      few = r.few;
      events = r.events;
      many = r.many;
      held = (place, rw (held, take_at (numbers_of r.events) _ _ long) at w);
      goes = r.goes;
    }
