-- Laws of the lines before the events: the two counts, the lines of groups one by one, the parents. Assumes nothing.
use mathlib.Core.Path.{◌≡◌, refl, sym, ap, ◌∙◌}
use mathlib.Core.Bool.{Bool, true, false, not}
use mathlib.Core.List.{List, [], ◌∷◌, ◌++◌}
use Prim.Native.Nat.{ℕ, suc, ◌+◌, ◌-◌, ◌≤◌, ◌<◌}
use native.Mathlib.Nat.{add-suc, zero-add}
use native.Mathlib.Numerals.{add-one}
use native.Mathlib.Omega.{arith}
use lib.ListN.{length, take, drop, replicate, length-append}
use lib.Seq.{sets}
use Rattle.std.specs.Prelude.{Option, Some, None, is_some, is_none, unwrap_or}
use Rattle.layout.specs.Tables.{tabulate}
use Rattle.text.specs.Text.{split}
use Rattle.text.specs.Writing.{Written}
use Rattle.lines.specs.Lines.{units_key, groups_key, units_fault, groups_fault, count_in, group_fault, group_in, parents_fault}
use Rattle.lines.specs.Lines.{Parents, Build, Drawn, is_build, parents_table, parents_in}
use Rattle.lines.specs.Fields.{fault_number, first_line, fault_at, Says, drawn_of, drawn_in}
use Rattle.lines.specs.declared.Fault.{Fault}
use Rattle.lines.specs.declared.Line.{Line}
use Rattle.lines.proofs.Ends.{rest-is}
use Rattle.lines.proofs.Drawings.{sets_snoc, sets-table}
use Rattle.benchfile.specs.File.{UnitsDue, GroupsDue, GroupDue, EventDue, step, steps, finish}
use Rattle.benchfile.specs.Calls.{content_of}
use Rattle.benchfile.specs.Steps.{BadLine, CountsRead, GroupsRead, HeadingRead}
use Rattle.benchfile.specs.declared.FaultyLine.{FaultyLine}
use Rattle.benchfile.proofs.Lines.{Due, count_most, read_fault, read-inside, read-good}

-- ---- which line is due

module _ (k : ℕ) (rest : List ℕ) where
  units_due : Due k rest UnitsDue units_fault (λ line. GroupsDue (count_in units_key line))
  unfolding step finish units_fault
  units_due = record { reads = λ line. refl; missing = refl }

  groups_due : (n : ℕ) → Due k rest (GroupsDue n) groups_fault (λ line. GroupDue n (count_in groups_key line) [])
  unfolding step finish groups_fault
  groups_due n = record { reads = λ line. refl; missing = refl }

  group_due : (n due : ℕ) (gs : List ℕ) → Due k rest (GroupDue n (suc due) gs) (group_fault n)
      (λ line. GroupDue n due (gs ++ group_in line ∷ []))
  unfolding step finish
  group_due n due gs = record { reads = λ line. refl; missing = refl }

  parents_due : (n : ℕ) (gs : List ℕ) → Due k rest (GroupDue n 0 gs) (parents_fault n) (λ line. EventDue n gs (parents_in line) [])
  unfolding step finish
  parents_due n gs = record { reads = λ line. refl; missing = refl }

-- ---- `units=` and `groups=`

module _ (file : List ℕ) where
  pub first-bad : (f : Fault) → fault_number f ≡ fault_at units_fault file
      → BadLine (steps 1 (split 10 file) UnitsDue) (record { fault = f; line = 1 })
  first-bad f e = read_fault (units_due 1 file) f e

  module _ {first : Line ℕ} (g : Says units_fault (count_in units_key) file first) where
    pub first-inside : first.used ≤ length file
    first-inside = (read-inside g).1

    first_goes : steps 1 (split 10 file) UnitsDue
        ≡ steps 2 (split 10 (take (length file - first.used) (drop first.used file))) (GroupsDue first.value)
    first_goes = rw (g.says, rest-is) (read-good g (units_due 1 file))

    module _ {rest : List ℕ} (is : rest ≡ take (length file - first.used) (drop first.used file)) where
      pub second-bad : (f : Fault) → fault_number f ≡ fault_at groups_fault rest
          → BadLine (steps 1 (split 10 file) UnitsDue) (record { fault = f; line = 2 })
      second-bad f e = rw (first_goes, ← is) (read_fault (groups_due 2 rest first.value) f e)

      pub counts-read : {second : Line ℕ} → Says groups_fault (count_in groups_key) rest second
          → CountsRead file first.value second.value (take (length rest - second.used) (drop second.used rest))
      unfolding groups_fault
      counts-read h = record {
        few = count_most groups_key 0 24 rest h;
        goes = first_goes ∙ rw (← is, h.says, rest-is) (read-good h (groups_due 2 rest first.value));
      }

-- ---- the lines `group=`

-- i of the lines were read, and `rest` is left
pub record GroupsSoFar (text : List ℕ) (units count i : ℕ) (rest found : List ℕ) : Type 0 where
  pub groups : List ℕ
  pub many : length groups ≡ i
  pub table : found ≡ sets (replicate 24 0) 0 groups
  pub same : steps 3 (split 10 text) (GroupDue units count []) ≡ steps (3 + i) (split 10 rest) (GroupDue units (count - i) groups)

pub groups_none : (text : List ℕ) (units count : ℕ) → GroupsSoFar text units count 0 text (replicate 24 0)
groups_none text units count = record {
  groups = [];
  many = refl;
  table = refl;
  same = let d : count ≡ count - 0 = omega arith in λ j. steps 3 (split 10 text) (GroupDue units (d j) []);
}

module _ {text : List ℕ} {units count i : ℕ} {rest found : List ℕ} (so : GroupsSoFar text units count i rest found) where
  module _ (more : i < count) where
    one_due : steps 3 (split 10 text) (GroupDue units count [])
        ≡ steps (3 + i) (split 10 rest) (GroupDue units (suc (count - suc i)) so.groups)
    one_due = let d : count - i ≡ suc (count - suc i) = omega arith in rw d at so.same

    pub groups-bad : (f : Fault) → fault_number f ≡ fault_at (group_fault units) rest
        → BadLine (steps 3 (split 10 text) (GroupDue units count [])) (record { fault = f; line = 3 + i })
    groups-bad f e = rw one_due (read_fault (group_due (3 + i) rest units (count - suc i) so.groups) f e)

    pub groups-turn : {line : Line ℕ} → Says (group_fault units) group_in rest line → {place : ℕ} {next : List ℕ}
        → Written (line.value ∷ []) i found place next
        → GroupsSoFar text units count (i + 1) (take (length rest - line.used) (drop line.used rest)) next
    groups-turn {line} g w =
        let s = group_in (first_line rest) in record {
          groups = so.groups ++ s ∷ [];
          many = length-append so.groups (s ∷ []) ∙ omega (arith, so.many);
          table = w.holds ∙ rw (so.table, g.says, sets_snoc so.groups (replicate 24 0) 0 s, so.many, zero-add i);
          same = one_due
              ∙ rw (add-one i, add-suc 3 i, rest-is)
              (read-good g (group_due (3 + i) rest units (count - suc i) so.groups));
        }

  pub groups-read : i ≡ count → GroupsRead text units count found rest
  groups-read e =
      let d : count - i ≡ 0 = omega arith in record {
        groups = so.groups;
        many = so.many ∙ e;
        table = so.table ∙ sets-table 24 0 so.groups;
        goes = so.same ∙ (λ j. steps (3 + e j) (split 10 rest) (GroupDue units (d j) so.groups));
      }

-- ---- all of them

pub none_said : (o : Option (List ℕ)) (b : Bool) → is_some o ≡ not b → b ≡ is_none o
none_said None true h = refl
none_said None false h = absurd cc
none_said (Some x) true h = absurd cc
none_said (Some x) false h = refl

is-build : (p : Parents) → is_none (drawn_of p) ≡ is_build p
unfolding drawn_of is_build
is-build Build = refl
is-build (Drawn ps) = refl

is-table : (p : Parents) → unwrap_or (drawn_of p) (replicate 32 255) ≡ parents_table p
unfolding drawn_of parents_table tabulate
is-table Build = refl
is-table (Drawn ps) = refl

module _ {file : List ℕ} {units count : ℕ} {left : List ℕ} (h : CountsRead file units count left) where
  pub lines-bad : (e : FaultyLine) → BadLine (steps 3 (split 10 left) (GroupDue units count [])) e
      → BadLine (steps 1 (split 10 file) UnitsDue) e
  lines-bad e b = h.goes ∙ b

  module _ {found rest : List ℕ} (part : GroupsRead left units count found rest) where
    drawing_due : steps 1 (split 10 file) UnitsDue ≡ steps (3 + count) (split 10 rest) (GroupDue units 0 part.groups)
    drawing_due = h.goes ∙ part.goes

    pub drawing-bad : (f : Fault) → fault_number f ≡ fault_at (parents_fault units) rest
        → BadLine (steps 1 (split 10 file) UnitsDue) (record { fault = f; line = 3 + count })
    drawing-bad f e = rw drawing_due (read_fault (parents_due (3 + count) rest units part.groups) f e)

    module _ {drawing : Line (Option (List ℕ))} (g : Says (parents_fault units) drawn_in rest drawing) where
      pub drawing-inside : drawing.used ≤ length rest
      drawing-inside = (read-inside g).1

      pub heading_read : {b : Bool} {table : List ℕ} → b ≡ is_none drawing.value
          → table ≡ unwrap_or drawing.value (replicate 32 255)
          → HeadingRead file
          (record { units = units; count = count; groups = found; build = b; parents = table; events = 0 })
          (take (length rest - drawing.used) (drop drawing.used rest))
      unfolding content_of
      heading_read {b} {table} none some =
          let ps = parents_in (first_line rest) in
          let build = none ∙ ap is_none g.says ∙ is-build ps in
          let drawn = some ∙ ap (λ (o : Option (List ℕ)). unwrap_or o (replicate 32 255)) g.says ∙ is-table ps in record {
            few = h.few;
            units = units;
            groups = part.groups;
            parents = ps;
            is = λ i. record {
              units = units;
              count = sym part.many i;
              groups = part.table i;
              build = build i;
              parents = drawn i;
              events = 0;
            };
            goes = drawing_due ∙ rw rest-is
                (read-good g (parents_due (3 + count) rest units part.groups)
                ∙ ap (λ (n : ℕ). steps n (split 10 (drop drawing.used rest)) (EventDue units part.groups ps []))
                (omega (arith, part.many)));
          }
