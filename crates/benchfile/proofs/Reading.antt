-- Laws of `read`: a file that is turned away, and one that was read. Assumes nothing.
use mathlib.Core.Path.{◌≡◌, refl, sym, ap, ◌∙◌}
use mathlib.Core.List.{List, ◌++◌}
use Prim.Native.Nat.{ℕ, ◌+◌, ◌*◌, ◌≤◌, ◌<◌}
use native.Mathlib.Omega.{arith}
use borrow.Author.Tests.{lt-ltb, le-ltb}
use lib.ListN.{length, drop}
use Rattle.std.specs.Prelude.{Ok, Err}
use Rattle.text.specs.Text.{split}
use Rattle.text.proofs.Written.{written-fits}
use Rattle.lines.specs.Lines.{refuse}
use Rattle.benchfile.specs.File.{UnitsDue, Refused, Good, steps, read_file}
use Rattle.benchfile.specs.Calls.{read_answer, content_read, TurnedAway, ReadNumbers, read_says, read_content, read_leaves}
use Rattle.benchfile.specs.Calls.{ReadPromise, numbers_of, content_of}
use Rattle.benchfile.specs.Steps.{BadLine, HeadingRead, EventsRead, EventsRefused, NumbersPut}
use Rattle.benchfile.specs.declared.Content.{Content}
use Rattle.benchfile.specs.declared.FaultyLine.{FaultyLine}
use Rattle.benchfile.specs.declared.ReadRefusal.{ReadRefusal}
use Rattle.benchfile.specs.declared.ReadRefusal.TheVariants.{ListTooShort, FileTooLong, Faulty}
use Rattle.benchfile.proofs.Contents.{numbers-length}

-- turned away: the list stays
turned : {file list : List ℕ} (e : ReadRefusal) {refusal : List ℕ} → read_file (length list) file ≡ Refused refusal
    → read_answer (Err e) ≡ TurnedAway refusal → ReadPromise file list (Err e) list
unfolding read_says read_content read_leaves content_read
turned r e a = record { answers = rw (a, e); content = rw e refl; leaves = rw e refl }

pub too_short : (file list : List ℕ) → length list < 9000 → ReadPromise file list (Err ListTooShort) list
unfolding read_file refuse read_answer
too_short file list h = turned ListTooShort (simp (lt-ltb (length list) 9000 h)) refl

pub too_long : (file list : List ℕ) → 9000 ≤ length list → 32768 < length file → ReadPromise file list (Err FileTooLong) list
unfolding read_file refuse read_answer
too_long file list lent h = turned FileTooLong (simp (le-ltb (length list) 9000 lent, lt-ltb 32768 (length file) h)) refl

module _ (file list : List ℕ) (lent : 9000 ≤ length list) (fits : length file ≤ 32768) where
  by-steps : read_file (length list) file ≡ steps 1 (split 10 file) UnitsDue
  unfolding read_file refuse
  by-steps = simp (le-ltb (length list) 9000 lent, le-ltb 32768 (length file) fits)

  -- by the fault of a line
  pub line-turned : (e : FaultyLine) → BadLine (steps 1 (split 10 file) UnitsDue) e → ReadPromise file list (Err (Faulty e)) list
  unfolding read_answer
  line-turned e bad = turned (Faulty e) (by-steps ∙ bad) refl

  -- the events behind the heading
  module _ {content : Content} {rest : List ℕ} (h : HeadingRead file content rest) where
    lines-many : content.count ≡ length h.groups
    unfolding content_of
    lines-many = ap (λ (c : Content). c.count) h.is

    pub events-turned : {left : List ℕ} {first : ℕ} (e : FaultyLine) → first ≡ 4 + content.count
        → EventsRefused rest first e × (left ≡ list) → ReadPromise file list (Err (Faulty e)) left
    events-turned {left} {first} e place r =
        let n : 4 + length h.groups ≡ first = omega (arith, lines-many) in
        rw r.1 (line-turned e (h.goes ∙ rw n (r.0 h.units h.groups h.parents)))

    pub file-read : {left : List ℕ} {count : ℕ} → EventsRead rest (NumbersPut list left) count
        → ReadPromise file list
        (Ok (record {
          content = record {
            units = content.units;
            count = content.count;
            groups = content.groups;
            build = content.build;
            parents = content.parents;
            events = count;
          };
          numbers = 3 * count;
          line = 3 + content.count;
        })) left
    unfolding read_answer content_read read_says read_content read_leaves content_of
    file-read {left} {count} read =
        let es = read.events in let gs = h.groups in
        let said : read_file (length list) file ≡ Good (record { units = h.units; groups = gs; parents = h.parents; events = es }) =
        by-steps ∙ h.goes ∙ read.goes (4 + length gs) h.units gs h.parents in
        let many : count ≡ length es = sym read.many in
        let long : length (numbers_of es) ≡ 3 * length es = numbers-length es in
        let fit = written-fits read.held.1 (omega (arith, read.few)) in record {
          answers = rw said (λ i. ReadNumbers (3 * many i) (3 + lines-many i));
          content = rw said (λ i. record {
            units = (h.is i).units;
            count = (h.is i).count;
            groups = (h.is i).groups;
            build = (h.is i).build;
            parents = (h.is i).parents;
            events = many i;
          });
          leaves = rw said (fit.1 ∙ ap (λ (k : ℕ). numbers_of es ++ drop k list) long);
        }
