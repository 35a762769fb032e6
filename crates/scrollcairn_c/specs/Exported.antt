-- What the exported calls promise (include/scrollcairn.h, scrollcairn_replay.h), but for the live ones: what each answers and leaves in
-- all that it is lent, for every input. Definitions only.
use Rattle.std.specs.Prelude.{ℕ, ◌%◌, ◌≡◌, not, List, [], ◌∷◌, length, get_or, eqb}
use Rattle.model.specs.Network.{bit}
use Rattle.forest.specs.Calls.{build_refusal, build_parents, check_refusal, check_parents}
use Rattle.benchfile.specs.File.{Outcome, Refused, Good, read_file}
use Rattle.benchfile.specs.Calls.{Answer as Reply, TurnedAway, ReadNumbers, WroteBytes, content_of, read_says, read_leaves}
use Rattle.benchfile.specs.Calls.{written, write_short, write_says, write_leaves}
use Rattle.benchfile.specs.declared.Content.{Content}
use Rattle.runner.specs.Printed.{printed, result, taken_by, output_short}
use Rattle.c_answers.specs.Answers.{numbers_of, refused_for, unless_refused}
use Rattle.c_answers.specs.declared.Answer.{Answer}
use Rattle.call_replay.specs.Rules.{Given, CallsPromise}

-- the three numbers of an answer: a refusal; what was read; or what was written, and a third number
unfoldable pub told_by : Reply → ℕ → List ℕ
told_by (TurnedAway refusal) third = refused_for refusal
told_by (ReadNumbers n line) third = 0 ∷ n ∷ line ∷ []
told_by (WroteBytes n) third = 0 ∷ n ∷ third ∷ []

-- ---- run

pub record RunExported (file out left answer : List ℕ) : Type 0 where
  pub answers : answer ≡ told_by (write_says (output_short out) (printed file)) (taken_by (result file))
  pub leaves : left ≡ write_leaves (output_short out) (printed file) out

-- ---- build and check

pub record BuildExported (units : ℕ) (groups : List ℕ) (count : ℕ) (parents left answer : List ℕ) : Type 0 where
  pub answers : answer ≡ refused_for (build_refusal units count groups)
  pub leaves : left ≡ unless_refused (build_refusal units count groups) (build_parents units count groups) parents

pub record CheckExported (units : ℕ) (groups : List ℕ) (count : ℕ) (drawn parents left answer : List ℕ) : Type 0 where
  pub answers : answer ≡ refused_for (check_refusal units count groups drawn)
  pub leaves : left ≡ unless_refused (check_refusal units count groups drawn) (check_parents units count groups drawn) parents

-- ---- read

-- the units, the groups that count, 1 for `parents=build`, and the events
unfoldable pub counts_of : Content → List ℕ
counts_of c = c.units ∷ c.count ∷ bit c.build ∷ c.events ∷ []

-- a file that is refused leaves what was lent; of a good one some numbers of its content are left
unfoldable pub stored_of : (Content → List ℕ) → Outcome → List ℕ → List ℕ
stored_of f (Refused refusal) before = before
stored_of f (Good F) before = f (content_of F)

pub record ReadExported (file events groups parents counts events-left groups-left parents-left counts-left answer : List ℕ) : Type
    0 where
  pub answers : answer ≡ told_by (read_says (read_file (length events) file)) 0
  pub leaves-events : events-left ≡ read_leaves (read_file (length events) file) events
  pub leaves-groups : groups-left ≡ stored_of (λ c. c.groups) (read_file (length events) file) groups
  pub leaves-parents : parents-left ≡ stored_of (λ c. c.parents) (read_file (length events) file) parents
  pub leaves-counts : counts-left ≡ stored_of counts_of (read_file (length events) file) counts

-- ---- write

-- the content that such lists say: of the first two counts the last eight bits, and `parents=build` for any third but 0
unfoldable pub content_from : (groups parents counts : List ℕ) → Content
content_from groups parents counts = record {
  units = get_or counts 0 0 % 256;
  count = get_or counts 1 0 % 256;
  groups = groups;
  build = not (eqb (get_or counts 2 0) 0);
  parents = parents;
  events = get_or counts 3 0;
}

pub record WriteExported (groups parents counts events out left answer : List ℕ) : Type 0 where
  pub answers : answer ≡ told_by (write_says (write_short events out) (written (content_from groups parents counts) events)) 0
  pub leaves : left ≡ write_leaves (write_short events out) (written (content_from groups parents counts) events) out

-- ---- calls

-- the three numbers are those of the answer that the rules of a list of calls promise
pub record CallsExported (g : Given) (book hops bench replies answer : List ℕ) : Type 0 where
  pub told : Answer
  pub promise : CallsPromise g told book hops bench replies
  pub answers : answer ≡ numbers_of told
