-- Where a list is too short nothing is written; else the text stands in the part of the list that was lent for it.
use mathlib.Core.Path.{◌≡◌, sym, ap, ◌∙◌}
use mathlib.Core.List.{List, ◌++◌}
use Prim.Native.Nat.{ℕ, ◌≤◌}
use native.Mathlib.Omega.{arith}
use borrow.Author.Tests.{le-ltb}
use lib.ListN.{length, drop}
use Rattle.benchfile.specs.Calls.{WroteBytes, write_answer, written, write_short, write_says, write_leaves}
use Rattle.benchfile.proofs.WrittenLines.{written-part, write_refused}
use Rattle.benchfile.proofs.write.Goals as goal

pub returns-then-list-lt9000 : goal.returns-then-list-lt9000
returns-then-list-lt9000 c = write_refused _ _ _ c.then-list-lt9000.either

-- where both lists are long enough
wrote : (events out text : List ℕ) → 9000 ≤ length events → 32768 ≤ length out
    → (write_says (write_short events out) text ≡ WroteBytes (length text))
    × (write_leaves (write_short events out) text out ≡ text ++ drop (length text) out)
unfolding write_says write_short write_leaves
wrote events out text many room = let list = le-ltb _ _ many in let long = le-ltb _ _ room in (simp (list, long), simp (list, long))

pub returns : goal.returns
unfolding write_answer written
returns c =
    let a = c.args in
    let rule = wrote a.list.now a.out.now (written a.content a.list.now) c.if-list-lt9000.false (omega arith) in
    let part = written-part a.out.now 32768 (omega arith) c.put_file-bytes.ensures in
    record { answers = ap WroteBytes part.0 ∙ sym rule.0; leaves = part.1 ∙ sym rule.1 }
