-- What `read` says tells whether the file was good, and so what is stored.
use mathlib.Core.Path.{◌≡◌, ap, ◌∙◌}
use mathlib.Core.List.{List}
use Prim.Native.Nat.{ℕ}
use lib.ListN.{length}
use Rattle.benchfile.specs.File.{read_file}
use Rattle.benchfile.specs.Calls.{Answer, read_answer, read_content, content_read}
use Rattle.benchfile.specs.declared.Content.{Content}
use Rattle.scrollcairn_c.specs.Exported.{told_by, counts_of, stored_of}
use Rattle.scrollcairn_c.proofs.Reading.{refused-stored, good-stored}
use Rattle.scrollcairn_c.proofs.scrollcairn_read.Goals as goal

pub returns-in-Ok : goal.returns-in-Ok
unfolding told_by read_answer content_read
returns-in-Ok c =
    let said = c.in-Ok.ensures in
    let o = read_file (length c.args.events.now) c.args.file.now in
    let changes : (f : Content → List ℕ) (before : List ℕ) → f (read_content o) ≡ stored_of f o before =
    λ f before. good-stored f before o _ _ said.answers in
    record {
      answers = c.put-in-Ok.ensures ∙ c.told.ensures ∙ ap (λ (a : Answer). told_by a 0) said.answers;
      leaves-events = said.leaves;
      leaves-groups = c.put.ensures.0 ∙ ap (λ (x : Content). x.groups) said.content ∙ changes (λ x. x.groups) _;
      leaves-parents = c.put.ensures.1 ∙ ap (λ (x : Content). x.parents) said.content ∙ changes (λ x. x.parents) _;
      leaves-counts = c.put.ensures.2 ∙ ap counts_of said.content ∙ changes counts_of _;
    }

pub returns-in-Err : goal.returns-in-Err
returns-in-Err c =
    let said = c.in-Err.ensures in
    let o = read_file (length c.args.events.now) c.args.file.now in
    let stays : (f : Content → List ℕ) (before : List ℕ) → before ≡ stored_of f o before =
    λ f before. refused-stored f before o _ said.answers in
    record {
      answers = c.put-in-Err.ensures ∙ c.of_unread.ensures ∙ ap (λ (a : Answer). told_by a 0) said.answers;
      leaves-events = said.leaves;
      leaves-groups = stays (λ x. x.groups) _;
      leaves-parents = stays (λ x. x.parents) _;
      leaves-counts = stays counts_of _;
    }
