-- What the promises of `read` and `write` say together: what is read and written again is the same bytes, what is written and read again is
-- the same content and events. Assumes nothing.
use mathlib.Core.Path.{◌≡◌, refl, sym, ap, ap₂, subst, ◌∙◌}
use mathlib.Core.Bool.{Bool, false, ◌||◌}
use mathlib.Core.List.{List, ◌++◌}
use Prim.Native.Nat.{ℕ, ◌+◌, ◌*◌, ◌-◌, ◌≤◌}
use native.Mathlib.Omega.{arith}
use borrow.Author.Tests.{le-ltb}
use lib.ListN.{length, take, drop}
use lib.Seq.{take-append-add, take-append_seam, take_all}
use Rattle.benchfile.specs.File.{File, Outcome, Refused, Good, read_file, text_of}
use Rattle.benchfile.specs.Calls.{ReadReply, WriteReply, content_read}
use Rattle.benchfile.specs.Calls.{ReadNumbers, WroteBytes, read_answer, write_answer, numbers_of, content_of, file_of, read_says}
use Rattle.benchfile.specs.Calls.{read_content, read_leaves, written, write_short, write_says, write_leaves, ReadPromise, WritePromise}
use Rattle.benchfile.specs.Claims.{WellFormed}
use Rattle.benchfile.specs.declared.Content.{Content}
use Rattle.benchfile.proofs.Contents.{numbers-length, file-back, content_well_formed, file-good, content-back, numbers-back}
use Rattle.benchfile.proofs.RoundTrip.{read-text, read-good, read-limits, text-read}

-- an outcome that says numbers is a good file
good-outcome : (o : Outcome) (n line : ℕ) → read_says o ≡ ReadNumbers n line → (F : File) × (o ≡ Good F)
unfolding read_says
good-outcome (Refused refusal) n line h = let z : ◌≡◌ {A = ℕ} 0 1 = cc in absurd (omega arith)
good-outcome (Good F) n line h = (F, refl)

read-good-file : {file events left : List ℕ} {a : ReadReply} {n line : ℕ} → ReadPromise file events a left
    → read_answer a ≡ ReadNumbers n line
    → (F : File) × (read_file (length events) file ≡ Good F)
read-good-file {file} {events} {left} {a} {n} {line} p h = good-outcome (read_file (length events) file) n line (sym p.answers ∙ h)

-- `read` where the file is good
module _ {file events left : List ℕ} {a : ReadReply} {F : File} (p : ReadPromise file events a left)
    (e : read_file (length events) file ≡ Good F) where
  -- every file that the rules call good is read: the answer of no other
  pub good-read : read_answer a ≡ ReadNumbers (3 * length F.events) (3 + length F.groups)
  unfolding read_says
  good-read = p.answers ∙ ap read_says e

  good-content : content_read a ≡ content_of F
  unfolding read_content
  good-content = p.content ∙ ap read_content e

  good_left : left ≡ numbers_of F.events ++ drop (3 * length F.events) events
  unfolding read_leaves
  good_left = p.leaves ∙ ap (λ (o : Outcome). read_leaves o events) e

-- `write` where the lists are long enough and the file not too long
module _ {c : Content} {events out text : List ℕ} {r : WriteReply} {F : File} (p : WritePromise c events out r text)
    (e : file_of c (take 9000 events) ≡ F) (h : 9000 ≤ length events) (l : 32768 ≤ length out) (m : length (text_of F) ≤ 32768)
  where
    long-enough : write_short events out ≡ false
    unfolding write_short
    long-enough = ap₂ ◌||◌ (le-ltb (length events) 9000 h) (le-ltb (length out) 32768 l)

    all-written : written c events ≡ text_of F
    unfolding written
    all-written = ap (λ (G : File). take 32768 (text_of G)) e ∙ take_all 32768 (text_of F) m

    good_wrote : write_answer r ≡ WroteBytes (length (text_of F))
    unfolding write_says
    good_wrote = p.answers ∙ ap₂ write_says long-enough all-written

    good-text : text ≡ text_of F ++ drop (length (text_of F)) out
    unfolding write_leaves
    good-text = p.leaves ∙ ap₂ (λ (b : Bool) (t : List ℕ). write_leaves b t out) long-enough all-written

-- the content of a good file, with what `read` leaves: well-formed, and it says that file
module _ {file events left : List ℕ} {a : ReadReply} {F : File} (p : ReadPromise file events a left)
    (e : read_file (length events) file ≡ Good F) where
  good_well_formed : WellFormed (content_read a) left
  good_well_formed =
      rw (good-content p e, good_left p e)
      (content_well_formed F (read-good (length events) file F e) events (read-limits (length events) file F e).0)

  good-file : file_of (content_read a) (take 9000 left) ≡ F
  good-file =
      let g = read-good (length events) file F e in
      let xs = numbers_of F.events in
      let ys = drop (3 * length F.events) events in
      let l : length xs + (9000 - length xs) ≡ 9000 = let h = g.total in let k = numbers-length F.events in omega arith in
      rw (good-content p e, good_left p e)
      (ap (file_of (content_of F)) (ap (λ (n : ℕ). take n (xs ++ ys)) (sym l) ∙ take-append-add xs ys (9000 - length xs))
      ∙ file-back F g (take (9000 - length xs) ys))

-- the content that `read` answers is well-formed with the events that it leaves
pub read_well_formed : {file events left : List ℕ} {a : ReadReply} {n line : ℕ}
    → ReadPromise file events a left → read_answer a ≡ ReadNumbers n line → WellFormed (content_read a) left
read_well_formed p h = let (F, e) = read-good-file p h in good_well_formed p e

-- what is read and written again is the same bytes; the rest of the list stays
pub read-written : {file events left out text : List ℕ} {a : ReadReply} {r : WriteReply} {n line : ℕ}
    → ReadPromise file events a left → read_answer a ≡ ReadNumbers n line → WritePromise (content_read a) left out r text
    → 32768 ≤ length out
    → (write_answer r ≡ WroteBytes (length file)) × (text ≡ file ++ drop (length file) out)
read-written {file} {events} {left} {out} {text} {a} {r} {n} {line} p h q l =
    let (F, e) = read-good-file p h in
    let t : text_of F ≡ file = read-text (length events) file F e in
    let m : length (text_of F) ≤ 32768 = subst (λ (x : List ℕ). length x ≤ 32768) (sym t) (read-limits (length events) file F e).1 in
    let lent : 9000 ≤ length left = (good_well_formed p e).lent in (
      good_wrote q (good-file p e) lent l m ∙ ap (λ (x : List ℕ). WroteBytes (length x)) t,
      good-text q (good-file p e) lent l m ∙ ap (λ (x : List ℕ). x ++ drop (length x) out) t,
    )

-- what is written and read again is the same content and events; the rest of the list stays
pub written_read : {c : Content} {events out text list left : List ℕ} {r : WriteReply} {a : ReadReply} {n : ℕ}
    → WellFormed c events → length (text_of (file_of c (take 9000 events))) ≤ 32768
    → 32768 ≤ length out → WritePromise c events out r text → write_answer r ≡ WroteBytes n → 9000 ≤ length list
    → ReadPromise (take n text) list a left
    → (read_answer a ≡ ReadNumbers (3 * c.events) (3 + c.count)) × (content_read a ≡ c)
    × (left ≡ take (3 * c.events) events ++ drop (3 * c.events) list)
unfolding content_of
written_read {c} {events} {out} {text} {list} {left} {r} {a} {n} w m l q k lent p =
    let F = file_of c (take 9000 events) in
    let b : content_of F ≡ c = content-back c events w in
    let es : length F.events ≡ c.events = ap (λ (d : Content). d.events) b in
    let gs : length F.groups ≡ c.count = ap (λ (d : Content). d.count) b in
    let len : n ≡ length (text_of F) = let k' = good_wrote q refl w.lent l m in cc in
    let t : take n text ≡ text_of F =
    ap₂ (λ (x : ℕ) (y : List ℕ). take x y) len (good-text q refl w.lent l m)
    ∙ take-append_seam (text_of F) (drop (length (text_of F)) out) in
    let e : read_file (length list) (take n text) ≡ Good F = ap (read_file (length list)) t
    ∙ text-read (length list) F (file-good c events w) lent m in (
      good-read p e ∙ ap₂ (λ (x y : ℕ). ReadNumbers (3 * x) (3 + y)) es gs,
      good-content p e ∙ b,
      good_left p e ∙ ap₂ (λ (xs : List ℕ) (x : ℕ). xs ++ drop (3 * x) list) (numbers-back c events w) es,
    )

-- what `read` answered, written and read again, is the same: the answer, the content and the events; the rest of the list stays
pub read_again : {file events left out text list again : List ℕ} {a b : ReadReply} {r : WriteReply} {n line k : ℕ}
    → ReadPromise file events a left → read_answer a ≡ ReadNumbers n line
    → WritePromise (content_read a) left out r text → 32768 ≤ length out → write_answer r ≡ WroteBytes k
    → 9000 ≤ length list → ReadPromise (take k text) list b again
    → (read_answer b ≡ ReadNumbers n line) × (content_read b ≡ content_read a) × (again ≡ take n left ++ drop n list)
unfolding content_of
read_again {file} {events} {left} {out} {text} {list} {again} {a} {b} {r} {n} {line} {k} p h q l wrote lent p' =
    let (F, e) = read-good-file p h in
    let m : length (text_of (file_of (content_read a) (take 9000 left))) ≤ 32768 = subst (λ (x : List ℕ). length x ≤ 32768)
    (sym (ap text_of (good-file p e) ∙ read-text (length events) file F e)) (read-limits (length events) file F e).1 in
    let (says, same, leaves) = written_read (good_well_formed p e) m l q wrote lent p' in
    let told : ReadNumbers (3 * (content_read a).events) (3 + (content_read a).count) ≡ ReadNumbers n line =
    ap (λ (c : Content). ReadNumbers (3 * c.events) (3 + c.count)) (good-content p e) ∙ sym (good-read p e) ∙ h in
    let count : 3 * (content_read a).events ≡ n = cc in
    (says ∙ told, same, leaves ∙ ap (λ (x : ℕ). take x left ++ drop x list) count)
