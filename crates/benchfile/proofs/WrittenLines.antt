-- Laws of the lines that `write` writes: one line more, the lines of a file, the events of a list, and a part of a list that was lent for
-- the text. Assumes nothing.
use mathlib.Core.Path.{◌≡◌, refl, sym, ap, ◌∙◌}
use mathlib.Core.Logic.{◌⊎◌, inl, inr, by_cases}
use mathlib.Core.List.{List, [], ◌∷◌, ◌++◌, map, append_assoc, append-nil, map-append}
use Prim.Native.Nat.{ℕ, zero, suc, ◌+◌, ◌*◌, ◌-◌, ◌≤◌, ◌<◌, min}
use native.Mathlib.Nat.{lt_irrefl, zero-add, suc-add}
use native.Mathlib.Numerals.{add-one}
use native.Mathlib.Decide.{dec_lt}
use native.Mathlib.Omega.{arith}
use borrow.Author.Tests.{lt-ltb, le-ltb}
use lib.ListN.{length, take, drop, get_or, take-append-drop, length-take, length-drop}
use lib.Seq.{take-suc, take_all, length-take-le, drop-append-le, drop-cons}
use Rattle.std.specs.Prelude.{Err}
use Rattle.text.specs.declared.writing.Output.{Output}
use Rattle.text.specs.Writing.{Written, Writes}
use Rattle.text.proofs.Written.{writes_append, written-full}
use Rattle.lines.specs.Lines.{Event, event_of, count_line, units_key, groups_key, group_line, parents_line, event_line}
use Rattle.benchfile.specs.File.{File, lines_of, ended, text_of}
use Rattle.benchfile.specs.Calls.{events_from, write_answer, write_says, write_short, write_leaves, WritePromise}
use Rattle.benchfile.specs.declared.Content.{Content}

-- ---- lines with their LFs

pub ended_append : (xs ys : List (List ℕ)) → ended (xs ++ ys) ≡ ended xs ++ ended ys
unfolding ended
ended_append [] ys = refl
ended_append (x ∷ xs) ys = rw (ended_append xs ys) (sym (append_assoc x (10 ∷ ended xs) (ended ys)))

-- ---- one line after the others

module _ {a b c : Output ℕ} where
  -- the line of one thing more
  pub writes-line : {A : Type 0} (f : A → List ℕ) (xs : List A) (x : A)
      → Writes (ended (map f xs)) a b → Writes (f x ++ 10 ∷ []) b c → Writes (ended (map f (xs ++ x ∷ []))) a c
  unfolding ended
  writes-line f xs x v w = rw (map-append f xs (x ∷ []), ended_append (map f xs) (f x ∷ [])) (writes_append v w)

  -- the line of the next of the first so many
  pub writes-turn : (f : ℕ → List ℕ) (xs : List ℕ) (i : ℕ) → i < length xs
      → Writes (ended (map f (take i xs))) a b → Writes (f (get_or xs i 0) ++ 10 ∷ []) b c
      → Writes (ended (map f (take (i + 1) xs))) a c
  writes-turn f xs i h v w = rw (add-one i, take-suc xs i 0 h) (writes-line f (take i xs) (get_or xs i 0) v w)

-- ---- a file

pub writes-file : (F : File) {a b c d e f : Output ℕ}
    → Writes (count_line units_key F.units ++ 10 ∷ []) a b
    → Writes (count_line groups_key (length F.groups) ++ 10 ∷ []) b c
    → Writes (ended (map group_line F.groups)) c d
    → Writes (parents_line F.parents ++ 10 ∷ []) d e
    → Writes (ended (map event_line F.events)) e f
    → Writes (text_of F) a f
unfolding text_of lines_of ended
writes-file F u g gs p es =
    rw (ended_append (map group_line F.groups) (parents_line F.parents ∷ map event_line F.events))
    (simp append_assoc at (writes_append u (writes_append g (writes_append gs (writes_append p es)))))

-- of n places at most n count
pub take_places : (l : List ℕ) (n k : ℕ) {m : ℕ} → length l ≡ n → m ≡ min k n
    → (take m l ≡ take k l) × (m ≡ length (take k l))
take_places l n k {m} e h = by_cases (dec_lt k n)
    (λ b. let s : m ≡ k = omega (arith, h) in (ap (λ (i : ℕ). take i l) s, simp length-take (omega arith)))
    (λ b. let s : m ≡ n = omega (arith, h) in
    (take_all m l (omega arith) ∙ sym (take_all k l (omega arith)), simp length-take (omega arith)))

-- ---- the events of a list of numbers

-- fewer than three numbers are no event
events-few : (m : ℕ) (ns : List ℕ) → length ns < 3 → events_from m ns ≡ []
unfolding events_from
events-few zero ns h = refl
events-few (suc m) [] h = refl
events-few (suc m) (a ∷ []) h = refl
events-few (suc m) (a ∷ b ∷ []) h = refl
events-few (suc m) (a ∷ b ∷ c ∷ ns) h = elim (lt_irrefl 0 (omega arith)) [ ]

triple : (k : ℕ) → 3 * suc k ≡ suc (suc (suc (3 * k)))
triple k = omega arith

-- k events, and then those of the numbers behind them
events-split : (k m : ℕ) (ns : List ℕ) → events_from (k + m) ns ≡ events_from k ns ++ events_from m (drop (3 * k) ns)
unfolding events_from
events-split zero m ns = rw (zero-add m)
events-split (suc k) m [] = rw (suc-add k m, triple k) (sym (events-few m [] (omega arith)))
events-split (suc k) m (a ∷ []) = rw (suc-add k m, triple k) (sym (events-few m [] (omega arith)))
events-split (suc k) m (a ∷ b ∷ []) = rw (suc-add k m, triple k) (sym (events-few m [] (omega arith)))
events-split (suc k) m (a ∷ b ∷ c ∷ ns) =
    rw (suc-add k m, triple k) (ap (λ (es : List Event). event_of a b c ∷ es) (events-split k m ns))

-- with three numbers more, one event more; i is the place of the next number
pub events-more : (k i : ℕ) (ns : List ℕ) → i ≡ 3 * k → i + 3 ≤ length ns
    → events_from (k + 1) ns ≡ events_from k ns ++ event_of (get_or ns i 0) (get_or ns (i + 1) 0) (get_or ns (i + 2) 0) ∷ []
unfolding events_from
events-more k i ns e h =
    let two : i + 2 ≡ suc (suc i) = omega arith in
    rw (
      events-split k 1 ns,
      ← e,
      drop-cons ns i 0 (omega arith),
      drop-cons ns (suc i) 0 (omega arith),
      drop-cons ns (suc (suc i)) 0 (omega arith),
      add-one i,
      two,
    )

-- without, the events are all there are
pub events-end : (k m i : ℕ) (ns : List ℕ) → i ≡ 3 * k → length ns - i < 3 → k ≤ m → events_from m ns ≡ events_from k ns
events-end k m i ns e l g =
    let more : m ≡ k + (m - k) = omega arith in
    let few : length (drop (3 * k) ns) < 3 = simp length-drop (omega arith) in
    rw more (events-split k (m - k) ns ∙ rw (events-few (m - k) _ few) (append-nil (events_from k ns)))

-- ---- the front of a list is lent for the text and comes back

pub written-part : {t left : List ℕ} {place : ℕ} (out : List ℕ) (k : ℕ) → k ≤ length out → Written t 0 (take k out) place left
    → (place ≡ length (take k t)) × (left ++ drop k out ≡ take k t ++ drop (length (take k t)) out)
written-part {t} out k h w =
    let full = rw (length-take-le k out h) at (written-full w) in
    let n : ℕ = length (take k t) in
    let fits : n ≤ length (take k out) = simp length-take (omega arith) in (
      full.0,
      ap (λ (l : List ℕ). l ++ drop k out) full.1
          ∙ append_assoc (take k t) (drop n (take k out)) (drop k out)
          ∙ ap (λ (l : List ℕ). take k t ++ l) (sym (drop-append-le n (take k out) (drop k out) fits)
          ∙ ap (drop n) (take-append-drop k out)),
    )

-- ---- a list is too short

pub write_refused : (c : Content) (events out : List ℕ) → (length events < 9000) ⊎ ((9000 ≤ length events) × (length out < 32768))
    → WritePromise c events out (Err (record {})) out
unfolding write_answer write_says write_short write_leaves
write_refused c events out (inl h) = let short = lt-ltb _ _ h in record { answers = simp short; leaves = simp short }
write_refused c events out (inr h) =
    let long = le-ltb _ _ h.0 in
    let short = lt-ltb _ _ h.1 in record { answers = simp (long, short); leaves = simp (long, short) }
