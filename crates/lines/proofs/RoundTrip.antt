-- Lines read and written: a line without fault is the one written for what it says, and what a line can say is read back from it. No line
-- has a LF, and a fault is a number from 3 to 9. Assumes nothing.
use Rattle.sets.specs.Sets.{including}
use mathlib.Core.Path.{◌≡◌, refl, sym, ap, ◌∙◌}
use mathlib.Core.Logic.{⊎_elim}
use mathlib.Core.Bool.{true, false, not, ◌||◌, cond, true≢false}
use mathlib.Core.List.{List, [], ◌∷◌, ◌++◌, map, cons≢nil, foldl}
use Prim.Native.Nat.{ℕ, suc, ◌≤◌, ◌<◌, suc-le-suc}
use native.Mathlib.Nat.{lt_irrefl, lt_of_lt_of_le}
use native.Mathlib.Omega.{arith}
use lib.ListN.{length, get_or, length-map, drop_of_length-le}
use lib.Seq.{drop-cons}
use lib.Dec.{ltb, leb, eqb}
use lib.Pow.{pow_mono}
use borrow.Author.Tests.{le-ltb, lt-leb, eq-eqb, ltb-false, leb-false, eqb-true, not-false}
use Rattle.sets.proofs.Bools.{either, or_none, not-true-false}
use Rattle.text.specs.Text.{number, decimal, starts_with, after, is_word, some}
use Rattle.text.proofs.Keys.{starts_append, after_append, word-is, word_same}
use Rattle.text.proofs.Numbers.{number-decimal, decimal-number, decimal-without}
use Rattle.text.proofs.Pieces.{Without, without_append}
use Rattle.lines.specs.Lines.{refuse, commas, numbers_in, units_key, groups_key, count_in, count_fault, count_line, group_key, group_in}
use Rattle.lines.specs.Lines.{group_fault, group_line, rises_from, members_from, send_key, arrive_key, Event, Send, Arrive, bad_send}
use Rattle.lines.specs.Lines.{event_fault, event_in, event_line, parents_key, build_word, Parents, Build, Drawn, entries_in, parent_of}
use Rattle.lines.specs.Lines.{parent_text, parents_fault, parents_in, parents_line}
use Rattle.lines.specs.Good.{GoodGroup, GoodParents, GoodEvent}
use Rattle.lines.proofs.Faults.{none_from, refuse-none, FaultNumber, no_fault, refuse-number, cond-number}
use Rattle.lines.proofs.Values.{key_written, numbers-written, numbers-read, numbers-some, commas-without}
use Rattle.lines.proofs.MemberLists.{list_below, list_some, list_again, set-again, from-rises, from-below}
use Rattle.lines.proofs.ParentTexts.{text-without, entries_written, entries_read, entry-parent}

-- ---- a line that says a number

pub count-said : (key : List ℕ) (least most : ℕ) (line : List ℕ) → count_fault key least most line ≡ 0
    → (count_line key (count_in key line) ≡ line) × (least ≤ count_in key line) × (count_in key line ≤ most)
unfolding count_fault count_line count_in
count-said key least most line h =
    let n = count_in key line in
    let a = refuse-none (not (starts_with key line)) 2 _ h in
    let b = refuse-none (ltb 65535 n) 3 _ a.1 in
    let c = or_none (ltb n least) (ltb most n) (refuse-none _ 4 0 b.1).0
    in (
      key_written key line (decimal n) (not-false (starts_with key line) a.0)
          (decimal-number 65535 (omega arith) (after key line) b.0),
      ltb-false n least c.0,
      ltb-false most n c.1,
    )

pub count-read : (key : List ℕ) (least most n : ℕ) → least ≤ n → n ≤ most → n ≤ 65535
    → (count_fault key least most (count_line key n) ≡ 0) × (count_in key (count_line key n) ≡ n)
unfolding count_fault count_line count_in refuse
count-read key least most n l m f =
    let e : count_in key (count_line key n) ≡ n = ap number (after_append key (decimal n)) ∙ number-decimal n (omega arith)
    in (simp (e, starts_append key (decimal n), le-ltb 65535 n f, le-ltb n least l, le-ltb most n m), e)

pub count_fault-number : (key : List ℕ) (least most : ℕ) (line : List ℕ) → FaultNumber (count_fault key least most line)
unfolding count_fault
count_fault-number key least most line =
    refuse-number _ 3 tt tt (refuse-number _ 4 tt tt (refuse-number _ 5 tt tt no_fault))

-- ---- an event

pub three_numbers : (ns : List ℕ) → length ns ≡ 3 → ns ≡ get_or ns 0 0 ∷ get_or ns 1 0 ∷ get_or ns 2 0 ∷ []
three_numbers ns e =
    drop-cons ns 0 0 (omega arith) ∙ cc (
      drop-cons ns 1 0 (omega arith),
      drop-cons ns 2 0 (omega arith),
      drop_of_length-le ns {i = 3} (omega arith),
    )

no_bad_three : (a b c : ℕ) → a < 65535 → b < 65536 → c < 4294967296 → some (ltb 4294967295) (a ∷ b ∷ c ∷ []) ≡ false
unfolding some
no_bad_three a b c l m n = simp (lt-leb 4294967296 a (omega arith), lt-leb 4294967296 b (omega arith), lt-leb 4294967296 c n)

-- the numbers of a good send
record Three (ns : List ℕ) : Type 0 where
  are : ns ≡ get_or ns 0 0 ∷ get_or ns 1 0 ∷ get_or ns 2 0 ∷ []
  source : get_or ns 0 0 < 65535
  group : get_or ns 1 0 < 65536
  word : get_or ns 2 0 < 4294967296

good-send : (ns : List ℕ) → bad_send ns ≡ false → Three ns
unfolding bad_send
good-send ns h =
    let a = or_none (not (eqb (length ns) 3)) _ h in
    let b = or_none (leb 65535 (get_or ns 0 0)) _ a.1 in
    let c = or_none (leb 65536 (get_or ns 1 0)) _ b.1
    in record {
      are = three_numbers ns (eqb-true (length ns) 3 (not-false _ a.0));
      source = leb-false 65535 (get_or ns 0 0) b.0;
      group = leb-false 65536 (get_or ns 1 0) c.0;
      word = leb-false 4294967296 (get_or ns 2 0) c.1;
    }

send-said : (line : List ℕ) → starts_with send_key line ≡ true → bad_send (numbers_in (after send_key line)) ≡ false
    → (event_line (event_in line) ≡ line) × GoodEvent (event_in line)
unfolding event_line event_in
send-said line s h =
    let v = after send_key line in let t = good-send (numbers_in v) h in
    let ns = get_or (numbers_in v) 0 0 ∷ get_or (numbers_in v) 1 0 ∷ get_or (numbers_in v) 2 0 ∷ [] in
    let none : some (ltb 4294967295) (numbers_in v) ≡ false = rw t.are (no_bad_three _ _ _ t.source t.group t.word)
    in simp s (
      key_written send_key line (commas (map decimal ns)) s (ap (λ (l : List ℕ). commas (map decimal l)) (sym t.are)
          ∙ numbers-written 4294967295 (omega arith) v none),
      (t.source, t.group, t.word),
    )

arrive-said : (line : List ℕ) → starts_with send_key line ≡ false → starts_with arrive_key line ≡ true
    → ltb 65535 (number (after arrive_key line)) ≡ false
    → (event_line (event_in line) ≡ line) × GoodEvent (event_in line)
unfolding event_line event_in
arrive-said line n s h =
    simp n (
      key_written arrive_key line _ s (decimal-number 65535 (omega arith) (after arrive_key line) h),
      leb-false 65536 (number (after arrive_key line)) h,
    )

pub event-said : (k : ℕ) (line : List ℕ) → event_fault k line ≡ 0 → (event_line (event_in line) ≡ line)
    × GoodEvent (event_in line) × (k < 3000)
unfolding event_fault
event-said k line h =
    let a = refuse-none (not (starts_with send_key line || starts_with arrive_key line)) 2 _ h in
    let b = refuse-none (cond (starts_with send_key line) _ _) 3 _ a.1 in
    let c = leb-false 3000 k (refuse-none (leb 3000 k) 8 0 b.1).0 in
    let r = ⊎_elim
    (λ (s : starts_with send_key line ≡ true). send-said line s (simp s at b.0))
    (λ (s : starts_with send_key line ≡ false). arrive-said line s (not-false _ (simp s at a.0)) (simp s at b.0))
    (either (starts_with send_key line))
    in (r.0, r.1, c)

pub event-read : (k : ℕ) (e : Event) → k < 3000 → GoodEvent e → (event_fault k (event_line e) ≡ 0) × (event_in (event_line e)
    ≡ e)
unfolding event_fault event_line event_in bad_send refuse starts_with send_key arrive_key
event-read k (Send s g w) l (a, b, c) =
    let v = commas (decimal s ∷ decimal g ∷ decimal w ∷ []) in
    let e : numbers_in (after send_key (send_key ++ v)) ≡ s ∷ g ∷ w ∷ [] =
    ap numbers_in (after_append send_key v)
    ∙ numbers-read 4294967295 (omega arith) (s ∷ g ∷ w ∷ []) cons≢nil (no_bad_three s g w a b c)
    in (simp (e, lt-leb 65535 s a, lt-leb 65536 g b, lt-leb 4294967296 w c, lt-leb 3000 k l), simp e)
event-read k (Arrive h) l b =
    let e : number (after arrive_key (arrive_key ++ decimal h)) ≡ h =
    ap number (after_append arrive_key (decimal h)) ∙ number-decimal h (omega arith)
    in (simp (e, lt-leb 65536 h b, lt-leb 3000 k l), simp e)

pub event_fault-number : (k : ℕ) (line : List ℕ) → FaultNumber (event_fault k line)
unfolding event_fault
event_fault-number k line =
    refuse-number _ 3 tt tt (refuse-number _ 4 tt tt (refuse-number _ 9 tt tt no_fault))

-- ---- a group

pub group-said : (n : ℕ) (line : List ℕ) → n ≤ 32 → group_fault n line ≡ 0 → (group_line (group_in line) ≡ line)
    × GoodGroup n (group_in line)
unfolding group_fault group_line group_in
group-said n line f h =
    let v = after group_key line in let ms = numbers_in v in
    let a = refuse-none (not (starts_with group_key line)) 2 _ h in
    let b = refuse-none (some (ltb 65535) ms) 3 _ a.1 in
    let c = refuse-none (some (leb n) ms) 5 _ b.1 in
    let r = not-false (rises_from 0 ms) (refuse-none _ 6 0 c.1).0 in
    let w = none_from n 32 ms f c.0 in let m = numbers-some v
    in (
      key_written group_key line _ (not-false (starts_with group_key line) a.0)
          (ap (λ (l : List ℕ). commas (map decimal l)) (list_again ms r w) ∙ numbers-written 65535 (omega arith) v b.0),
      record { some = list_some ms m.0 m.1 m.2 w; below = list_below n ms f c.0 },
    )

pub group-read : (n s : ℕ) → n ≤ 32 → GoodGroup n s → (group_fault n (group_line s) ≡ 0) × (group_in (group_line s) ≡ s)
unfolding group_fault group_line group_in refuse
group-read n s f g =
    let ms = members_from 32 0 s in let v = commas (map decimal ms) in
    let again : foldl including 0 ms ≡ s = set-again s (lt_of_lt_of_le g.below (pow_mono f)) in
    let low : some (leb n) ms ≡ false = from-below n 32 0 s g.below in
    let good : some (ltb 65535) ms ≡ false = none_from n 65536 ms (omega arith) low in
    let e : numbers_in (after group_key (group_key ++ v)) ≡ ms =
    ap numbers_in (after_append group_key v)
    ∙ numbers-read 65535 (omega arith) ms (λ z. g.some (sym again ∙ ap (foldl including 0) z)) good
    in (simp (starts_append group_key v, e, good, low, from-rises 32 0 s), ap (foldl including 0) e ∙ again)

pub group_fault-number : (n : ℕ) (line : List ℕ) → FaultNumber (group_fault n line)
unfolding group_fault
group_fault-number n line =
    refuse-number _ 3 tt tt (refuse-number _ 4 tt tt (refuse-number _ 6 tt tt (refuse-number _ 7 tt tt no_fault)))

-- ---- parents

-- drawn parents are never the word `build`
drawn_no_build : (ps : List ℕ) → is_word build_word (commas (map parent_text ps)) ≡ false
unfolding build_word some
drawn_no_build ps = let v = commas (map parent_text ps) in not-true-false (is_word build_word v)
    (λ h. true≢false (ap (some (λ b. eqb b 98)) (sym (word-is build_word v h))
    ∙ commas-without 98 parent_text ps refl (λ p. text-without 98 p refl refl)))

pub parents-said : (n : ℕ) (line : List ℕ) → n ≤ 32 → parents_fault n line ≡ 0
    → (parents_line (parents_in line) ≡ line) × GoodParents n (parents_in line)
unfolding parents_fault parents_line parents_in
parents-said n line f h =
    let v = after parents_key line in let es = entries_in v in
    let a = refuse-none (not (starts_with parents_key line)) 2 _ h in
    let s = not-false (starts_with parents_key line) a.0
    in ⊎_elim
    (λ (w : is_word build_word v ≡ true). simp w (key_written parents_key line build_word s (sym (word-is build_word v w)), tt))
    (λ (w : is_word build_word v ≡ false).
    let b = refuse-none (some (ltb 65536) es) 3 _ (simp w at a.1) in
    let c = refuse-none (some (ltb n) es) 5 _ b.1 in
    let d : length es ≡ n = eqb-true (length es) n (not-false _ (refuse-none (not (eqb (length es) n)) 7 0 c.1).0)
    in simp w (
      key_written parents_key line _ s (entries_written v (none_from (suc n) 33 es (suc-le-suc f) c.0)),
      (length-map es parent_of ∙ d, λ u l. entry-parent n es u c.0),
    ))
    (either (is_word build_word v))

pub parents-read : (n : ℕ) (ps : Parents) → 1 ≤ n → n ≤ 32 → GoodParents n ps
    → (parents_fault n (parents_line ps) ≡ 0) × (parents_in (parents_line ps) ≡ ps)
unfolding parents_fault parents_line parents_in refuse
parents-read n Build o f g =
    let e = after_append parents_key build_word in let w = word_same build_word
    in (simp (starts_append parents_key build_word, e, w), simp (e, w))
parents-read n (Drawn ps) o f (l, g) =
    let v = commas (map parent_text ps) in let e = after_append parents_key v in let w = drawn_no_build ps in
    let r = entries_read n ps f (λ z. lt_irrefl 0 (omega (arith, ap length z))) (λ u b. g u (omega arith)) in
    let c : length (entries_in v) ≡ n = sym (length-map (entries_in v) parent_of) ∙ ap length r.are ∙ l
    in (
      simp (
        starts_append parents_key v,
        e,
        w,
        none_from (suc n) 65537 (entries_in v) (omega arith) r.low,
        r.low,
        eq-eqb (length (entries_in v)) n c,
      ),
      simp (e, w, r.are),
    )

pub parents_fault-number : (n : ℕ) (line : List ℕ) → FaultNumber (parents_fault n line)
unfolding parents_fault
parents_fault-number n line =
    refuse-number _ 3 tt tt (cond-number (is_word build_word (after parents_key line)) (refuse-number _ 4 tt tt
    (refuse-number _ 6 tt tt (refuse-number _ 8 tt tt no_fault))))

-- ---- no line has a LF

pub units-without : (n : ℕ) → Without 10 (count_line units_key n)
unfolding count_line units_key some
units-without n = without_append 10 units_key (decimal n) refl (decimal-without 10 n refl)

pub groups-without : (n : ℕ) → Without 10 (count_line groups_key n)
unfolding count_line groups_key some
groups-without n = without_append 10 groups_key (decimal n) refl (decimal-without 10 n refl)

pub group-without : (s : ℕ) → Without 10 (group_line s)
unfolding group_line group_key some
group-without s =
    without_append 10 group_key (commas (map decimal (members_from 32 0 s))) refl
    (commas-without 10 decimal (members_from 32 0 s) refl (λ n. decimal-without 10 n refl))

pub parents-without : (ps : Parents) → Without 10 (parents_line ps)
unfolding parents_line parents_key build_word some
parents-without Build = refl
parents-without (Drawn ps) =
    without_append 10 parents_key (commas (map parent_text ps)) refl (commas-without 10 parent_text ps refl
    (λ p. text-without 10 p refl refl))

pub event-without : (e : Event) → Without 10 (event_line e)
unfolding event_line send_key arrive_key some
event-without (Send s g w) =
    without_append 10 send_key (commas (decimal s ∷ decimal g ∷ decimal w ∷ [])) refl
    (commas-without 10 decimal (s ∷ g ∷ w ∷ []) refl (λ n. decimal-without 10 n refl))
event-without (Arrive h) = without_append 10 arrive_key (decimal h) refl (decimal-without 10 h refl)
