-- Contents and files say the same: events and their numbers, a good file and its well-formed content, each out of the other. Assumes
-- nothing.
use mathlib.Core.Path.{◌≡◌, refl, sym, ap, ap₂, subst, ◌∙◌}
use mathlib.Core.Logic.{◌⊎◌, inl, inr, by_cases}
use mathlib.Core.Bool.{Bool, true, false, true≢false, false≢true}
use mathlib.Core.List.{List, [], ◌∷◌, ◌++◌}
use Prim.Native.Nat.{ℕ, zero, suc, ◌+◌, ◌*◌, ◌≤◌, ◌<◌, zero-le, suc-le-suc}
use native.Mathlib.Nat.{not-suc-le-zero, le_of_suc-le-suc, zero-lt-suc}
use native.Mathlib.Omega.{arith}
use native.Mathlib.Decide.{dec_lt}
use lib.ListN.{length, get_or, take, drop, length-append, length-take, length-drop, get_or-eq_default}
use lib.Seq.{length-take-le, get_or-take, take-take, ext_get_or}
use Rattle.layout.specs.Tables.{tabulate}
use Rattle.layout.proofs.Tables.{length-tabulate, get_d_tabulate, get_d_past, tabulated}
use Rattle.lines.specs.Lines.{Event, Send, Arrive, event_numbers, event_of, Parents, Build, Drawn, is_build, parents_table, parents_said}
use Rattle.lines.specs.Good.{GoodGroup, GoodParents, GoodEvent}
use Rattle.benchfile.specs.File.{File}
use Rattle.benchfile.specs.Calls.{numbers_of, content_of, events_from, file_of}
use Rattle.benchfile.specs.Claims.{GoodFile, GoodNumbers, WellFormed}
use Rattle.benchfile.specs.declared.Content.{Content}

-- ---- events and their numbers

-- the numbers of an event are three, those of k events 3 * k
pub numbers_three : (e : Event) → length (event_numbers e) ≡ 3
unfolding event_numbers
numbers_three (Send s g w) = refl
numbers_three (Arrive h) = refl

pub numbers-length : (es : List Event) → length (numbers_of es) ≡ 3 * length es
unfolding numbers_of
numbers-length [] = refl
numbers-length (e ∷ es) = length-append (event_numbers e) (numbers_of es) ∙ omega (arith, numbers_three e, numbers-length es)

-- events written as numbers are read back, whatever follows
pub events-back : (es : List Event) (rest : List ℕ) → events_from (length es) (numbers_of es ++ rest) ≡ es
unfolding events_from numbers_of event_numbers event_of
events-back [] rest = refl
events-back (Send s g w ∷ es) rest = ap (λ (l : List Event). Send s g w ∷ l) (events-back es rest)
events-back (Arrive h ∷ es) rest = ap (λ (l : List Event). Arrive h ∷ l) (events-back es rest)

-- the three numbers of event k
abbrev three {ℓ} : {B : Type ℓ} → (ℕ → ℕ → ℕ → B) → List ℕ → ℕ → B
three f ns k = f (get_or ns (3 * k) 0) (get_or ns (3 * k + 1) 0) (get_or ns (3 * k + 2) 0)

-- they are the same behind the numbers of another event
behind {ℓ} : {B : Type ℓ} (f : ℕ → ℕ → ℕ → B) (a b c : ℕ) (ns : List ℕ) (k : ℕ)
    → three f (a ∷ b ∷ c ∷ ns) (suc k) ≡ three f ns k
behind f a b c ns k =
    let p : 3 * suc k ≡ suc (suc (suc (3 * k))) = omega arith in
    let q : 3 * suc k + 1 ≡ suc (suc (suc (3 * k + 1))) = omega arith in
    let r : 3 * suc k + 2 ≡ suc (suc (suc (3 * k + 2))) = omega arith in
    λ i. f (get_or (a ∷ b ∷ c ∷ ns) (p i) 0) (get_or (a ∷ b ∷ c ∷ ns) (q i) 0) (get_or (a ∷ b ∷ c ∷ ns) (r i) 0)

-- they are the same in a part that holds them
held {ℓ} : {B : Type ℓ} (f : ℕ → ℕ → ℕ → B) (n : ℕ) (ns : List ℕ) (k : ℕ) → 3 * k + 2 < n
    → three f (take n ns) k ≡ three f ns k
held f n ns k h =
    let p = get_or-take n ns (3 * k) 0 (omega arith) in
    let q = get_or-take n ns (3 * k + 1) 0 (omega arith) in
    let r = get_or-take n ns (3 * k + 2) 0 h in
    λ i. f (p i) (q i) (r i)

-- good events are good numbers
numbers-good : (es : List Event) (rest : List ℕ) (k : ℕ) → k < length es → GoodEvent (get_or es k (Arrive 0))
    → three GoodNumbers (numbers_of es ++ rest) k
unfolding numbers_of event_numbers
numbers-good [] rest k h g = absurd (not-suc-le-zero h)
numbers-good (Send s a w ∷ es) rest zero h g = (suc-le-suc g.0, g.1, g.2, inl (suc-le-suc zero-le))
numbers-good (Arrive b ∷ es) rest zero h g = (zero-lt-suc 65535, g, zero-lt-suc 4294967295, inr (refl, refl))
numbers-good (Send s a w ∷ es) rest (suc k) h g =
    subst (λ (T : Type 0). T) (sym (behind GoodNumbers (suc s) a w (numbers_of es ++ rest) k))
    (numbers-good es rest k (le_of_suc-le-suc h) g)
numbers-good (Arrive b ∷ es) rest (suc k) h g =
    subst (λ (T : Type 0). T) (sym (behind GoodNumbers 0 b 0 (numbers_of es ++ rest) k)) (numbers-good es rest k (le_of_suc-le-suc h) g)

-- good numbers are a good event
event-good : (a b c : ℕ) → GoodNumbers a b c → GoodEvent (event_of a b c)
unfolding event_of
event-good zero b c g = g.1
event-good (suc a) b c g = (le_of_suc-le-suc g.0, g.1, g.2)

-- and are the numbers of that event
numbers-event : (a b c : ℕ) → GoodNumbers a b c → event_numbers (event_of a b c) ≡ a ∷ b ∷ c ∷ []
unfolding event_of event_numbers
numbers-event zero b c (l, m, n, inl h) = absurd (not-suc-le-zero h)
numbers-event zero b c (l, m, n, inr (p, q)) = ap (λ (x : ℕ). 0 ∷ b ∷ x ∷ []) (sym q)
numbers-event (suc a) b c g = refl

length-events : (k : ℕ) (ns : List ℕ) → 3 * k ≤ length ns → length (events_from k ns) ≡ k
unfolding events_from
length-events zero ns h = refl
length-events (suc k) [] h = omega arith
length-events (suc k) (a ∷ []) h = omega arith
length-events (suc k) (a ∷ b ∷ []) h = omega arith
length-events (suc k) (a ∷ b ∷ c ∷ ns) h = ap suc (length-events k ns (omega arith))

-- event j of k
event-at : (k : ℕ) (ns : List ℕ) (j : ℕ) → 3 * k ≤ length ns → j < k
    → get_or (events_from k ns) j (Arrive 0) ≡ three event_of ns j
unfolding events_from
event-at zero ns j h b = absurd (not-suc-le-zero b)
event-at (suc k) [] j h b = absurd (omega arith)
event-at (suc k) (x ∷ []) j h b = absurd (omega arith)
event-at (suc k) (x ∷ y ∷ []) j h b = absurd (omega arith)
event-at (suc k) (x ∷ y ∷ z ∷ ns) zero h b = refl
event-at (suc k) (x ∷ y ∷ z ∷ ns) (suc j) h b = event-at k ns j (omega arith) (le_of_suc-le-suc b)
    ∙ sym (behind event_of x y z ns j)

-- the numbers of k events read out of good numbers are these
numbers-from : (k : ℕ) (ns : List ℕ) → 3 * k ≤ length ns → ((j : ℕ) → j < k → three GoodNumbers ns j)
    → numbers_of (events_from k ns) ≡ take (3 * k) ns
unfolding events_from numbers_of
numbers-from zero ns h g = refl
numbers-from (suc k) [] h g = absurd (omega arith)
numbers-from (suc k) (x ∷ []) h g = absurd (omega arith)
numbers-from (suc k) (x ∷ y ∷ []) h g = absurd (omega arith)
numbers-from (suc k) (x ∷ y ∷ z ∷ ns) h g =
    ap₂ (λ (e l : List ℕ). e ++ l) (numbers-event x y z (g 0 (zero-lt-suc k)))
    (numbers-from k ns (omega arith) (λ j b. subst (λ (T : Type 0). T) (behind GoodNumbers x y z ns j) (g (suc j) (suc-le-suc b))))
    ∙ ap (λ (n : ℕ). take n (x ∷ y ∷ z ∷ ns)) (let e : suc (suc (suc (3 * k))) ≡ 3 * suc k = omega arith in e)

-- ---- a list in a table of n places, d past the list

module _ (n d : ℕ) where
  -- its entries, also past the table
  table_at : (l : List ℕ) (i : ℕ) → length l ≤ n → get_or (tabulate n (λ j. get_or l j d)) i d ≡ get_or l i d
  table_at l i h = by_cases (dec_lt i n) (λ b. get_d_tabulate n (λ j. get_or l j d) i d b)
      (λ b. get_d_past n (λ j. get_or l j d) i d (omega arith) ∙ sym (get_or-eq_default l d (omega arith)))

  -- the list is the table's first part
  table-front : (l : List ℕ) → length l ≤ n → take (length l) (tabulate n (λ i. get_or l i d)) ≡ l
  table-front l h =
      let t = tabulate n (λ i. get_or l i d) in
      let e : length (take (length l) t) ≡ length l = length-take-le (length l) t (omega (arith, length-tabulate n (λ i. get_or l i d)))
      in
      ext_get_or d (take (length l) t) l e (λ i b. get_or-take (length l) t i d (omega arith) ∙ table_at l i h)

  -- n entries with d from k on are the table of the first k
  table-back : (l : List ℕ) (k : ℕ) → length l ≡ n → ((i : ℕ) → k ≤ i → get_or l i d ≡ d)
      → tabulate n (λ i. get_or (take k l) i d) ≡ l
  table-back l k e h = sym (tabulated n (λ i. get_or (take k l) i d) l d e (λ i b.
      by_cases (dec_lt i k) (λ c. sym (get_or-take k l i d c))
      (λ c. h i (omega arith) ∙ sym (get_or-eq_default (take k l) d (omega (arith, length-take k l))))))

-- ---- parents in a content

parents-back : (n : ℕ) (p : Parents) → n ≤ 32 → GoodParents n p → parents_said (is_build p) (take n (parents_table p)) ≡ p
unfolding parents_said is_build parents_table
parents-back n Build h g = refl
parents-back n (Drawn ps) h (e, f) = ap Drawn (ap (λ (k : ℕ). take k (tabulate 32 (λ u. get_or ps u 255))) (sym e)
    ∙ table-front 32 255 ps (omega arith))

parents-places : (p : Parents) → length (parents_table p) ≡ 32
unfolding parents_table
parents-places Build = length-tabulate 32 (λ u. 255)
parents-places (Drawn ps) = length-tabulate 32 (λ u. get_or ps u 255)

parents-drawn : (n : ℕ) (p : Parents) → n ≤ 32 → GoodParents n p → is_build p ≡ false
    → (u : ℕ) → u < n → (get_or (parents_table p) u 255 ≡ 255) ⊎ (get_or (parents_table p) u 255 < n)
unfolding is_build parents_table
parents-drawn n Build h g b u l = absurd (true≢false b)
parents-drawn n (Drawn ps) h (e, f) b u l =
    subst (λ (x : ℕ). (x ≡ 255) ⊎ (x < n)) (sym (table_at 32 255 ps u (omega arith))) (f u l)

parents-undrawn : (n : ℕ) (p : Parents) → n ≤ 32 → GoodParents n p → (u : ℕ) → (is_build p ≡ true) ⊎ (n ≤ u)
    → get_or (parents_table p) u 255 ≡ 255
unfolding is_build parents_table
parents-undrawn n Build h g u b = table_at 32 255 [] u zero-le
parents-undrawn n (Drawn ps) h (e, f) u (inl b) = absurd (false≢true b)
parents-undrawn n (Drawn ps) h (e, f) u (inr l) = table_at 32 255 ps u (omega arith) ∙ get_or-eq_default ps 255 (omega arith)

-- and back: what a content's parents say
said-good : (n : ℕ) (b : Bool) (ps : List ℕ) → n ≤ length ps
    → (b ≡ false → (u : ℕ) → u < n → (get_or ps u 255 ≡ 255) ⊎ (get_or ps u 255 < n))
    → GoodParents n (parents_said b (take n ps))
unfolding parents_said
said-good n true ps h f = tt
said-good n false ps h f =
    (length-take-le n ps h, λ u l. subst (λ (x : ℕ). (x ≡ 255) ⊎ (x < n)) (sym (get_or-take n ps u 255 l)) (f refl u l))

said_build : (b : Bool) (ps : List ℕ) → is_build (parents_said b ps) ≡ b
unfolding parents_said is_build
said_build true ps = refl
said_build false ps = refl

said-table : (n : ℕ) (b : Bool) (ps : List ℕ) → length ps ≡ 32
    → ((u : ℕ) → (b ≡ true) ⊎ (n ≤ u) → get_or ps u 255 ≡ 255) → parents_table (parents_said b (take n ps)) ≡ ps
unfolding parents_said parents_table
said-table n true ps e f = table-back 32 255 ps 0 e (λ u l. f u (inl refl))
said-table n false ps e f = table-back 32 255 ps n e (λ u l. f u (inr l))

-- ---- a good file and its content

-- a file out of its content and its numbers
pub file-back : (F : File) → GoodFile F → (rest : List ℕ) → file_of (content_of F) (numbers_of F.events ++ rest) ≡ F
unfolding file_of content_of
file-back F g rest = λ i. record {
  units = F.units;
  groups = table-front 24 0 F.groups g.count i;
  parents = parents-back F.units F.parents g.most g.parents i;
  events = events-back F.events rest i;
}

-- what a file can say makes a well-formed content
pub content_well_formed : (F : File) → GoodFile F → (events : List ℕ) → 9000 ≤ length events
    → WellFormed (content_of F) (numbers_of F.events ++ drop (3 * length F.events) events)
unfolding content_of
content_well_formed F g events h = record {
  least = g.least;
  most = g.most;
  count = g.count;
  places = length-tabulate 24 (λ i. get_or F.groups i 0);
  group = λ i b. subst (GoodGroup F.units) (sym (table_at 24 0 F.groups i g.count)) (g.group i b);
  unused = λ i b. table_at 24 0 F.groups i g.count ∙ get_or-eq_default F.groups 0 b;
  parents = parents-places F.parents;
  drawn = parents-drawn F.units F.parents g.most g.parents;
  undrawn = parents-undrawn F.units F.parents g.most g.parents;
  total = g.total;
  lent = simp (length-append, length-drop, numbers-length) (omega arith);
  event = λ k b. numbers-good F.events (drop (3 * length F.events) events) k b (g.event k b);
}

-- ---- a well-formed content and its file

module _ (c : Content) (events : List ℕ) (w : WellFormed c events) where
  -- the first 9,000 numbers hold the events
  fits : 3 * c.events ≤ length (take 9000 events)
  fits = let h = w.total in let e = length-take-le 9000 events w.lent in omega arith

  good-at : (k : ℕ) → k < c.events → three GoodNumbers (take 9000 events) k
  good-at k b = let h = w.total in subst (λ (T : Type 0). T) (sym (held GoodNumbers 9000 events k (omega arith))) (w.event k b)

  events-length : length (events_from c.events (take 9000 events)) ≡ c.events
  events-length = length-events c.events (take 9000 events) fits

  groups-length : length (take c.count c.groups) ≡ c.count
  groups-length = length-take-le c.count c.groups (let h = w.count in let e = w.places in omega arith)

  -- it says a good file
  pub file-good : GoodFile (file_of c (take 9000 events))
  unfolding file_of
  file-good = record {
    least = w.least;
    most = w.most;
    count = let h = w.count in omega (arith, groups-length);
    group = λ i b. let l : i < c.count = omega (arith, groups-length) in
        subst (GoodGroup c.units) (sym (get_or-take c.count c.groups i 0 l)) (w.group i l);
    parents = said-good c.units c.build c.parents (let h = w.most in let e = w.parents in omega arith) w.drawn;
    total = let h = w.total in omega (arith, events-length);
    event = λ k b. let l : k < c.events = omega (arith, events-length) in
        subst GoodEvent (sym (event-at c.events (take 9000 events) k fits l)) (event-good _ _ _ (good-at k l));
  }

  -- and is that file's content
  pub content-back : content_of (file_of c (take 9000 events)) ≡ c
  unfolding content_of file_of
  content-back = λ i. record {
    units = c.units;
    count = groups-length i;
    groups = table-back 24 0 c.groups c.count w.places w.unused i;
    build = said_build c.build (take c.units c.parents) i;
    parents = said-table c.units c.build c.parents w.parents w.undrawn i;
    events = events-length i;
  }

  -- the numbers of the file's events stand at the front of the list
  pub numbers-back : numbers_of (file_of c (take 9000 events)).events ≡ take (3 * c.events) events
  unfolding file_of
  numbers-back = numbers-from c.events (take 9000 events) fits good-at
      ∙ take-take (3 * c.events) 9000 events (let h = w.total in omega arith)
