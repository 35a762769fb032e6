-- A bench file that is read and one that is written: every good file is written again as it was, and everything that a file can say is read
-- back.
use mathlib.Core.Path.{◌≡◌, refl, sym, ap, ◌∙◌}
use mathlib.Core.Bool.{Bool, true, false}
use mathlib.Core.List.{List, [], ◌∷◌, ◌++◌, map, append-nil, append_assoc, map-append}
use Prim.Native.Nat.{ℕ, zero, suc, ◌+◌, ◌≤◌, ◌<◌, zero-le, suc-le-suc}
use native.Mathlib.Nat.{le_of_suc-le-suc, not-suc-le-zero}
use native.Mathlib.Omega.{arith}
use lib.ListN.{length, get_or, length-append}
use lib.Seq.{append_snoc}
use lib.Dec.{ltb}
use borrow.Author.Tests.{ltb-false, le-ltb}
use Rattle.text.specs.Text.{split, join}
use Rattle.text.proofs.Pieces.{AllWithout, none, more, split_append, join-split}
use Rattle.lines.specs.Lines.{refuse, units_key, groups_key, count_in, units_fault, groups_fault, group_fault, group_in, parents_fault}
use Rattle.lines.specs.Lines.{parents_in}
use Rattle.lines.specs.Lines.{event_fault, event_in, count_line, group_line, parents_line, event_line, Event, Arrive}
use Rattle.lines.specs.Good.{GoodGroup, GoodEvent}
use Rattle.lines.proofs.Values.{map-without, texts_without}
use Rattle.lines.proofs.RoundTrip.{count-said, group-said, parents-said, event-said, count-read, group-read, parents-read, event-read}
use Rattle.lines.proofs.RoundTrip.{units-without, groups-without, group-without, parents-without, event-without}
use Rattle.benchfile.specs.File.{File, State, UnitsDue, GroupsDue, GroupDue, EventDue, Stopped, next, step}
use Rattle.benchfile.specs.File.{Outcome, Refused, Good, finish, steps, read_file, lines_of, ended, text_of}
use Rattle.benchfile.specs.Claims.{GoodFile}
use Rattle.benchfile.proofs.WrittenLines.{ended_append}

-- ---- lists

-- every element of the list passes
abbrev All : {A : Type 0} → (A → Type 0) → A → List A → Type 0
All P d xs = (i : ℕ) → i < length xs → P (get_or xs i d)

module _ {A : Type 0} (P : A → Type 0) (d : A) where
  all_none : All P d []
  all_none i l = absurd (not-suc-le-zero l)

  all_tail : (x : A) (xs : List A) → All P d (x ∷ xs) → All P d xs
  all_tail x xs h i l = h (suc i) (suc-le-suc l)

  all_snoc : (xs : List A) (x : A) → All P d xs → P x → All P d (xs ++ x ∷ [])
  all_snoc [] x h p zero l = p
  all_snoc [] x h p (suc i) l = absurd (not-suc-le-zero (le_of_suc-le-suc l))
  all_snoc (y ∷ xs) x h p zero l = h zero (suc-le-suc zero-le)
  all_snoc (y ∷ xs) x h p (suc i) l = all_snoc xs x (all_tail y xs h) p i (le_of_suc-le-suc l)

-- ---- lines with their LFs

split-ended : (ls : List (List ℕ)) → AllWithout 10 ls → split 10 (ended ls) ≡ ls ++ [] ∷ []
unfolding ended split
split-ended [] none = refl
split-ended (l ∷ ls) (more w r) = split_append 10 l (ended ls) w ∙ ap (λ (ps : List (List ℕ)). l ∷ ps) (split-ended ls r)

-- ---- a file that is read

-- the outcome is a refusal, or the file passes
abbrev IfGood : (File → Type 0) → Outcome → Type 0
IfGood P (Refused refusal) = Unit {0}
IfGood P (Good F) = P F

if_map : {P Q : File → Type 0} → ((F : File) → P F → Q F) → (o : Outcome) → IfGood P o → IfGood Q o
if_map f (Refused refusal) h = tt
if_map f (Good F) h = f F h

refuse_if : (P : File → Type 0) (b : Bool) (refusal : List ℕ) (o : Outcome) → (b ≡ false → IfGood P o)
    → IfGood P (refuse b (Refused refusal) o)
unfolding refuse
refuse_if P true refusal o h = tt
refuse_if P false refusal o h = h refl

-- a good file with these lines
abbrev WithLines : List (List ℕ) → File → Type 0
WithLines ls F = (lines_of F ≡ ls) × GoodFile F

-- a good file with this text
abbrev WithText : List ℕ → File → Type 0
WithText t F = (text_of F ≡ t) × GoodFile F

-- the lines so far are good, and the state is what they say
abbrev Reached : List (List ℕ) → State → Type 0
Reached ls UnitsDue = ls ≡ []
Reached ls (GroupsDue n) = (ls ≡ count_line units_key n ∷ []) × (1 ≤ n) × (n ≤ 32)
Reached ls (GroupDue n due gs) =
    (ls ≡ count_line units_key n ∷ count_line groups_key (length gs + due) ∷ map group_line gs)
    × (1 ≤ n) × (n ≤ 32) × (length gs + due ≤ 24) × All (GoodGroup n) 0 gs
Reached ls (EventDue n gs ps es) = WithLines ls (record { units = n; groups = gs; parents = ps; events = es })
Reached ls (Stopped refusal) = Unit {0}

reached-next : (ls : List (List ℕ)) (f k : ℕ) (s : State) → (f ≡ 0 → Reached ls s) → Reached ls (next f k s)
unfolding next
reached-next ls zero k s h = h refl
reached-next ls (suc f) k s h = tt

reached-step : (k : ℕ) (ls : List (List ℕ)) (line : List ℕ) (s : State) → Reached ls s
    → Reached (ls ++ line ∷ []) (step k line s)
unfolding step units_fault groups_fault lines_of
reached-step k ls line UnitsDue e =
    reached-next (ls ++ line ∷ []) (units_fault line) k (GroupsDue (count_in units_key line)) (λ h.
    let c = count-said units_key 1 32 line h in (rw (e, c.0), c.1, c.2))
reached-step k ls line (GroupsDue n) (e, least, most) =
    reached-next (ls ++ line ∷ []) (groups_fault line) k (GroupDue n (count_in groups_key line) []) (λ h.
    let c = count-said groups_key 0 24 line h in
    let z : 0 + count_in groups_key line ≡ count_in groups_key line = omega arith
    in (rw (z, c.0, e), least, most, omega (arith, c.2), all_none (GoodGroup n) 0))
reached-step k ls line (GroupDue n zero gs) (e, least, most, count, group) =
    reached-next (ls ++ line ∷ []) (parents_fault n line) k (EventDue n gs (parents_in line) []) (λ h.
    let c = parents-said n line most h in
    let z : length gs + 0 ≡ length gs = omega arith
    in (
      rw (e, z, c.0),
      record {
        least = least;
        most = most;
        count = omega arith;
        group = group;
        parents = c.1;
        total = zero-le;
        event = all_none GoodEvent (Arrive 0);
      },
    ))
reached-step k ls line (GroupDue n (suc due) gs) (e, least, most, count, group) =
    let g = group_in line in
    let l : length (gs ++ g ∷ []) + due ≡ length gs + suc due = omega (arith, length-append gs (g ∷ []))
    in reached-next (ls ++ line ∷ []) (group_fault n line) k (GroupDue n due (gs ++ g ∷ [])) (λ h.
    let c = group-said n line most h
    in (rw (e, l, map-append group_line gs (g ∷ []), c.0), least, most, rw l count, all_snoc (GoodGroup n) 0 gs g group c.1))
reached-step k ls line (EventDue n gs ps es) (e, good) =
    let v = event_in line in
    reached-next (ls ++ line ∷ []) (event_fault (length es) line) k (EventDue n gs ps (es ++ v ∷ [])) (λ h.
    let c = event-said (length es) line h
    in (
      rw (map-append event_line es (v ∷ []), c.0, ← e, append_assoc),
      record {
        least = good.least;
        most = good.most;
        count = good.count;
        group = good.group;
        parents = good.parents;
        total = omega (arith, length-append es (v ∷ []), c.2);
        event = all_snoc GoodEvent (Arrive 0) es v good.event c.1;
      },
    ))
reached-step k ls line (Stopped refusal) r = tt

finish-said : (k : ℕ) (rest : List ℕ) (ls : List (List ℕ)) (s : State) → Reached ls s
    → IfGood (WithText (ended ls ++ rest)) (finish k rest s)
unfolding finish text_of
finish-said k rest ls UnitsDue r = tt
finish-said k rest ls (GroupsDue n) r = tt
finish-said k rest ls (GroupDue n due gs) r = tt
finish-said k [] ls (EventDue n gs ps es) (e, good) = (ap ended e ∙ sym (append-nil (ended ls)), good)
finish-said k (b ∷ bs) ls (EventDue n gs ps es) r = tt
finish-said k rest ls (Stopped refusal) r = tt

steps-said : (k : ℕ) (pieces ls : List (List ℕ)) (s : State) → Reached ls s
    → IfGood (WithText (ended ls ++ join 10 pieces)) (steps k pieces s)
unfolding steps join ended
steps-said k [] ls s r = finish-said k [] ls s r
steps-said k (rest ∷ []) ls s r = finish-said k rest ls s r
steps-said k (line ∷ l ∷ pieces) ls s r =
    let rest = join 10 (l ∷ pieces) in
    let e : ended (ls ++ line ∷ []) ++ rest ≡ ended ls ++ (line ++ 10 ∷ rest) = rw
    (ended_append ls (line ∷ [])) (simp append_assoc) in
    rw (← e) (steps-said (suc k) (l ∷ pieces) (ls ++ line ∷ []) (step k line s) (reached-step k ls line s r))

read-said : (lent : ℕ) (file : List ℕ)
    → IfGood (λ F. (text_of F ≡ file) × GoodFile F × (9000 ≤ lent) × (length file ≤ 32768)) (read_file lent file)
unfolding read_file ended
read-said lent file =
    refuse_if _ (ltb lent 9000) (1 ∷ []) _ (λ a. refuse_if _ (ltb 32768 (length file)) (2 ∷ 0 ∷ []) _ (λ b.
    if_map (λ F r. (r.0 ∙ join-split 10 file, r.1, ltb-false lent 9000 a, ltb-false 32768 (length file) b))
    (steps 1 (split 10 file) UnitsDue)
    (steps-said 1 (split 10 file) [] UnitsDue refl)))

module _ (lent : ℕ) (file : List ℕ) (F : File) (e : read_file lent file ≡ Good F) where
  said : (text_of F ≡ file) × GoodFile F × (9000 ≤ lent) × (length file ≤ 32768)
  said = rw e at (read-said lent file)

  pub read-text : text_of F ≡ file
  read-text = said.0

  pub read-good : GoodFile F
  read-good = said.1

  pub read-limits : (9000 ≤ lent) × (length file ≤ 32768)
  read-limits = (said.2, said.3)

-- ---- a file that is written

lines-without : (F : File) → AllWithout 10 (lines_of F)
unfolding lines_of
lines-without F =
    more (units-without F.units) (more (groups-without (length F.groups))
    (map-without 10 group_line F.groups (parents_line F.parents ∷ map event_line F.events) group-without
    (more (parents-without F.parents) (texts_without 10 event_line F.events event-without))))

-- these lines lead from the state to the file, whatever number the first has
abbrev Leads : List (List ℕ) → State → File → Type 0
Leads ls s F = (k : ℕ) → steps k (ls ++ [] ∷ []) s ≡ Good F

leads_line : (line : List ℕ) (ls : List (List ℕ)) (s t : State) (F : File) → ((k : ℕ) → step k line s ≡ t) → Leads ls t F
    → Leads (line ∷ ls) s F
unfolding steps
leads_line line [] s t F e h k = rw (e k) (h (suc k))
leads_line line (l ∷ ls) s t F e h k = rw (e k) (h (suc k))

module _ (F : File) (good : GoodFile F) where
  events_lead : (es rest : List Event) → es ++ rest ≡ F.events → All GoodEvent (Arrive 0) rest
      → Leads (map event_line rest) (EventDue F.units F.groups F.parents es) F
  unfolding steps finish step next
  events_lead es [] e h =
      λ k. ap (λ (vs : List Event). Good (record { units = F.units; groups = F.groups; parents = F.parents; events = vs }))
      (sym (append-nil es) ∙ e)
  events_lead es (v ∷ rest) e h =
      let l : length es < 3000 = omega (arith, good.total, length-append es (v ∷ rest), ap length e) in
      let c = event-read (length es) v l (h 0 (suc-le-suc zero-le))
      in leads_line (event_line v) (map event_line rest) _ (EventDue F.units F.groups F.parents (es ++ v ∷ [])) F
      (λ k. rw (c.0, c.1))
      (events_lead (es ++ v ∷ []) rest (append_snoc es v rest ∙ e) (all_tail GoodEvent (Arrive 0) v rest h))

  groups_lead : (gs rest : List ℕ) → gs ++ rest ≡ F.groups → All (GoodGroup F.units) 0 rest
      → Leads (map group_line rest ++ parents_line F.parents ∷ map event_line F.events) (GroupDue F.units (length rest) gs) F
  unfolding step next
  groups_lead gs [] e h =
      let c = parents-read F.units F.parents good.least good.most good.parents
      in leads_line (parents_line F.parents) (map event_line F.events) _ (EventDue F.units F.groups F.parents []) F
      (λ k. rw (c.0, c.1, ← e, append-nil)) (events_lead [] F.events refl good.event)
  groups_lead gs (s ∷ rest) e h =
      let c = group-read F.units s good.most (h 0 (suc-le-suc zero-le))
      in leads_line (group_line s) (map group_line rest ++ parents_line F.parents ∷ map event_line F.events) _
      (GroupDue F.units (length rest) (gs ++ s ∷ [])) F (λ k. rw (c.0, c.1))
      (groups_lead (gs ++ s ∷ []) rest (append_snoc gs s rest ∙ e) (all_tail (GoodGroup F.units) 0 s rest h))

  lines_lead : Leads (lines_of F) UnitsDue F
  unfolding lines_of step next units_fault groups_fault
  lines_lead =
      let n = F.units in let count = length F.groups in
      let rest = map group_line F.groups ++ parents_line F.parents ∷ map event_line F.events in
      let u = count-read units_key 1 32 n good.least good.most (omega (arith, good.most)) in
      let g = count-read groups_key 0 24 count zero-le good.count (omega (arith, good.count))
      in leads_line (count_line units_key n) (count_line groups_key count ∷ rest) UnitsDue (GroupsDue n) F (λ k. rw (u.0, u.1))
      (leads_line (count_line groups_key count) rest (GroupsDue n) (GroupDue n count []) F (λ k. rw (g.0, g.1))
      (groups_lead [] F.groups refl good.group))

pub text-read : (lent : ℕ) (F : File) → GoodFile F → 9000 ≤ lent → length (text_of F) ≤ 32768
    → read_file lent (text_of F) ≡ Good F
unfolding read_file refuse text_of
text-read lent F good enough short =
    rw (le-ltb lent 9000 enough, le-ltb 32768 (length (text_of F)) short)
    (ap (λ (ps : List (List ℕ)). steps 1 ps UnitsDue) (split-ended (lines_of F) (lines-without F)) ∙ lines_lead F good 1)
