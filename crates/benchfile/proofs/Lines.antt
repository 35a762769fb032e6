-- Laws of reading a file line by line: what a line reader answers, one line more, or a faulty one. Assumes nothing.
use mathlib.Core.Path.{◌≡◌, refl, sym, subst, ◌∙◌}
use mathlib.Core.Logic.{by_cases}
use mathlib.Core.List.{List, [], ◌∷◌}
use Prim.Native.Nat.{ℕ, zero, suc, ◌≤◌, ◌<◌}
use native.Mathlib.Nat.{suc-ne-zero}
use native.Mathlib.Decide.{dec_lt}
use native.Mathlib.Omega.{arith}
use lib.ListN.{length, drop}
use Rattle.std.specs.Prelude.{Result, Ok, Err}
use Rattle.text.specs.Text.{split}
use Rattle.text.specs.Writing.{place_of}
use Rattle.text.proofs.Pieces.{place_le, split-place, split-none, split-some}
use Rattle.lines.specs.Lines.{count_in, count_fault}
use Rattle.lines.specs.Fields.{fault_number, first_line, fault_at, Says, Reads}
use Rattle.lines.specs.declared.Fault.{Fault}
use Rattle.lines.specs.declared.Fault.TheVariants.{NoLine, BadValue, BadCount, NoSuchUnit, NotRising, WrongLength, TooManyEvents}
use Rattle.lines.specs.declared.Line.{Line}
use Rattle.lines.proofs.Ends.{fault_line, fault_none}
use Rattle.lines.proofs.RoundTrip.{count-said}
use Rattle.benchfile.specs.File.{State, Stopped, Refused, next, step, finish, steps}
use Rattle.benchfile.specs.Steps.{AtLine, BadLine}
use Rattle.benchfile.specs.declared.FaultyLine.{FaultyLine}

-- ---- one line more

stopped : (k : ℕ) (ls : List (List ℕ)) (refusal : List ℕ) → steps k ls (Stopped refusal) ≡ Refused refusal
unfolding steps step finish
stopped k [] refusal = refl
stopped k (l ∷ []) refusal = refl
stopped k (l ∷ m ∷ ls) refusal = stopped (suc k) (m ∷ ls) refusal

next_fault : (f k : ℕ) (s : State) → (f ≡ 0 → ⊥) → next f k s ≡ Stopped (f ∷ k ∷ [])
unfolding next
next_fault zero k s h = absurd (h refl)
next_fault (suc f) k s h = refl

-- the first line, and then at least one piece more
split-line : (rest : List ℕ) → place_of 10 rest < length rest → (p : List ℕ) × (ps : List (List ℕ))
    × (split 10 rest ≡ first_line rest ∷ p ∷ ps) × (split 10 (drop (suc (place_of 10 rest)) rest) ≡ p ∷ ps)
unfolding first_line
split-line rest h = let (p, ps, e) = split-some 10 (drop (suc (place_of 10 rest)) rest) in (p, ps, rw (← e) (split-place 10 rest h), e)

-- the first line is read, and then the rest
steps-line : (k : ℕ) (rest : List ℕ) (s : State) → place_of 10 rest < length rest
    → steps k (split 10 rest) s ≡ steps (suc k) (split 10 (drop (suc (place_of 10 rest)) rest)) (step k (first_line rest) s)
unfolding steps
steps-line k rest s h = let (p, ps, e, d) = split-line rest h in rw (e, d)

-- there is no line
steps-none : (k : ℕ) (rest : List ℕ) (s : State) → place_of 10 rest ≡ length rest → steps k (split 10 rest) s ≡ finish k rest s
unfolding steps
steps-none k rest s e = rw (split-none 10 rest e)

-- a state in which line k, the first of a text, is read: its fault, and the state after a good one
pub record Due (k : ℕ) (rest : List ℕ) (s : State) (fault : List ℕ → ℕ) (then : List ℕ → State) : Type 0 where
  pub reads : (line : List ℕ) → step k line s ≡ next (fault line) k (then line)
  pub missing : finish k rest s ≡ Refused (3 ∷ k ∷ [])

pub fault_some : (f : Fault) → fault_number f ≡ 0 → ⊥
unfolding fault_number
fault_some NoLine = suc-ne-zero 2
fault_some BadValue = suc-ne-zero 3
fault_some BadCount = suc-ne-zero 4
fault_some NoSuchUnit = suc-ne-zero 5
fault_some NotRising = suc-ne-zero 6
fault_some WrongLength = suc-ne-zero 7
fault_some TooManyEvents = suc-ne-zero 8

-- ---- what a line reader answers

module _ {fault : List ℕ → ℕ} {rest : List ℕ} where
  -- a faulty line
  pub read_fault : {k : ℕ} {s : State} {then : List ℕ → State} → Due k rest s fault then → (f : Fault)
      → fault_number f ≡ fault_at fault rest → BadLine (steps k (split 10 rest) s) (record { fault = f; line = k })
  read_fault {k} {s} {then} d f is = by_cases (dec_lt (place_of 10 rest) (length rest))
      (λ h. let e : fault_number f ≡ fault (first_line rest) = is ∙ fault_line fault rest h in
      steps-line k rest s h
      ∙ rw (d.reads (first_line rest), ← e, next_fault (fault_number f) k (then (first_line rest)) (fault_some f))
      (stopped (suc k) _ _))
      (λ h. let e : fault_number f ≡ 3 = is ∙ fault_none fault rest (omega arith) in
      steps-none k rest s (omega (arith, place_le 10 rest)) ∙ rw e d.missing)

  -- a line without fault
  module _ {A : Type 0} {value : List ℕ → A} {line : Line A} (g : Says fault value rest line) where
    -- it has its LF
    read_place : place_of 10 rest < length rest
    read_place =
        by_cases (dec_lt (place_of 10 rest) (length rest)) (λ h. h) (λ h. omega (arith, g.good, fault_none fault rest (omega arith)))

    pub read_line : fault (first_line rest) ≡ 0
    read_line = sym (fault_line fault rest read_place) ∙ g.good

    pub read-inside : (0 < line.used) × (line.used ≤ length rest)
    read-inside = omega (arith, g.takes, read_place)

    pub read-good : {k : ℕ} {s : State} {then : List ℕ → State} → Due k rest s fault then
        → steps k (split 10 rest) s ≡ steps (suc k) (split 10 (drop line.used rest)) (then (first_line rest))
    unfolding next
    read-good {k} {s} {then} d = steps-line k rest s read_place ∙ rw (d.reads (first_line rest), read_line, g.takes)

pub count_most : (key : List ℕ) (least most : ℕ) (rest : List ℕ) {line : Line ℕ}
    → Says (count_fault key least most) (count_in key) rest line → line.value ≤ most
count_most key least most rest g = rw g.says (count-said key least most (first_line rest) (read_line g)).2

-- ---- the line beside a fault

module _ {A : Type 0} (fault : List ℕ → ℕ) (value : List ℕ → A) (rest : List ℕ) (k : ℕ) where
  pub line_ok : (a : Result (Line A) Fault) {r : Result (Line A) FaultyLine} → Reads fault value rest a → AtLine k a r
      → (x : Line A) → r ≡ Ok x → Says fault value rest x
  line_ok (Ok y) g e x h = let same : y ≡ x = cc in subst (Says fault value rest) same g
  line_ok (Err f) g e x h = absurd cc

  pub line_bad : (a : Result (Line A) Fault) {r : Result (Line A) FaultyLine} → Reads fault value rest a → AtLine k a r
      → (e : FaultyLine) → r ≡ Err e → (P : FaultyLine → Type 0)
      → ((f : Fault) → fault_number f ≡ fault_at fault rest → P (record { fault = f; line = k })) → P e
  line_bad (Ok y) g a e h P b = absurd cc
  line_bad (Err f) g a e h P b = let same : ◌≡◌ {A = FaultyLine} (record { fault = f; line = k }) e = cc in subst P same (b f g)
