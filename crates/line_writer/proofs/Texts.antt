-- Laws of the texts that are written: one text after another while more remains to be written, texts with a comma before all but the first,
-- and the lines made of them. Assumes nothing.
use mathlib.Core.Path.{◌≡◌, refl, sym, ap, ◌∙◌}
use mathlib.Core.Logic.{⊎_elim, by_cases}
use mathlib.Core.Bool.{Bool, true, false}
use mathlib.Core.List.{List, [], ◌∷◌, ◌++◌, map, append-nil, append_assoc}
use Prim.Native.Nat.{ℕ, zero, suc, ◌+◌, ◌-◌, ◌<◌}
use native.Mathlib.Decide.{dec_lt}
use native.Mathlib.Nat.{lt_irrefl, suc-ne-zero}
use native.Mathlib.Numerals.{add-one}
use native.Mathlib.Omega.{arith}
use lib.Count.{trailing_of_zero}
use lib.ListN.{length, take}
use Rattle.std.specs.Prelude.{Some}
use Rattle.sets.specs.Sets.{member, lowest, TakesLowest}
use Rattle.sets.proofs.Visits.{Left, next-member, visits_start, visits_turn}
use Rattle.sets.proofs.Bools.{either}
use Rattle.text.specs.Text.{decimal, join}
use Rattle.text.specs.declared.writing.Output.{Output}
use Rattle.text.specs.Writing.{Writes}
use Rattle.text.proofs.Written.{writes_none, writes_append}
use Rattle.lines.specs.Lines.{commas, members_from, send_key, arrive_key, parent_text, event_line, event_of}
use Rattle.line_writer.specs.Texts.{separator, member_texts, parent_texts}

-- ---- what remains to be written

-- with the rest written here, all is written from the start on
abbrev pub Remains : (rest all : List ℕ) (start here : Output ℕ) → Type 0
Remains rest all start here = (end : Output ℕ) → Writes rest here end → Writes all start end

pub remains_next : {s rest all : List ℕ} {start here there : Output ℕ}
    → Remains (s ++ rest) all start here → Writes s here there → Remains rest all start there
remains_next r v end w = r end (writes_append v w)

pub remains_none : {all : List ℕ} {start here : Output ℕ} → Remains [] all start here → Writes all start here
remains_none {here = here} r = r here (writes_none here)

-- ---- texts with a comma before all but the first

separated : Bool → List (List ℕ) → List ℕ
separated first [] = []
separated first (p ∷ ps) = separator first ++ p ++ separated false ps

separated-join : (p : List ℕ) (ps : List (List ℕ)) → p ++ separated false ps ≡ join 44 (p ∷ ps)
unfolding separated join separator
separated-join p [] = append-nil p
separated-join p (q ∷ ps) = ap (λ (t : List ℕ). p ++ 44 ∷ t) (separated-join q ps)

separated-commas : (ps : List (List ℕ)) → separated true ps ≡ commas ps
unfolding separated commas join separator
separated-commas [] = refl
separated-commas (p ∷ ps) = separated-join p ps

-- ---- members of a set

separated-members : (k u : ℕ) (first : Bool) (s : ℕ) → member_texts k u first s ≡ separated first (map decimal (members_from k u s))
unfolding separated member_texts members_from
separated-members zero u first s = refl
separated-members (suc k) u first s = ⊎_elim
    (λ (h : member s u ≡ true). simp h (ap (λ (t : List ℕ). separator first ++ decimal u ++ t) (separated-members k (suc u) false s)))
    (λ (h : member s u ≡ false). simp h (separated-members k (suc u) first s))
    (either (member s u))

pub members-commas : (s : ℕ) → member_texts 32 0 true s ≡ commas (map decimal (members_from 32 0 s))
members-commas s = separated-members 32 0 true s ∙ separated-commas (map decimal (members_from 32 0 s))

-- the texts of the members of s from the lowest of those left on
abbrev pub from_lowest : (left : ℕ) (first : Bool) (s : ℕ) → List ℕ
from_lowest left first s = member_texts (32 - lowest left) (lowest left) first s

-- the members from u on, where u is one of them or not
module _ (u : ℕ) (first : Bool) (s : ℕ) (h : u < 32) where
  members-rest : 32 - u ≡ suc (32 - suc u)
  members-rest = omega arith

  members-here : member s u ≡ true
      → member_texts (32 - u) u first s ≡ separator first ++ decimal u ++ member_texts (32 - suc u) (suc u) false s
  unfolding member_texts
  members-here m = rw (members-rest, m)

  members-not : member s u ≡ false → member_texts (32 - u) u first s ≡ member_texts (32 - suc u) (suc u) first s
  unfolding member_texts
  members-not m = rw (members-rest, m)

members-still : (first : Bool) (s u : ℕ) → member s u ≡ false
    → member_texts (32 - suc u) (suc u) first s ≡ member_texts (32 - u) u first s
unfolding member_texts
members-still first s u m = by_cases (dec_lt u 32)
    (λ h. sym (members-not u first s h m))
    (λ h. let a : 32 - suc u ≡ 0 = omega arith in let b : 32 - u ≡ 0 = omega arith in rw (a, b) refl)

-- before the first
pub members-start : (s : ℕ) → from_lowest s true s ≡ member_texts 32 0 true s
members-start s = sym (visits_start s (λ u. member_texts (32 - u) u true s) (members-still true s) refl)

-- the lowest that is left, and those after it
pub members-next : {s left k next : ℕ} (first : Bool) → Left s left → TakesLowest left (Some k) next
    → from_lowest left first s ≡ separator first ++ decimal k ++ from_lowest next false s
members-next {s} {left} {k} {next} first h t =
    let some : left ≡ 0 → ⊥ = λ e. omega (arith, t.0) in
    let this = next-member h some t.2 in
    let after = visits_turn s (λ u. member_texts (32 - u) u false s) (members-still false s) h some t.2 t.3 refl (λ l m e. refl) in
    rw (sym t.2) (members-here k first s this.0 this.1 ∙ ap (λ (t : List ℕ). separator first ++ decimal k ++ t) after)

-- past the last
pub members-end : (first : Bool) (s : ℕ) → from_lowest 0 first s ≡ []
unfolding member_texts lowest
members-end first s = let e : lowest 0 ≡ 32 = trailing_of_zero 32 in rw e refl

-- ---- parents

separated-parents : (first : Bool) (ps : List ℕ) → parent_texts first ps ≡ separated first (map parent_text ps)
unfolding separated parent_texts
separated-parents first [] = refl
separated-parents first (p ∷ ps) = ap (λ (t : List ℕ). separator first ++ parent_text p ++ t) (separated-parents false ps)

pub parents-commas : (ps : List ℕ) → parent_texts true ps ≡ commas (map parent_text ps)
parents-commas ps = separated-parents true ps ∙ separated-commas (map parent_text ps)

-- the first of the n parents that are left, and those after it
pub parents-next : (first : Bool) (n m : ℕ) {p : ℕ} {ps rest : List ℕ} → ps ≡ p ∷ rest → m + 1 ≡ n
    → parent_texts first (take n ps) ≡ separator first ++ parent_text p ++ parent_texts false (take m rest)
unfolding parent_texts
parents-next first n m e h = rw (e, sym h, add-one m) refl

-- past the last
pub parents-end : (first : Bool) (n : ℕ) (ps : List ℕ) → (0 < n → length ps ≡ 0) → parent_texts first (take n ps) ≡ []
unfolding parent_texts
parents-end first zero ps h = refl
parents-end first (suc n) [] h = refl
parents-end first (suc n) (p ∷ ps) h = absurd (suc-ne-zero (length ps) (h (omega arith)))

-- ---- events

pub arrive-line : (a b c : ℕ) → a ≡ 0 → event_line (event_of a b c) ≡ arrive_key ++ decimal b
unfolding event_line event_of
arrive-line zero b c h = refl
arrive-line (suc a) b c h = absurd (lt_irrefl 0 (omega arith))

pub send-line : (a b c : ℕ) → (a ≡ 0 → ⊥)
    → event_line (event_of a b c) ≡ send_key ++ (decimal (a - 1) ++ 44 ∷ decimal b ++ 44 ∷ decimal c)
unfolding event_line event_of commas join
send-line zero b c h = absurd (h refl)
send-line (suc a) b c h =
    let e : suc a - 1 ≡ a = omega arith in rw e (ap (λ (t : List ℕ). send_key ++ t) (sym (append_assoc (decimal a) _ _)))
