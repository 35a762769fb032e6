-- Laws of items written from a place on: nothing, one item, one list after another, and what the list then holds. Assumes nothing.
use mathlib.Core.Path.{◌≡◌, refl, sym, ap, subst, ◌∙◌}
use mathlib.Core.Logic.{by_cases}
use mathlib.Core.Bool.{Bool, cond}
use mathlib.Core.List.{List, [], ◌∷◌, ◌++◌}
use Prim.Native.Nat.{ℕ, zero, suc, ◌+◌, ◌≤◌, ◌<◌}
use native.Mathlib.Decide.{dec_lt}
use native.Mathlib.Nat.{zero-add}
use native.Mathlib.Numerals.{add-one}
use native.Mathlib.Omega.{arith}
use borrow.Author.Tests.{lt-ltb, le-ltb}
use lib.ListN.{length, take, drop, get_or, set, length-set, length-take}
use lib.Seq.{sets, length-sets, sets-eq, set_out, take_all, take-suc}
use Rattle.text.specs.declared.writing.Output.{Output}
use Rattle.text.specs.Writing.{reach, Written, Writes}

-- ---- one item with room for it, and the end of the list

reach-room : (at n len : ℕ) → at < len → reach at (suc n) len ≡ reach (suc at) n len
unfolding reach
reach-room at n len h = ap (λ (b : Bool). reach (cond b (suc at) at) n len) (lt-ltb at len h)

-- at the end writing stays
reach-end : (at n len : ℕ) → len ≤ at → reach at n len ≡ at
unfolding reach
reach-end at zero len h = refl
reach-end at (suc n) len h = rw (le-ltb at len h) (reach-end at n len h)

-- past the end nothing changes
pub sets_end : {T : Type 0} (t list : List T) (at : ℕ) → length list ≤ at → sets list at t ≡ list
sets_end [] list at h = refl
sets_end (b ∷ t) list at h = rw (set_out list at b h) (sets_end t list (suc at) (omega arith))

-- ---- one list after another

reach_add : {T : Type 0} (s t : List T) (at len : ℕ)
    → reach at (length (s ++ t)) len ≡ reach (reach at (length s) len) (length t) len
unfolding reach
reach_add [] t at len = refl
reach_add (b ∷ s) t at len = reach_add s t _ len

sets_append : {T : Type 0} (s t list : List T) (at : ℕ)
    → sets list at (s ++ t) ≡ sets (sets list at s) (reach at (length s) (length list)) t
unfolding reach
sets_append [] t list at = refl
sets_append (b ∷ s) t list at = by_cases (dec_lt at (length list))
    (λ (h : at < length list). sets_append s t (set list at b) (suc at)
    ∙ simp length-set (ap (λ (p : ℕ). sets (sets (set list at b) (suc at) s) p t) (sym (reach-room at (length s) (length list) h))))
    (λ (h : at < length list → ⊥).
    let end : length list ≤ at = omega arith in
    sets_end ((b ∷ s) ++ t) list at end
    ∙ sym (rw (reach-end at (suc (length s)) (length list) end, sets_end (b ∷ s) list at end) (sets_end t list at end)))

pub written_is : {T : Type 0} {s t list left : List T} {at place : ℕ}
    → s ≡ t → Written s at list place left → Written t at list place left
written_is {list = list} {left} {at} {place} e w = subst (λ x. Written x at list place left) e w

pub written_none : {T : Type 0} (at : ℕ) (list : List T) → Written [] at list at list
unfolding reach
written_none at list = record { ends = refl; holds = refl }

-- one item, where there is room
pub written_byte : {T : Type 0} (b : T) (at : ℕ) (list : List T)
    → at < length list → Written (b ∷ []) at list (at + 1) (set list at b)
unfolding reach
written_byte b at list h = record { ends = simp (lt-ltb at (length list) h, add-one); holds = refl }

-- one item, at the end
pub written_past : {T : Type 0} (b : T) (at : ℕ) (list : List T) → length list ≤ at → Written (b ∷ []) at list at list
unfolding reach
written_past b at list h = record { ends = simp (le-ltb at (length list) h); holds = sym (set_out list at b h) }

-- any list, at the end
pub written_over : {T : Type 0} (t : List T) (at : ℕ) (list : List T) → length list ≤ at → Written t at list at list
written_over t at list h = record { ends = sym (reach-end at (length t) (length list) h); holds = sym (sets_end t list at h) }

pub written-length : {T : Type 0} {t list left : List T} {at place : ℕ} → Written t at list place left → length left ≡ length list
written-length {t} {list} {at = at} w = ap length w.holds ∙ length-sets list at t

pub written_append : {T : Type 0} {s t list mid left : List T} {at place next : ℕ}
    → Written s at list place mid → Written t place mid next left → Written (s ++ t) at list next left
written_append {s} {t} {list} {at = at} v w = record {
  ends = w.ends ∙ rw (written-length v, v.ends) (sym (reach_add s t at (length list)));
  holds = w.holds ∙ rw (v.holds, v.ends) (sym (sets_append s t list at));
}

-- ---- a list item by item

-- one item more; where there is none, d
pub written-more : {T : Type 0} {list mid left : List T} {at place next : ℕ} (d : T) (t : List T) (i : ℕ) → i < length t
    → Written (take i t) at list place mid → Written (get_or t i d ∷ []) place mid next left
    → Written (take (i + 1) t) at list next left
written-more d t i h v w = rw (add-one i, take-suc t i d h) (written_append v w)

-- the last item is written
pub written_all : {T : Type 0} {list left : List T} {at place : ℕ} (t : List T) (i : ℕ) → length t ≤ i
    → Written (take i t) at list place left
    → Written t at list place left
written_all t i h w = rw (take_all i t h) at w

-- ---- an output

module _ {T : Type 0} where
  pub writes_none : (o : Output T) → Writes [] o o
  writes_none o = record { same_list = refl; written = written_none o.at o.out.now }

  pub writes_is : {s t : List T} {a b : Output T} → s ≡ t → Writes s a b → Writes t a b
  writes_is e w = record { same_list = w.same_list; written = written_is e w.written }

  pub writes_append : {s t : List T} {a b c : Output T} → Writes s a b → Writes t b c → Writes (s ++ t) a c
  writes_append v w = record { same_list = w.same_list ∙ v.same_list; written = written_append v.written w.written }

  pub writes-more : {a b c : Output T} (d : T) (t : List T) (i : ℕ) → i < length t
      → Writes (take i t) a b → Writes (get_or t i d ∷ []) b c → Writes (take (i + 1) t) a c
  writes-more d t i h v w =
      record { same_list = w.same_list ∙ v.same_list; written = written-more d t i h v.written w.written }

  pub writes_all : {a b : Output T} (t : List T) (i : ℕ) → length t ≤ i → Writes (take i t) a b → Writes t a b
  writes_all t i h v = record { same_list = v.same_list; written = written_all t i h v.written }

-- ---- a list from the start on

-- with room for k items, the first k items are written
reach-take : {T : Type 0} (k : ℕ) (t : List T) (at len : ℕ) → at + k ≡ len → reach at (length t) len ≡ at + length (take k t)
unfolding reach
reach-take zero t at len h = reach-end at (length t) len (omega arith) ∙ omega arith
reach-take (suc k) [] at len h = omega arith
reach-take (suc k) (b ∷ t) at len h =
    reach-room at (length t) len (omega arith) ∙ reach-take k t (suc at) len (omega arith) ∙ omega arith

sets-take : {T : Type 0} (k : ℕ) (t list : List T) (at : ℕ) → length list ≤ at + k → sets list at t ≡ sets list at (take k t)
sets-take zero t list at h = sets_end t list at (omega arith)
sets-take (suc k) [] list at h = refl
sets-take (suc k) (b ∷ t) list at h = sets-take k t (set list at b) (suc at) (omega (arith, length-set list at b))

pub written-full : {T : Type 0} {t list left : List T} {place : ℕ} → Written t 0 list place left
    → (place ≡ length (take (length list) t)) × (left ≡ take (length list) t ++ drop (length (take (length list) t)) list)
written-full {t} {list} w =
    let fits : length (take (length list) t) ≤ length list = simp length-take (omega arith) in (
      w.ends ∙ reach-take (length list) t 0 (length list) (omega arith) ∙ omega arith,
      w.holds ∙ sets-take (length list) t list 0 (omega arith) ∙ sets-eq (take (length list) t) list 0 (omega arith)
          ∙ ap (λ (k : ℕ). take (length list) t ++ drop k list) (zero-add (length (take (length list) t))),
    )

pub written-fits : {T : Type 0} {t list left : List T} {place : ℕ} → Written t 0 list place left → length t ≤ length list
    → (place ≡ length t) × (left ≡ t ++ drop (length t) list)
written-fits {t} {list} w h = rw (take_all (length list) t h) at (written-full w)
