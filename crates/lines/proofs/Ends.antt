-- Laws of the first line of a text: where it ends, its key, its value, its fault, and what a line reader answers. Assumes nothing.
use mathlib.Core.Path.{◌≡◌, refl, sym, ap, ◌∙◌}
use mathlib.Core.Logic.{⊎_elim, by_cases}
use mathlib.Core.Bool.{true, false}
use mathlib.Core.List.{List}
use Prim.Native.Nat.{ℕ, suc, ◌+◌, ◌-◌, ◌≤◌, ◌<◌}
use native.Mathlib.Decide.{dec_lt}
use native.Mathlib.Numerals.{add-one}
use native.Mathlib.Omega.{arith}
use lib.ListN.{length, take, drop, length-drop}
use lib.Seq.{length-take-le, take_all, take-add, drop_at}
use borrow.Author.Tests.{lt-ltb, le-ltb}
use Rattle.sets.proofs.Bools.{either}
use Rattle.text.specs.Text.{number, starts_with, after}
use Rattle.text.specs.Writing.{place_of}
use Rattle.text.proofs.Keys.{starts-length}
use Rattle.text.proofs.Pieces.{place_le}
use Rattle.lines.specs.Lines.{refuse, count_in, count_fault}
use Rattle.lines.specs.Fields.{fault_number, first_line, fault_at, Keyed, Keyless, Says}
use Rattle.lines.specs.declared.Fault.{Fault}
use Rattle.lines.specs.declared.Fault.TheVariants.{NoLine, BadValue, BadCount}

-- a part of a list
part-is : (a e : ℕ) (l : List ℕ) → a ≤ e → a ≤ length l → take (e - a) (drop a l) ≡ drop a (take e l)
part-is a e l h r =
    let s : e ≡ a + (e - a) = omega arith
    in sym (ap (λ (k : ℕ). drop a (take k l)) s ∙ ap (drop a) (take-add a (e - a) l) ∙ drop_at (take a l) _ a (length-take-le a l r))

-- the code's part from a place on
pub rest-is : (a : ℕ) (l : List ℕ) → take (length l - a) (drop a l) ≡ drop a l
rest-is a l = take_all (length l - a) (drop a l) (omega (arith, length-drop a l))

-- ---- the end of the line, and its key

-- the place of the LF, found by a search
module _ (rest : List ℕ) (end : ℕ) (place : end ≡ place_of 10 rest) where
  pub lent_length : end ≡ length (take end rest)
  lent_length = sym (length-take-le end rest (omega (arith, place_le 10 rest)))

  lent-line : take end rest ≡ first_line rest
  unfolding first_line
  lent-line = ap (λ (k : ℕ). take k rest) place

  pub key_endless : (key : List ℕ) → end ≡ length rest → Keyless key rest NoLine
  key_endless key e = record { fault = refl; endless = λ _. omega arith }

  pub key_other : (key : List ℕ) {said : _} → said ≡ starts_with key (take end rest) → said ≡ false → Keyless key rest NoLine
  key_other key s h =
      let n : starts_with key (first_line rest) ≡ false = rw lent-line at (sym s ∙ h) in
      record { fault = refl; endless = λ y. cc }

  module _ (key : List ℕ) (ended : end ≡ length rest → ⊥) {said : _} (s : said ≡ starts_with key (take end rest))
      (h : said ≡ true)
    where
      pub key_room : (length key ≤ end) × (end ≤ length rest)
      key_room =
          let k : length key ≤ length (take end rest) = starts-length key (take end rest) (sym s ∙ h) in
          omega (arith, lent_length, place_le 10 rest)

      key_value : take (end - length key) (drop (length key) rest) ≡ after key (first_line rest)
      unfolding after first_line
      key_value =
          let inside : length key ≤ length rest = omega (arith, key_room) in
          part-is (length key) end rest key_room.0 inside
          ∙ ap (λ (k : ℕ). drop (length key) (take k rest)) place

      pub key_found : Keyed key rest (take (end - length key) (drop (length key) rest)) (end + 1)
      key_found = record {
        ended = omega (arith, place_le 10 rest);
        begins = rw lent-line at (sym s ∙ h);
        is = key_value;
        takes = add-one end ∙ ap suc place;
      }

-- ---- the fault of the line

pub fault_none : (fault : List ℕ → ℕ) (rest : List ℕ) → length rest ≤ place_of 10 rest → fault_at fault rest ≡ 3
unfolding fault_at
fault_none fault rest h = simp (le-ltb (place_of 10 rest) (length rest) h)

pub fault_line : (fault : List ℕ → ℕ) (rest : List ℕ) → place_of 10 rest < length rest
    → fault_at fault rest ≡ fault (first_line rest)
unfolding fault_at
fault_line fault rest h = simp (lt-ltb (place_of 10 rest) (length rest) h)

-- a line that ends, without the key
pub key-not : {key rest : List ℕ} {f : Fault} → Keyless key rest f → place_of 10 rest < length rest
    → starts_with key (first_line rest) ≡ false
key-not {key} {rest} k h = ⊎_elim (λ y. absurd (omega (arith, k.endless y))) (λ n. n) (either (starts_with key (first_line rest)))

pub keyless : {key rest : List ℕ} {f : Fault} → Keyless key rest f → (fault : List ℕ → ℕ)
    → ((line : List ℕ) → starts_with key line ≡ false → fault line ≡ 3) → fault_number f ≡ fault_at fault rest
unfolding fault_number
keyless {key} {rest} k fault h =
    ap fault_number k.fault
    ∙ sym (by_cases (dec_lt (place_of 10 rest) (length rest))
    (λ l. fault_line fault rest l ∙ h (first_line rest) (key-not k l))
    (λ l. fault_none fault rest (omega arith)))

-- ---- what a reader answers of a line with its key

module _ {key rest value : List ℕ} {used : ℕ} (k : Keyed key rest value used) where
  pub said : {A : Type 0} {fault : List ℕ → ℕ} {say : List ℕ → A} {x : A} → fault (first_line rest) ≡ 0
      → x ≡ say (first_line rest)
      → Says fault say rest (record { value = x; used = used })
  said {A} {fault} {say} {x} h e = record { good = fault_line fault rest k.ended ∙ h; says = e; takes = k.takes }

  pub refused : (fault : List ℕ → ℕ) {n : ℕ} → fault (first_line rest) ≡ n → n ≡ fault_at fault rest
  refused fault h = sym (fault_line fault rest k.ended ∙ h)

-- ---- a key and a number

pub count-missing : {key rest : List ℕ} {f : Fault} (least most : ℕ) → Keyless key rest f
    → fault_number f ≡ fault_at (count_fault key least most) rest
unfolding count_fault refuse
count-missing {key} least most k = keyless k (count_fault key least most) (λ line h. simp h)

module _ {key rest value : List ℕ} {used : ℕ} (k : Keyed key rest value used) (least most : ℕ) where
  pub count-bad : {f : Fault} → (f ≡ BadValue) × (65535 < number value)
      → fault_number f ≡ fault_at (count_fault key least most) rest
  unfolding count_fault count_in refuse fault_number
  count-bad h = ap fault_number h.0 ∙ refused k (count_fault key least most) (simp (k.begins, ← k.is, lt-ltb 65535 _ h.1))

  module _ {n : ℕ} (is : (n ≡ number value) × (n ≤ 65535)) where
    pub count_low : n < least → fault_number BadCount ≡ fault_at (count_fault key least most) rest
    unfolding count_fault count_in refuse fault_number
    count_low l = refused k (count_fault key least most) (simp (k.begins, ← k.is, ← is.0, le-ltb 65535 n is.1, lt-ltb n least l))

    pub count-high : least ≤ n → most < n → fault_number BadCount ≡ fault_at (count_fault key least most) rest
    unfolding count_fault count_in refuse fault_number
    count-high l m =
        refused k (count_fault key least most) (simp (k.begins, ← k.is, ← is.0, le-ltb 65535 n is.1, le-ltb n least l, lt-ltb most n m))

    pub count-good : least ≤ n → n ≤ most
        → Says (count_fault key least most) (count_in key) rest (record { value = n; used = used })
    unfolding count_fault count_in refuse
    count-good l m =
        said k (simp (k.begins, ← k.is, ← is.0, le-ltb 65535 n is.1, le-ltb n least l, le-ltb most n m)) (is.0 ∙ ap number k.is)
