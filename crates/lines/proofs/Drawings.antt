-- Laws of parents: entries one after the other say what the rules say of them all, and what a line says. Assumes nothing.
use mathlib.Core.Path.{◌≡◌, refl, sym, ap, ◌∙◌}
use mathlib.Core.Bool.{true, false, not}
use mathlib.Core.List.{List, [], ◌∷◌, ◌++◌, map, foldl}
use Prim.Native.Nat.{ℕ, zero, suc, ◌+◌, ◌≤◌, ◌<◌, zero-le}
use native.Mathlib.Nat.{lt_irrefl}
use native.Mathlib.Numerals.{add-one}
use native.Mathlib.Omega.{arith}
use lib.ListN.{length, get_or, set, replicate}
use lib.Seq.{sets}
use lib.Dec.{ltb, eqb}
use borrow.Author.Tests.{lt-ltb, ltb-false, ne_eqb, eqb-true, not-false}
use Rattle.layout.specs.Tables.{tabulate}
use Rattle.text.specs.Text.{after, is_word, some}
use Rattle.std.specs.Prelude.{Some, None}
use Rattle.text.proofs.Pieces.{none-parts}
use Rattle.text.proofs.Written.{sets_end}
use Rattle.lines.specs.Lines.{refuse, parents_key, build_word, entries_in, parent_of}
use Rattle.lines.specs.Lines.{parents_in, parents_fault, parents_table}
use Rattle.lines.specs.Fields.{fault_number, first_line, fault_at, Keyed, Keyless, Says, up_to, no_entries, parent_byte, with_entry}
use Rattle.lines.specs.Fields.{entries_fault, drawn_of, drawn_in}
use Rattle.lines.specs.declared.Fault.{Fault}
use Rattle.lines.specs.declared.entries.Entries.{Entries}
use Rattle.lines.proofs.Ends.{keyless, said, refused}
use Rattle.lines.proofs.Faults.{refuse-none}
use Rattle.lines.proofs.Folds.{up_more, flag_is, count_test}

-- ---- a table filled from its start on

sets_behind : (x : ℕ) (vs l : List ℕ) (at : ℕ) → sets (x ∷ l) (suc at) vs ≡ x ∷ sets l at vs
sets_behind x [] l at = refl
sets_behind x (v ∷ vs) l at = sets_behind x vs (set l at v) (suc at)

-- one more behind those set
pub sets_snoc : (vs l : List ℕ) (at v : ℕ) → sets l at (vs ++ v ∷ []) ≡ set (sets l at vs) (at + length vs) v
sets_snoc [] l at v = let e : at ≡ at + 0 = omega arith in ap (λ (i : ℕ). set l i v) e
sets_snoc (w ∷ vs) l at v =
    let e : suc at + length vs ≡ at + suc (length vs) = omega arith in
    sets_snoc vs (set l at w) (suc at) v ∙ ap (λ (i : ℕ). set (sets l at (w ∷ vs)) i v) e

pub sets-table : (n d : ℕ) (vs : List ℕ) → sets (replicate n d) 0 vs ≡ tabulate n (λ u. get_or vs u d)
unfolding tabulate
sets-table zero d vs = sets_end vs [] 0 zero-le
sets-table (suc n) d [] = ap (λ (l : List ℕ). d ∷ l) (sets-table n d [])
sets-table (suc n) d (v ∷ vs) = sets_behind v vs (replicate n d) 0 ∙ ap (λ (l : List ℕ). v ∷ l) (sets-table n d vs)

-- ---- all entries

module _ (units : ℕ) where
  -- the parents while the count is below 256
  parents-are : (es : List ℕ) (s : Entries) → s.count + length es ≤ 256
      → (foldl (with_entry units) s es).parents ≡ sets s.parents s.count (map parent_byte es)
  unfolding with_entry
  parents-are [] s h = refl
  parents-are (e ∷ es) s h =
      let m : s.count + 1 ≡ up_to 256 s.count = up_more 256 s.count (omega arith) in
      parents-are es (with_entry units s e) (omega arith)
      ∙ ap (λ (k : ℕ). sets (set s.parents s.count (parent_byte e)) k (map parent_byte es)) (sym m ∙ add-one s.count)

  read-parents : (es : List ℕ) → length es ≤ 256
      → (foldl (with_entry units) no_entries es).parents ≡ tabulate 32 (λ u. get_or (map parent_byte es) u 255)
  unfolding no_entries
  read-parents es h = parents-are es no_entries (omega arith) ∙ sets-table 32 255 (map parent_byte es)

  read_fault : (es : List ℕ) → units < 256 → entries_fault (foldl (with_entry units) no_entries es) units
      ≡ refuse (some (ltb 65536) es) 4 (refuse (some (ltb units) es) 6 (refuse (not (eqb (length es) units)) 8 0))
  unfolding entries_fault with_entry no_entries
  read_fault es u = rw (
    flag_is (with_entry units) (λ s. s.bad) (ltb 65536) (λ s e. refl) es no_entries,
    flag_is (with_entry units) (λ s. s.outside) (ltb units) (λ s e. refl) es no_entries,
    count_test (with_entry units) (λ s. s.count) 256 (λ s e. refl) es no_entries units refl u,
  )

-- ---- where no entry is outside, the parents fit a byte

byte-is : (e : ℕ) → e < 256 → parent_byte e ≡ parent_of e
unfolding parent_byte parent_of
byte-is zero h = refl
byte-is (suc p) h = simp (ne_eqb (suc p) 0 (λ z. lt_irrefl 0 (omega arith)), lt-ltb (suc p) 256 h) (omega arith)

bytes-are : (units : ℕ) (es : List ℕ) → units < 256 → some (ltb units) es ≡ false → map parent_byte es ≡ map parent_of es
unfolding some
bytes-are units [] u h = refl
bytes-are units (e ∷ es) u h =
    let both = none-parts (ltb units) e es h in
    let l : e ≤ units = ltb-false units e both.0 in
    cc (byte-is e (omega arith), bytes-are units es u both.1)

-- ---- the line `parents=`

pub drawing-missing : {rest : List ℕ} {f : Fault} (units : ℕ) → Keyless parents_key rest f
    → fault_number f ≡ fault_at (parents_fault units) rest
unfolding parents_fault refuse
drawing-missing units k = keyless k (parents_fault units) (λ line h. simp h)

module _ {rest value : List ℕ} {used : ℕ} (k : Keyed parents_key rest value used) (units : ℕ) where
  pub drawing_build : is_word build_word value ≡ true → Says (parents_fault units) drawn_in rest (record { value = None; used = used })
  unfolding parents_fault parents_in refuse drawn_of
  drawing_build h =
      let w : is_word build_word (after parents_key (first_line rest)) ≡ true = rw k.is at h in
      said k (simp (k.begins, w)) (simp w)

  -- the entries s that were read
  module _ (small : units < 256) (other : is_word build_word value ≡ false) {s : Entries}
      (was : s ≡ foldl (with_entry units) no_entries (entries_in value)) where
    es : List ℕ
    es = entries_in value

    fault_said : refuse (some (ltb 65536) es) 4 (refuse (some (ltb units) es) 6 (refuse (not (eqb (length es) units)) 8 0))
        ≡ entries_fault s units
    unfolding es
    fault_said = sym (ap (λ (x : Entries). entries_fault x units) was ∙ read_fault units es small)

    fault_there : parents_fault units (first_line rest) ≡ entries_fault s units
    unfolding parents_fault refuse es
    fault_there = simp (k.begins, ← k.is, other) fault_said

    pub drawing-faulty : (f : Fault) → fault_number f ≡ entries_fault s units → fault_number f ≡ fault_at (parents_fault units) rest
    drawing-faulty f h = refused k (parents_fault units) (fault_there ∙ sym h)

    pub drawing-drawn : {ps : List ℕ} → (entries_fault s units ≡ 0) × (ps ≡ s.parents)
        → Says (parents_fault units) drawn_in rest (record { value = Some ps; used = used })
    unfolding parents_in drawn_of parents_table es
    drawing-drawn h =
        let bad = refuse-none (some (ltb 65536) es) 3 _ (fault_said ∙ h.0) in
        let outside = refuse-none (some (ltb units) es) 5 _ bad.1 in
        let count = refuse-none (not (eqb (length es) units)) 7 0 outside.1 in
        let l : length es ≡ units = eqb-true (length es) units (not-false (eqb (length es) units) count.0) in
        let parents : s.parents ≡ tabulate 32 (λ u. get_or (map parent_of es) u 255) =
        ap (λ (x : Entries). x.parents) was
        ∙ read-parents units es (omega arith)
        ∙ ap (λ (ps : List ℕ). tabulate 32 (λ u. get_or ps u 255)) (bytes-are units es small outside.0)
        in
        said k (fault_there ∙ h.0) (simp (← k.is, other) (ap Some (h.1 ∙ parents)))
