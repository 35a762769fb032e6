-- Columns of a list: what is read and stored in the list is read and stored in the column. Assumes nothing.
use mathlib.Core.Path.{◌≡◌, sym, ap, ◌∙◌}
use mathlib.Core.List.{List, ◌++◌}
use Prim.Native.Nat.{ℕ, ◌+◌, ◌-◌, ◌≤◌, ◌<◌, min}
use native.Mathlib.Omega.{arith}
use lib.ListN.{length, get_or, set, take, drop, length-take, length-drop, take-append-drop, get_or-eq_default}
use lib.Seq.{get_or-take, get_or-drop, set_out, take-set-le, take-set-lt, drop-set-lt, drop-set-add}
use Rattle.std.proofs.lemmas.List.{get_or_default}
use Rattle.bench_store.specs.Values.{item_at, with_column}

-- the column of n numbers from place k on, and number i of it
module _ {A : Type 0} (l : List A) (k n i : ℕ) where
  pub column_read : (none : A) → i < n → get_or l (k + i) none ≡ item_at none l k n i
  unfolding item_at
  column_read none h = rw (get_or-take n (drop k l) i none h, get_or-drop)

  -- an item x that is there
  pub column_item : (x none : A) → x ≡ get_or l (k + i) x → i < min n (length l - k) → x ≡ item_at none l k n i
  column_item x none is h = is ∙ get_or_default l (k + i) x none (omega arith) ∙ column_read none (omega arith)

  pub column_none : (none : A) → min n (length l - k) ≤ i → none ≡ item_at none l k n i
  unfolding item_at
  column_none none h = sym (get_or-eq_default (take n (drop k l)) none (simp (length-take, length-drop) h))

  pub column_stored : (x : A) → i < n → set l (k + i) x ≡ with_column l k n i x
  unfolding with_column
  column_stored x h =
      sym (take-append-drop k _)
      ∙ rw (take-set-le k l (k + i) x (omega arith), drop-set-add)
      (ap (take k l ++◌) (sym (take-append-drop n _) ∙ rw (take-set-lt, drop-set-lt)))

  pub column_kept : (x : A) → min n (length l - k) ≤ i → l ≡ with_column l k n i x
  unfolding with_column
  column_kept x h =
      let out : length (take n (drop k l)) ≤ i = simp (length-take, length-drop) h in
      sym (rw (set_out, take-append-drop, take-append-drop))
