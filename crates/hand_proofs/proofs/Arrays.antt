-- A local array of plain data in a walk: filled with one value, lent whole as a `&mut [T]`, and had back.
--     repeats, repeated        `[x; n]` as what is assigned, and that it is an array of n elements
--     array-loan n b α γ       where the slice of the local array in block b lies: for a lifetime α made for it, whose whole token is
--                              had, under a name γ
--     LentOut R n b α γ        what stands in the context in the place of the local's cell meanwhile: the lender's part
--     lends-array              the cell of a local that holds xs becomes the lender's part, and `Holds` at xs stands at the head of the
--                              context. A call that is lent the
--                              array is one that is lent this slice (`lent`, `shown` of Calling.antt). Its machine value is the local's
--                              address with the count
--     array_back               `Holds` at zs at the head is over, and the local holds zs
-- In the last two a number is the position of the local's entry where no entry for its slice stands at the head, so it is the same in both.
-- It says nothing of any crate. Assumes `Logic`.
use mathlib.Core.Path.{◌≡◌, refl, sym, ap, subst}
use mathlib.Core.List.{List, [], ◌∷◌, map}
use Prim.Native.Nat.{ℕ, zero, suc}
use lib.ListN.{length, replicate, length-replicate}
use seplogic.Ra.Ura.{Ura}
use base.Fraction.{full_share}
use mir.Syntax.{erased, ty_array, Opd as Operand, repeat}
use mir.Val.{Val}
use base.Logic.{SProp, ent, sep, ex, guard, via}
use base.Fml.{GName, Fml, fat, flent}
use prog.Wp.{Env}
use types.Logic.{Logic, sem}
use types.Kit.{Item, Goal, Soaks, Seq, Step, step, ‵, ◌⊛◌, some, given, later, mean, ⋆, nth, del, put, fill, pop, ◌$◌}
use types.Kit.{◌∵◌}
use types.Kit.{ !, qed, move, use0, use1, use2, use3, rewrite, split, pick, learn, drop, fsplit, fjoin, feq_l, feq_i, await, updating}
use types.Kit.{now as at_once, show as witness, check, done}
use types.Part.{rep}
use types.Run.{Opd, Rv}
use types.SemTy.{cells, Arr}
use types.Share.{arr_parts}
use types.Tokens.{lft_new, lft_end, name_done}
use denote.Array.{Array, array_val, each}
use denote.ArrayMemory.{Single, Array-apart, Array-whole}
use denote.Index.{row, whole_out, whole_in}
use denote.Laws.{Is, shows}
use denote.Lend.{Held, lends_slice, slice_back}
use denote.Memory.{lone, part_at, mem, shares}
use denote.RattleType.{RattleType}
use denote.Shadow.{shadow}
use denote.Slice.{slice_val, MutSlice, Room, finally, res-finally}
use denote.Steps.{only, facts}
use borrow.Table.OneValue.{part_in, part_out}
use Rattle.hand_proofs.proofs.Values.{ByValue, by_array}
use Rattle.hand_proofs.proofs.Lending.{Loan, Holds}
use Rattle.hand_proofs.proofs.Locals.{equals}

-- ---- filled with one value
map-replicate : {X Y : Type 0} (f : X → Y) (n : ℕ) (x : X) → map f (replicate n x) ≡ replicate n (f x)
map-replicate f zero x = refl
map-replicate f (suc n) x = ap (λ l. f x ∷ l) (map-replicate f n x)

module _ {R : RattleType} (B : ByValue R) where
  each-repeated : (n : ℕ) (x : R.Denot) → Is R x (B.word x ∷ [])
      → shadow (each R.Denot R.own_val (replicate n x) (map B.word (replicate n x)))
  each-repeated zero x is = tt
  each-repeated (suc n) x is = (is, each-repeated n x is)

  pub repeated : (n : ℕ) (x : R.Denot) → Is R x (B.word x ∷ [])
      → Is (Array R n) (replicate n x) ((by_array R B n).word (replicate n x) ∷ [])
  repeated n x is = (map B.word (replicate n x), ((refl, length-replicate n x), each-repeated n x is))

  pub repeats : {M : Type 1} {𝓤 : Ura M} {𝓛 : Logic 𝓤} {K : Type 0} {Γ : List (Item 𝓤)}
      {E : Env 𝓤 𝓛.H} {o : Operand}
      → K → (n : ℕ) (x : R.Denot) → Opd K 𝓛 Γ E o (B.word x)
      → Rv K 𝓛 Γ E (repeat o n) ((by_array R B n).word (replicate n x))
  repeats t n x a = equals (ap array_val (sym (map-replicate B.word n x))) (rep t n a)

-- ---- lent
abbrev pub array_loan : (n b α : ℕ) → GName → Loan
array_loan n b α γ = record { mark = erased; during = α ∷ []; portion = full_share; tag = γ; block = b; byte = 0; count = n }

abbrev pub LentOut : (R : RattleType) (n b α : ℕ) → GName → Fml
LentOut R n b α γ = flent (α ∷ []) (Held R n b 0 γ)

-- the cell of the local
abbrev pub ArrayCell : (R : RattleType) → ByValue R → (n b : ℕ) → List R.Denot → Fml
ArrayCell R B n b xs = fat full_share (ty_array (lone R.mir) n) b 0 ((by_array R B n).word xs)

module _ {M : Type 1} {𝓤 : Ura M} (𝓛 : Logic 𝓤) (R : RattleType)
    (B : ByValue R) (n b : ℕ) where
  open 𝓛 use {H}

  abbrev word : List R.Denot → Val
  word xs = (by_array R B n).word xs

  abbrev Out : List R.Denot → ℕ × GName → SProp 𝓤
  Out xs p = sep 𝓤 (sem 𝓛 (Holds R (array_loan n b p.0 p.1) xs)) (sem 𝓛 (LentOut R n b p.0 p.1))

  goes-out : Single R.mir → (xs : List R.Denot) → Is (Array R n) xs (word xs ∷ []) → Room R n
      → ent 𝓤 (sem 𝓛 (ArrayCell R B n b xs)) (H.⇛ (ex 𝓤 (Out xs)))
  goes-out one xs is room =
      qed 𝓛 (‵ (ArrayCell R B n b xs) ∷ []) ∵ updating ! $ lft_new ! tt (λ α. let κ = α ∷ [] in
      use0 𝓛 (‵ ((Array R n).own_val xs (word xs ∷ []))) ((by_array R B n).makes 𝓛 xs (word xs ∷ []) is) $
      move ! (2 ∷ 0 ∷ []) $
      use2 𝓛 (‵ (part_at (Array R n) full_share xs b 0)) (part_in 𝓛 (Array R n) refl full_share xs b 0 (word xs)) $
      use1 𝓛 (‵ ((arr_parts (shares R) n).part full_share xs b 0)) (Array-apart 𝓛 R full_share one n xs b 0) $
      fsplit ! $ feq_l ! (λ l.
      use1 𝓛 (‵ (cells (mem R) xs b 0)) (whole_in 𝓛 R xs b 0) $
      use1 𝓛 (later (some (λ (γ : GName). ‵ ((MutSlice erased κ R).own_val (record { ref_ptr = (b, 0); ghost_name = γ; now = xs })
      (slice_val (b, 0) (length xs) ∷ []))
      ⊛ ‵ (flent κ (Held R (length xs) b 0 γ)))))
      (lends_slice 𝓛 R erased κ xs b 0 (subst (Room R) (sym l) room)) $ await ! tt $ pick ! (λ γ. split ! $
      rewrite ! 0 (λ (m : ℕ). ‵ ((MutSlice erased κ R).own_val (record { ref_ptr = (b, 0); ghost_name = γ; now = xs })
      (slice_val (b, 0) m ∷ [])))
      l refl $
      rewrite ! 1 (λ (m : ℕ). ‵ (flent κ (Held R m b 0 γ))) l refl $
      -- [the slice; the lender's part; the token]
      at_once ! $ witness ! (Out xs) (α, γ) $ move ! (0 ∷ 2 ∷ []) $ fjoin ! $ done !)))

  comes_back : (α : ℕ) (γ : GName) (zs : List R.Denot) → ent 𝓤
      (sep 𝓤 (sem 𝓛 (LentOut R n b α γ)) (sem 𝓛 (Holds R (array_loan n b α γ) zs)))
      (H.⇛ (guard 𝓤 (Is (Array R n) zs (word zs ∷ [])) (sem 𝓛 (ArrayCell R B n b zs))))
  comes_back α γ zs =
      let κ = α ∷ [] in
      qed 𝓛 (‵ (LentOut R n b α γ) ∷ ‵ (Holds R (array_loan n b α γ) zs) ∷ []) ∵ updating ! $ move ! (1 ∷ []) $ fsplit !
      $
      fsplit ! $ drop ! $ fsplit ! $ name_done ! tt $
      use1 𝓛 (‵ (finally R γ zs)) (res-finally 𝓛 erased κ R γ zs) $ move ! (1 ∷ []) $ drop ! $
      -- [what says the last list; the token; the lender's part]
      move ! (1 ∷ []) $ lft_end ! tt $ move ! (0 ∷ 2 ∷ 1 ∷ []) $
      use3 𝓛 (later (‵ ((Arr (mem R) n).own_at zs b 0))) (slice_back 𝓛 R κ γ zs n b 0) $ await ! tt $ fsplit ! $ feq_l ! (λ l.
      use1 𝓛 (‵ (row R full_share zs b 0)) (whole_out 𝓛 R zs b 0) $ feq_i ! ℕ (length zs) n l $ fjoin ! $
      use1 𝓛 (‵ (part_at (Array R n) full_share zs b 0)) (Array-whole 𝓛 R full_share n zs b 0) $
      use1 𝓛 (some (λ (v : Val). ‵ (fat full_share (ty_array (lone R.mir) n) b 0 v) ⊛ ‵ ((Array R n).own_val zs (v ∷ []))))
      (part_out 𝓛 (Array R n) refl full_share zs b 0) $ pick ! (λ v. split ! $ move ! (1 ∷ []) $
      facts ! (Array R n) (Is (Array R n)) (shows 𝓛 (Array R n)) zs (v ∷ [])
      (λ is. let same : v ∷ [] ≡ word zs ∷ [] = (by_array R B n).told zs (v ∷ []) is in
      rewrite ! 0 (λ (u : Val). ‵ (fat full_share (ty_array (lone R.mir) n) b 0 u)) (ap only same) refl $ at_once ! $
      check ! (subst (Is (Array R n) zs) same is) $ done !)))

-- ---- as steps, at a position of the context
module _ {M : Type 1} {𝓤 : Ura M} {𝓛 : Logic 𝓤} {K : Type 0} {G : Goal 𝓤 𝓛.H} where
  -- an entry is taken out, and another is put in its place
  takes : K → (Γ : List (Item 𝓤)) (at : ℕ) (i : Item 𝓤) → nth 𝓛 at Γ ≡ i
      → Step K 𝓛 (i ∷ del 𝓛 at Γ) G Γ G
  takes t Γ at i e = step (λ s. move t (at ∷ []) $ subst (λ (j : Item 𝓤). Seq K 𝓛 (j ∷ del 𝓛 at Γ) G) (sym e) s)

  puts : K → (Γ : List (Item 𝓤)) (at : ℕ) (i : Item 𝓤) → Step K 𝓛 (put 𝓛 at i Γ) G (i ∷ del 𝓛 at Γ) G
  puts t Γ at i = step (λ s. record {
    prf = via 𝓤 (sep 𝓤 (mean 𝓛 i) (⋆ 𝓛 (del 𝓛 at Γ))) (pop 𝓛 i (del 𝓛 at Γ))
        (via 𝓤 (⋆ 𝓛 (put 𝓛 at i Γ)) (fill 𝓛 at i Γ) s.prf);
  })

  module _ {Γ : List (Item 𝓤)} {R : RattleType} where
    pub lends_array : K → Soaks G → (B : ByValue R) → Single R.mir → (at n : ℕ) (xs : List R.Denot)
        → Is (Array R n) xs ((by_array R B n).word xs ∷ []) → Room R n
        → {b : ℕ} → nth 𝓛 at Γ ≡ ‵ (fat full_share (ty_array (lone R.mir) n) b 0 ((by_array R B n).word xs))
        → ((α : ℕ) (γ : GName) → Seq K 𝓛 (‵ (Holds R (array_loan n b α γ) xs) ∷
        put 𝓛 at (‵ (LentOut R n b α γ)) Γ) G)
        → Seq K 𝓛 Γ G
    lends_array t z B one at n xs is room {b} e k =
        takes t Γ at (‵ (ArrayCell R B n b xs)) e $
        use1 𝓛 (later (some (λ (p : ℕ × GName). ‵ (Holds R (array_loan n b p.0 p.1) xs) ⊛ ‵ (LentOut R n b p.0 p.1))))
        (goes-out 𝓛 R B n b one xs is room) $
        await t z $ pick t (λ p. split t $ move t (1 ∷ []) $
        puts t (‵ (Holds R (array_loan n b p.0 p.1) xs) ∷ Γ) (suc at) (‵ (LentOut R n b p.0 p.1)) $ k p.0 p.1)

    -- the local is an array again, of as many elements
    pub array_back : K → Soaks G → (B : ByValue R) → (at : ℕ) {n b α : ℕ} {γ : GName} (zs : List R.Denot)
        → nth 𝓛 at Γ ≡ ‵ (LentOut R n b α γ)
        → (Is (Array R n) zs ((by_array R B n).word zs ∷ []) → Seq K 𝓛
        (put 𝓛 at (‵ (fat full_share (ty_array (lone R.mir) n) b 0 ((by_array R B n).word zs))) Γ) G)
        → Seq K 𝓛 (‵ (Holds R (array_loan n b α γ) zs) ∷ Γ) G
    array_back t z B at {n} {b} {α} {γ} zs e k =
        takes t (‵ (Holds R (array_loan n b α γ) zs) ∷ Γ) (suc at) (‵ (LentOut R n b α γ)) e $
        use2 𝓛 (later (given (Is (Array R n) zs ((by_array R B n).word zs ∷ [])) (‵ (ArrayCell R B n b zs))))
        (comes_back 𝓛 R B n b α γ zs) $ await t z $ learn t (λ is.
        puts t Γ at (‵ (ArrayCell R B n b zs)) $ k is)
