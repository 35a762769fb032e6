-- The first n elements of a slice that a function holds, lent on as a `&mut [T]` of its own, `&mut s[..n]`, and had back.
--     front-loan L n α γ       where the part lies: where the slice at L does, for a lifetime α made for it, whose whole token is had,
--                              under a name γ
--     FrontOut R L n α γ ys    what stands in the context behind the part meanwhile: the lender's part, the elements after the first n,
--                              and the open borrow of the whole
--     lends-front              `Holds` at ys, at the head of the context, becomes `Holds` of the part at the first n of ys, and what is
--                              kept
--     front-back               `Holds` of the part at zs is over, and the slice is held at zs with the rest of ys behind them
-- The part's machine value is the slice's pointer with the count n. It says nothing of any crate. Assumes `Logic`.
use mathlib.Core.Path.{◌≡◌, refl, sym, ◌∙◌}
use mathlib.Core.List.{List, [], ◌∷◌, ◌++◌}
use Prim.Native.Nat.{ℕ, ◌≤◌}
use native.Mathlib.Nat.{lt_of_le_of_lt, mul-le-mul_right}
use lib.ListN.{length, take, drop, take-append-drop}
use seplogic.Ra.Ura.{Ura}
use base.Fraction.{full_share}
use mir.Syntax.{erased}
use base.Logic.{SProp, ent, sep, ex, guard}
use base.Fml.{GName, Fml, fsep, flent}
use types.Logic.{Logic, sem}
use types.Kit.{Item, Goal, Soaks, Seq, ‵, ◌⊛◌, some, given, later, ◌$◌, ◌∵◌, !, qed, move, use1, use2, use3, rewrite}
use types.Kit.{split}
use types.Kit.{pick, learn, drop as toss, fsplit, fjoin, feq_l, frame, await, updating, now as at_once, show as witness, check, done}
use types.SemTy.{cells, Arr}
use types.Tokens.{lft_new, lft_end, name_done}
use denote.Index.{row, whole_out, whole_in}
use denote.Lend.{Held, lends_slice, slice_back}
use denote.Memory.{mem}
use denote.RattleType.{RattleType}
use denote.Shadow.{pure_l, pure_i}
use denote.Slice.{slice_val, MutSlice, Room, finally, res-finally}
use borrow.Table.Elements.{at, cut_app, join_app, same_len, take-le}
use lib.Seq.{length-take-le}
use Rattle.hand_proofs.proofs.Lending.{Loan, Holds, Lies, Opened, opens, closes}

abbrev pub front-loan : Loan → (n α : ℕ) → GName → Loan
front-loan L n α γ = record {
  mark = erased;
  during = α ∷ [];
  portion = full_share;
  tag = γ;
  block = L.block;
  byte = L.byte;
  count = n;
}

abbrev pub FrontOut : (R : RattleType) → Loan → (n α : ℕ) → GName → List R.Denot → Fml
FrontOut R L n α γ ys =
    fsep (flent (α ∷ []) (Held R n L.block L.byte γ))
    (fsep (cells (mem R) (drop n ys) L.block (at L.byte (mem R).size (length (take n ys)))) (Opened R L ys))

module _ {M : Type 1} {𝓤 : Ura M} (𝓛 : Logic 𝓤) (R : RattleType) (L : Loan) (n : ℕ)
    (ys : List R.Denot) (within : n ≤ length ys) where
  open 𝓛 use {H}

  abbrev b : ℕ
  b = L.block

  abbrev o : ℕ
  o = L.byte

  -- where the rest lies, behind m elements
  abbrev behind : ℕ → ℕ
  behind m = at o (mem R).size m

  few : length (take n ys) ≡ n
  few = length-take-le n ys within

  abbrev Out : ℕ × GName → SProp 𝓤
  Out p = sep 𝓤 (sem 𝓛 (Holds R (front-loan L n p.0 p.1) (take n ys))) (sem 𝓛 (FrontOut R L n p.0 p.1 ys))

  goes-out : ent 𝓤 (sem 𝓛 (Holds R L ys)) (H.⇛ (ex 𝓤 Out))
  goes-out =
      qed 𝓛 (‵ (Holds R L ys) ∷ []) ∵ updating ! $ lft_new ! tt (λ α. let κ = α ∷ [] in move ! (1 ∷ []) $
      opens R L ! tt ys (λ p.
      -- [the elements; the open borrow; both halves of its name; the token]
      let room : Room R (length (take n ys)) = (
        lt_of_le_of_lt (take-le n ys) p.1.0,
        lt_of_le_of_lt (mul-le-mul_right (mem R).size (take-le n ys)) p.1.1,
      ) in
      use1 𝓛 (‵ (cells (mem R) ys b o)) (whole_in 𝓛 R ys b o) $
      rewrite ! 0 (λ (l : List R.Denot). ‵ (cells (mem R) l b o)) (sym (take-append-drop n ys)) refl $
      use1 𝓛 (‵ (cells (mem R) (take n ys) b o) ⊛ ‵ (cells (mem R) (drop n ys) b (behind (length (take n ys)))))
      (cut_app 𝓛 (mem R) (take n ys) (drop n ys) b o) $ split ! $
      use1 𝓛 (later
      (some (λ (γ : GName). ‵ ((MutSlice erased κ R).own_val (record { ref_ptr = (b, o); ghost_name = γ; now = take n ys })
      (slice_val (b, o) (length (take n ys)) ∷ []))
      ⊛ ‵ (flent κ (Held R (length (take n ys)) b o γ)))))
      (lends_slice 𝓛 R erased κ (take n ys) b o room) $ await ! tt $ pick ! (λ γ. split ! $
      rewrite ! 0 (λ (m : ℕ). ‵ ((MutSlice erased κ R).own_val (record { ref_ptr = (b, o); ghost_name = γ; now = take n ys })
      (slice_val (b, o) m ∷ []))) few refl $
      rewrite ! 1 (λ (m : ℕ). ‵ (flent κ (Held R m b o γ))) few refl $
      -- [the part; the lender's part; the rest; the open borrow; both halves of its name; the token]
      at_once ! $ witness ! Out (α, γ) $ move ! (0 ∷ 6 ∷ []) $ fjoin ! $ frame ! $ move ! (3 ∷ 4 ∷ []) $ fjoin ! $
      move ! (3 ∷ 0 ∷ []) $ fjoin ! $
      pure_i ! (Lies R L ys) (tt, (tt, tt)) p $ fjoin ! $ move ! (2 ∷ 0 ∷ []) $ fjoin ! $ move ! (1 ∷ 0 ∷ []) $ fjoin ! $ done !)))

  comes_back : (α : ℕ) (γ : GName) (zs : List R.Denot)
      → ent 𝓤 (sep 𝓤 (sem 𝓛 (FrontOut R L n α γ ys)) (sem 𝓛 (Holds R (front-loan L n α γ) zs)))
      (H.⇛ (guard 𝓤 (length zs ≡ n) (sem 𝓛 (Holds R L (zs ++ drop n ys)))))
  comes_back α γ zs =
      let κ = α ∷ [] in
      qed 𝓛 (‵ (FrontOut R L n α γ ys) ∷ ‵ (Holds R (front-loan L n α γ) zs) ∷ []) ∵ updating ! $ move ! (1 ∷ []) $
      fsplit ! $ fsplit ! $ toss ! $ fsplit ! $ name_done ! tt $
      use1 𝓛 (‵ (finally R γ zs)) (res-finally 𝓛 erased κ R γ zs) $ move ! (1 ∷ []) $ toss ! $
      -- [what says the last list; the token; what was kept]
      move ! (1 ∷ []) $ lft_end ! tt $ move ! (2 ∷ []) $ fsplit ! $ move ! (2 ∷ 0 ∷ 3 ∷ []) $
      use3 𝓛 (later (‵ ((Arr (mem R) n).own_at zs b o))) (slice_back 𝓛 R κ γ zs n b o) $ await ! tt $ fsplit ! $ feq_l ! (λ l.
      move ! (1 ∷ []) $ fsplit ! $ rewrite ! 0 (λ (m : ℕ). ‵ (cells (mem R) (drop n ys) b (behind m))) (few ∙ sym l) refl $
      move ! (2 ∷ 0 ∷ []) $
      use2 𝓛 (‵ (cells (mem R) (zs ++ drop n ys) b o)) (join_app 𝓛 (mem R) zs (drop n ys) b o) $
      use1 𝓛 (‵ (row R full_share (zs ++ drop n ys) b o)) (whole_out 𝓛 R (zs ++ drop n ys) b o) $
      move ! (1 ∷ []) $ fsplit ! $ pure_l ! (Lies R L ys) (λ p. fsplit ! $ move ! (1 ∷ []) $ fsplit ! $
      move ! (3 ∷ 2 ∷ 0 ∷ 1 ∷ []) $
      closes R L ! tt ys (zs ++ drop n ys) (same_len n ys zs (l ∙ sym few)) p $ at_once ! $ check ! l $ done !))

-- ---- as steps, at the head of the context
module _ {M : Type 1} {𝓤 : Ura M} {𝓛 : Logic 𝓤} {K : Type 0} {G : Goal 𝓤 𝓛.H}
    {Γ : List (Item 𝓤)} where
  pub lends_front : K → Soaks G → (R : RattleType) (L : Loan) (n : ℕ) (ys : List R.Denot) → n ≤ length ys
      → ((α : ℕ) (γ : GName) → Seq K 𝓛 (‵ (Holds R (front-loan L n α γ) (take n ys)) ∷ ‵ (FrontOut R L n α γ ys) ∷
      Γ)
      G) → Seq K 𝓛 (‵ (Holds R L ys) ∷ Γ) G
  lends_front t z R L n ys within k =
      use1 𝓛 (later (some (λ (p : ℕ × GName). ‵ (Holds R (front-loan L n p.0 p.1) (take n ys)) ⊛ ‵
      (FrontOut R L n p.0 p.1 ys)))) (goes-out 𝓛 R L n ys within) $
      await t z $ pick t (λ p. split t $ k p.0 p.1)

  pub front-back : K → Soaks G → (R : RattleType) (L : Loan) (n : ℕ) (ys : List R.Denot) → n ≤ length ys
      → (α : ℕ) (γ : GName) (zs : List R.Denot)
      → (length zs ≡ n → Seq K 𝓛 (‵ (Holds R L (zs ++ drop n ys)) ∷ Γ) G)
      → Seq K 𝓛 (‵ (Holds R (front-loan L n α γ) zs) ∷ ‵ (FrontOut R L n α γ ys) ∷ Γ) G
  front-back t z R L n ys within α γ zs k =
      move t (1 ∷ []) $ use2 𝓛 (later (given (length zs ≡ n) (‵ (Holds R L (zs ++ drop n ys)))))
      (comes_back 𝓛 R L n ys within α γ zs) $ await t z $ learn t (λ e. k e)
