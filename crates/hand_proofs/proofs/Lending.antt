-- A slice that a function holds: opened in its own walk, or lent for one call and had back.
--     Holds, Views                 a `&mut [T]`, and a `&[T]`, with its token, as one formula: a walk has one entry of the context for each
--                                  slice
--     opens, closes                a `&mut [T]` opened in the function's own walk, and closed at a list of the same length
--     looks, shuts                 a `&[T]` looked into, and shut
--     lend, regain                 a `&mut [T]` lent as a `&mut [T]` for κ'; once κ' is over, had back at the list that the callee
--                                  left
--     show, regain-shown           a `&mut [T]` lent as a `&[T]` for κ'; once κ' is over, had back as it was
--     relay, regain-relayed        a `&[T]` lent on as a `&[T]`, likewise
-- It says nothing of any crate. Assumes `Logic`.
use mathlib.Core.Path.{◌≡◌, refl, sym, subst}
use Prim.Native.Nat.{ℕ, ◌+◌}
use mathlib.Core.List.{List, [], ◌∷◌, ◌++◌}
use lib.ListN.{length}
use seplogic.Ra.Ura.{Ura}
use base.Before.{before}
use base.Fraction.{full_share}
use base.Logic.{SProp, ent, sep, ex}
use base.Fml.{Lft, GName, Share, Fml, fsep, feq, flft, fdead, fobs, fauth, fbor, fobor, flent, fhide}
use contract.BorrowLft.{meet_⊑_left}
use mir.Syntax.{Lifetime}
use mir.Val.{Val}
use types.Logic.{Logic, sem}
use types.Kit.{Item, Goal, Soaks, Seq, Step, step, ‵, ◌⊛◌, some, later, ◌$◌, ◌∵◌, !, qed, move, use0, use1, use2, use3}
use types.Kit.{rewrite}
use types.Kit.{split, pick, drop, fsplit, fjoin, feq_l, frame, await, updating, now as at_once, show as witness, done}
use types.Na.{before-Incl, before_lent}
use types.SemTy.{cells, Arr}
use types.Tokens.{bor_new, bor_fracture, lent_back}
use denote.Bor.{Bor}
use denote.Copied.{Copied}
use denote.Index.{row, whole_out, whole_in, opens_slice, closes_slice, looks_slice, shuts_slice}
use denote.Lend.{Held, lends_slice, slice_back}
use denote.Lends.{Lent, Lent-nothing, Lent-both}
use denote.Memory.{mem, part_at, shared_of}
use denote.MutBor.{MutBor}
use denote.Opens.{Shut}
use denote.RattleType.{RattleType, RowLaws}
use denote.Shadow.{pure_l, pure_i}
use denote.Slice.{slice_val, MutSlice, ShrSlice, Room, heres, finally, shr_slice_at, coded_holeys, elements_shared, elements_shr_laws}
use denote.Slice.{shr_slice_copy}
use Rattle.hand_proofs.proofs.Values.{Lendable}

-- where a slice that a function holds lies, for how long and under what name: all of it but the list, which changes. The name is a
-- `&mut [T]`'s: a `&[T]` has none, and says nothing of `tag`
pub record Loan : Type 0 where
  pub mark : Lifetime
  pub during : Lft
  pub portion : Share
  pub tag : GName
  pub block : ℕ
  pub byte : ℕ
  pub count : ℕ

-- its one machine value
abbrev pub slice : Loan → Val
slice L = slice_val (L.block, L.byte) L.count

module _ (R : RattleType) (L : Loan) where
  -- the reference to it at a list: a `&mut [T]` under a name, and a `&[T]`
  abbrev pub at_list : GName → List R.Denot → MutBor (List R.Denot)
  at_list δ ys = record { ref_ptr = (L.block, L.byte); ghost_name = δ; now = ys }

  abbrev pub seen_at : List R.Denot → Bor (List R.Denot)
  seen_at ys = record { ref_ptr = (L.block, L.byte); now = ys }

  abbrev pub words : List Val
  words = slice L ∷ []

  -- the function holds it at the list ys, with its share of the lifetime's token: a `&mut [T]`, and a `&[T]`
  abbrev pub Holds : List R.Denot → Fml
  Holds ys = fsep ((MutSlice L.mark L.during R).own_val (at_list L.tag ys) words) (flft L.during L.portion)

  abbrev pub Views : List R.Denot → Fml
  Views ys = fsep ((ShrSlice L.mark L.during R).own_val (seen_at ys) words) (flft L.during L.portion)

  -- the machine value is the list's, and the count fits
  abbrev pub Lies : List R.Denot → Fml
  Lies ys = shr_slice_at R (seen_at ys) words

  -- what the holder has left of its own borrow while the elements are away
  abbrev pub Opened : List R.Denot → Fml
  Opened ys = fsep (Lies ys) (fsep (fobor L.during L.portion (Held R (length ys) L.block L.byte L.tag))
      (fsep (fobs L.tag ((coded_holeys R).code (heres R ys))) (fauth L.tag ((coded_holeys R).code (heres R ys)))))

  -- what it keeps in each of the three: that, and the lender's part of the loan for κ'; of a `&[T]` the reference itself, and the lender's
  -- part of the loan of its token
  abbrev pub Away : Lft → GName → List R.Denot → Fml
  Away κ' δ ys = fsep (flent κ' (Held R (length ys) L.block L.byte δ)) (Opened ys)

  abbrev pub Seen : Lft → List R.Denot → Fml
  Seen κ' ys = fsep (flent κ' (row R full_share ys L.block L.byte)) (Opened ys)

  abbrev pub Relayed : Lft → List R.Denot → Fml
  Relayed κ' ys = fsep ((ShrSlice L.mark L.during R).own_val (seen_at ys) words) (flent κ' (flft L.during L.portion))

  -- what a callee's contract says of the list zs that is left of a slice lent to it for κ' under the name δ, at ys: that it is the last
  -- one,
  -- that it is as long, and that the borrow is closed
  abbrev pub Left-at : Lft → GName → List R.Denot → List R.Denot → Fml
  Left-at κ' δ ys zs = fsep (fsep (finally R δ zs) (feq ℕ (length zs) (length ys)))
      (fbor κ' (Held R (length ys) L.block L.byte δ))

  -- what `Lies` says
  abbrev pub Fits : List R.Denot → Type 0
  Fits ys = (words ≡ slice_val (L.block, L.byte) (length ys) ∷ []) × Room R (length ys)

  module _ {M : Type 1} {𝓤 : Ura M} {𝓛 : Logic 𝓤} {K : Type 0} {Γ : List (Item 𝓤)}
      {G : Goal 𝓤 𝓛.H} where
    -- a `&mut [T]` is opened, and closed at a list of the same length: [the row of its elements; the open borrow; both halves of its name]
    pub opens : K → Soaks G → (ys : List R.Denot)
        → (Fits ys → Seq K 𝓛 (‵ (row R full_share ys L.block L.byte) ∷
        ‵ (fobor L.during L.portion (Held R (length ys) L.block L.byte L.tag))
        ∷ ‵ (fobs L.tag ((coded_holeys R).code (heres R ys))) ∷ ‵ (fauth L.tag ((coded_holeys R).code (heres R ys))) ∷ Γ) G)
        → Seq K 𝓛 (‵ (Holds ys) ∷ Γ) G
    opens t z ys k = fsplit t $ fsplit t $ pure_l t (Lies ys) (λ p. fsplit t $ opens_slice t z R ys L.block L.byte $ k p)

    pub closes : K → Soaks G → (ys zs : List R.Denot) → length zs ≡ length ys → Fits ys
        → Step K 𝓛 (‵ (Holds zs) ∷ Γ) G (‵ (row R full_share zs L.block L.byte) ∷
        ‵ (fobor L.during L.portion (Held R (length ys) L.block L.byte L.tag))
        ∷ ‵ (fobs L.tag ((coded_holeys R).code (heres R ys))) ∷ ‵ (fauth L.tag ((coded_holeys R).code (heres R ys))) ∷ Γ) G
    closes t z ys zs e p = step (λ s. closes_slice t z R ys zs e L.block L.byte $ fjoin t $
        pure_i t (Lies zs) (tt, (tt, tt)) (subst (λ (m : ℕ). (words ≡ slice_val (L.block, L.byte) m ∷ []) × Room R m) (sym e) p) $
        fjoin t $ fjoin t $ s)

    -- a `&[T]` is looked into, and shut: [a share of the row; the token's way back; the elements as they are shared]
    pub looks : K → Soaks G → Copied 𝓛 R → (ys : List R.Denot)
        → ((s : Share) → Fits ys
        → Seq K 𝓛 (‵ (row R s ys L.block L.byte) ∷ Shut 𝓛 L.during L.portion (row R s ys L.block L.byte)
        ∷ ‵ (fhide (elements_shared R ys L.block L.byte L.during)) ∷ Γ) G)
        → Seq K 𝓛 (‵ (Views ys) ∷ Γ) G
    looks t z copied ys k = fsplit t $ fsplit t $ pure_l t (Lies ys) (λ p.
        looks_slice t z R copied ys L.block L.byte (λ s. k s p))

    pub shuts : K → Soaks G → (s : Share) (ys : List R.Denot) → Fits ys
        → Step K 𝓛 (‵ (Views ys) ∷ Γ) G (‵ (row R s ys L.block L.byte) ∷ Shut 𝓛 L.during L.portion
        (row R s ys L.block L.byte)
        ∷ ‵ (fhide (elements_shared R ys L.block L.byte L.during)) ∷ Γ) G
    shuts t z s ys p = step (λ r. shuts_slice t z R s ys L.block L.byte $ move t (1 ∷ []) $
        pure_i t (Lies ys) (tt, (tt, tt)) p $ fjoin t $ fjoin t $ r)

  module _ {M : Type 1} {𝓤 : Ura M} (𝓛 : Logic 𝓤) (ℓ' : Lifetime) (κ' : Lft)
      (ys : List R.Denot) where
    open 𝓛 use {H, A}

    abbrev b : ℕ
    b = L.block

    abbrev o : ℕ
    o = L.byte

    -- what the callee gets, a `&mut [T]` under the name δ, beside what the holder keeps
    abbrev LentTo : GName → SProp 𝓤
    LentTo δ = sep 𝓤 (sem 𝓛 ((MutSlice ℓ' κ' R).own_val (at_list δ ys) words)) (sem 𝓛 (Away κ' δ ys))

    abbrev ShownTo : SProp 𝓤
    ShownTo = sep 𝓤 (sem 𝓛 ((ShrSlice ℓ' κ' R).own_val (seen_at ys) words)) (sem 𝓛 (Seen κ' ys))

    abbrev RelayedTo : SProp 𝓤
    RelayedTo = sep 𝓤 (sem 𝓛 ((ShrSlice ℓ' κ' R).own_val (seen_at ys) words)) (sem 𝓛 (Relayed κ' ys))

    pub lend : ent 𝓤 (sem 𝓛 (Holds ys)) (H.⇛ (ex 𝓤 LentTo))
    lend =
        qed 𝓛 (‵ (Holds ys) ∷ []) ∵ updating ! $ opens ! tt ys (λ p. use1 𝓛 (‵ (cells (mem R) ys b o))
        (whole_in 𝓛 R ys b o) $
        use1 𝓛 (later (some (λ (δ : GName). ‵ ((MutSlice ℓ' κ' R).own_val (at_list δ ys) (slice_val (b, o) (length ys) ∷ []))
        ⊛
        ‵ (flent κ' (Held R (length ys) b o δ)))))
        (lends_slice 𝓛 R ℓ' κ' ys b o p.1) $ await ! tt $
        pick ! (λ δ. split ! $ rewrite ! 0 (λ (vs : List Val). ‵ ((MutSlice ℓ' κ' R).own_val (at_list δ ys) vs)) (sym p.0) refl $
        -- [the slice lent; the lender's part; the open borrow; both halves of its name]
        at_once ! $ witness ! LentTo δ $ frame ! $ move ! (2 ∷ 3 ∷ []) $ fjoin ! $ move ! (2 ∷ 0 ∷ []) $ fjoin ! $
        pure_i ! (Lies ys) (tt, (tt, tt)) p $ fjoin ! $ move ! (1 ∷ 0 ∷ []) $ fjoin ! $ done !))

    pub regain : (δ : GName) (zs : List R.Denot)
        → ent 𝓤 (sep 𝓤 (A.dead κ') (sep 𝓤 (sem 𝓛 (Away κ' δ ys)) (sem 𝓛 (Left-at κ' δ ys zs))))
        (H.⇛ (sem 𝓛 (Holds zs)))
    regain δ zs =
        qed 𝓛 (‵ (fdead κ') ∷ ‵ (Away κ' δ ys) ∷ ‵ (Left-at κ' δ ys zs) ∷ []) ∵
        updating ! $
        move ! (2 ∷ []) $ fsplit ! $ fsplit ! $ move ! (2 ∷ 1 ∷ []) $ drop ! $ feq_l ! (λ e. move ! (2 ∷ []) $ fsplit ! $
        move ! (3 ∷ 0 ∷ 2 ∷ []) $
        use3 𝓛 (later (‵ ((Arr (mem R) (length ys)).own_at zs b o))) (slice_back 𝓛 R κ' δ zs (length ys) b o) $ await ! tt $
        fsplit ! $ feq_l ! (λ _.
        use1 𝓛 (‵ (row R full_share zs b o)) (whole_out 𝓛 R zs b o) $ move ! (1 ∷ []) $ fsplit ! $
        pure_l ! (Lies ys) (λ p. fsplit ! $ move ! (1 ∷ []) $ fsplit ! $
        move ! (3 ∷ 2 ∷ 0 ∷ 1 ∷ []) $ closes ! tt ys zs e p $ at_once ! $ done !)))

    -- each element is lent, and so all of them are
    each_lent : Lendable R → (zs : List R.Denot) (p : ℕ)
        → Lent 𝓛 (row R full_share zs b p) (elements_shared R zs b p)
    each_lent lendable [] p = Lent-nothing 𝓛
    each_lent lendable (z ∷ zs) p = Lent-both 𝓛 (part_at R full_share z b p) (row R full_share zs b (p + (mem R).size))
        (shared_of R z b p) (elements_shared R zs b (p + (mem R).size)) (lendable M 𝓤 𝓛 z b p)
        (each_lent lendable zs (p + (mem R).size))

    pub show : Lendable R → ent 𝓤 (sem 𝓛 (Holds ys)) (H.⇛ ShownTo)
    show lendable =
        qed 𝓛 (‵ (Holds ys) ∷ []) ∵ updating ! $ opens ! tt ys (λ p.
        use1 𝓛 (later (‵ (fhide (elements_shared R ys b o κ')) ⊛ ‵ (flent κ' (row R full_share ys b o))))
        (each_lent lendable ys o κ') $ await ! tt $ split ! $
        -- [the elements as they are shared; the lender's part; the open borrow; both halves of its name]
        pure_i ! (Lies ys) (tt, (tt, tt)) p $ fjoin ! $
        at_once ! $ frame ! $ move ! (2 ∷ 3 ∷ []) $ fjoin ! $ move ! (2 ∷ 0 ∷ []) $ fjoin ! $
        pure_i ! (Lies ys) (tt, (tt, tt)) p $ fjoin ! $ move ! (1 ∷ 0 ∷ []) $ fjoin ! $ done !)

    pub regain-shown : ent 𝓤 (sep 𝓤 (A.dead κ') (sem 𝓛 (Seen κ' ys))) (H.⇛ (sem 𝓛 (Holds ys)))
    regain-shown =
        qed 𝓛 (‵ (fdead κ') ∷ ‵ (Seen κ' ys) ∷ []) ∵ updating ! $ move ! (1 ∷ []) $ fsplit ! $ move ! (2 ∷ 0 ∷ []) $
        lent_back ! tt $
        move ! (1 ∷ []) $ fsplit ! $ pure_l ! (Lies ys) (λ p. fsplit ! $ move ! (1 ∷ []) $ fsplit ! $
        move ! (3 ∷ 2 ∷ 0 ∷ 1 ∷ []) $ closes ! tt ys ys refl p $ at_once ! $ done !)

    -- the token is lent for κ', so κ' ends no later than the reference's own lifetime, and the reference is had at κ' too
    pub relay : RowLaws R → ent 𝓤 (sem 𝓛 (Views ys)) (H.⇛ RelayedTo)
    relay laws =
        let κ = L.during in let t = elements_shared R ys b o in let lasting = elements_shr_laws R laws ys b o in
        qed 𝓛 (‵ (Views ys) ∷ []) ∵ updating ! $ fsplit ! $
        use1 𝓛 (‵ ((ShrSlice L.mark κ R).own_val (seen_at ys) words) ⊛ ‵ ((ShrSlice L.mark κ R).own_val (seen_at ys) words))
        ((shr_slice_copy 𝓛 L.mark κ R laws).twice (seen_at ys) words) $ split ! $ move ! (2 ∷ []) $
        bor_new ! tt κ' $ bor_fracture ! tt (λ q. flft κ q) L.portion $
        -- [the token's borrow; the lender's part; the reference, twice]
        use0 𝓛 (‵ (before (κ ++ κ') κ)) (before-Incl 𝓛 (κ ++ κ') κ (meet_⊑_left κ κ')) $ move ! (1 ∷ 0 ∷ []) $
        use2 𝓛 (‵ (before κ' κ)) (before_lent 𝓛 κ' κ κ) $ move ! (2 ∷ []) $ fsplit ! $
        pure_l ! (Lies ys) (λ p. move ! (1 ∷ 0 ∷ []) $
        use2 𝓛 (‵ (fhide (t κ'))) (lasting.mono M 𝓤 𝓛 κ' κ) $ pure_i ! (Lies ys) (tt, (tt, tt)) p $ fjoin ! $
        at_once ! $ frame ! $ move ! (1 ∷ 0 ∷ []) $ fjoin ! $ done !)

    pub regain-relayed : ent 𝓤 (sep 𝓤 (A.dead κ') (sem 𝓛 (Relayed κ' ys))) (H.⇛ (sem 𝓛 (Views ys)))
    regain-relayed =
        qed 𝓛 (‵ (fdead κ') ∷ ‵ (Relayed κ' ys) ∷ []) ∵ updating ! $ move ! (1 ∷ []) $ fsplit ! $ move ! (2 ∷ 1 ∷ []) $
        lent_back ! tt $ move ! (1 ∷ 0 ∷ []) $ fjoin ! $ at_once ! $ done !
