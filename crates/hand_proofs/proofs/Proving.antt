-- A walk taken to its function's contract, for a function whose parameters are plain data, `&mut [T]` and `&[T]`, each reference at a
-- lifetime of its own, in order. The walk shows a result and last lists, the exact ones (`Duty`) or some that stand in a relation to what
-- is handed (`RelationalDuty`); the contract says so, or something that follows. Each name for an exact duty is made of the one for a
-- relational duty, in brackets here.
--     Duty [RelationalDuty]            the function: its parameters, its result, its clauses, and the answer and the lists that the walk
--                                      shows [the relation of them that it shows]
--     Done-at [Done-related] c h w     what the walk has at its end: w is the machine value of the answer, and the slices stand at the
--                                      lists that the function leaves
--                                      [of some r, and at some lists es, of which the relation holds]
--     Asked, Suffices [..-related]     that the `requires` shows what is asked, and that the answer and the lists left, of values and
--                                      slices that fit, show the `ensures`
--     Goes, starts [..-related]        a walk of the function, and its first step: the slices stand first, then the function's locals
--     [concludes]                      the last step of a walk, after `leaves`; to `Done-at` it is `check ! r-is $ done !`
--     meets-duty [meets-related]       from a walk that goes from the entries of the slices passed (`held`) to `Done-at`, at the values
--                                      passed, to the contract
--     proved-duty [proved-related]     the same at the function's entry of the tables of its own code: its `Proof` ends in it
--     duty, proved-own [duty-related, proved-own-related]      the same of a function that is described by the `Callee`
--                                                              [`RelationalCallee`] that its callers use
-- It says nothing of any crate. Assumes `Logic`.
use mathlib.Core.Path.{◌≡◌, refl, sym, ◌∙◌, ap, subst}
use Prim.Native.Nat.{ℕ, zero, suc}
use mathlib.Core.List.{List, [], ◌∷◌, ◌++◌}
use lib.ListN.{length}
use seplogic.Ra.Ura.{Ura}
use mir.Syntax.{named, Fn, Callee as Key}
use mir.Fields.{get_v}
use mir.Val.{Val, vunit, vbool, vint, vfloat, vptr, vcode, vstruct, Vals, vnil, as_int}
use base.Logic.{SProp, ent, sep, ex, emp, guard, id⊢, via, mono_r}
use base.Fml.{Lft, Share, Fml, ftrue, fsep, flft}
use prog.Model.{Model}
use prog.Routine as routines
use prog.Wp.{WpFn, Closed, Tables}
use types.Logic.{Logic, sem}
use sound.WpLaws.{WpFn-mono}
use contract.Monad.{fact}
use contract.Running.{Running, tables, tables_of}
use contract.Lifetimes.{Lfts, Shares, Within, lft_at, toks}
use types.Kit.{Seq, Sq, prop, runs, at_ret, ‵, raw, ◌⊛◌, some, given, later, ⋆, pop, push, ◌$◌, ◌∵◌, !, qed, by, move}
use types.Kit.{use0}
use types.Kit.{use1, use2, rewrite, split, join, pick, learn, drop, fsplit, fjoin, frame, await, updating, now as at_once, show as witness}
use types.Kit.{check, done}
use denote.Exit.{Exit, Last, left, yes, unchanged}
use denote.RattleType.{RattleType, Denots, Valss, flat, owns}
use denote.Laws.{Is, Typed, shows}
use denote.Bor.{Bor}
use denote.MutBor.{MutBor}
use denote.Slice.{MutSlice, ShrSlice, Room}
use denote.Signature.{plain, types_at}
use denote.Steps.{facts, peeks, heard, nothing}
use denote.Triple.Statement.{Contract, Triple}
use denote.Triple.Spec.{triple_of}
use denote.Triple.End.{all, Fins, lasts_of}
use denote.Triple.Clauses.{Clauses, Lasts, at_exit, ensured, closing}
use denote.Triple.Table.{entered}
use denote.Triple.Walked.{Goes-slice}
use Rattle.hand_proofs.proofs.Values.{ByValue}
use Rattle.hand_proofs.proofs.Walks.{env_at, stack, Blocks, at_entry, Suits, begins}
use Rattle.hand_proofs.proofs.Lending.{Loan, at_list, words, Holds, Views}
use Rattle.hand_proofs.proofs.Calling.{Pass, value, lent, shown, relayed, slots, Handed, Fit, Ends, after, held, in_words}
use Rattle.hand_proofs.proofs.Calling.{machines, in_words-is, ends, RelationalCallee, Callee, signature_of, ended_of}
use Rattle.hand_proofs.proofs.Calling.{contract_related, contract_of}

abbrev pub share_at : (n j : ℕ) → Within n j → Shares n → Share
share_at zero j ok qs = absurd ok
share_at (suc n) zero ok qs = qs.0
share_at (suc n) (suc j) ok qs = share_at n j ok qs.1

-- the count in a slice's machine value
abbrev parts_of : Val → Vals
parts_of vunit = vnil
parts_of (vbool t) = vnil
parts_of (vint w n) = vnil
parts_of (vfloat f x) = vnil
parts_of (vptr b o) = vnil
parts_of (vcode c) = vnil
parts_of (vstruct vs) = vs

abbrev count_of : List Val → ℕ
count_of [] = zero
count_of (v ∷ vs) = as_int zero (get_v (parts_of v) 1) (λ _ n. n)

-- where a slice that is passed at the lifetime j lies: a `&mut [T]`, and a `&[T]`, which has no name
abbrev loan-at : (n : ℕ) → Lfts n → Shares n → (j : ℕ) → Within n j → {X : Type 0} → MutBor (List X) → Loan
loan-at n κs qs j ok x = record {
  mark = named j;
  during = lft_at n j ok κs;
  portion = share_at n j ok qs;
  tag = x.ghost_name;
  block = x.ref_ptr.0;
  byte = x.ref_ptr.1;
  count = length x.now;
}

abbrev view-at : (n : ℕ) → Lfts n → Shares n → (j : ℕ) → Within n j → {X : Type 0} → Bor (List X) → Loan
view-at n κs qs j ok x = record {
  mark = named j;
  during = lft_at n j ok κs;
  portion = share_at n j ok qs;
  tag = zero;
  block = x.ref_ptr.0;
  byte = x.ref_ptr.1;
  count = length x.now;
}

-- of plain data nothing is said at exit
silent : {M : Type 1} {𝓤 : Ura M} (𝓛 : Logic 𝓤) {D : Type 0} (e : Exit D) → e ≡ unchanged → (x : D)
    → (w : Last e x) × ent 𝓤 (emp 𝓤) (sem 𝓛 (left e x w))
silent {𝓤 = 𝓤} 𝓛 {D} e q x = subst (λ (e' : Exit D). (w : Last e' x) × ent 𝓤 (emp 𝓤) (sem 𝓛 (left e' x w))) (sym q)
    (tt, id⊢ 𝓤 (emp 𝓤))

-- ---- one parameter more, at entry and at exit, over what is had of the others
module _ {M : Type 1} {𝓤 : Ura M} (𝓛 : Logic 𝓤) where
  open 𝓛 use {H, A}

  enter-value : (S : RattleType) (x : S.Denot) (vs : List Val) (t : SProp 𝓤) (P : Fml) (φ ψ : Type 0) (Q : SProp 𝓤)
      → ent 𝓤 (sep 𝓤 t (sem 𝓛 P)) (guard 𝓤 φ Q)
      → (Is S x vs → φ → ψ)
      → ent 𝓤 (sep 𝓤 t (sem 𝓛 (fsep (S.own_val x vs) P))) (guard 𝓤 ψ Q)
  enter-value S x vs t P φ ψ Q rest both =
      qed 𝓛 (raw t ∷ ‵ (fsep (S.own_val x vs) P) ∷ []) ∵ move ! (1 ∷ []) $ fsplit ! $ facts ! S (Is S) (shows 𝓛 S) x vs
      (λ is. move ! (1 ∷ 0 ∷ []) $ use2 𝓛 (given φ (raw Q)) rest $ learn ! (λ p. check ! (both is p) $ done !))

  enter-slice : (S : RattleType) (x : S.Denot) (vs ws : List Val) → (Is S x vs → vs ≡ ws)
      → (κ : Lft) (q : Share) (t : SProp 𝓤) (P : Fml) (φ ψ : Type 0) (Q Q' : SProp 𝓤)
      → ent 𝓤 (sep 𝓤 t (sem 𝓛 P)) (guard 𝓤 φ Q) → (Is S x vs → φ → ψ)
      → ent 𝓤 (sep 𝓤 (sem 𝓛 (fsep (S.own_val x ws) (flft κ q))) Q) Q'
      → ent 𝓤 (sep 𝓤 (sep 𝓤 (A.lft κ q) t) (sem 𝓛 (fsep (S.own_val x vs) P))) (guard 𝓤 ψ Q')
  enter-slice S x vs ws told κ q t P φ ψ Q Q' rest both with_it =
      qed 𝓛 ((‵ (flft κ q) ⊛ raw t) ∷ ‵ (fsep (S.own_val x vs) P) ∷ []) ∵ move ! (1 ∷ []) $ fsplit ! $
      peeks ! S (Is S) (shows 𝓛 S) x vs
      (λ is. rewrite ! 0 (λ (us : List Val). ‵ (S.own_val x us)) (told is) refl $
      move ! (2 ∷ []) $ split ! $ move ! (2 ∷ 0 ∷ []) $ fjoin ! $ move ! (1 ∷ 2 ∷ []) $ use2 𝓛 (given φ (raw Q)) rest $
      learn ! (λ p. move ! (1 ∷ 0 ∷ []) $ check ! (both is p) $ by ! with_it))

  -- the tokens t, and last values of which φ holds and which L says
  abbrev Left : (t : SProp 𝓤) (X : Type 0) → (X → Type 0) → (X → Fml) → SProp 𝓤
  Left t X φ L = H.⇛ (sep 𝓤 t (ex 𝓤 (λ (w : X). guard 𝓤 (φ w) (sem 𝓛 (L w)))))

  module _ (t : SProp 𝓤) (X Y : Type 0) (φ : X → Type 0) (ψ : Y → Type 0) (L : X → Fml) (N : Y → Fml) (E : Fml) (m : X → Y)
      (both : (w : X) → φ w → ψ (m w))
      (joins : (w : X) → ent 𝓤 (sem 𝓛 (fsep E (L w))) (sem 𝓛 (N (m w)))) where
    leave_value : ent 𝓤 (emp 𝓤) (sem 𝓛 E) → ent 𝓤 (Left t X φ L) (Left t Y ψ N)
    leave_value e =
        qed 𝓛 (later (raw t ⊛ some (λ (w : X). given (φ w) (‵ (L w)))) ∷ []) ∵ updating ! $ await ! tt $
        split ! $ move ! (1 ∷ []) $
        pick ! (λ w. learn ! (λ p. use0 𝓛 (‵ E) e $ fjoin ! $ use1 𝓛 (‵ (N (m w))) (joins w) $ move ! (1 ∷ 0 ∷ []) $
        at_once ! $ frame ! $ witness ! (λ (y : Y). guard 𝓤 (ψ y) (sem 𝓛 (N y))) (m w) $ check ! (both w p) $ done !))

    leave_slice : (P : SProp 𝓤) (κ : Lft) (q : Share) → ent 𝓤 P (H.⇛ (sep 𝓤 (A.lft κ q) (sem 𝓛 E)))
        → ent 𝓤 (sep 𝓤 P (Left t X φ L)) (Left (sep 𝓤 (A.lft κ q) t) Y ψ N)
    leave_slice P κ q e =
        qed 𝓛 (raw P ∷ later (raw t ⊛ some (λ (w : X). given (φ w) (‵ (L w)))) ∷ []) ∵ updating ! $
        use1 𝓛 (later (‵ (flft κ q) ⊛ ‵ E)) e $ await ! tt $ split ! $
        move ! (2 ∷ []) $ await ! tt $
        split ! $ move ! (1 ∷ []) $ pick ! (λ w. learn ! (λ p.
        -- [the others' last values; their tokens; the token; the last value]
        move ! (3 ∷ 0 ∷ []) $ fjoin ! $ use1 𝓛 (‵ (N (m w))) (joins w) $ move ! (2 ∷ 1 ∷ 0 ∷ []) $
        join ! $ at_once ! $ frame ! $
        witness ! (λ (y : Y). guard 𝓤 (ψ y) (sem 𝓛 (N y))) (m w) $
        check ! (both w p) $ done !))

  -- what is had of a `&mut [T]` at exit, and of a `&[T]`
  gives_last : (R : RattleType) (n j : ℕ) (ok : Within n j) (κs : Lfts n) (qs : Shares n)
      (x : MutBor (List R.Denot)) (zs : List R.Denot)
      → ent 𝓤 (sem 𝓛 (Holds R (loan-at n κs qs j ok x) zs)) (H.⇛ (sep 𝓤 (A.lft (lft_at n j ok κs) (share_at n j ok qs))
      (sem 𝓛 (left ((MutSlice (named j) (lft_at n j ok κs) R).exit yes) x zs))))
  gives_last R n j ok κs qs x zs =
      qed 𝓛 (‵ (Holds R (loan-at n κs qs j ok x) zs) ∷ []) ∵ updating ! $ fsplit ! $
      peeks ! (MutSlice (named j) (lft_at n j ok κs) R) (Is (MutSlice (named j) (lft_at n j ok κs) R))
      (shows 𝓛 (MutSlice (named j) (lft_at n j ok κs) R))
      (at_list R (loan-at n κs qs j ok x) x.ghost_name zs) (words R (loan-at n κs qs j ok x)) (λ is.
      use1 𝓛 (later (‵ (left ((MutSlice (named j) (lft_at n j ok κs) R).exit yes) x zs)))
      (Goes-slice 𝓛 n j ok (plain (λ _. R)) κs x zs (words R (loan-at n κs qs j ok x))
      (sym (ap count_of is.0.0))) $ await ! tt $
      at_once ! $ move ! (1 ∷ 0 ∷ []) $ done !)

  gives_token : (R : RattleType) (L : Loan) (ys : List R.Denot) → ent 𝓤 (sem 𝓛 (Views R L ys))
      (H.⇛ (sep 𝓤 (A.lft L.during L.portion) (sem 𝓛 ftrue)))
  gives_token R L ys = qed 𝓛 (‵ (Views R L ys) ∷ []) ∵ updating ! $ fsplit ! $ drop ! $ nothing ! $ at_once ! $
      move ! (1 ∷ 0 ∷ []) $ done !

module _ {n : ℕ} where
  -- no `&mut` that is lent as a `&`: that is a caller's way to pass
  abbrev pub Own : List (Pass n) → Type 0
  Own [] = Unit {0}
  Own (value R B ∷ ps) = Own ps
  Own (lent j ok R ∷ ps) = Own ps
  Own (shown j ok R F ∷ ps) = ⊥
  Own (relayed j ok R B ∷ ps) = Own ps

  -- each slice's count fits, and is its list's length
  abbrev pub Rooms : (ps : List (Pass n)) → Handed ps → Type 0
  Rooms [] h = Unit {0}
  Rooms (value R B ∷ ps) h = Rooms ps h.1
  Rooms (lent j ok R ∷ ps) h = (Room R h.0.0.count × (h.0.0.count ≡ length h.0.1)) × Rooms ps h.1
  Rooms (shown j ok R F ∷ ps) h = (Room R h.0.0.count × (h.0.0.count ≡ length h.0.1)) × Rooms ps h.1
  Rooms (relayed j ok R B ∷ ps) h = (Room R h.0.0.count × (h.0.0.count ≡ length h.0.1)) × Rooms ps h.1

  module _ (κs : Lfts n) (qs : Shares n) where
    -- what the function is handed
    abbrev pub hold : (ps : List (Pass n)) → Denots (types_at (slots ps) κs) → Handed ps
    hold [] a = tt
    hold (value R B ∷ ps) a = (a.0, hold ps a.1)
    hold (lent j ok R ∷ ps) a = ((loan-at n κs qs j ok a.0, a.0.now), hold ps a.1)
    hold (shown j ok R F ∷ ps) a = ((view-at n κs qs j ok a.0, a.0.now), hold ps a.1)
    hold (relayed j ok R B ∷ ps) a = ((view-at n κs qs j ok a.0, a.0.now), hold ps a.1)

    module _ {M : Type 1} {𝓤 : Ura M} (𝓛 : Logic 𝓤) where
      -- a token for each slice. Where each slice has its own lifetime, in order, they are all the tokens, by `refl`
      open 𝓛 use {A}

      abbrev pub tokens : List (Pass n) → SProp 𝓤
      tokens [] = emp 𝓤
      tokens (value R B ∷ ps) = tokens ps
      tokens (lent j ok R ∷ ps) = sep 𝓤 (A.lft (lft_at n j ok κs) (share_at n j ok qs)) (tokens ps)
      tokens (shown j ok R F ∷ ps) = sep 𝓤 (A.lft (lft_at n j ok κs) (share_at n j ok qs)) (tokens ps)
      tokens (relayed j ok R B ∷ ps) = sep 𝓤 (A.lft (lft_at n j ok κs) (share_at n j ok qs)) (tokens ps)

      module _ where
        abbrev Told : (ps : List (Pass n)) → Denots (types_at (slots ps) κs) → Valss (types_at (slots ps) κs) → Type 0
        Told ps a vss = (Fit ps (hold ps a) × Rooms ps (hold ps a)) × (vss ≡ machines κs ps (hold ps a))

        enter-all : (ps : List (Pass n)) → Own ps → (a : Denots (types_at (slots ps) κs)) (vss : Valss (types_at (slots ps) κs))
            → ent 𝓤 (sep 𝓤 (tokens ps) (sem 𝓛 (owns (types_at (slots ps) κs) a vss)))
            (guard 𝓤 (Told ps a vss) (⋆ 𝓛 (held ps (hold ps a))))
        enter-all [] o a vss = qed 𝓛 (‵ ftrue ∷ ‵ ftrue ∷ []) ∵ drop ! $ drop ! $ check ! ((tt, tt), refl) $ done !
        enter-all (value R B ∷ ps) o a vss =
            enter-value 𝓛 R a.0 vss.0 (tokens ps) (owns (types_at (slots ps) κs) a.1 vss.1) (Told ps a.1 vss.1)
            (Told (value R B ∷ ps) a vss)
            (⋆ 𝓛 (held ps (hold ps a.1))) (enter-all ps o a.1 vss.1)
            (λ is p. (
              ((subst (Is R a.0) (B.told a.0 vss.0 is) is, p.0.0), p.0.1),
              λ i. (B.told a.0 vss.0 is i, p.1 i),
            ))
        enter-all (lent j ok R ∷ ps) o a vss =
            enter-slice 𝓛 (MutSlice (named j) (lft_at n j ok κs) R) a.0 vss.0 (words R (loan-at n κs qs j ok a.0))
            (λ is. is.0.0) (lft_at n j ok κs)
            (share_at n j ok qs) (tokens ps)
            (owns (types_at (slots ps) κs) a.1 vss.1)
            (Told ps a.1 vss.1) (Told (lent j ok R ∷ ps) a vss) (⋆ 𝓛 (held ps (hold ps a.1)))
            (⋆ 𝓛 (held (lent j ok R ∷ ps) (hold (lent j ok R ∷ ps) a)))
            (enter-all ps o a.1 vss.1)
            (λ is p. ((p.0.0, ((is.0.1, refl), p.0.1)), λ i. (is.0.0 i, p.1 i)))
            (push 𝓛 (‵ (Holds R (loan-at n κs qs j ok a.0) a.0.now)) (held ps (hold ps a.1)))
        enter-all (shown j ok R F ∷ ps) o a vss = absurd o
        enter-all (relayed j ok R B ∷ ps) o a vss =
            enter-slice 𝓛 (ShrSlice (named j) (lft_at n j ok κs) R) a.0 vss.0 (words R (view-at n κs qs j ok a.0))
            (λ is. is.0.0) (lft_at n j ok κs)
            (share_at n j ok qs) (tokens ps)
            (owns (types_at (slots ps) κs) a.1 vss.1)
            (Told ps a.1 vss.1) (Told (relayed j ok R B ∷ ps) a vss) (⋆ 𝓛 (held ps (hold ps a.1)))
            (⋆ 𝓛 (held (relayed j ok R B ∷ ps) (hold (relayed j ok R B ∷ ps) a)))
            (enter-all ps o a.1 vss.1)
            (λ is p. ((p.0.0, ((is.0.1, refl), p.0.1)), λ i. (is.0.0 i, p.1 i)))
            (push 𝓛 (‵ (Views R (view-at n κs qs j ok a.0) a.0.now)) (held ps (hold ps a.1)))

        -- what a contract binds at exit and says of it, at the last lists es
        abbrev Bound : (ps : List (Pass n)) → Denots (types_at (slots ps) κs) → Type 0
        Bound ps a = Fins κs (slots ps) (all yes (slots ps)) a

        abbrev Ends-are : (ps : List (Pass n)) (a : Denots (types_at (slots ps) κs)) → Ends ps → Bound ps a → Type 0
        Ends-are ps a es ws = ends κs ps a ws ≡ es

        abbrev Said : (ps : List (Pass n)) (a : Denots (types_at (slots ps) κs)) → Bound ps a → Fml
        Said ps a ws = lasts_of κs (slots ps) (all yes (slots ps)) a ws

        leave_all : (ps : List (Pass n)) → Own ps → (a : Denots (types_at (slots ps) κs)) (es : Ends ps)
            → ent 𝓤 (⋆ 𝓛 (held ps (after ps (hold ps a) es)))
            (Left 𝓛 (tokens ps) (Bound ps a) (Ends-are ps a es) (Said ps a))
        leave_all [] o a es = qed 𝓛 [] ∵ updating ! $ at_once ! $ nothing ! $ frame ! $
            witness ! (λ (ws : Bound [] a). guard 𝓤 (Ends-are [] a es ws) (sem 𝓛 (Said [] a ws))) tt $ check ! refl $
            done !
        leave_all (value R B ∷ ps) o a es =
            let s = silent 𝓛 (R.exit yes) (B.still yes) a.0 in
            via 𝓤 (Left 𝓛 (tokens ps) (Bound ps a.1) (Ends-are ps a.1 es) (Said ps a.1)) (leave_all ps o a.1 es)
            (leave_value 𝓛 (tokens ps) (Bound ps a.1) (Bound (value R B ∷ ps) a) (Ends-are ps a.1 es)
            (Ends-are (value R B ∷ ps) a es) (Said ps a.1)
            (Said (value R B ∷ ps) a)
            (left (R.exit yes) a.0 s.0)
            (λ ws. (s.0, ws)) (λ ws e. e) (λ ws. id⊢ 𝓤 _) s.1)
        leave_all (lent j ok R ∷ ps) o a es =
            let P = sem 𝓛 (Holds R (loan-at n κs qs j ok a.0) es.0) in
            via 𝓤 (sep 𝓤 P (⋆ 𝓛 (held ps (after ps (hold ps a.1) es.1))))
            (pop 𝓛 (‵ (Holds R (loan-at n κs qs j ok a.0) es.0)) (held ps (after ps (hold ps a.1) es.1)))
            (via 𝓤 (sep 𝓤 P (Left 𝓛 (tokens ps) (Bound ps a.1) (Ends-are ps a.1 es.1) (Said ps a.1)))
            (mono_r 𝓤 P (leave_all ps o a.1 es.1))
            (leave_slice 𝓛 (tokens ps) (Bound ps a.1) (Bound (lent j ok R ∷ ps) a) (Ends-are ps a.1 es.1)
            (Ends-are (lent j ok R ∷ ps) a es) (Said ps a.1)
            (Said (lent j ok R ∷ ps) a)
            (left ((MutSlice (named j) (lft_at n j ok κs) R).exit yes) a.0 es.0) (λ ws. (es.0, ws)) (λ ws e i. (es.0, e i))
            (λ ws. id⊢ 𝓤 _) P (lft_at n j ok κs)
            (share_at n j ok qs)
            (gives_last 𝓛 R n j ok κs qs a.0 es.0)))
        leave_all (shown j ok R F ∷ ps) o a es = absurd o
        leave_all (relayed j ok R B ∷ ps) o a es =
            let P = sem 𝓛 (Views R (view-at n κs qs j ok a.0) a.0.now) in
            via 𝓤 (sep 𝓤 P (⋆ 𝓛 (held ps (after ps (hold ps a.1) es))))
            (pop 𝓛 (‵ (Views R (view-at n κs qs j ok a.0) a.0.now))
            (held ps (after ps (hold ps a.1) es)))
            (via 𝓤 (sep 𝓤 P (Left 𝓛 (tokens ps) (Bound ps a.1) (Ends-are ps a.1 es) (Said ps a.1)))
            (mono_r 𝓤 P (leave_all ps o a.1 es))
            (leave_slice 𝓛 (tokens ps) (Bound ps a.1) (Bound (relayed j ok R B ∷ ps) a) (Ends-are ps a.1 es)
            (Ends-are (relayed j ok R B ∷ ps) a es) (Said ps a.1)
            (Said (relayed j ok R B ∷ ps) a)
            ftrue (λ ws. (tt, ws)) (λ ws e. e) (λ ws. id⊢ 𝓤 _) P (lft_at n j ok κs) (share_at n j ok qs)
            (gives_token 𝓛 R (view-at n κs qs j ok a.0) a.0.now)))

-- ---- what a function is passed suits its parameters' locals
module _ {n : ℕ} where
  abbrev pub Suited : (ps : List (Pass n)) → Handed ps → Type 0
  Suited [] h = Unit {0}
  Suited (value R B ∷ ps) h = Typed R.mir (B.word h.0 ∷ []) × Suited ps h.1
  Suited (lent j ok R ∷ ps) h = Typed (MutSlice (named j) h.0.0.during R).mir (words R h.0.0) × Suited ps h.1
  Suited (shown j ok R F ∷ ps) h = Typed (ShrSlice (named j) h.0.0.during R).mir (words R h.0.0) × Suited ps h.1
  Suited (relayed j ok R B ∷ ps) h = Typed (ShrSlice (named j) h.0.0.during R).mir (words R h.0.0) × Suited ps h.1

  pub suited : {M : Type 1} {𝓤 : Ura M} → (𝓛 : Logic 𝓤) → (ps : List (Pass n)) (h : Handed ps)
      → Fit ps h → Rooms ps h → Suited ps h
  suited 𝓛 [] h fit rooms = tt
  suited {𝓤 = 𝓤} 𝓛 (value R B ∷ ps) h fit rooms =
      ((B.lawful 𝓛).typed h.0 (B.word h.0 ∷ []) fit.0, suited 𝓛 ps h.1 fit.1 rooms)
  suited 𝓛 (lent j ok R ∷ ps) h fit rooms = (((tt, (tt, (record { fits = rooms.0.0.0 }, tt))), tt), suited 𝓛 ps h.1 fit rooms.1)
  suited 𝓛 (shown j ok R F ∷ ps) h fit rooms = (((tt, (tt, (record { fits = rooms.0.0.0 }, tt))), tt), suited 𝓛 ps h.1 fit rooms.1)
  suited 𝓛 (relayed j ok R B ∷ ps) h fit rooms = (
    ((tt, (tt, (record { fits = rooms.0.0.0 }, tt))), tt),
    suited 𝓛 ps h.1 fit rooms.1,
  )

-- ---- the function meets its contract
pub record RelationalDuty {M : Type 1} {𝓤 : Ura M} (𝓛 : Logic 𝓤) : Type 2 where
  pub lifetimes : ℕ
  pub passes : List (Pass lifetimes)
  pub result : RattleType
  pub by_value : ByValue result
  pub clauses : Clauses 𝓤 (ended_of lifetimes passes result)
  pub asks : Handed passes → Type 0
  pub Says : Handed passes → result.Denot → Ends passes → Type 0

pub record Duty {M : Type 1} {𝓤 : Ura M} (𝓛 : Logic 𝓤) : Type 2 where
  pub lifetimes : ℕ
  pub passes : List (Pass lifetimes)
  pub result : RattleType
  pub by_value : ByValue result
  pub clauses : Clauses 𝓤 (ended_of lifetimes passes result)
  pub asks : Handed passes → Type 0
  pub answer : Handed passes → result.Denot
  pub leaves : Handed passes → Ends passes

module _ {M : Type 1} {𝓤 : Ura M} {𝓛 : Logic 𝓤} where
  open 𝓛 use {H}

  abbrev pub exactly : Duty 𝓛 → RelationalDuty 𝓛
  exactly c = record {
    lifetimes = c.lifetimes;
    passes = c.passes;
    result = c.result;
    by_value = c.by_value;
    clauses = c.clauses;
    asks = c.asks;
    Says = λ h r es. (r ≡ c.answer h) × (es ≡ c.leaves h);
  }

  abbrev pub contract_due : RelationalDuty 𝓛 → Contract 𝓤
  contract_due c = triple_of 𝓛 (signature_of c.lifetimes c.passes c.result)
      (closing 𝓛 (ended_of c.lifetimes c.passes c.result) c.clauses)

  abbrev pub contract-of : Duty 𝓛 → Contract 𝓤
  contract-of c = contract_due (exactly c)

  -- ---- the walk
  abbrev pub Related-at : (c : RelationalDuty 𝓛) → Handed c.passes → Val
      → c.result.Denot × Ends c.passes → SProp 𝓤
  Related-at c h w p = guard 𝓤 (Is c.result p.0 (w ∷ []) × c.Says h p.0 p.1)
      (⋆ 𝓛 (held c.passes (after c.passes h p.1)))

  abbrev pub Done-related : (c : RelationalDuty 𝓛) → Handed c.passes → Val → SProp 𝓤
  Done-related c h w = ex 𝓤 (Related-at c h w)

  abbrev pub Done-at : (c : Duty 𝓛) → Handed c.passes → Val → SProp 𝓤
  Done-at c h w = guard 𝓤 (Is c.result (c.answer h) (w ∷ [])) (⋆ 𝓛 (held c.passes (after c.passes h (c.leaves h))))

  abbrev pub Goes-related : (c : RelationalDuty 𝓛) → Tables 𝓤 H → Fn → Handed c.passes → Type 1
  Goes-related c 𝓣 f h = ent 𝓤 (⋆ 𝓛 (held c.passes h))
      (WpFn 𝓤 H 𝓣.C 𝓣.Λ f (in_words c.passes h) (Done-related c h))

  abbrev pub Goes : (c : Duty 𝓛) → Tables 𝓤 H → Fn → Handed c.passes → Type 1
  Goes c 𝓣 f h = ent 𝓤 (⋆ 𝓛 (held c.passes h)) (WpFn 𝓤 H 𝓣.C 𝓣.Λ f (in_words c.passes h) (Done-at c h))

  -- its first step; that the values passed suit the locals is `suited`
  starts-to : {n : ℕ} (ps : List (Pass n)) (𝓣 : Tables 𝓤 H) (f : Fn) (h : Handed ps) (Kf : Val → SProp 𝓤)
      → Suits f.locals (in_words ps h)
      → ((bs : Blocks f.locals) → Sq 𝓛 (held ps h ++ stack f.locals bs (at_entry f.locals (in_words ps h)) [])
      (runs 𝓣.C 𝓣.Λ (env_at f.locals bs) f.body (at_ret (env_at f.locals bs) Kf)))
      → ent 𝓤 (⋆ 𝓛 (held ps h)) (WpFn 𝓤 H 𝓣.C 𝓣.Λ f (in_words ps h) Kf)
  starts-to ps 𝓣 f h Kf suit k = qed 𝓛 (held ps h) ∵ begins ! 𝓣.C 𝓣.Λ f (in_words ps h) Kf suit k

  pub starts-related : (c : RelationalDuty 𝓛) (𝓣 : Tables 𝓤 H) (f : Fn) (h : Handed c.passes)
      → Suits f.locals (in_words c.passes h)
      → ((bs : Blocks f.locals) → Sq 𝓛 (held c.passes h ++ stack f.locals bs
      (at_entry f.locals (in_words c.passes h)) [])
      (runs 𝓣.C 𝓣.Λ (env_at f.locals bs) f.body (at_ret (env_at f.locals bs) (Done-related c h))))
      → Goes-related c 𝓣 f h
  starts-related c 𝓣 f h = starts-to c.passes 𝓣 f h (Done-related c h)

  pub starts : (c : Duty 𝓛) (𝓣 : Tables 𝓤 H) (f : Fn) (h : Handed c.passes)
      → Suits f.locals (in_words c.passes h)
      → ((bs : Blocks f.locals) → Sq 𝓛 (held c.passes h ++ stack f.locals bs
      (at_entry f.locals (in_words c.passes h)) [])
      (runs 𝓣.C 𝓣.Λ (env_at f.locals bs) f.body (at_ret (env_at f.locals bs) (Done-at c h))))
      → Goes c 𝓣 f h
  starts c 𝓣 f h = starts-to c.passes 𝓣 f h (Done-at c h)

  -- the last step of a walk to `Done-related`, after `leaves`: the result r, whose machine value is returned, and the last lists es
  pub concludes : {K : Type 0} → K → (c : RelationalDuty 𝓛) (h : Handed c.passes) (r : c.result.Denot)
      (es : Ends c.passes)
      → Is c.result r (c.by_value.word r ∷ []) → c.Says h r es
      → Seq K 𝓛 (held c.passes (after c.passes h es)) (prop (Done-related c h (c.by_value.word r)))
  concludes t c h r es is said = witness t (Related-at c h (c.by_value.word r)) (r, es) $ check t (is, said) $ done t

  -- ---- the contract
  abbrev pub Asked-related : RelationalDuty 𝓛 → Type 1
  Asked-related c = (κs : Lfts c.lifetimes) (qs : Shares c.lifetimes) (a : Denots (types_at (slots c.passes) κs))
      (g : (c.clauses κs a).ghost)
      → ent 𝓤 ((c.clauses κs a).requires g) (fact 𝓤 (c.asks (hold κs qs c.passes a)))

  abbrev pub Asked : Duty 𝓛 → Type 1
  Asked c = Asked-related (exactly c)

  abbrev pub Suffices-related : RelationalDuty 𝓛 → Type 1
  Suffices-related c = (κs : Lfts c.lifetimes) (qs : Shares c.lifetimes) (a : Denots (types_at (slots c.passes) κs))
      (g : (c.clauses κs a).ghost) (r : c.result.Denot)
      (ws : Lasts (ended_of c.lifetimes c.passes c.result) κs a)
      → c.asks (hold κs qs c.passes a) → Fit c.passes (hold κs qs c.passes a)
      → Rooms c.passes (hold κs qs c.passes a)
      → c.Says (hold κs qs c.passes a) r (ends κs c.passes a ws)
      → ent 𝓤 (emp 𝓤) ((c.clauses κs a).ensures g r (at_exit (ended_of c.lifetimes c.passes c.result) κs a ws))

  abbrev pub Suffices : Duty 𝓛 → Type 1
  Suffices c = (κs : Lfts c.lifetimes) (qs : Shares c.lifetimes) (a : Denots (types_at (slots c.passes) κs))
      (g : (c.clauses κs a).ghost)
      (ws : Lasts (ended_of c.lifetimes c.passes c.result) κs a)
      → c.asks (hold κs qs c.passes a) → Fit c.passes (hold κs qs c.passes a)
      → Rooms c.passes (hold κs qs c.passes a)
      → ends κs c.passes a ws ≡ c.leaves (hold κs qs c.passes a)
      → ent 𝓤 (emp 𝓤) ((c.clauses κs a).ensures g (c.answer (hold κs qs c.passes a))
      (at_exit (ended_of c.lifetimes c.passes c.result) κs a ws))

  pub meets-related : (c : RelationalDuty 𝓛) → Own c.passes
      → ((κs : Lfts c.lifetimes) (qs : Shares c.lifetimes)
      → toks 𝓛 c.lifetimes κs qs ≡ tokens κs qs 𝓛 c.passes)
      → Asked-related c → Suffices-related c
      → (𝓣 : Tables 𝓤 H) (f : Fn) → ((h : Handed c.passes) → Fit c.passes h → Rooms c.passes h → c.asks h
      → Goes-related c 𝓣 f h)
      → Triple 𝓤 (WpFn 𝓤 H 𝓣.C 𝓣.Λ f) (contract_due c)
  meets-related c own all-tokens reads ends-well 𝓣 f walk y =
      let n = c.lifetimes in let ps = c.passes in let κs = y.0.0 in let qs = y.0.1 in let a = y.0.3 in let vss = y.0.4 in
      let h : Handed c.passes = hold κs qs ps a in
      let T = ended_of n ps c.result in
      qed 𝓛 ((raw (toks 𝓛 n κs qs) ⊛ ‵ (owns (types_at (slots ps) κs) a vss)) ∷ raw ((c.clauses κs a).requires y.1) ∷
      []) ∵ move ! (1 ∷ []) $
      use1 𝓛 (raw (fact 𝓤 (c.asks h))) (reads κs qs a y.1) $ heard ! (c.asks h) (λ ask.
      use1 𝓛 (given (Told κs qs 𝓛 ps a vss) (raw (⋆ 𝓛 (held ps h))))
      (subst (λ (P : SProp 𝓤). ent 𝓤 (sep 𝓤 P (sem 𝓛 (owns (types_at (slots ps) κs) a vss)))
      (guard 𝓤 (Told κs qs 𝓛 ps a vss) (⋆ 𝓛 (held ps h))))
      (sym (all-tokens κs qs))
      (enter-all κs qs 𝓛 ps own a vss)) $
      learn ! (λ p. by ! (subst (λ (us : List Val). ent 𝓤 (⋆ 𝓛 (held ps h))
      (WpFn 𝓤 H 𝓣.C 𝓣.Λ f us ((contract_due c).post y)))
      (sym (ap (flat (types_at (slots ps) κs)) p.1 ∙ in_words-is κs ps h))
      (via 𝓤 (WpFn 𝓤 H 𝓣.C 𝓣.Λ f (in_words ps h) (Done-related c h)) (walk h p.0.0 p.0.1 ask)
      (WpFn-mono 𝓤 H 𝓛.laws 𝓣 f (in_words ps h) (Done-related c h) ((contract_due c).post y) (λ w.
      qed 𝓛 (some (λ (z : c.result.Denot × Ends ps). given (Is c.result z.0 (w ∷ []) × c.Says h z.0 z.1)
      (raw (⋆ 𝓛 (held ps (after ps h z.1))))) ∷ []) ∵
      updating ! $ pick ! (λ z. learn ! (λ s. let r = z.0 in let es = z.1 in
      use1 𝓛 (later (raw (tokens κs qs 𝓛 ps) ⊛ some (λ (ws : Bound κs qs 𝓛 ps a). given (ends κs ps a ws ≡ es)
      (‵ (lasts_of κs (slots ps) (all yes (slots ps)) a ws)))))
      (leave_all κs qs 𝓛 ps own a es) $ await ! tt $ split ! $ move ! (1 ∷ []) $ pick ! (λ ws. learn ! (λ e.
      -- [what says the last lists; the tokens]
      at_once ! $ witness ! (λ (x : c.result.Denot). sep 𝓤 (sep 𝓤 (toks 𝓛 n κs qs)
      (sem 𝓛 (c.result.own_val x (w ∷ [])))) (ensured 𝓛 T c.clauses κs a y.1 x)) r $
      move ! (1 ∷ []) $ use1 𝓛 (raw (toks 𝓛 n κs qs)) (subst (λ (P : SProp 𝓤). ent 𝓤 P (toks 𝓛 n κs qs))
      (all-tokens κs qs) (id⊢ 𝓤 (toks 𝓛 n κs qs))) $
      use0 𝓛 (‵ (c.result.own_val r (w ∷ []))) (c.by_value.makes 𝓛 r (w ∷ []) s.0) $
      move ! (1 ∷ 0 ∷ []) $ join ! $ frame ! $
      witness ! (λ (zs : Lasts T κs a). sep 𝓤 (sem 𝓛 (lasts_of κs (slots ps) (all yes (slots ps)) a zs))
      ((c.clauses κs a).ensures y.1 r (at_exit T κs a zs))) ws $
      use0 𝓛 (raw ((c.clauses κs a).ensures y.1 r (at_exit T κs a ws)))
      (ends-well κs qs a y.1 r ws ask p.0.0 p.0.1 (subst (λ (x : Ends ps). c.Says h r x) (sym e) s.1)) $
      move ! (1 ∷ 0 ∷ []) $
      done !))))))))))

  -- an exact duty is one of relations
  done-exactly : (c : Duty 𝓛) (h : Handed c.passes) (w : Val)
      → ent 𝓤 (Done-at c h w) (Done-related (exactly c) h w)
  done-exactly c h w =
      qed 𝓛 (given (Is c.result (c.answer h) (w ∷ [])) (raw (⋆ 𝓛 (held c.passes (after c.passes h (c.leaves h))))) ∷
      []) ∵
      learn ! (λ is. witness ! (Related-at (exactly c) h w) (c.answer h, c.leaves h) $ check ! (is, (refl, refl)) $ done !)

  goes-exactly : (c : Duty 𝓛) (𝓣 : Tables 𝓤 H) (f : Fn) (h : Handed c.passes) → Goes c 𝓣 f h
      → Goes-related (exactly c) 𝓣 f h
  goes-exactly c 𝓣 f h go =
      via 𝓤 (WpFn 𝓤 H 𝓣.C 𝓣.Λ f (in_words c.passes h) (Done-at c h)) go
      (WpFn-mono 𝓤 H 𝓛.laws 𝓣 f (in_words c.passes h) (Done-at c h) (Done-related (exactly c) h) (done-exactly c h))

  suffices-exactly : (c : Duty 𝓛) → Suffices c → Suffices-related (exactly c)
  suffices-exactly c ends-well κs qs a g r ws ask fit rooms said =
      subst (λ (x : c.result.Denot). ent 𝓤 (emp 𝓤) ((c.clauses κs a).ensures g x
      (at_exit (ended_of c.lifetimes c.passes c.result) κs a ws)))
      (sym said.0) (ends-well κs qs a g ws ask fit rooms said.1)

  pub meets-duty : (c : Duty 𝓛) → Own c.passes
      → ((κs : Lfts c.lifetimes) (qs : Shares c.lifetimes)
      → toks 𝓛 c.lifetimes κs qs ≡ tokens κs qs 𝓛 c.passes)
      → Asked c → Suffices c
      → (𝓣 : Tables 𝓤 H) (f : Fn) → ((h : Handed c.passes) → Fit c.passes h → Rooms c.passes h
      → c.asks h → Goes c 𝓣 f h)
      → Triple 𝓤 (WpFn 𝓤 H 𝓣.C 𝓣.Λ f) (contract-of c)
  meets-duty c own all-tokens reads ends-well 𝓣 f walk =
      meets-related (exactly c) own all-tokens reads (suffices-exactly c ends-well) 𝓣 f
      (λ h fit rooms ask. goes-exactly c 𝓣 f h (walk h fit rooms ask))

  -- the duty of a function that its callers know by a `RelationalCallee`, and by a `Callee`
  abbrev pub duty-related : RelationalCallee 𝓛 → RelationalDuty 𝓛
  duty-related c = record {
    lifetimes = c.lifetimes;
    passes = c.passes;
    result = c.result;
    by_value = c.by_value;
    clauses = c.clauses;
    asks = c.asks;
    Says = c.Says;
  }

  abbrev pub duty : Callee 𝓛 → Duty 𝓛
  duty c = record {
    lifetimes = c.lifetimes;
    passes = c.passes;
    result = c.result;
    by_value = c.by_value;
    clauses = c.clauses;
    asks = c.asks;
    answer = c.answer;
    leaves = c.leaves;
  }

  abbrev pub Meets-related : RelationalCallee 𝓛 → Type 1
  Meets-related c = (κs : Lfts c.lifetimes) (qs : Shares c.lifetimes) (a : Denots (types_at (slots c.passes) κs))
      (g : (c.clauses κs a).ghost) (r : c.result.Denot)
      (ws : Lasts (ended_of c.lifetimes c.passes c.result) κs a)
      → c.asks (hold κs qs c.passes a) → c.Says (hold κs qs c.passes a) r (ends κs c.passes a ws)
      → ent 𝓤 (emp 𝓤) ((c.clauses κs a).ensures g r (at_exit (ended_of c.lifetimes c.passes c.result) κs a ws))

  abbrev pub Meets-end : Callee 𝓛 → Type 1
  Meets-end c = (κs : Lfts c.lifetimes) (qs : Shares c.lifetimes) (a : Denots (types_at (slots c.passes) κs))
      (g : (c.clauses κs a).ghost)
      (ws : Lasts (ended_of c.lifetimes c.passes c.result) κs a)
      → c.asks (hold κs qs c.passes a) → ends κs c.passes a ws ≡ c.leaves (hold κs qs c.passes a)
      → ent 𝓤 (emp 𝓤) ((c.clauses κs a).ensures g (c.answer (hold κs qs c.passes a))
      (at_exit (ended_of c.lifetimes c.passes c.result) κs a ws))

-- the same at the function's own entry of the tables of its code: what its `Proof` ends in
module _ {M : Type 1} {𝓤 : Ura M} (𝓛 : Logic 𝓤) (𝓜 : Model 𝓤 𝓛.H) (𝓡 : Running 𝓤 𝓛.H 𝓜)
    (env : routines.Env) where
  open 𝓛 use {H}

  abbrev pub own-tables : Tables 𝓤 H
  own-tables = tables_of 𝓤 H 𝓜 (tables 𝓤 H 𝓜 𝓡 env)

  pub proved_related : (c : RelationalDuty 𝓛) → Own c.passes
      → ((κs : Lfts c.lifetimes) (qs : Shares c.lifetimes)
      → toks 𝓛 c.lifetimes κs qs ≡ tokens κs qs 𝓛 c.passes)
      → Asked-related c → Suffices-related c
      → (k : Key) (f : Fn) → Closed 𝓤 H (tables 𝓤 H 𝓜 𝓡 env).C (tables 𝓤 H 𝓜 𝓡 env).Λ k f
      → ((h : Handed c.passes) → Fit c.passes h → Rooms c.passes h → c.asks h → Goes-related c own-tables f h)
      → Triple 𝓤 ((tables 𝓤 H 𝓜 𝓡 env).C k) (contract_due c)
  unfolding tables_of
  proved_related c own all-tokens reads ends-well k f closed walk =
      entered 𝓤 H (contract_due c) (tables 𝓤 H 𝓜 𝓡 env).C (tables 𝓤 H 𝓜 𝓡 env).Λ k f closed
      (meets-related {𝓛 = 𝓛} c own all-tokens reads ends-well own-tables f walk)

  pub proved_duty : (c : Duty 𝓛) → Own c.passes → ((κs : Lfts c.lifetimes) (qs : Shares c.lifetimes)
      → toks 𝓛 c.lifetimes κs qs ≡ tokens κs qs 𝓛 c.passes)
      → Asked c → Suffices c
      → (k : Key) (f : Fn) → Closed 𝓤 H (tables 𝓤 H 𝓜 𝓡 env).C (tables 𝓤 H 𝓜 𝓡 env).Λ k f
      → ((h : Handed c.passes) → Fit c.passes h → Rooms c.passes h → c.asks h → Goes c own-tables f h)
      → Triple 𝓤 ((tables 𝓤 H 𝓜 𝓡 env).C k) (contract-of c)
  proved_duty c own all-tokens reads ends-well k f closed walk =
      proved_related (exactly c) own all-tokens reads (suffices-exactly c ends-well) k f closed
      (λ h fit rooms ask. goes-exactly {𝓛 = 𝓛} c own-tables f h (walk h fit rooms ask))

  pub proved_own_related : (c : RelationalCallee 𝓛) → Own c.passes
      → ((κs : Lfts c.lifetimes) (qs : Shares c.lifetimes) → toks 𝓛 c.lifetimes κs qs
      ≡ tokens κs qs 𝓛 c.passes)
      → Asked-related (duty-related c) → Meets-related c
      → (k : Key) (f : Fn) → Closed 𝓤 H (tables 𝓤 H 𝓜 𝓡 env).C (tables 𝓤 H 𝓜 𝓡 env).Λ k f
      → ((h : Handed c.passes) → Fit c.passes h → Rooms c.passes h → c.asks h
      → Goes-related (duty-related c) own-tables f h)
      → Triple 𝓤 ((tables 𝓤 H 𝓜 𝓡 env).C k) (contract_related c)
  proved_own_related c own all-tokens reads ends-well =
      proved_related (duty-related c) own all-tokens reads (λ κs qs a g r ws ask fit rooms said. ends-well κs qs a g r ws ask said)

  pub proved_own : (c : Callee 𝓛) → Own c.passes
      → ((κs : Lfts c.lifetimes) (qs : Shares c.lifetimes) → toks 𝓛 c.lifetimes κs qs
      ≡ tokens κs qs 𝓛 c.passes) → Asked (duty c) → Meets-end c
      → (k : Key) (f : Fn) → Closed 𝓤 H (tables 𝓤 H 𝓜 𝓡 env).C (tables 𝓤 H 𝓜 𝓡 env).Λ k f
      → ((h : Handed c.passes) → Fit c.passes h → Rooms c.passes h → c.asks h → Goes (duty c) own-tables f h)
      → Triple 𝓤 ((tables 𝓤 H 𝓜 𝓡 env).C k) (contract_of c)
  proved_own c own all-tokens reads ends-well = proved_duty (duty c) own all-tokens reads
      (λ κs qs a g ws ask fit rooms e. ends-well κs qs a g ws ask e)
