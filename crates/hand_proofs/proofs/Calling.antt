-- A call in a walk, of a function whose parameters are plain data, `&mut [T]` and `&[T]`, and whose contract says its result and its last
-- lists, exactly or by a relation. One step serves every such callee (`calls`, `calls-related`, and `calls_last`, `calls-related-last`):
-- each slice is lent for a lifetime made for the call, and is had back at the list that the callee left. The context has one entry for each
-- slice passed, at its head and in the parameters' order, before the call and after it.
--     Pass n               how a parameter is passed: `value`, `lent` (a `&mut [T]` lent again), `shown` (a `&mut [T]` lent as a `&[T]`),
--                          `relayed` (a `&[T]` lent on)
--     RelationalCallee     what a caller knows of a function: its parameters, its result, its clauses, and how they relate what is handed,
--                          the result and the lists left
--     Callee, related      one whose clauses say the result and the lists left exactly, and that as a relation
-- It says nothing of any crate. Assumes `Logic`, and that the table of calls is monotone under a frame.
use mathlib.Core.Path.{◌≡◌, refl, sym, ap, subst}
use Prim.Native.Nat.{ℕ, zero, suc}
use mathlib.Core.List.{List, [], ◌∷◌, ◌++◌}
use seplogic.Ra.Ura.{Ura}
use base.Fraction.{full_share}
use mir.Syntax.{Callee as Key, Place, Opd as Operand, Body, seq, call, named}
use mir.Val.{Val}
use base.Logic.{SProp, ent, sep, wand, ex, emp, id⊢, via, comm∗, assoc∗, assoc', mono_l, mono_r, snd∗, emp∗, wand_i, apply∗}
use base.Fml.{Lft, GName, Fml, ftrue, fsep, flft, fdead}
use prog.Wp.{Env, Calls, Loops, eval_opds}
use types.Logic.{Logic, sem}
use sound.WpLaws.{FmC, eval_opds_fm}
use contract.Monad.{fact, fact_i, fact_use}
use contract.Lifetimes.{Lfts, Shares, Within, lft_at, toks}
use types.Kit.{Item, ‵, raw, ◌⊛◌, some, later, mean, ⋆, pop, push, Post, Goal, runs, lands, settles, Soaks, Seq, cut, ◌$◌}
use types.Kit.{◌∵◌, !, qed, by, move, use0, use1, use3, split, join, pick, drop, fsplit, fjoin, frame, await, updating}
use types.Kit.{now as at_once}
use types.Kit.{show as witness, done}
use types.Run.{Opds}
use types.Tokens.{lft_new, lft_end}
use denote.Exit.{yes}
use denote.RattleType.{RattleType, Denots, Valss, flat, owns}
use denote.Laws.{Is, shows}
use denote.Slice.{MutSlice, ShrSlice}
use denote.Signature.{Slot, Signature, plain, mut_slice_of, shr_slice_of, types_at}
use denote.Steps.{only, facts, heard, nothing}
use denote.Triple.Statement.{Contract, Triple}
use denote.Triple.End.{all, Fins, lasts_of}
use denote.Triple.Spec.{triple_of}
use denote.Triple.Clauses.{Ended, Clauses, Lasts, at_exit, ensured, closing}
use denote.Triple.Call.{calls_from, calls_from_last}
use Rattle.hand_proofs.proofs.Values.{ByValue, Lendable}
use Rattle.hand_proofs.proofs.Lending.{Loan, at_list, seen_at, words, Holds, Views, Away, Seen, Relayed, Left-at, lend, regain, show}
use Rattle.hand_proofs.proofs.Lending.{regain-shown, relay, regain-relayed}

-- ---- n lifetimes that are made for a call
abbrev pub News : ℕ → Type 0
News zero = Unit {0}
News (suc n) = ℕ × News n

abbrev pub spans : (n : ℕ) → News n → Lfts n
spans zero νs = tt
spans (suc n) νs = (νs.0 ∷ [], spans n νs.1)

abbrev pub fulls : (n : ℕ) → Shares n
fulls zero = tt
fulls (suc n) = (full_share, fulls n)

module _ {M : Type 1} {𝓤 : Ura M} (𝓛 : Logic 𝓤) where
  open 𝓛 use {H, A}

  abbrev deads : (n : ℕ) → Lfts n → SProp 𝓤
  deads zero κs = emp 𝓤
  deads (suc n) κs = sep 𝓤 (A.dead κs.0) (deads n κs.1)

  module _ where
    begun : (n : ℕ) → ent 𝓤 (emp 𝓤) (H.⇛ (ex 𝓤 (λ (νs : News n). toks 𝓛 n (spans n νs) (fulls n))))
    begun zero = qed 𝓛 [] ∵ updating ! $ at_once ! $ witness ! (λ (νs : News zero). toks 𝓛 zero (spans zero νs) (fulls zero)) tt
        $
        done !
    begun (suc n) =
        qed 𝓛 [] ∵ updating ! $ lft_new ! tt (λ ν. use0 𝓛 (later (some
        (λ (νs : News n). raw (toks 𝓛 n (spans n νs) (fulls n))))) (begun n) $ await ! tt $ pick ! (λ νs.
        at_once ! $ witness ! (λ (μs : News (suc n)). toks 𝓛 (suc n) (spans (suc n) μs) (fulls (suc n))) (ν, νs) $
        move ! (1 ∷ 0 ∷ []) $ done !))

    over : (n : ℕ) (νs : News n) → ent 𝓤 (toks 𝓛 n (spans n νs) (fulls n)) (H.⇛ (deads n (spans n νs)))
    over zero νs = qed 𝓛 [] ∵ updating ! $ at_once ! $ done !
    over (suc n) νs =
        qed 𝓛 (‵ (flft (νs.0 ∷ []) full_share) ∷ raw (toks 𝓛 n (spans n νs.1) (fulls n)) ∷ []) ∵ updating ! $
        lft_end ! tt $ move ! (1 ∷ []) $
        use1 𝓛 (later (raw (deads n (spans n νs.1)))) (over n νs.1) $ await ! tt $ at_once ! $ move ! (1 ∷ 0 ∷ []) $ done !

    dead_at : (n j : ℕ) (ok : Within n j) (κs : Lfts n) → ent 𝓤 (deads n κs) (sep 𝓤 (A.dead (lft_at n j ok κs)) (deads n κs))
    dead_at zero j ok κs = absurd ok
    dead_at (suc n) zero ok κs = via 𝓤 (sep 𝓤 (sep 𝓤 (A.dead κs.0) (A.dead κs.0)) (deads n κs.1))
        (mono_l 𝓤 (deads n κs.1) (𝓛.lfts.dead_dup κs.0))
        (assoc∗ 𝓤 (A.dead κs.0) (A.dead κs.0) (deads n κs.1))
    dead_at (suc n) (suc j) ok κs =
        qed 𝓛 (raw (A.dead κs.0) ∷ raw (deads n κs.1) ∷ []) ∵ move ! (1 ∷ []) $
        use1 𝓛 (raw (A.dead (lft_at n j ok κs.1)) ⊛ raw (deads n κs.1)) (dead_at n j ok κs.1) $ split ! $
        frame ! $ move ! (1 ∷ 0 ∷ []) $ done !

-- ---- one slice more is lent, and had back, beside the others
module _ {M : Type 1} {𝓤 : Ura M} (𝓛 : Logic 𝓤) where
  open 𝓛 use {H, A}

  abbrev Out : (X : Type 0) → (X → Fml) → (X → Fml) → SProp 𝓤
  Out X O N = H.⇛ (ex 𝓤 (λ (x : X). sep 𝓤 (sem 𝓛 (O x)) (sem 𝓛 (N x))))

  abbrev out : (X : Type 0) → (X → Fml) → (X → Fml) → Item 𝓤
  out X O N = later (some (λ (x : X). ‵ (O x) ⊛ ‵ (N x)))

  -- what a callee gets of the slice is O, and what is kept N; of the others O' and N'
  lend-value : (X : Type 0) (P : Fml) (O N : X → Fml) → ent 𝓤 (emp 𝓤) (sem 𝓛 P)
      → ent 𝓤 (Out X O N) (Out X (λ x. fsep P (O x)) N)
  lend-value X P O N p =
      qed 𝓛 (out X O N ∷ []) ∵ updating ! $ await ! tt $ pick ! (λ x. split ! $ use0 𝓛 (‵ P) p $ fjoin ! $ at_once ! $
      witness ! (λ (y : X). sep 𝓤 (sem 𝓛 (fsep P (O y))) (sem 𝓛 (N y))) x $
      done !)

  lend-slice : (Q : SProp 𝓤) (X Y : Type 0) (O N : X → Fml) (O' N' : Y → Fml) → ent 𝓤 Q (Out X O N)
      → ent 𝓤 (sep 𝓤 Q (Out Y O' N'))
      (Out (X × Y) (λ z. fsep (O z.0) (O' z.1)) (λ z. fsep (N z.0) (N' z.1)))
  lend-slice Q X Y O N O' N' q =
      qed 𝓛 (raw Q ∷ out Y O' N' ∷ []) ∵ updating ! $ use1 𝓛 (out X O N) q $ await ! tt $
      pick ! (λ x. split ! $ move ! (2 ∷ []) $ await ! tt $ pick ! (λ y. split ! $
      at_once ! $ witness ! (λ (z : X × Y). sep 𝓤 (sem 𝓛 (fsep (O z.0) (O' z.1)))
      (sem 𝓛 (fsep (N z.0) (N' z.1)))) (x, y) $
      move ! (2 ∷ 0 ∷ []) $ fjoin ! $ frame ! $ move ! (1 ∷ 0 ∷ []) $ fjoin ! $ done !))

  -- a slice lent as a `&[T]`, which has no name
  lend-shared : (Q : SProp 𝓤) (Y : Type 0) (O N : Fml) (O' N' : Y → Fml) → ent 𝓤 Q (H.⇛ (sep 𝓤 (sem 𝓛 O) (sem 𝓛 N)))
      → ent 𝓤 (sep 𝓤 Q (Out Y O' N')) (Out Y (λ y. fsep O (O' y)) (λ y. fsep N (N' y)))
  lend-shared Q Y O N O' N' q =
      qed 𝓛 (raw Q ∷ out Y O' N' ∷ []) ∵ updating ! $ use1 𝓛 (later (‵ O ⊛ ‵ N)) q $ await ! tt $ split ! $
      move ! (2 ∷ []) $ await ! tt $ pick ! (λ y. split ! $
      at_once ! $ witness ! (λ (z : Y). sep 𝓤 (sem 𝓛 (fsep O (O' z))) (sem 𝓛 (fsep N (N' z)))) y $
      move ! (2 ∷ 0 ∷ []) $ fjoin ! $ frame ! $ move ! (1 ∷ 0 ∷ []) $ fjoin ! $ done !)

  -- the lifetimes are over (D); N was kept of the slice, and E is said of its last list
  back-slice : (D : SProp 𝓤) (κ : Lft) → ent 𝓤 D (sep 𝓤 (A.dead κ) D) → (P N E N' E' : Fml) (Q : SProp 𝓤)
      → ent 𝓤 (sep 𝓤 (A.dead κ) (sep 𝓤 (sem 𝓛 N) (sem 𝓛 E))) (H.⇛ (sem 𝓛 P))
      → ent 𝓤 (sep 𝓤 D (sep 𝓤 (sem 𝓛 N') (sem 𝓛 E'))) (H.⇛ Q)
      → ent 𝓤 (sep 𝓤 D (sep 𝓤 (sem 𝓛 (fsep N N')) (sem 𝓛 (fsep E E')))) (H.⇛ (sep 𝓤 (sem 𝓛 P) Q))
  back-slice D κ dead P N E N' E' Q p q =
      qed 𝓛 (raw D ∷ ‵ (fsep N N') ∷ ‵ (fsep E E') ∷ []) ∵ updating ! $ use1 𝓛 (‵ (fdead κ) ⊛ raw D) dead $ split ! $
      move ! (2 ∷ []) $ fsplit ! $ move ! (4 ∷ []) $ fsplit ! $
      -- [E; E'; N; N'; κ is over; D]
      move ! (4 ∷ 2 ∷ 0 ∷ []) $ use3 𝓛 (later (‵ P)) p $ await ! tt $ move ! (3 ∷ 2 ∷ 1 ∷ []) $ use3 𝓛 (later (raw Q)) q
      $
      await ! tt $ at_once ! $ move ! (1 ∷ 0 ∷ []) $ done !

  -- where nothing is said of it
  no_last : (κ : Lft) (P N : Fml) → ent 𝓤 (sep 𝓤 (A.dead κ) (sem 𝓛 N)) (H.⇛ (sem 𝓛 P))
      → ent 𝓤 (sep 𝓤 (A.dead κ) (sep 𝓤 (sem 𝓛 N) (sem 𝓛 ftrue))) (H.⇛ (sem 𝓛 P))
  no_last κ P N p = qed 𝓛 (‵ (fdead κ) ∷ ‵ N ∷ ‵ ftrue ∷ []) ∵ move ! (2 ∷ []) $ drop ! $ by ! p

-- ---- how parameters are passed
pub data Pass (n : ℕ) : Type 2 where
  value : (R : RattleType) → ByValue R → Pass n
  lent : (j : ℕ) → Within n j → RattleType → Pass n
  shown : (j : ℕ) → Within n j → (R : RattleType) → Lendable R → Pass n
  relayed : (j : ℕ) → Within n j → (R : RattleType) → ByValue R → Pass n

module _ {n : ℕ} where
  abbrev pub slots : List (Pass n) → List (Slot n)
  slots [] = []
  slots (value R B ∷ ps) = plain (λ κs. R) ∷ slots ps
  slots (lent j ok R ∷ ps) = mut_slice_of (j ∷ []) ok (plain (λ κs. R)) ∷ slots ps
  slots (shown j ok R F ∷ ps) = shr_slice_of (j ∷ []) ok (plain (λ κs. R)) ∷ slots ps
  slots (relayed j ok R B ∷ ps) = shr_slice_of (j ∷ []) ok (plain (λ κs. R)) ∷ slots ps

  -- what the caller hands over: a value, or a slice that it holds at a list
  abbrev pub Handed : List (Pass n) → Type 0
  Handed [] = Unit {0}
  Handed (value R B ∷ ps) = R.Denot × Handed ps
  Handed (lent j ok R ∷ ps) = (Loan × List R.Denot) × Handed ps
  Handed (shown j ok R F ∷ ps) = (Loan × List R.Denot) × Handed ps
  Handed (relayed j ok R B ∷ ps) = (Loan × List R.Denot) × Handed ps

  -- each value is one of its type
  abbrev pub Fit : (ps : List (Pass n)) → Handed ps → Type 0
  Fit [] h = Unit {0}
  Fit (value R B ∷ ps) h = Is R h.0 (B.word h.0 ∷ []) × Fit ps h.1
  Fit (lent j ok R ∷ ps) h = Fit ps h.1
  Fit (shown j ok R F ∷ ps) h = Fit ps h.1
  Fit (relayed j ok R B ∷ ps) h = Fit ps h.1

  -- the names under which the slices lent as `&mut [T]` are lent, and the lists that the callee leaves
  abbrev pub Names : List (Pass n) → Type 0
  Names [] = Unit {0}
  Names (value R B ∷ ps) = Names ps
  Names (lent j ok R ∷ ps) = GName × Names ps
  Names (shown j ok R F ∷ ps) = Names ps
  Names (relayed j ok R B ∷ ps) = Names ps

  abbrev pub Ends : List (Pass n) → Type 0
  Ends [] = Unit {0}
  Ends (value R B ∷ ps) = Ends ps
  Ends (lent j ok R ∷ ps) = List R.Denot × Ends ps
  Ends (shown j ok R F ∷ ps) = Ends ps
  Ends (relayed j ok R B ∷ ps) = Ends ps

  abbrev pub after : (ps : List (Pass n)) → Handed ps → Ends ps → Handed ps
  after [] h es = tt
  after (value R B ∷ ps) h es = (h.0, after ps h.1 es)
  after (lent j ok R ∷ ps) h es = ((h.0.0, es.0), after ps h.1 es.1)
  after (shown j ok R F ∷ ps) h es = (h.0, after ps h.1 es)
  after (relayed j ok R B ∷ ps) h es = (h.0, after ps h.1 es)

  -- the entries of the caller's context
  abbrev pub held : {M : Type 1} {𝓤 : Ura M} (ps : List (Pass n)) → Handed ps → List (Item 𝓤)
  held [] h = []
  held (value R B ∷ ps) h = held ps h.1
  held (lent j ok R ∷ ps) h = ‵ (Holds R h.0.0 h.0.1) ∷ held ps h.1
  held (shown j ok R F ∷ ps) h = ‵ (Holds R h.0.0 h.0.1) ∷ held ps h.1
  held (relayed j ok R B ∷ ps) h = ‵ (Views R h.0.0 h.0.1) ∷ held ps h.1

  -- how many slices are passed
  abbrev pub slices : List (Pass n) → ℕ
  slices [] = zero
  slices (value R B ∷ ps) = slices ps
  slices (lent j ok R ∷ ps) = suc (slices ps)
  slices (shown j ok R F ∷ ps) = suc (slices ps)
  slices (relayed j ok R B ∷ ps) = suc (slices ps)

  -- the machine values passed, in a row
  abbrev pub in_words : (ps : List (Pass n)) → Handed ps → List Val
  in_words [] h = []
  in_words (value R B ∷ ps) h = B.word h.0 ∷ in_words ps h.1
  in_words (lent j ok R ∷ ps) h = words R h.0.0 ++ in_words ps h.1
  in_words (shown j ok R F ∷ ps) h = words R h.0.0 ++ in_words ps h.1
  in_words (relayed j ok R B ∷ ps) h = words R h.0.0 ++ in_words ps h.1

  module _ (κs : Lfts n) where
    abbrev pub args : (ps : List (Pass n)) → Handed ps → Names ps → Denots (types_at (slots ps) κs)
    args [] h δs = tt
    args (value R B ∷ ps) h δs = (h.0, args ps h.1 δs)
    args (lent j ok R ∷ ps) h δs = (at_list R h.0.0 δs.0 h.0.1, args ps h.1 δs.1)
    args (shown j ok R F ∷ ps) h δs = (seen_at R h.0.0 h.0.1, args ps h.1 δs)
    args (relayed j ok R B ∷ ps) h δs = (seen_at R h.0.0 h.0.1, args ps h.1 δs)

    abbrev pub machines : (ps : List (Pass n)) → Handed ps → Valss (types_at (slots ps) κs)
    machines [] h = tt
    machines (value R B ∷ ps) h = (B.word h.0 ∷ [], machines ps h.1)
    machines (lent j ok R ∷ ps) h = (words R h.0.0, machines ps h.1)
    machines (shown j ok R F ∷ ps) h = (words R h.0.0, machines ps h.1)
    machines (relayed j ok R B ∷ ps) h = (words R h.0.0, machines ps h.1)

    pub in_words-is : (ps : List (Pass n)) (h : Handed ps) → flat (types_at (slots ps) κs) (machines ps h) ≡ in_words ps h
    in_words-is [] h = refl
    in_words-is (value R B ∷ ps) h = ap (λ (vs : List Val). B.word h.0 ∷ vs) (in_words-is ps h.1)
    in_words-is (lent j ok R ∷ ps) h = ap (λ (vs : List Val). words R h.0.0 ++ vs) (in_words-is ps h.1)
    in_words-is (shown j ok R F ∷ ps) h = ap (λ (vs : List Val). words R h.0.0 ++ vs) (in_words-is ps h.1)
    in_words-is (relayed j ok R B ∷ ps) h = ap (λ (vs : List Val). words R h.0.0 ++ vs) (in_words-is ps h.1)

    -- what the caller keeps meanwhile
    abbrev pub kept_back : (ps : List (Pass n)) → Handed ps → Names ps → Fml
    kept_back [] h δs = ftrue
    kept_back (value R B ∷ ps) h δs = kept_back ps h.1 δs
    kept_back (lent j ok R ∷ ps) h δs = fsep (Away R h.0.0 (lft_at n j ok κs) δs.0 h.0.1) (kept_back ps h.1 δs.1)
    kept_back (shown j ok R F ∷ ps) h δs = fsep (Seen R h.0.0 (lft_at n j ok κs) h.0.1) (kept_back ps h.1 δs)
    kept_back (relayed j ok R B ∷ ps) h δs = fsep (Relayed R h.0.0 (lft_at n j ok κs) h.0.1) (kept_back ps h.1 δs)

    -- of what a contract binds at exit, the lists
    abbrev pub ends : (ps : List (Pass n)) (a : Denots (types_at (slots ps) κs)) → Fins κs (slots ps) (all yes (slots ps)) a → Ends ps
    ends [] a ws = tt
    ends (value R B ∷ ps) a ws = ends ps a.1 ws.1
    ends (lent j ok R ∷ ps) a ws = (ws.0, ends ps a.1 ws.1)
    ends (shown j ok R F ∷ ps) a ws = ends ps a.1 ws.1
    ends (relayed j ok R B ∷ ps) a ws = ends ps a.1 ws.1

    -- what a contract binds at exit, and what it says of that
    abbrev Bound : (ps : List (Pass n)) → Handed ps → Names ps → Type 0
    Bound ps h δs = Fins κs (slots ps) (all yes (slots ps)) (args ps h δs)

    abbrev Said : (ps : List (Pass n)) (h : Handed ps) (δs : Names ps) → Bound ps h δs → Fml
    Said ps h δs ws = lasts_of κs (slots ps) (all yes (slots ps)) (args ps h δs) ws

    abbrev owned_by : (ps : List (Pass n)) → Handed ps → Names ps → Fml
    owned_by ps h δs = owns (types_at (slots ps) κs) (args ps h δs) (machines ps h)

    module _ {M : Type 1} {𝓤 : Ura M} (𝓛 : Logic 𝓤) where
      -- the caller's entries give what the callee's parameters own, beside what the caller keeps
      open 𝓛 use {H}

      lend-all : (ps : List (Pass n)) (h : Handed ps) → Fit ps h → ent 𝓤 (⋆ 𝓛 (held ps h))
          (Out 𝓛 (Names ps) (owned_by ps h) (kept_back ps h))
      lend-all [] h fit = qed 𝓛 [] ∵ updating ! $ at_once ! $ witness !
          (λ (δs : Names []). sep 𝓤 (sem 𝓛 (owned_by [] h δs)) (sem 𝓛 (kept_back [] h δs))) tt $ nothing ! $
          frame ! $ done !
      lend-all (value R B ∷ ps) h fit =
          via 𝓤 (Out 𝓛 (Names ps) (owned_by ps h.1) (kept_back ps h.1)) (lend-all ps h.1 fit.1)
          (lend-value 𝓛 (Names ps) (R.own_val h.0 (B.word h.0 ∷ [])) (owned_by ps h.1) (kept_back ps h.1)
          (B.makes 𝓛 h.0 (B.word h.0 ∷ []) fit.0))
      lend-all (lent j ok R ∷ ps) h fit = let κ = lft_at n j ok κs in let L = h.0.0 in let ys = h.0.1 in
          via 𝓤 (sep 𝓤 (sem 𝓛 (Holds R L ys)) (⋆ 𝓛 (held ps h.1)))
          (pop 𝓛 (‵ (Holds R L ys)) (held ps h.1))
          (via 𝓤 (sep 𝓤 (sem 𝓛 (Holds R L ys)) (Out 𝓛 (Names ps) (owned_by ps h.1) (kept_back ps h.1)))
          (mono_r 𝓤 (sem 𝓛 (Holds R L ys)) (lend-all ps h.1 fit))
          (lend-slice 𝓛 (sem 𝓛 (Holds R L ys)) GName (Names ps)
          (λ δ. (MutSlice (named j) κ R).own_val (at_list R L δ ys) (words R L)) (λ δ. Away R L κ δ ys)
          (owned_by ps h.1)
          (kept_back ps h.1)
          (lend R L 𝓛 (named j) κ ys)))
      lend-all (shown j ok R F ∷ ps) h fit = let κ = lft_at n j ok κs in let L = h.0.0 in let ys = h.0.1 in
          via 𝓤 (sep 𝓤 (sem 𝓛 (Holds R L ys)) (⋆ 𝓛 (held ps h.1)))
          (pop 𝓛 (‵ (Holds R L ys)) (held ps h.1))
          (via 𝓤 (sep 𝓤 (sem 𝓛 (Holds R L ys)) (Out 𝓛 (Names ps) (owned_by ps h.1) (kept_back ps h.1)))
          (mono_r 𝓤 (sem 𝓛 (Holds R L ys)) (lend-all ps h.1 fit))
          (lend-shared 𝓛 (sem 𝓛 (Holds R L ys)) (Names ps)
          ((ShrSlice (named j) κ R).own_val (seen_at R L ys) (words R L)) (Seen R L κ ys)
          (owned_by ps h.1)
          (kept_back ps h.1)
          (show R L 𝓛 (named j) κ ys F)))
      lend-all (relayed j ok R B ∷ ps) h fit = let κ = lft_at n j ok κs in let L = h.0.0 in let ys = h.0.1 in
          via 𝓤 (sep 𝓤 (sem 𝓛 (Views R L ys)) (⋆ 𝓛 (held ps h.1)))
          (pop 𝓛 (‵ (Views R L ys)) (held ps h.1))
          (via 𝓤 (sep 𝓤 (sem 𝓛 (Views R L ys)) (Out 𝓛 (Names ps) (owned_by ps h.1) (kept_back ps h.1)))
          (mono_r 𝓤 (sem 𝓛 (Views R L ys)) (lend-all ps h.1 fit))
          (lend-shared 𝓛 (sem 𝓛 (Views R L ys)) (Names ps)
          ((ShrSlice (named j) κ R).own_val (seen_at R L ys) (words R L)) (Relayed R L κ ys)
          (owned_by ps h.1)
          (kept_back ps h.1)
          (relay R L 𝓛 (named j) κ ys B.shr_laws)))

      -- once the lifetimes are over, what was kept and what is said of the last lists give the entries back
      back-all : (ps : List (Pass n)) (h : Handed ps) (δs : Names ps) (ws : Bound ps h δs)
          → ent 𝓤 (sep 𝓤 (deads 𝓛 n κs) (sep 𝓤 (sem 𝓛 (kept_back ps h δs)) (sem 𝓛 (Said ps h δs ws))))
          (H.⇛ (⋆ 𝓛 (held ps (after ps h (ends ps (args ps h δs) ws)))))
      back-all [] h δs ws = qed 𝓛 (raw (deads 𝓛 n κs) ∷ ‵ ftrue ∷ ‵ ftrue ∷ []) ∵ updating ! $ at_once ! $
          drop ! $ drop ! $ done !
      back-all (value R B ∷ ps) h δs ws =
          qed 𝓛 (raw (deads 𝓛 n κs) ∷ ‵ (kept_back ps h.1 δs) ∷ ‵ (Said (value R B ∷ ps) h δs ws) ∷ []) ∵
          move ! (2 ∷ []) $ fsplit ! $ drop ! $ move ! (1 ∷ 2 ∷ 0 ∷ []) $
          by ! (back-all ps h.1 δs ws.1)
      back-all (lent j ok R ∷ ps) h δs ws = let κ = lft_at n j ok κs in let L = h.0.0 in let ys = h.0.1 in
          let δ = δs.0 in let zs = ws.0 in
          let Γ = held ps (after ps h.1 (ends ps (args ps h.1 δs.1) ws.1)) in
          via 𝓤 (H.⇛ (sep 𝓤 (sem 𝓛 (Holds R L zs)) (⋆ 𝓛 Γ)))
          (back-slice 𝓛 (deads 𝓛 n κs) κ (dead_at 𝓛 n j ok κs) (Holds R L zs) (Away R L κ δ ys)
          (Left-at R L κ δ ys zs)
          (kept_back ps h.1 δs.1)
          (Said ps h.1 δs.1 ws.1) (⋆ 𝓛 Γ) (regain R L 𝓛 (named j) κ ys δ zs)
          (back-all ps h.1 δs.1 ws.1))
          (𝓛.laws.⇛_mono _ _ (push 𝓛 (‵ (Holds R L zs)) Γ))
      back-all (shown j ok R F ∷ ps) h δs ws = let κ = lft_at n j ok κs in let L = h.0.0 in let ys = h.0.1 in
          let Γ = held ps (after ps h.1 (ends ps (args ps h.1 δs) ws.1)) in
          via 𝓤 (H.⇛ (sep 𝓤 (sem 𝓛 (Holds R L ys)) (⋆ 𝓛 Γ)))
          (back-slice 𝓛 (deads 𝓛 n κs) κ (dead_at 𝓛 n j ok κs) (Holds R L ys) (Seen R L κ ys) ftrue
          (kept_back ps h.1 δs) (Said ps h.1 δs ws.1)
          (⋆ 𝓛 Γ)
          (no_last 𝓛 κ (Holds R L ys) (Seen R L κ ys) (regain-shown R L 𝓛 (named j) κ ys))
          (back-all ps h.1 δs ws.1))
          (𝓛.laws.⇛_mono _ _ (push 𝓛 (‵ (Holds R L ys)) Γ))
      back-all (relayed j ok R B ∷ ps) h δs ws = let κ = lft_at n j ok κs in let L = h.0.0 in let ys = h.0.1 in
          let Γ = held ps (after ps h.1 (ends ps (args ps h.1 δs) ws.1)) in
          via 𝓤 (H.⇛ (sep 𝓤 (sem 𝓛 (Views R L ys)) (⋆ 𝓛 Γ)))
          (back-slice 𝓛 (deads 𝓛 n κs) κ (dead_at 𝓛 n j ok κs) (Views R L ys) (Relayed R L κ ys) ftrue
          (kept_back ps h.1 δs)
          (Said ps h.1 δs ws.1) (⋆ 𝓛 Γ)
          (no_last 𝓛 κ (Views R L ys) (Relayed R L κ ys) (regain-relayed R L 𝓛 (named j) κ ys))
          (back-all ps h.1 δs ws.1))
          (𝓛.laws.⇛_mono _ _ (push 𝓛 (‵ (Views R L ys)) Γ))

-- ---- a context and as many entries before it that say nothing, or as many less
module _ {M : Type 1} {𝓤 : Ura M} where
  abbrev pub gaps : ℕ → List (Item 𝓤) → List (Item 𝓤)
  gaps zero Γ = Γ
  gaps (suc k) Γ = ‵ ftrue ∷ gaps k Γ

  abbrev pub beyond : ℕ → List (Item 𝓤) → List (Item 𝓤)
  beyond zero Γ = Γ
  beyond (suc k) [] = []
  beyond (suc k) (i ∷ Γ) = beyond k Γ

module _ {M : Type 1} {𝓤 : Ura M} (𝓛 : Logic 𝓤) (Γ : List (Item 𝓤)) where
  open 𝓛 use {H}

  fill-gaps : (k : ℕ) → ent 𝓤 (⋆ 𝓛 Γ) (⋆ 𝓛 (gaps k Γ))
  fill-gaps zero = id⊢ 𝓤 (⋆ 𝓛 Γ)
  fill-gaps (suc k) = via 𝓤 (⋆ 𝓛 (gaps k Γ)) (fill-gaps k)
      (via 𝓤 (sep 𝓤 (emp 𝓤) (⋆ 𝓛 (gaps k Γ))) (emp∗ 𝓤 (⋆ 𝓛 (gaps k Γ)))
      (push 𝓛 (‵ ftrue) (gaps k Γ)))

  clear_gaps : (k : ℕ) → ent 𝓤 (⋆ 𝓛 (gaps k Γ)) (⋆ 𝓛 Γ)
  clear_gaps zero = id⊢ 𝓤 (⋆ 𝓛 Γ)
  clear_gaps (suc k) = via 𝓤 (sep 𝓤 (emp 𝓤) (⋆ 𝓛 (gaps k Γ))) (pop 𝓛 (‵ ftrue) (gaps k Γ))
      (via 𝓤 (⋆ 𝓛 (gaps k Γ)) (snd∗ 𝓤 (emp 𝓤) (⋆ 𝓛 (gaps k Γ))) (clear_gaps k))

  -- operands that read nothing of those entries are read as well where one entry i stands in their place
  over-gaps : {K : Type 0} {E : Env 𝓤 H} {xs : List Operand} (vs : List Val) (k : ℕ) (i : Item 𝓤)
      → Opds K 𝓛 (gaps k Γ) E xs vs
      → Opds K 𝓛 (i ∷ Γ) E xs vs
  over-gaps {K} {E} {xs} vs k i os = record {
    go = λ Kt h.
        let I = mean 𝓛 i in let G = ⋆ 𝓛 Γ in
        via 𝓤 (sep 𝓤 I G) (pop 𝓛 i Γ)
        (via 𝓤 (sep 𝓤 G I) (comm∗ 𝓤 I G)
        (via 𝓤 (sep 𝓤 (eval_opds 𝓤 H E xs (λ us. wand 𝓤 I (Kt us))) I)
        (mono_l 𝓤 I (via 𝓤 (⋆ 𝓛 (gaps k Γ)) (fill-gaps k)
        (os.go (λ us. wand 𝓤 I (Kt us)) (wand_i 𝓤 (⋆ 𝓛 (gaps k Γ)) I (Kt vs)
        (via 𝓤 (sep 𝓤 G I) (mono_l 𝓤 I (clear_gaps k)) (via 𝓤 (sep 𝓤 I G) (comm∗ 𝓤 G I)
        (via 𝓤 (⋆ 𝓛 (i ∷ Γ)) (push 𝓛 i Γ) h)))))))
        (eval_opds_fm 𝓤 H 𝓛.laws E xs (λ us. wand 𝓤 I (Kt us)) Kt I
        (λ us. via 𝓤 (sep 𝓤 I (wand 𝓤 I (Kt us))) (comm∗ 𝓤 (wand 𝓤 I (Kt us)) I) (apply∗ 𝓤 I (Kt us))))));
  }

-- ---- a callee, and a call of it
abbrev pub signature_of : (n : ℕ) → List (Pass n) → RattleType → Signature
signature_of n ps S = record { lifetimes = n; outlives = []; params = slots ps; result = plain (λ κs. S) }

abbrev pub ended_of : (n : ℕ) → List (Pass n) → RattleType → Ended
ended_of n ps S = record { signature = signature_of n ps S; kept = all yes (slots ps) }

-- what is said follows from what is said
pub says_also : {M : Type 1} (𝓤 : Ura M) {φ ψ : Type 0} → (φ → ψ) → ent 𝓤 (fact 𝓤 φ) (fact 𝓤 ψ)
says_also 𝓤 {φ} {ψ} f = fact_use 𝓤 φ (id⊢ 𝓤 (fact 𝓤 φ)) (λ x. fact_i 𝓤 ψ (fact 𝓤 φ) (f x))

-- a function whose contract relates what it is handed, its result and the lists that it leaves
pub record RelationalCallee {M : Type 1} {𝓤 : Ura M} (𝓛 : Logic 𝓤) : Type 2 where
  pub lifetimes : ℕ
  pub passes : List (Pass lifetimes)
  pub result : RattleType
  pub by_value : ByValue result
  pub clauses : Clauses 𝓤 (ended_of lifetimes passes result)
  pub ghost_at : (κs : Lfts lifetimes) (h : Handed passes) (δs : Names passes) → (clauses κs (args κs passes h δs)).ghost
  -- what it asks of what it is handed, and what it says of its result and of the lists that it leaves
  pub asks : Handed passes → Type 0
  pub Says : Handed passes → result.Denot → Ends passes → Type 0
  -- that its clauses say so
  pub enters : (κs : Lfts lifetimes) (h : Handed passes) (δs : Names passes) → asks h
      → ent 𝓤 (emp 𝓤) ((clauses κs (args κs passes h δs)).requires (ghost_at κs h δs))
  pub tells : (κs : Lfts lifetimes) (h : Handed passes) (δs : Names passes) (r : result.Denot)
      (ws : Lasts (ended_of lifetimes passes result) κs (args κs passes h δs)) → asks h
      → ent 𝓤 ((clauses κs (args κs passes h δs)).ensures (ghost_at κs h δs) r
      (at_exit (ended_of lifetimes passes result) κs (args κs passes h δs) ws))
      (fact 𝓤 (Says h r (ends κs passes (args κs passes h δs) ws)))

-- one whose contract says its result and the lists that it leaves exactly
pub record Callee {M : Type 1} {𝓤 : Ura M} (𝓛 : Logic 𝓤) : Type 2 where
  pub lifetimes : ℕ
  pub passes : List (Pass lifetimes)
  pub result : RattleType
  pub by_value : ByValue result
  pub clauses : Clauses 𝓤 (ended_of lifetimes passes result)
  pub ghost_at : (κs : Lfts lifetimes) (h : Handed passes) (δs : Names passes) → (clauses κs (args κs passes h δs)).ghost
  -- what it asks of what it is handed, its result and the lists that it leaves
  pub asks : Handed passes → Type 0
  pub answer : Handed passes → result.Denot
  pub leaves : Handed passes → Ends passes
  -- that its clauses say so
  pub enters : (κs : Lfts lifetimes) (h : Handed passes) (δs : Names passes) → asks h
      → ent 𝓤 (emp 𝓤) ((clauses κs (args κs passes h δs)).requires (ghost_at κs h δs))
  pub exact : (κs : Lfts lifetimes) (h : Handed passes) (δs : Names passes) (r : result.Denot)
      (ws : Lasts (ended_of lifetimes passes result) κs (args κs passes h δs)) → asks h
      → ent 𝓤 ((clauses κs (args κs passes h δs)).ensures (ghost_at κs h δs) r
      (at_exit (ended_of lifetimes passes result) κs (args κs passes h δs) ws))
      (fact 𝓤 ((r ≡ answer h) × (ends κs passes (args κs passes h δs) ws ≡ leaves h)))

module _ {M : Type 1} {𝓤 : Ura M} {𝓛 : Logic 𝓤} where
  open 𝓛 use {H}

  abbrev pub related : Callee 𝓛 → RelationalCallee 𝓛
  related c = record {
    lifetimes = c.lifetimes;
    passes = c.passes;
    result = c.result;
    by_value = c.by_value;
    clauses = c.clauses;
    ghost_at = c.ghost_at;
    asks = c.asks;
    Says = λ h r es. (r ≡ c.answer h) × (es ≡ c.leaves h);
    enters = c.enters;
    tells = c.exact;
  }

  abbrev pub contract_related : RelationalCallee 𝓛 → Contract 𝓤
  contract_related c =
      triple_of 𝓛 (signature_of c.lifetimes c.passes c.result)
      (closing 𝓛 (ended_of c.lifetimes c.passes c.result) c.clauses)

  abbrev pub contract_of : Callee 𝓛 → Contract 𝓤
  contract_of c = contract_related (related c)

  module _ (c : RelationalCallee 𝓛) (h : Handed c.passes) where
    -- at the lifetimes νs and the names δs: what the callee's triple binds outside, and what the caller keeps
    module _ (νs : News c.lifetimes) (δs : Names c.passes) where
      abbrev at_lfts : Lfts c.lifetimes
      at_lfts = spans c.lifetimes νs

      abbrev live : SProp 𝓤
      live = toks 𝓛 c.lifetimes at_lfts (fulls c.lifetimes)

      abbrev bound : (contract_related c).Ghost
      bound = (
        (at_lfts, fulls c.lifetimes, tt, args at_lfts c.passes h δs, machines at_lfts c.passes h),
        c.ghost_at at_lfts h δs,
      )

      abbrev stay : Fml
      stay = kept_back at_lfts c.passes h δs

      abbrev Pre : Item 𝓤
      Pre = raw ((contract_related c).pre bound) ⊛ ‵ stay

      abbrev Post-of : Val → SProp 𝓤
      Post-of w = sep 𝓤 ((contract_related c).post bound w) (sem 𝓛 stay)

    -- what a call goes on with: its result r, the lists es that it leaves and what it says of them give X of the entries after the call and
    -- the result's machine value
    abbrev pub Then : (List (Item 𝓤) → Val → Type 1) → Type 1
    Then X = (r : c.result.Denot) (es : Ends c.passes) → c.Says h r es → Is c.result r (c.by_value.word r ∷ [])
        → X (held c.passes (after c.passes h es)) (c.by_value.word r)

    module _ {K : Type 0} (Γ : List (Item 𝓤)) (ask : c.asks h) where
      -- once it has returned w: the slices are back, and w is the machine value of a result of which the contract holds
      returned : K → (νs : News c.lifetimes) (δs : Names c.passes) (w : Val) (G : Val → Goal 𝓤 H) → Soaks (G w)
          → Then (λ Δ v. Seq K 𝓛 (Δ ++ Γ) (G v))
          → Seq K 𝓛 (raw (Post-of νs δs w) ∷ Γ) (G w)
      returned t νs δs w G z k =
          let κs = at_lfts νs δs in let T = ended_of c.lifetimes c.passes c.result in let a = args κs c.passes h δs in
          let g = c.ghost_at κs h δs in
          let S = c.result in
          use1 𝓛 (later (some (λ (r : S.Denot). (raw (live νs δs) ⊛ ‵ (S.own_val r (w ∷ []))) ⊛ raw
          (ensured 𝓛 T c.clauses κs a g r))) ⊛ ‵ (stay νs δs)) (id⊢ 𝓤 _) $ split t $
          await t z $
          pick t (λ r.
          split t $ move t (1 ∷ []) $ use1 𝓛 (some (λ (ws : Lasts T κs a). ‵ (Said κs c.passes h δs ws) ⊛ raw
          ((c.clauses κs a).ensures g r (at_exit T κs a ws)))) (id⊢ 𝓤 _) $
          pick t (λ ws.
          let es : Ends c.passes = ends κs c.passes a ws in let left : List (Item 𝓤) = held c.passes
          (after c.passes h es) in
          split t $ move t (1 ∷ []) $ use1 𝓛 (raw (fact 𝓤 (c.Says h r es))) (c.tells κs h δs r ws ask) $
          heard t (c.Says h r es) (λ said.
          -- [what says the last lists; the tokens and the result; what is kept]
          move t (1 ∷ []) $ split t $ move t (1 ∷ []) $ facts t S (Is S) (shows 𝓛 S) r (w ∷ []) (λ is.
          use1 𝓛 (later (raw (deads 𝓛 c.lifetimes κs))) (over 𝓛 c.lifetimes νs) $ await t z $
          move t (0 ∷ 2 ∷ 1 ∷ []) $
          use3 𝓛 (later (raw (⋆ 𝓛 left))) (back-all κs 𝓛 c.passes h δs ws) $ await t z $
          cut (raw (⋆ 𝓛 left) ∷ []) left Γ (id⊢ 𝓤 _) $
          (let same : w ∷ [] ≡ c.by_value.word r ∷ [] = c.by_value.told r (w ∷ []) is in
          subst (λ (v : Val). Seq K 𝓛 (left ++ Γ) (G v)) (sym (ap only same)) (k r es said (subst (Is S r) same is)))))))

  module _ {K : Type 0} {Γ : List (Item 𝓤)} where
    -- up to the call: the lifetimes are made and the slices lent, and what the callee asks stands at the head beside what the caller keeps
    ready : K → (c : RelationalCallee 𝓛) (h : Handed c.passes) → Fit c.passes h → c.asks h
        → (G : Goal 𝓤 H) → Soaks G
        → Γ ≡ held c.passes h ++ beyond (slices c.passes) Γ
        → ((νs : News c.lifetimes) (δs : Names c.passes) → Seq K 𝓛 (Pre c h νs δs ∷ beyond (slices c.passes) Γ) G)
        → Seq K 𝓛 Γ G
    ready t c h fit ask G z e k =
        let n = c.lifetimes in let ps = c.passes in let Γ' = beyond (slices ps) Γ in
        subst (λ (Δ : List (Item 𝓤)). Seq K 𝓛 Δ G) (sym e)
        (use0 𝓛 (later (some (λ (νs : News n). raw (toks 𝓛 n (spans n νs) (fulls n))))) (begun 𝓛 n) $
        await t z $ pick t (λ νs.
        let κs = spans n νs in let live-toks = toks 𝓛 n κs (fulls n) in
        cut (raw live-toks ∷ held ps h) (raw live-toks ∷ out 𝓛 (Names ps) (owned_by κs ps h)
        (kept_back κs ps h) ∷ []) Γ'
        (via 𝓤 (sep 𝓤 live-toks (⋆ 𝓛 (held ps h))) (pop 𝓛 (raw live-toks) (held ps h))
        (mono_r 𝓤 live-toks (lend-all κs 𝓛 ps h fit))) $
        move t (1 ∷ []) $ await t z $ pick t (λ δs. let R = (c.clauses κs (args κs ps h δs)).requires (c.ghost_at κs h δs) in
        split t $ use0 𝓛 (raw R) (c.enters κs h δs ask) $ move t (3 ∷ 1 ∷ 0 ∷ []) $
        use3 𝓛 (raw ((contract_related c).pre (bound c h νs δs))) (assoc' 𝓤 live-toks (sem 𝓛 (owned_by κs ps h δs)) R) $
        join t $ k νs δs)))

  module _ (C : Calls 𝓤 H) (f : Key) where
    -- the callee's triple, beside what the caller keeps
    meets : FmC 𝓤 H 𝓛.laws C → (c : RelationalCallee 𝓛) → Triple 𝓤 (C f) (contract_related c)
        → (h : Handed c.passes) (νs : News c.lifetimes) (δs : Names c.passes)
        → ent 𝓤 (mean 𝓛 (Pre c h νs δs)) (C f (in_words c.passes h) (Post-of c h νs δs))
    meets fm c known h νs δs =
        let x = bound c h νs δs in let S = sem 𝓛 (stay c h νs δs) in
        subst (λ (vs : List Val). ent 𝓤 (mean 𝓛 (Pre c h νs δs)) (C f vs (Post-of c h νs δs)))
        (in_words-is (at_lfts c h νs δs) c.passes h)
        (via 𝓤 (sep 𝓤 (C f ((contract_related c).args x) ((contract_related c).post x)) S) (mono_l 𝓤 S (known x))
        (fm f ((contract_related c).args x) ((contract_related c).post x) (Post-of c h νs δs) S (λ w. id⊢ 𝓤 _)))

  module _ (c : Callee 𝓛) (h : Handed c.passes) where
    -- the machine value of the answer, and the entries before and after the call
    abbrev pub back : Val
    back = c.by_value.word (c.answer h)

    abbrev pub before-call : List (Item 𝓤)
    before-call = held c.passes h

    abbrev pub after_call : List (Item 𝓤)
    after_call = held c.passes (after c.passes h (c.leaves h))

    -- the result is the answer, and the lists are those that it leaves
    at_exact : (X : List (Item 𝓤) → Val → Type 1) → (Is c.result (c.answer h) (back ∷ []) → X after_call back)
        → Then (related c) h X
    at_exact X k r es e =
        subst (λ (p : c.result.Denot × Ends c.passes). Is c.result p.0 (c.by_value.word p.0 ∷ [])
        → X (held c.passes (after c.passes h p.1)) (c.by_value.word p.0))
        (λ i. (sym e.0 i, sym e.1 i)) k

  module _ {K : Type 0} {Γ : List (Item 𝓤)} {E : Env 𝓤 H} {C : Calls 𝓤 H} {Λ : Loops 𝓤 H}
      {q : Post 𝓤 H} {f : Key} {xs : List Operand} {d : Place} where
    -- a call: what is handed over, that its values are of their types, what the callee asks, and that the slices' entries stand first
    -- (`refl`)
    pub calls-related : K → FmC 𝓤 H 𝓛.laws C → {rest : Body} (c : RelationalCallee 𝓛)
        → Triple 𝓤 (C f) (contract_related c)
        → (h : Handed c.passes) → Fit c.passes h → c.asks h
        → Γ ≡ held c.passes h ++ beyond (slices c.passes) Γ
        → Opds K 𝓛 (gaps (slices c.passes) (beyond (slices c.passes) Γ)) E xs (in_words c.passes h)
        → Then c h (λ Δ v. Seq K 𝓛 (Δ ++ beyond (slices c.passes) Γ) (lands C Λ E d v rest q))
        → Seq K 𝓛 Γ (runs C Λ E (seq (call f xs d) rest) q)
    calls-related t fm {rest} c known h fit ask e os k = let k' = slices c.passes in
        ready t c h fit ask (runs C Λ E (seq (call f xs d) rest) q) tt e (λ νs δs.
        calls_from t fm (Pre c h νs δs) (in_words c.passes h) (Post-of c h νs δs) (meets C f fm c known h νs δs)
        (over-gaps 𝓛 (beyond k' Γ) (in_words c.passes h) k' (Pre c h νs δs) os)
        (λ w. returned c h (beyond k' Γ) ask t νs δs w (λ v. lands C Λ E d v rest q) tt k))

    -- the same of a call that is the last statement of its part, as of an arm of a branch or of a turn
    pub calls-related-last : K → FmC 𝓤 H 𝓛.laws C → (c : RelationalCallee 𝓛) → Triple 𝓤 (C f) (contract_related c)
        → (h : Handed c.passes) → Fit c.passes h → c.asks h
        → Γ ≡ held c.passes h ++ beyond (slices c.passes) Γ
        → Opds K 𝓛 (gaps (slices c.passes) (beyond (slices c.passes) Γ)) E xs (in_words c.passes h)
        → Then c h (λ Δ v. Seq K 𝓛 (Δ ++ beyond (slices c.passes) Γ) (settles E d v q))
        → Seq K 𝓛 Γ (runs C Λ E (call f xs d) q)
    calls-related-last t fm c known h fit ask e os k = let k' = slices c.passes in
        ready t c h fit ask (runs C Λ E (call f xs d) q) tt e (λ νs δs.
        calls_from_last t fm (Pre c h νs δs) (in_words c.passes h) (Post-of c h νs δs) (meets C f fm c known h νs δs)
        (over-gaps 𝓛 (beyond k' Γ) (in_words c.passes h) k' (Pre c h νs δs) os)
        (λ w. returned c h (beyond k' Γ) ask t νs δs w (λ v. settles E d v q) tt k))

    -- both of a callee that says its result and its last lists exactly
    pub calls : K → FmC 𝓤 H 𝓛.laws C → {rest : Body} (c : Callee 𝓛) → Triple 𝓤 (C f) (contract_of c)
        → (h : Handed c.passes) → Fit c.passes h → c.asks h
        → Γ ≡ before-call c h ++ beyond (slices c.passes) Γ → Opds K 𝓛
        (gaps (slices c.passes) (beyond (slices c.passes) Γ)) E xs (in_words c.passes h)
        → (Is c.result (c.answer h) (back c h ∷ []) → Seq K 𝓛 (after_call c h ++ beyond (slices c.passes) Γ)
        (lands C Λ E d (back c h) rest q))
        → Seq K 𝓛 Γ (runs C Λ E (seq (call f xs d) rest) q)
    calls t fm {rest} c known h fit ask e os k =
        calls-related t fm (related c) known h fit ask e os (at_exact c h
        (λ Δ v. Seq K 𝓛 (Δ ++ beyond (slices c.passes) Γ) (lands C Λ E d v rest q)) k)

    pub calls_last : K → FmC 𝓤 H 𝓛.laws C → (c : Callee 𝓛) → Triple 𝓤 (C f) (contract_of c)
        → (h : Handed c.passes) → Fit c.passes h → c.asks h
        → Γ ≡ before-call c h ++ beyond (slices c.passes) Γ → Opds K 𝓛
        (gaps (slices c.passes) (beyond (slices c.passes) Γ)) E xs (in_words c.passes h)
        → (Is c.result (c.answer h) (back c h ∷ []) → Seq K 𝓛 (after_call c h ++ beyond (slices c.passes) Γ)
        (settles E d (back c h) q))
        → Seq K 𝓛 Γ (runs C Λ E (call f xs d) q)
    calls_last t fm c known h fit ask e os k =
        calls-related-last t fm (related c) known h fit ask e os (at_exact c h
        (λ Δ v. Seq K 𝓛 (Δ ++ beyond (slices c.passes) Γ) (settles E d v q)) k)
