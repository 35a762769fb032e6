-- What every walk of a function's MIR by hand shares: its locals as one list of entries, all of them allocated in one step and freed in one
-- step.
--     Holding          what a local holds: nothing yet, or a value
--     env_at L bs       the locals L at the blocks bs.        stack L bs vs Γ     their entries in a context, the last local first, before
--                      Γ
--     full L _         each local holds a value, and the context says which
--     begins           where a function begins: its locals are allocated, the parameters hold what is passed, and the entries Γ stand
--                      before them
--     leaves           where a function returns: its locals are freed, whatever they hold, and the entries Δ before them stay
-- It says nothing of any crate. Assumes `Logic`.
use mathlib.Core.Path.{refl}
use Prim.Native.Nat.{ℕ}
use mathlib.Core.List.{List, [], ◌∷◌, ◌++◌}
use seplogic.Ra.Ura.{Ura}
use base.Fraction.{full_share}
use mir.Syntax.{Ty, Local, local, Fn}
use mir.Val.{Val}
use base.Logic.{SProp, ent, sep, emp, id⊢, via, fst∗, comm∗, assoc∗, assoc', mono_l, mono_r}
use base.Fml.{Fml, fat, froom, fdies}
use prog.Wp.{Env, Calls, Loops, release, WpFn}
use types.Logic.{Logic, sem}
use types.Kit.{Item, ‵, raw, ◌⊛◌, ⋆, pop, ++⊢, ⊢++, Goal, prop, runs, at_ret, allocs, params', passes, frees, Seq, Step}
use types.Kit.{step, ◌$◌, ◌∵◌, !, qed, by, move, use0, use1, use2, use3, split, drop}
use types.Run.{init, enter, alloc1, alloc0, params1, pass1, pass0}
use denote.Laws.{Typed}

pub data Holding : Type 0 where
  empty : Holding
  holds : Val → Holding

abbrev pub cell : Ty → ℕ → Holding → Fml
cell τ l empty = froom τ l 0
cell τ l (holds v) = fat full_share τ l 0 v

-- a block for each local
abbrev pub Blocks : List Local → Type 0
Blocks [] = Unit {0}
Blocks (p ∷ L) = ℕ × Blocks L

abbrev pub env_at : (L : List Local) → Blocks L → List (Ty × ℕ)
env_at [] bs = []
env_at (local τ h ∷ L) bs = (τ, bs.0) ∷ env_at L bs.1

abbrev pub stack : {M : Type 1} {𝓤 : Ura M} (L : List Local) → Blocks L → List Holding → List (Item 𝓤) → List (Item 𝓤)
stack [] bs vs Γ = Γ
stack (local τ h ∷ L) bs [] Γ = Γ
stack (local τ h ∷ L) bs (v ∷ vs) Γ = stack L bs.1 vs (‵ (cell τ bs.0 v) ∷ ‵ (fdies τ bs.0) ∷ Γ)

-- as many values as locals
abbrev pub Each : List Local → List Holding → Type 0
Each [] [] = Unit {0}
Each [] (v ∷ vs) = ⊥
Each (p ∷ L) [] = ⊥
Each (p ∷ L) (v ∷ vs) = Each L vs

abbrev pub Vals : List Local → Type 0
Vals [] = Unit {0}
Vals (p ∷ L) = Val × Vals L

abbrev pub full : (L : List Local) → Vals L → List Holding
full [] vs = []
full (p ∷ L) vs = holds vs.0 ∷ full L vs.1

module _ {M : Type 1} {𝓤 : Ura M} (𝓛 : Logic 𝓤) where
  open 𝓛 use {H}

  swap : (P Q X : SProp 𝓤) → ent 𝓤 (sep 𝓤 P (sep 𝓤 Q X)) (sep 𝓤 Q (sep 𝓤 P X))
  swap P Q X = via 𝓤 (sep 𝓤 (sep 𝓤 P Q) X) (assoc' 𝓤 P Q X)
      (via 𝓤 (sep 𝓤 (sep 𝓤 Q P) X) (mono_l 𝓤 X (comm∗ 𝓤 P Q)) (assoc∗ 𝓤 Q P X))

  abbrev freed : Ty × ℕ → SProp 𝓤
  freed e = sep 𝓤 (H.room e.0 e.1 0) (H.dies e.0 e.1)

  -- what is beside the locals, out of what is said of them and into it
  takes_out : (E : Env 𝓤 H) (X P : SProp 𝓤) → ent 𝓤 (release 𝓤 H E (sep 𝓤 X P)) (sep 𝓤 X (release 𝓤 H E P))
  takes_out [] X P = id⊢ 𝓤 (sep 𝓤 X P)
  takes_out (e ∷ E) X P = via 𝓤 (sep 𝓤 (freed e) (sep 𝓤 X (release 𝓤 H E P))) (mono_r 𝓤 (freed e) (takes_out E X P))
      (swap (freed e) X (release 𝓤 H E P))

  puts_in : (E : Env 𝓤 H) (X P : SProp 𝓤) → ent 𝓤 (sep 𝓤 X (release 𝓤 H E P)) (release 𝓤 H E (sep 𝓤 X P))
  puts_in [] X P = id⊢ 𝓤 (sep 𝓤 X P)
  puts_in (e ∷ E) X P = via 𝓤 (sep 𝓤 (freed e) (sep 𝓤 X (release 𝓤 H E P))) (swap X (freed e) (release 𝓤 H E P))
      (mono_r 𝓤 (freed e) (puts_in E X P))

  releases : (E : Env 𝓤 H) {P Q : SProp 𝓤} → ent 𝓤 P Q → ent 𝓤 (release 𝓤 H E P) (release 𝓤 H E Q)
  releases [] h = h
  releases (e ∷ E) h = mono_r 𝓤 (freed e) (releases E h)

  forgets : (τ : Ty) (l : ℕ) (v : Holding) → ent 𝓤 (sem 𝓛 (cell τ l v)) (H.room τ l 0)
  forgets τ l empty = id⊢ 𝓤 (H.room τ l 0)
  forgets τ l (holds v) = 𝓛.laws.at_room τ l 0 v

  frees_all : (L : List Local) (bs : Blocks L) (vs : List Holding) (Γ : List (Item 𝓤)) → Each L vs
      → ent 𝓤 (⋆ 𝓛 (stack L bs vs Γ)) (release 𝓤 H (env_at L bs) (⋆ 𝓛 Γ))
  frees_all [] bs [] Γ n = id⊢ 𝓤 (⋆ 𝓛 Γ)
  frees_all [] bs (v ∷ vs) Γ n = absurd n
  frees_all (local τ h ∷ L) bs [] Γ n = absurd n
  frees_all (local τ h ∷ L) bs (v ∷ vs) Γ n =
      let c : SProp 𝓤 = sem 𝓛 (cell τ bs.0 v) in let d : SProp 𝓤 = H.dies τ bs.0 in
      let g : SProp 𝓤 = ⋆ 𝓛 Γ in let E : Env 𝓤 H = env_at L bs.1 in
      via 𝓤 (release 𝓤 H E (⋆ 𝓛 (‵ (cell τ bs.0 v) ∷ ‵ (fdies τ bs.0) ∷ Γ)))
      (frees_all L bs.1 vs (‵ (cell τ bs.0 v) ∷ ‵ (fdies τ bs.0) ∷ Γ) n)
      (via 𝓤 (release 𝓤 H E (sep 𝓤 (sep 𝓤 c d) g)) (releases E
      (via 𝓤 (sep 𝓤 c (sep 𝓤 d g)) (mono_r 𝓤 c (pop 𝓛 (‵ (fdies τ bs.0)) Γ)) (assoc' 𝓤 c d g)))
      (via 𝓤 (sep 𝓤 (sep 𝓤 c d) (release 𝓤 H E g)) (takes_out E (sep 𝓤 c d) g)
      (mono_l 𝓤 (release 𝓤 H E g) (mono_l 𝓤 d (forgets τ bs.0 v)))))

pub leaves : {M : Type 1} {𝓤 : Ura M} {𝓛 : Logic 𝓤} {K : Type 0} {G : Goal 𝓤 𝓛.H}
    → K → (Δ : List (Item 𝓤)) (L : List Local) (bs : Blocks L) (vs : List Holding) → Each L vs
    → Step K 𝓛 Δ G (Δ ++ stack L bs vs []) (frees (env_at L bs) G)
leaves {𝓤 = 𝓤} {𝓛 = 𝓛} {G = G} t Δ L bs vs n = step (λ s. record {
  prf =
      let E : Env 𝓤 𝓛.H = env_at L bs in
      via 𝓤 (sep 𝓤 (⋆ 𝓛 Δ) (⋆ 𝓛 (stack L bs vs []))) (⊢++ 𝓛 Δ (stack L bs vs []))
      (via 𝓤 (sep 𝓤 (⋆ 𝓛 Δ) (release 𝓤 𝓛.H E (emp 𝓤)))
      (mono_r 𝓤 (⋆ 𝓛 Δ) (frees_all 𝓛 L bs vs [] n))
      (via 𝓤 (release 𝓤 𝓛.H E (sep 𝓤 (⋆ 𝓛 Δ) (emp 𝓤))) (puts_in 𝓛 E (⋆ 𝓛 Δ) (emp 𝓤))
      (releases 𝓛 E (via 𝓤 (⋆ 𝓛 Δ) (fst∗ 𝓤 (⋆ 𝓛 Δ) (emp 𝓤)) s.prf))));
})

-- ---- where a function begins
-- the values us are in the first locals, which they suit; in a function's locals, in those after the result
abbrev pub passed : List Local → List Val → List Holding
passed [] us = []
passed (p ∷ L) [] = empty ∷ passed L []
passed (p ∷ L) (u ∷ us) = holds u ∷ passed L us

abbrev pub at_entry : List Local → List Val → List Holding
at_entry [] us = []
at_entry (p ∷ L) us = empty ∷ passed L us

abbrev pub Suit : List Local → List Val → Type 0
Suit L [] = Unit {0}
Suit [] (u ∷ us) = ⊥
Suit (local τ h ∷ L) (u ∷ us) = Typed (τ ∷ []) (u ∷ []) × Suit L us

abbrev pub Suits : List Local → List Val → Type 0
Suits [] us = ⊥
Suits (p ∷ L) us = Suit L us

module _ {M : Type 1} {𝓤 : Ura M} (𝓛 : Logic 𝓤) where
  open 𝓛 use {H}

  abbrev cells : (L : List Local) → Blocks L → List Holding → SProp 𝓤
  cells [] bs vs = emp 𝓤
  cells (local τ h ∷ L) bs [] = emp 𝓤
  cells (local τ h ∷ L) bs (v ∷ vs) = sep 𝓤 (sep 𝓤 (sem 𝓛 (cell τ bs.0 v)) (H.dies τ bs.0)) (cells L bs.1 vs)

module _ {M : Type 1} {𝓤 : Ura M} {𝓛 : Logic 𝓤} {K : Type 0} where
  open 𝓛 use {H}

  unpack : K → (L : List Local) {Γ : List (Item 𝓤)} {G : Goal 𝓤 H} (bs : Blocks L) (vs : List Holding)
      → Step K 𝓛 (stack L bs vs Γ) G (raw (cells 𝓛 L bs vs) ∷ Γ) G
  unpack t [] bs vs = drop t
  unpack t (local τ h ∷ L) bs [] = drop t
  unpack t (local τ h ∷ L) bs (v ∷ vs) = step (λ s.
      use1 𝓛 ((‵ (cell τ bs.0 v) ⊛ ‵ (fdies τ bs.0)) ⊛ raw (cells 𝓛 L bs.1 vs)) (id⊢ 𝓤 _) $ split t $
      split t $ move t (2 ∷ []) $ unpack t L bs.1 vs $ s)

  stores : K → (L : List Local) {Γ : List (Item 𝓤)} {G : Goal 𝓤 H} (bs : Blocks L) (us : List Val) → Suit L us
      → Step K 𝓛 (raw (cells 𝓛 L bs (passed L us)) ∷ Γ) G (raw (cells 𝓛 L bs (passed L [])) ∷ Γ)
      (passes (env_at L bs) us G)
  stores t L bs [] n = pass0 t
  stores t [] bs (u ∷ us) n = absurd n
  stores t (local τ h ∷ L) bs (u ∷ us) n = step (λ s.
      use1 𝓛 ((‵ (froom τ bs.0 0) ⊛ ‵ (fdies τ bs.0)) ⊛ raw (cells 𝓛 L bs.1 (passed L []))) (id⊢ 𝓤 _) $
      split t $ split t $ pass1 t (init t 0 refl n.0.0) $
      move t (2 ∷ []) $ stores t L bs.1 us n.1 $ move t (1 ∷ 2 ∷ 0 ∷ []) $
      use3 𝓛 (raw (cells 𝓛 (local τ h ∷ L) bs (holds u ∷ passed L us)))
      (assoc' 𝓤 (H.at full_share τ bs.0 0 u) (H.dies τ bs.0) (cells 𝓛 L bs.1 (passed L us))) $ s)

  stores-all : K → {Γ : List (Item 𝓤)} {G : Goal 𝓤 H} (L : List Local) (bs : Blocks L) (us : List Val) → Suits L us
      → Step K 𝓛 (raw (cells 𝓛 L bs (at_entry L us)) ∷ Γ) G (raw (cells 𝓛 L bs (passed L [])) ∷ Γ)
      (params' (env_at L bs) us G)
  stores-all t [] bs us n = absurd n
  stores-all t (local τ h ∷ L) bs us n = step (λ s.
      params1 t $ use1 𝓛 ((‵ (froom τ bs.0 0) ⊛ ‵ (fdies τ bs.0)) ⊛ raw (cells 𝓛 L bs.1 (passed L [])))
      (id⊢ 𝓤 _) $ split t $ move t (1 ∷ []) $
      stores t L bs.1 us n $ move t (1 ∷ 0 ∷ []) $ use2 𝓛 (raw (cells 𝓛 (local τ h ∷ L) bs (empty ∷ passed L us)))
      (id⊢ 𝓤 _) $ s)

  allocates : K → (L : List Local) {Γ : List (Item 𝓤)} {Kt : Env 𝓤 H → Goal 𝓤 H} →
      ((bs : Blocks L) → Seq K 𝓛 (raw (cells 𝓛 L bs (passed L [])) ∷ Γ) (Kt (env_at L bs)))
      → Seq K 𝓛 Γ (allocs L Kt)
  allocates t [] k = alloc0 t $ use0 𝓛 (raw (emp 𝓤)) (id⊢ 𝓤 (emp 𝓤)) $ k tt
  allocates t (local τ h ∷ L) k = alloc1 t (λ b. allocates t L (λ bs.
      move t (1 ∷ 2 ∷ 0 ∷ []) $ use3 𝓛 (raw (cells 𝓛 (local τ h ∷ L) (b, bs) (passed (local τ h ∷ L) [])))
      (assoc' 𝓤 (H.room τ b 0) (H.dies τ b) (cells 𝓛 L bs (passed L []))) $ k (b, bs)))

module _ {M : Type 1} {𝓤 : Ura M} {𝓛 : Logic 𝓤} {K : Type 0} where
  open 𝓛 use {H}

  after-others : {Γ : List (Item 𝓤)} {G : Goal 𝓤 H} (L : List Local) (bs : Blocks L) (vs : List Holding)
      → Step K 𝓛 (Γ ++ stack L bs vs []) G (raw (cells 𝓛 L bs vs) ∷ Γ) G
  after-others {Γ} {G} L bs vs = step (λ s. record {
    prf =
        let X = cells 𝓛 L bs vs in let Y = stack L bs vs [] in
        via 𝓤 (sep 𝓤 X (⋆ 𝓛 Γ)) (pop 𝓛 (raw X) Γ)
        (via 𝓤 (sep 𝓤 (⋆ 𝓛 Γ) X) (comm∗ 𝓤 X (⋆ 𝓛 Γ))
        (via 𝓤 (sep 𝓤 (⋆ 𝓛 Γ) (⋆ 𝓛 Y)) (mono_r 𝓤 (⋆ 𝓛 Γ) (qed 𝓛 (raw X ∷ []) ∵ unpack ! L bs vs $
        by ! (id⊢ 𝓤 (⋆ 𝓛 Y))))
        (via 𝓤 (⋆ 𝓛 (Γ ++ Y)) (++⊢ 𝓛 Γ Y) s.prf)));
  })

  pub begins : K → {Γ : List (Item 𝓤)} (C : Calls 𝓤 H) (Λ : Loops 𝓤 H) (f : Fn) (us : List Val) (Kf : Val → SProp 𝓤)
      → Suits f.locals us
      → ((bs : Blocks f.locals) → Seq K 𝓛 (Γ ++ stack f.locals bs (at_entry f.locals us) [])
      (runs C Λ (env_at f.locals bs) f.body (at_ret (env_at f.locals bs) Kf)))
      → Seq K 𝓛 Γ (prop (WpFn 𝓤 H C Λ f us Kf))
  begins t C Λ f us Kf n k = enter t C Λ f us Kf $ allocates t f.locals (λ bs. stores-all t f.locals bs us n $
      after-others f.locals bs (at_entry f.locals us) $ k bs)
