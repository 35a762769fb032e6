-- Steps on whole locals, so that a statement of a walk is a short line. A number is the position of a local's entry in the context.
--     var n refl                   the operand `copy x` of a whole local
--     ptr_of n refl refl, len_of n refl refl      of a local that holds a slice: `&mut *s` or `&*s`, and `s.len()`.        base-of     its
--                                                 pointer, to count from
--     slice_of p n refl refl refl  the slice lent again: the pointer in the local at p with the count of the slice at n
--     big-lit                      a constant that MIR writes as `int_big`: 2000 is one, 1 is not (`lit`)
--     a & b & no_more !            operands in a row
--     equals e r                    what is assigned, at a machine value that is the same by e
--     sets, sets_last              a whole local is assigned.        into, into-last      it gets a call's result. What they take is `init`
--                                  or `store`
-- It says nothing of any crate. Assumes `Logic`.
use mathlib.Core.Path.{◌≡◌, refl, sym, subst}
use Prim.Native.Nat.{ℕ, ◌<◌, ◌^◌}
use mathlib.Core.List.{List, [], ◌∷◌}
use seplogic.Ra.Ura.{Ura}
use mir.Syntax.{Lifetime, Mutability, Ty, ty_int, ty_ref, Width, w64, int_big, Opd as Operand, deref, field, place, copy, Rv as RValue}
use mir.Syntax.{addr_of}
use mir.Syntax.{aggregate, Body, seq, assign}
use mir.Fields.{set_v}
use mir.Val.{Fits, bits, Val, vint, vptr, vstruct, vnil, vcons}
use base.Logic.{via, guard_i}
use base.Fml.{Share, fat}
use prog.Wp.{Env, Spot, spot_of, Calls, Loops, eval_opds, next}
use types.Logic.{Logic}
use types.Kit.{Item, ‵, nth, Post, post, prop, runs, lands, settles, Step}
use types.Run.{Writes, Walks, Opd, Opds, Rv, look, stop, hop, fld, from, load, addr, and_then, no_more, assigns, assigns_last, land}
use types.Run.{land_last}
use types.Part.{Part, agg, whole, sub, look_in}
use denote.Slice.{slice_ty, slice_val}

infixr 5 ◌&◌
module _ {M : Type 1} {𝓤 : Ura M} {𝓛 : Logic 𝓤} {K : Type 0}
    {Γ : List (Item 𝓤)} {E : Env 𝓤 𝓛.H} where
  open 𝓛 use {H}

  pub var : K → (n : ℕ) {k : ℕ} {q : Share} {v : Val} → nth 𝓛 n Γ
      ≡ ‵ (fat q (spot_of 𝓤 H E k).0 (spot_of 𝓤 H E k).1 0 v) → Opd K 𝓛 Γ E (copy (place k [])) v
  var t n e = load t (from t (stop t)) (look t n e)

  pub big_lit : K → {w : Width} {n : ℕ} → n < 2 ^ bits w → Opd K 𝓛 Γ E (int_big w n) (vint w n)
  big_lit t {w} {n} fits = record {
    go = λ Kt h. via 𝓤 (Kt (vint w n)) h
        (guard_i 𝓤 (Fits w n) (Kt (vint w n)) record { fits = fits });
  }

  pub ◌&◌ : {x : Operand} {xs : List Operand} {v : Val} {vs : List Val} → Opd K 𝓛 Γ E x v → Opds K 𝓛 Γ E xs vs
      → Opds K 𝓛 Γ E (x ∷ xs) (v ∷ vs)
  ◌&◌ {x} {xs} {v} {vs} a as' = record {
    go = λ Kt h. a.go (λ u. eval_opds 𝓤 H E xs (λ us. Kt (u ∷ us)))
        (as'.go (λ us. Kt (v ∷ us)) h);
  }

  pub equals : {rv : RValue} {v v' : Val} → v ≡ v' → Rv K 𝓛 Γ E rv v → Rv K 𝓛 Γ E rv v'
  equals {rv} e r = subst (λ (u : Val). Rv K 𝓛 Γ E rv u) e r

  module _ {s l : ℕ} {ℓ : Lifetime} {m : Mutability} {σ : Ty} {q : Share} {b o c : ℕ} where
    pub ptr_of : K → (n : ℕ) {τ : Ty} → spot_of 𝓤 H E s ≡ (slice_ty (ty_ref ℓ m σ), l, 0)
        → nth 𝓛 n Γ ≡ ‵ (fat q (slice_ty (ty_ref ℓ m σ)) l 0 (slice_val (b, o) c))
        → Rv K 𝓛 Γ E (addr_of (place s (field 0 ∷ deref τ ∷ []))) (vptr b o)
    ptr_of t n {τ} here e =
        addr t (from t (subst (λ (sp : Spot 𝓤 H). Walks K 𝓛 Γ E sp (field 0 ∷ deref τ ∷ []) (τ, b, o)) (sym here)
        (fld t refl (hop t (look_in t n (subst (λ (i : Item 𝓤). Part K 𝓛 i q (ty_ref ℓ m σ) l 0 (vptr b o) (λ u. ‵
        (fat q (slice_ty (ty_ref ℓ m σ)) l 0 (vstruct (set_v (vcons (vptr b o) (vcons (vint w64 c) vnil)) 0 u))))) (sym e)
        (sub t 0 refl (whole t)))) (stop t)))))

    pub len_of : K → (n : ℕ) → spot_of 𝓤 H E s ≡ (slice_ty (ty_ref ℓ m σ), l, 0)
        → nth 𝓛 n Γ ≡ ‵ (fat q (slice_ty (ty_ref ℓ m σ)) l 0 (slice_val (b, o) c))
        → Opd K 𝓛 Γ E (copy (place s (field 1 ∷ []))) (vint w64 c)
    len_of t n here e =
        load t (from t (subst (λ (sp : Spot 𝓤 H). Walks K 𝓛 Γ E sp (field 1 ∷ []) (ty_int w64, l, 8)) (sym here)
        (fld t refl (stop t))))
        (look_in t n (subst (λ (i : Item 𝓤). Part K 𝓛 i q (ty_int w64) l 8 (vint w64 c)
        (λ u. ‵ (fat q (slice_ty (ty_ref ℓ m σ)) l 0 (vstruct (set_v (vcons (vptr b o) (vcons (vint w64 c) vnil)) 1 u))))) (sym e)
        (sub t 1 refl (whole t))))

    pub base_of : K → (n : ℕ) → spot_of 𝓤 H E s ≡ (slice_ty (ty_ref ℓ m σ), l, 0)
        → nth 𝓛 n Γ ≡ ‵ (fat q (slice_ty (ty_ref ℓ m σ)) l 0 (slice_val (b, o) c))
        → Opd K 𝓛 Γ E (copy (place s (field 0 ∷ []))) (vptr b o)
    base_of t n here e =
        load t (from t (subst (λ (sp : Spot 𝓤 H). Walks K 𝓛 Γ E sp (field 0 ∷ []) (ty_ref ℓ m σ, l, 0)) (sym here)
        (fld t refl (stop t))))
        (look_in t n (subst (λ (i : Item 𝓤). Part K 𝓛 i q (ty_ref ℓ m σ) l 0 (vptr b o)
        (λ u. ‵ (fat q (slice_ty (ty_ref ℓ m σ)) l 0 (vstruct (set_v (vcons (vptr b o) (vcons (vint w64 c) vnil)) 0 u))))) (sym e)
        (sub t 0 refl (whole t))))

    -- the slice lent again, of the pointer in the local at p
    pub slice_of : K → (p n : ℕ) {k : ℕ} {r : Share} → nth 𝓛 p Γ
        ≡ ‵ (fat r (spot_of 𝓤 H E k).0 (spot_of 𝓤 H E k).1 0 (vptr b o))
        → spot_of 𝓤 H E s ≡ (slice_ty (ty_ref ℓ m σ), l, 0)
        → nth 𝓛 n Γ ≡ ‵ (fat q (slice_ty (ty_ref ℓ m σ)) l 0 (slice_val (b, o) c))
        → Rv K 𝓛 Γ E (aggregate (copy (place k []) ∷ copy (place s (field 1 ∷ [])) ∷ [])) (slice_val (b, o) c)
    slice_of t p n in_p here e = agg t (and_then t (var t p in_p) (and_then t (len_of t n here e) (no_more t)))

  module _ {C : Calls 𝓤 H} {Λ : Loops 𝓤 H} {q : Post 𝓤 H} {k : ℕ} {Γ' : List (Item 𝓤)} {v : Val} where
    pub sets : K → {rv : RValue} {rest : Body} → Rv K 𝓛 Γ E rv v → Writes K 𝓛 Γ (spot_of 𝓤 H E k).0
        (spot_of 𝓤 H E k).1 0 v Γ'
        → Step K 𝓛 Γ' (runs C Λ E rest q) Γ (runs C Λ E (seq (assign (place k []) rv) rest) q)
    sets t r w = assigns t r (from t (stop t)) w

    pub into : K → {rest : Body} → Writes K 𝓛 Γ (spot_of 𝓤 H E k).0 (spot_of 𝓤 H E k).1 0 v Γ'
        → Step K 𝓛 Γ' (runs C Λ E rest q) Γ (lands C Λ E (place k []) v rest q)
    into t w = land t (from t (stop t)) w

  module _ {q : Post 𝓤 H} {k : ℕ} {Γ' : List (Item 𝓤)} {v : Val} where
    pub sets_last : K → {C : Calls 𝓤 H} {Λ : Loops 𝓤 H} {rv : RValue} → Rv K 𝓛 Γ E rv v
        → Writes K 𝓛 Γ (spot_of 𝓤 H E k).0 (spot_of 𝓤 H E k).1 0 v Γ'
        → Step K 𝓛 Γ' (prop (post 𝓤 H q next)) Γ (runs C Λ E (assign (place k []) rv) q)
    sets_last t r w = assigns_last t r (from t (stop t)) w

    pub into-last : K → Writes K 𝓛 Γ (spot_of 𝓤 H E k).0 (spot_of 𝓤 H E k).1 0 v Γ'
        → Step K 𝓛 Γ' (prop (post 𝓤 H q next)) Γ (settles E (place k []) v q)
    into-last t w = land_last t (from t (stop t)) w
