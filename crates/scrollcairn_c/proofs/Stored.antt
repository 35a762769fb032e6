-- A list put at the start of another, as far as that reaches. Assumes nothing.
use mathlib.Core.Path.{◌≡◌, refl, sym, ap, ◌∙◌}
use mathlib.Core.Logic.{by_cases}
use mathlib.Core.List.{List, ◌++◌}
use Prim.Native.Nat.{ℕ, min}
use native.Mathlib.Decide.{dec_lt}
use native.Mathlib.Omega.{arith}
use lib.ListN.{length, take, drop, length-take}
use lib.Seq.{sets, take_all}
use Rattle.text.specs.Writing.{Written}
use Rattle.text.proofs.Written.{written-full}

taken : {T : Type 0} (k : ℕ) (t list : List T) → k ≡ min (length t) (length list) → take k t ≡ take (length list) t
taken k t list e = by_cases (dec_lt (length t) (length list))
    (λ l. take_all k t (omega (arith, e)) ∙ sym (take_all (length list) t (omega arith)))
    (λ l. ap (λ (n : ℕ). take n t) (omega (arith, e)))

pub put_first-is : {T : Type 0} (k : ℕ) (t list : List T) → k ≡ min (length t) (length list)
    → take k t ++ drop k list ≡ sets list 0 t
put_first-is k t list e =
    let whole : Written t 0 list _ (sets list 0 t) = record { ends = refl; holds = refl } in
    let size : length (take (length list) t) ≡ k = length-take (length list) t ∙ omega (arith, e) in
    ap (λ (s : List _). s ++ drop k list) (taken k t list e)
    ∙ sym ((written-full whole).1 ∙ ap (λ (n : ℕ). take (length list) t ++ drop n list) size)
