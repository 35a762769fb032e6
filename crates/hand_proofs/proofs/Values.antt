-- Plain data passed by value: its machine value as a function of the value, what is had of its row for nothing, and what a `&` to it rests
-- on.
--     by-uint, by_bool, by-unit        the builtin types
--     by-struct, by-enum, by-array     a struct, an enum and an array of plain data, at the machine value that lowering writes
--     stored                           its machine value can be stored in a local
--     Lendable R, lendable             a value of R in memory can be lent as a `&` with no token;  and so can plain data
-- It says nothing of any crate.
use mathlib.Core.Path.{◌≡◌, refl}
use mathlib.Core.List.{[], ◌∷◌, map}
use Prim.Native.Nat.{ℕ}
use seplogic.Ra.Ura.{Ura}
use mir.Syntax.{Width}
use mir.Val.{Val, vunit, vbool, vint}
use base.Logic.{sep, emp, via, mono_l, emp∗}
use types.Logic.{Logic, sem}
use contract.Monad.{fact_use}
use base.Fraction.{full_share}
use denote.Array.{Array, array_val, Array-Tells, Array-Lawful, Array-Makes, Array-row_laws}
use denote.ArrayMemory.{Single}
use denote.Copied.{Copied, uint_Copied, bool_Copied, Nothing-Copied, Array-Copied}
use denote.Enum.Declared as Enums
use denote.Enum.Enum.{Few, Plainss, Enum-row_laws}
use denote.Enum.Laws as EL
use denote.Exit.{Kept, unchanged, each_of}
use denote.Laws.{Is, Tells, Typed, Lawful, Makes, Copy, shows}
use denote.Lends.{Lent}
use denote.Lowered.{Lowered}
use denote.Memory.{part_at, shared_of}
use denote.Plain.{UInt, Boolean, Nothing, uint_Tells, uint_Lawful, uint_Makes, bool_Tells, bool_Lawful, bool_Makes, Nothing-Tells}
use denote.Plain.{Nothing-Lawful, Nothing-Makes, uint_row_laws, bool-row_laws, unit-row_laws}
use denote.RattleType.{RattleType, RowLaws}
use denote.Struct.Declared.{Declared, fields, row, shape}
use denote.Struct.Laws as LL
use denote.Struct.Struct.{Plains, Struct-row_laws}

-- `alone`, `shared` and `shr_laws` are what a `&` to it is made and read by (`denote/Copied.antt`)
pub record ByValue (R : RattleType) : Type 2 where
  pub word : R.Denot → Val
  pub told : Tells R (Is R) (λ x. word x ∷ [])
  pub lawful : {M : Type 1} {𝓤 : Ura M} (𝓛 : Logic 𝓤) → Lawful 𝓛 R
  pub makes : {M : Type 1} {𝓤 : Ura M} (𝓛 : Logic 𝓤) → Makes 𝓛 R (Is R)
  pub still : (k : Kept) → R.exit k ≡ unchanged
  pub alone : Single R.mir
  pub shared : {M : Type 1} {𝓤 : Ura M} (𝓛 : Logic 𝓤) → Copied 𝓛 R
  pub shr_laws : RowLaws R

-- so it can be had twice
pub copied : (R : RattleType) → ByValue R → {M : Type 1} {𝓤 : Ura M} (𝓛 : Logic 𝓤)
    → Copy 𝓛 R
copied R B {𝓤 = 𝓤} 𝓛 = record {
  twice = λ x vs. fact_use 𝓤 (Is R x vs) (shows 𝓛 R x vs) (λ is.
      via 𝓤 (sep 𝓤 (emp 𝓤) (sem 𝓛 (R.own_val x vs))) (emp∗ 𝓤 (sem 𝓛 (R.own_val x vs)))
      (mono_l 𝓤 (sem 𝓛 (R.own_val x vs)) (B.makes 𝓛 x vs is)));
}

abbrev pub by_uint : (w : Width) → ByValue (UInt w)
by_uint w = record {
  word = vint w;
  told = uint_Tells w;
  lawful = λ 𝓛. uint_Lawful 𝓛 w;
  makes = λ 𝓛. uint_Makes 𝓛 w;
  still = λ k. refl;
  alone = tt;
  shared = λ 𝓛. uint_Copied 𝓛 w;
  shr_laws = uint_row_laws w;
}

abbrev pub by_bool : ByValue Boolean
by_bool = record {
  word = vbool;
  told = bool_Tells;
  lawful = λ 𝓛. bool_Lawful 𝓛;
  makes = λ 𝓛. bool_Makes 𝓛;
  still = λ k. refl;
  alone = tt;
  shared = λ 𝓛. bool_Copied 𝓛;
  shr_laws = bool-row_laws;
}

abbrev pub by-unit : ByValue Nothing
by-unit = record {
  word = λ _. vunit;
  told = Nothing-Tells;
  lawful = λ 𝓛. Nothing-Lawful 𝓛;
  makes = λ 𝓛. Nothing-Makes 𝓛;
  still = λ k. refl;
  alone = tt;
  shared = λ 𝓛. Nothing-Copied 𝓛;
  shr_laws = unit-row_laws;
}

-- for the struct's module S of `specs.contracts`, with S' for its `TheLaws`: `by_struct S.the_type S'.the_laws S'.the_plain S'.the_copy
-- S'.lowers`
abbrev pub by_struct : (T : Declared) (L : LL.Laws T) → Plains (fields T) → LL.Copyables T.parts → LL.Lowered T → ByValue (row T)
by_struct T L pl cs lo = record {
  word = lo.lowered;
  told = lo.val_is;
  lawful = λ 𝓛. LL.lawful T L 𝓛;
  makes = λ 𝓛. LL.makes T pl 𝓛;
  still = LL.still T cs;
  alone = tt;
  shared = λ 𝓛. LL.copied T cs 𝓛;
  shr_laws = λ d. Struct-row_laws (shape T) (LL.copy_row_laws T.parts cs) (T.to d);
}

-- likewise for an enum of at most 256 variants
abbrev pub by_enum : (T : Enums.Declared) (L : EL.Laws T) → Few (Enums.shape T) → Plainss (Enums.variants T)
    → EL.Copyabless T.parts → Lowered (Enums.row T)
    → ByValue (Enums.row T)
by_enum T L few pl cs lo = record {
  word = lo.lowered;
  told = lo.val_is;
  lawful = λ 𝓛. EL.lawful T L 𝓛 few;
  makes = λ 𝓛. EL.makes T pl 𝓛;
  still = EL.still T cs;
  alone = tt;
  shared = λ 𝓛. EL.copied T cs 𝓛;
  shr_laws = λ d. Enum-row_laws (Enums.shape T) (EL.copy_row_lawss T.parts cs) (T.to d);
}

abbrev pub by_array : (T : RattleType) → ByValue T → (n : ℕ) → ByValue (Array T n)
by_array T B n = record {
  word = λ xs. array_val (map B.word xs);
  told = Array-Tells T (λ x. B.word x ∷ []) B.told n;
  lawful = λ 𝓛. Array-Lawful 𝓛 T (B.lawful 𝓛) n;
  makes = λ 𝓛. Array-Makes 𝓛 T (B.makes 𝓛) n;
  still = λ k i. each_of (B.still k i);
  alone = tt;
  shared = λ 𝓛. Array-Copied 𝓛 T (B.shared 𝓛) B.alone n;
  shr_laws = Array-row_laws T B.shr_laws n;
}

-- its machine value can be stored in a local of its type. For a type of one machine value the evidence is the `.0` of this
pub stored : {M : Type 1} {𝓤 : Ura M} → (𝓛 : Logic 𝓤)
    → {R : RattleType} (B : ByValue R) (x : R.Denot) → Is R x (B.word x ∷ [])
    → Typed R.mir (B.word x ∷ [])
stored {𝓤 = 𝓤} 𝓛 B x is = (B.lawful 𝓛).typed x (B.word x ∷ []) is

-- a value of it in memory can be lent as a `&` with no token, at any lifetime: what the lender has back of it is the value as it was
abbrev pub Lendable : RattleType → Type 2
Lendable R = (M : Type 1) (𝓤 : Ura M) (𝓛 : Logic 𝓤) (x : R.Denot) (b o : ℕ)
    → Lent 𝓛 (part_at R full_share x b o) (shared_of R x b o)

pub lendable : {R : RattleType} → ByValue R → Lendable R
lendable B M 𝓤 𝓛 = (B.shared 𝓛).lends full_share
