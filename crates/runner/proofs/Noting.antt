-- What is told of the last event. Assumes nothing.
use mathlib.Core.Path.{◌≡◌, sym, ◌∙◌}
use Prim.Native.Nat.{ℕ}
use Rattle.std.specs.Prelude.{Option, Some, None, Result, Ok, Err, MatchOption, IsSomeAnd}
use Rattle.std.specs.Result.{result_err}

-- the number of a refusal, as `err` and `map` tell it
pub told : {A E : Type 0} (wanted : Result A E → Option ℕ) {Post : E → ℕ → Type 0} (r : Result A E) (m : Option ℕ)
    → ((x : A) → wanted (Ok x) ≡ None) → ((e : E) (n : ℕ) → Post e n → wanted (Err e) ≡ Some n)
    → MatchOption (result_err r) (m ≡ None) (λ e. IsSomeAnd m (Post e)) → m ≡ wanted r
told wanted (Ok x) m none some cases = cases ∙ sym (none x)
told wanted (Err e) None none some cases = absurd cases
told wanted (Err e) (Some n) none some cases = sym (some e n cases)
