-- What `read` says tells whether a file was good, and with it what is stored. Assumes nothing.
use mathlib.Core.Path.{◌≡◌, refl}
use mathlib.Core.List.{List}
use Prim.Native.Nat.{ℕ}
use native.Mathlib.Nat.{lt_irrefl}
use native.Mathlib.Omega.{arith}
use Rattle.std.specs.Prelude.{Err}
use Rattle.benchfile.specs.File.{Outcome, Refused, Good}
use Rattle.benchfile.specs.Calls.{ReadNumbers, read_answer, read_says, read_content}
use Rattle.benchfile.specs.declared.Content.{Content}
use Rattle.benchfile.specs.declared.ReadRefusal.{ReadRefusal}
use Rattle.benchfile.specs.declared.ReadRefusal.TheVariants.{ListTooShort, FileTooLong, Faulty}
use Rattle.scrollcairn_c.specs.Exported.{stored_of}

module _ (f : Content → List ℕ) (before : List ℕ) where
  pub refused-stored : (o : Outcome) (e : ReadRefusal) → read_answer (Err e) ≡ read_says o → before ≡ stored_of f o before
  unfolding stored_of read_says read_answer
  refused-stored (Refused refusal) e said = refl
  refused-stored (Good F) ListTooShort said = let z : ◌≡◌ {A = ℕ} 0 1 = cc in absurd (lt_irrefl 0 (omega arith))
  refused-stored (Good F) FileTooLong said = let z : ◌≡◌ {A = ℕ} 0 1 = cc in absurd (lt_irrefl 0 (omega arith))
  refused-stored (Good F) (Faulty at) said = let z : ◌≡◌ {A = ℕ} 0 1 = cc in absurd (lt_irrefl 0 (omega arith))

  pub good-stored : (o : Outcome) (n line : ℕ) → ReadNumbers n line ≡ read_says o → f (read_content o) ≡ stored_of f o before
  unfolding stored_of read_says read_content
  good-stored (Refused refusal) n line said = let z : ◌≡◌ {A = ℕ} 0 1 = cc in absurd (lt_irrefl 0 (omega arith))
  good-stored (Good F) n line said = refl
