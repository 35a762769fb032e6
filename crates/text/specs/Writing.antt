-- What the functions of this crate compute, beside the rules: where a byte stands, and bytes written from a place on. Definitions only.
use Rattle.std.specs.Prelude.{ℕ, zero, suc, ◌≡◌, cond, List, [], ◌∷◌, length, ltb, eqb}
use Rattle.std.proofs.lemmas.List.Edits.{sets}
use Rattle.text.specs.declared.writing.Output.{Output}

-- the place of the first byte c; the length where there is none
unfoldable pub place_of : ℕ → List ℕ → ℕ
place_of c [] = 0
place_of c (b ∷ bs) = let rest = place_of c bs in cond (eqb b c) 0 (suc rest)

-- the place after n bytes more from `at` on, in a list of a length, at whose end writing stops
unfoldable pub reach : ℕ → ℕ → ℕ → ℕ
reach at zero len = at
reach at (suc n) len = reach (cond (ltb at len) (suc at) at) n len

-- the text, of bytes or of other items, was written from `at` on, as far as the list reaches: `place` is where it ends, `left` what the
-- list then holds
pub record Written {T : Type 0} (text : List T) (at : ℕ) (list : List T) (place : ℕ) (left : List T) : Type 0 where
  pub ends : place ≡ reach at (length text) (length list)
  pub holds : left ≡ sets list at text

-- the text was written to an output, from its place on: the list is the one that was lent
pub record Writes {T : Type 0} (text : List T) (before after : Output T) : Type 0 where
  pub same_list : after.out.ghost_name ≡ before.out.ghost_name
  pub written : Written text before.at before.out.now after.at after.out.now
