-- The loop's invariant: the digits from `at` on, behind those of `n`, are all the digits of the text.
use mathlib.Core.List.{foldl}
use mathlib.Core.Path.{◌≡◌}
use lib.ListN.{drop}
use Rattle.text.specs.Text.{digit}
use Rattle.text.proofs.reading.number.Given as goal

abbrev pub invariant-loop-byte : goal.invariant-loop-byte
invariant-loop-byte l = foldl digit l.n (drop l.byte-index l.text) ≡ foldl digit 0 l.text
