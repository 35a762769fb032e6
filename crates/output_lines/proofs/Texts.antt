-- Laws of the messages of a log: the one at a place with those after it, and the end. Assumes nothing.
use mathlib.Core.Path.{◌≡◌}
use mathlib.Core.List.{List, [], ◌∷◌, ◌++◌}
use Prim.Native.Nat.{ℕ, ◌+◌, ◌≤◌, ◌<◌}
use native.Mathlib.Numerals.{add-one}
use lib.ListN.{length, drop, get_or, drop_of_length-le}
use lib.Seq.{drop-cons}
use Rattle.text.specs.Text.{decimal}
use Rattle.output_lines.specs.Output.{message_texts}

-- the message at i, and those after it
pub messages-next : (i : ℕ) (log : List ℕ) → i < length log
    → message_texts (drop i log) ≡ 44 ∷ decimal (get_or log i 0) ++ message_texts (drop (i + 1) log)
unfolding message_texts
messages-next i log h = rw (drop-cons log i 0 h, add-one i)

-- past the last
pub messages-end : (i : ℕ) (log : List ℕ) → length log ≤ i → message_texts (drop i log) ≡ []
unfolding message_texts
messages-end i log h = rw (drop_of_length-le log h)
