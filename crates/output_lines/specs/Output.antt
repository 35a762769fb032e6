-- Rules of the lines that the program prints (document 01, "The bench file", second paragraph). A line is a text without its LF.
-- Definitions only.
use Rattle.std.specs.Prelude.{ℕ, Bool, true, false, List, [], ◌∷◌, ◌++◌}
use Rattle.text.specs.Text.{decimal}
use Rattle.lines.specs.Lines.{count_line}

-- refused=
unfoldable pub refused_key : List ℕ
refused_key = 114 ∷ 101 ∷ 102 ∷ 117 ∷ 115 ∷ 101 ∷ 100 ∷ 61 ∷ []

-- log=
unfoldable pub log_key : List ℕ
log_key = 108 ∷ 111 ∷ 103 ∷ 61 ∷ []

-- hops=
unfoldable pub hops_key : List ℕ
hops_key = 104 ∷ 111 ∷ 112 ∷ 115 ∷ 61 ∷ []

-- rest=
unfoldable pub rest_key : List ℕ
rest_key = 114 ∷ 101 ∷ 115 ∷ 116 ∷ 61 ∷ []

-- yes, no
unfoldable pub answer_word : Bool → List ℕ
answer_word true = 121 ∷ 101 ∷ 115 ∷ []
answer_word false = 110 ∷ 111 ∷ []

-- `refused=line,number`
unfoldable pub refused_line : (line number : ℕ) → List ℕ
refused_line line number = refused_key ++ decimal line ++ 44 ∷ decimal number

-- messages, a comma before each
unfoldable pub message_texts : List ℕ → List ℕ
message_texts [] = []
message_texts (m ∷ ms) = 44 ∷ decimal m ++ message_texts ms

-- `log=unit` and the messages of its log
unfoldable pub log_line : ℕ → List ℕ → List ℕ
log_line unit messages = log_key ++ decimal unit ++ message_texts messages

-- `hops=` and the number of hops made
unfoldable pub hops_line : ℕ → List ℕ
hops_line hops = count_line hops_key hops

-- the last line: `rest=` and `yes` or `no`
unfoldable pub rest_line : Bool → List ℕ
rest_line rest = rest_key ++ answer_word rest
