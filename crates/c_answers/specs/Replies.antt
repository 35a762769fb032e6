-- The reply of a call on a bench, as three numbers: the number of the refusal, the kind of the reply, its value. Definitions only.
use Rattle.std.specs.Prelude.{ℕ, ◌%◌, List, [], ◌∷◌, get_or}
use Rattle.model.specs.Network.{bit}
use Rattle.model.specs.Rules.{Answer, Refused, Sent, Repeat, Held, Taken}
use Rattle.model.specs.Calls.{RestAnswer, RestRefused, Rest}
use Rattle.bench_promises.specs.Replies.{LengthAnswer, LengthRefused, Length}
use Rattle.c_answers.specs.declared.replies.Reply.{Reply}

unfoldable pub three_of : Reply → List ℕ
three_of r = r.refusal ∷ r.kind ∷ r.value ∷ []

-- the reply of three numbers
unfoldable pub reply_of : List ℕ → Reply
reply_of l = record { refusal = get_or l 0 0; kind = get_or l 1 0; value = get_or l 2 0 }

unfoldable pub answer_numbers : Answer → List ℕ
answer_numbers (Refused number) = number ∷ 0 ∷ 0 ∷ []
answer_numbers (Sent m) = 0 ∷ 1 ∷ m ∷ []
answer_numbers Repeat = 0 ∷ 2 ∷ 0 ∷ []
answer_numbers Held = 0 ∷ 3 ∷ 0 ∷ []
answer_numbers (Taken n) = 0 ∷ 4 ∷ n ∷ []

unfoldable pub length_numbers : LengthAnswer → List ℕ
length_numbers (LengthRefused number) = number ∷ 0 ∷ 0 ∷ []
length_numbers (Length n) = 0 ∷ 5 ∷ n ∷ []

unfoldable pub rest_numbers : RestAnswer → List ℕ
rest_numbers (RestRefused number) = number ∷ 0 ∷ 0 ∷ []
rest_numbers (Rest b) = 0 ∷ 6 ∷ bit b ∷ []

-- of a refusal to open a bench, its number and its values, of which the first is told; where there is none, it is opened
unfoldable pub open_numbers : List ℕ → List ℕ
open_numbers [] = 0 ∷ 8 ∷ 0 ∷ []
open_numbers (number ∷ values) = number ∷ 0 ∷ get_or values 0 0 ∷ []

-- the lowest 16 bits of each number
unfoldable pub low_bits : List ℕ → List ℕ
low_bits [] = []
low_bits (n ∷ ns) = n % 65536 ∷ low_bits ns
