-- Three numbers as a struct and as a list. Assumes nothing.
use mathlib.Core.Path.{◌≡◌, refl}
use mathlib.Core.List.{List}
use Prim.Native.Nat.{ℕ}
use lib.ListN.{get_or}
use Rattle.model.specs.Rules.{Answer, Refused, Sent, Repeat, Held, Taken}
use Rattle.model.specs.Calls.{RestAnswer, RestRefused, Rest}
use Rattle.c_answers.specs.Replies.{three_of, reply_of, answer_numbers, rest_numbers}
use Rattle.c_answers.specs.declared.replies.Reply.{Reply}

pub reply-is : (x : Reply) (l : List ℕ) → three_of x ≡ l → x ≡ reply_of l
unfolding three_of reply_of
reply-is x l e = λ i. record { refusal = get_or (e i) 0 0; kind = get_or (e i) 1 0; value = get_or (e i) 2 0 }

pub answer_three : (a : Answer) → three_of (reply_of (answer_numbers a)) ≡ answer_numbers a
unfolding three_of reply_of answer_numbers
answer_three (Refused number) = refl
answer_three (Sent m) = refl
answer_three Repeat = refl
answer_three Held = refl
answer_three (Taken n) = refl

pub rest_three : (a : RestAnswer) → three_of (reply_of (rest_numbers a)) ≡ rest_numbers a
unfolding three_of reply_of rest_numbers
rest_three (RestRefused number) = refl
rest_three (Rest b) = refl
