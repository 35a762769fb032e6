-- The answers of the calls: for each case document 01's number and values. Definitions only.
use Rattle.std.specs.Prelude.{ℕ, Bool, List, [], ◌∷◌, Result, Ok, Err}
use Rattle.model.specs.Rules.{Answer, Refused, Sent, Repeat, Held, Taken}
use Rattle.model.specs.Calls.{RestAnswer, RestRefused, Rest}
use Rattle.bench_promises.specs.declared.replies.ListTooShort.{ListTooShort as TooShort}
use Rattle.bench_promises.specs.declared.replies.SendRefusal.{SendRefusal}
use Rattle.bench_promises.specs.declared.replies.SendRefusal.TheVariants.{ListTooShort as SendTooShort, NoSuchUnit, NoSuchGroup}
use Rattle.bench_promises.specs.declared.replies.SendRefusal.TheVariants.{TooManyMessages, RoutesTooLong}
use Rattle.bench_promises.specs.declared.replies.ArriveRefusal.{ArriveRefusal}
use Rattle.bench_promises.specs.declared.replies.ArriveRefusal.TheVariants.{ListTooShort as ArriveTooShort, NotMade}
use Rattle.bench_promises.specs.declared.replies.Receipt.{Receipt}
use Rattle.bench_promises.specs.declared.replies.Receipt.TheVariants.{Taken as TakenNumber, Held as HeldHop, Repeat as RepeatedHop}
use Rattle.bench_promises.specs.declared.replies.LogRefusal.{LogRefusal}
use Rattle.bench_promises.specs.declared.replies.LogRefusal.TheVariants.{ListTooShort as LogTooShort, NoSuchUnit as NoSuchLog}

-- the number of a refusal; nothing where a fresh bench was made
unfoldable pub fresh_answer : Result Unit TooShort → List ℕ
fresh_answer (Ok made) = []
fresh_answer (Err short) = 1 ∷ []

-- the numbers of the refusals
abbrev pub send_refusal_number : SendRefusal → ℕ
send_refusal_number SendTooShort = 1
send_refusal_number NoSuchUnit = 12
send_refusal_number NoSuchGroup = 13
send_refusal_number TooManyMessages = 14
send_refusal_number RoutesTooLong = 15

abbrev pub arrive_refusal_number : ArriveRefusal → ℕ
arrive_refusal_number ArriveTooShort = 1
arrive_refusal_number NotMade = 16

abbrev pub log_refusal_number : LogRefusal → ℕ
log_refusal_number LogTooShort = 1
log_refusal_number NoSuchLog = 17

unfoldable pub send_answer : Result ℕ SendRefusal → Answer
send_answer (Ok m) = Sent m
send_answer (Err e) = Refused (send_refusal_number e)

-- what the second log call answers: a refusal, or the log's length
pub data LengthAnswer : Type 0 where
  LengthRefused : ℕ → LengthAnswer
  Length : ℕ → LengthAnswer

abbrev pub receipt_answer : Receipt → Answer
receipt_answer (TakenNumber n) = Taken n
receipt_answer HeldHop = Held
receipt_answer RepeatedHop = Repeat

unfoldable pub arrive_answer : Result Receipt ArriveRefusal → Answer
arrive_answer (Ok receipt) = receipt_answer receipt
arrive_answer (Err e) = Refused (arrive_refusal_number e)

unfoldable pub log_answer : Result ℕ LogRefusal → LengthAnswer
log_answer (Ok n) = Length n
log_answer (Err e) = LengthRefused (log_refusal_number e)

unfoldable pub rest_answer : Result Bool TooShort → RestAnswer
rest_answer (Ok b) = Rest b
rest_answer (Err short) = RestRefused 1
