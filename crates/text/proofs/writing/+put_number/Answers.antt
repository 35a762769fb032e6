-- A number below ten is one digit, another below a hundred two digits, and any other the digits of its tenth and one digit.
use Rattle.text.proofs.Numbers.{decimal_digit, decimal-two, decimal_tenth}
use Rattle.text.proofs.Written.{written_append}
use Rattle.text.proofs.writing.+put_number.Goals as goal

pub returns-then-n-lt10 : goal.returns-then-n-lt10
returns-then-n-lt10 t c = rw (decimal_digit _ c.if-n-lt10.true) c.put.ensures

pub returns-then-n-lt100 : goal.returns-then-n-lt100
returns-then-n-lt100 t c =
    rw (decimal-two _ c.if-n-lt10.false c.if-n-lt100.true) (written_append c.put-second.ensures c.put-then-n-lt100.ensures)

pub returns-else-n-lt100 : goal.returns-else-n-lt100
returns-else-n-lt100 t c =
    rw (decimal_tenth _ c.if-n-lt10.false c.ranges.n.fits) (written_append c.put_number-next.ensures c.put-else-n-lt100.ensures)
