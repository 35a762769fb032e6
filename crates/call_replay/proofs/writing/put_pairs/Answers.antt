-- A row more is put with each turn; at the end, all 32 are.
use mathlib.Core.Path.{◌≡◌, ap}
use Prim.Native.Nat.{ℕ}
use native.Mathlib.Omega.{arith}
use Rattle.text.proofs.Written.{writes_is, writes_none}
use Rattle.bench_promises.specs.State.{joined}
use Rattle.call_replay.specs.Claims.{rows_of}
use Rattle.call_replay.proofs.Puts.{rows_more}
use Rattle.call_replay.proofs.writing.put_pairs.Goals as goal

pub loop-sender-init : goal.loop-sender-init
unfolding rows_of joined
loop-sender-init c = writes_none _

pub loop-sender-preserved : goal.loop-sender-preserved
loop-sender-preserved c =
    let loop = c.loop-sender in
    rows_more c.args.pairs.now c.args.k loop.sender _ c.row-row.ensures loop.invariant c.put_widened.ensures

pub returns : goal.returns
returns c =
    let loop = c.loop-sender in
    let all : loop.sender ≡ 32 = omega arith in
    writes_is (ap (λ (n : ℕ). rows_of n c.args.pairs.now c.args.k) all) loop.invariant
