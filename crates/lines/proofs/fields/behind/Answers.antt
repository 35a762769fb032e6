-- The part that is lent is the line without its LF; the value is what stands behind the key.
use native.Mathlib.Omega.{arith}
use Rattle.lines.proofs.Ends.{lent_length, key_endless, key_other, key_room, key_found}
use Rattle.lines.proofs.fields.behind.Goals as goal
use Rattle.lines.proofs.fields.behind.Goals.{then-end-rest-via-then-end-rest, then-end-rest-via-else-end-rest+then-not-starts_with}

pub slice_bounds-starts_with-end : goal.slice_bounds-starts_with-end
slice_bounds-starts_with-end c = lent_length _ _ c.requires

pub returns-then-end-rest : goal.returns-then-end-rest
returns-then-end-rest c = elim c.then-end-rest.branch [
  | then-end-rest-via-then-end-rest w ↦ key_endless _ _ c.requires _ w.if-end-rest.true
  | then-end-rest-via-else-end-rest+then-not-starts_with w ↦
      key_other _ _ c.requires _ w.starts_with.ensures w.if-not-starts_with.true
]

pub slice_bounds-result-count : goal.slice_bounds-result-count
slice_bounds-result-count c =
    (key_room _ _ c.requires _ c.if-end-rest.false c.starts_with.ensures c.if-not-starts_with.false).0

pub slice_bounds-result-start : goal.slice_bounds-result-start
slice_bounds-result-start c =
    omega (arith, key_room _ _ c.requires _ c.if-end-rest.false c.starts_with.ensures c.if-not-starts_with.false)

pub slice_bounds-result-end : goal.slice_bounds-result-end
slice_bounds-result-end c =
    omega (arith, key_room _ _ c.requires _ c.if-end-rest.false c.starts_with.ensures c.if-not-starts_with.false)

pub returns : goal.returns
returns c = key_found _ _ c.requires _ c.if-end-rest.false c.starts_with.ensures c.if-not-starts_with.false
