-- The loop fills the list number by number.
use mathlib.Core.List.{List}
use Prim.Native.Nat.{ℕ, ◌+◌, ◌%◌}
use lib.ListN.{get_or}
use Rattle.layout.proofs.Loops.{Filled}
use Rattle.forest_tables.specs.Computed.{entry_of}
use Rattle.forest_tables.proofs.of.Given as goal

-- number i, from the columns that it is made of
abbrev pub entry_at : (n c : ℕ) (gs ps children routes primaries : List ℕ) → ℕ → ℕ
entry_at n c gs ps children routes primaries i =
    entry_of i (get_or gs (i % 24) 0) (get_or routes (i % 24) 0) (get_or primaries (i % 24) 0) (get_or children ((i + 24) % 32) 0)
    (get_or ps ((i + 24) % 32) 0) n c

abbrev pub invariant-loop-i : goal.invariant-loop-i
invariant-loop-i l =
    Filled 140 (entry_at l.units l.count l.counted l.parents l.children l.routes l.primaries) l.table l.i
