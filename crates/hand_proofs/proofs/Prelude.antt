-- The names that walks use, of the logic and of this crate, passed on so that a walk imports them in one place.
pub use mathlib.Core.Path.{◌≡◌, refl, sym, ◌∙◌, ap, subst}
pub use mathlib.Core.List.{[], ◌∷◌, List}
pub use mathlib.Core.WellFounded.InvImage.{wf as InvImage·wf}
pub use mathlib.Core.WellFounded.{WellFounded}
pub use Prim.Native.Nat.{ℕ, ◌+◌, ◌-◌, ◌<◌, ◌≤◌, ◌^◌}
pub use native.Mathlib.Omega.{arith}
pub use lib.Dec.{T, ltb, ltb→lt, nltb→le}
pub use lib.ListN.{length, get_or, set, length-set, replicate}
pub use lib.Seq.{set_out}
pub use lib.WfN.{lt-wf_rel as Nat·lt-wfRel}
pub use seplogic.Ra.Ura.{Ura}
pub use base.Fraction.{full_share}
pub use mir.Syntax.{w8, w16, w64}
pub use mir.Val.{WT, vunit, vbool, vint, vptr}
pub use base.Logic.{SProp, emp}
pub use prog.Memory.{Memory}
pub use prog.Routine.{Routine}
pub use prog.Wp.{Heap, Env, Tables}
unfoldable pub use prog.Wp.{after_turn}
pub use ghost.Atoms.{Atoms}
pub use sound.WpLaws.{fm_of}
pub use contract.Monad.{Fun, fact_i}
unfoldable pub use contract.Running.{tables_of}
pub use types.Logic.{Logic, sem}
pub use types.Kit.{Item, Sq, runs, at_ret, any_q, ‵, ◌$◌, !, move, drop, rewrite, check, done}
pub use types.Run.{look, init, store, look_raw, store_raw, forget, stop, hop, fld, from, addr, load, lit, unit_lit, of_opd, no_more, bin}
pub use types.Run.{assigns_last, first, blocks, exec, again, loops, returns, returns_within}
pub use types.Part.{whole, sub, look_in, store_in, agg}
pub use denote.Laws.{Is}
pub use denote.Builtin.{u8, u16, usize}
pub use denote.Index.{place_is}
pub use denote.Triple.Statement.{Triple}
pub use denote.Triple.Table.{cited}
pub use Rattle.hand_proofs.proofs.Values.{stored, copied, by_uint, by_array}
pub use Rattle.hand_proofs.proofs.Lending.{Loan, slice, Holds, Views, opens, closes, looks, shuts}
pub use Rattle.hand_proofs.proofs.Calling.{Handed, Fit, contract_of, calls, calls_last, contract_related, calls-related}
pub use Rattle.hand_proofs.proofs.Calling.{calls-related-last}
pub use Rattle.hand_proofs.proofs.Proving.{Duty, Rooms, suited, Goes, starts, duty, Done-at, hold, Suffices, own-tables}
pub use Rattle.hand_proofs.proofs.Proving.{proved_own, proved_duty, RelationalDuty, Goes-related, starts-related, duty-related}
pub use Rattle.hand_proofs.proofs.Proving.{Done-related, concludes, proved_own_related}
pub use Rattle.hand_proofs.proofs.Locals.{var, ptr_of, len_of, base_of, slice_of, big_lit, ◌&◌, equals, sets, sets_last, into}
pub use Rattle.hand_proofs.proofs.Locals.{into-last}
pub use Rattle.hand_proofs.proofs.Walks.{Holding, empty, holds, full, env_at, stack, Blocks, leaves}
pub use Rattle.hand_proofs.proofs.Branches.{if_then, while_test, Turned}
pub use Rattle.hand_proofs.proofs.Arrays.{repeated, repeats, array_loan, lends_array, array_back}
pub use Rattle.hand_proofs.proofs.Fronts.{front-loan, FrontOut, lends_front, front-back}
