-- The two laws of reading a block that the reader rests on.
use Rattle.std.proofs.Common.{◌≡◌, ℕ, [], Bool, Option, Some, None, Result, Ok, Err, refl}
use Rattle.std.specs.Result.{IsOk}
use Rattle.dk_base.specs.Reading.{LineFault, ◌>>=◌}
use Rattle.dk_blocks.specs.History.{History, Taken, no_block, effect_of}
use Rattle.dk_blocks.specs.Standing.{block_resumed, resumed_by}
use Rattle.dk_blocks.specs.declared.block.Block.{Block}
use Rattle.dk_blocks.specs.declared.block.State.{State}
use Rattle.dk_blocks.specs.declared.block.State.TheVariants as state
use Rattle.dk_decl.proofs.Unfaulted.{no_fault_yet as no_fault_in_declaration}
use Rattle.dk_trace.proofs.Unfaulted.{no_fault_yet as no_fault_in_record}

-- what is read is no block, and holds no fault
abbrev pub IsNone : Result Taken LineFault → Type 0
IsNone (Ok t) = t.effect ≡ None
IsNone (Err e) = ⊥

-- what is only judged where a block ends is no block before, and has no fault
not_judged : {A : Type 0} (read : Result A LineFault) (h : History) → IsOk read → IsNone (read >>= λ x. Ok (no_block h))
not_judged (Ok x) h ok = refl
not_judged (Err e) h ok = cc (ok)

none_in_front : (ignores : Bool) (h : History) (last : Option ℕ) → IsNone (resumed_by ignores h (state.Front last) [] None)
none_in_front ignores h None = refl
none_in_front ignores h (Some line) = refl

none_in : (ignores : Bool) (h : History) (s : State) → IsNone (resumed_by ignores h s [] None)
none_in ignores h (state.Front last) = none_in_front ignores h last
none_in ignores h (state.Declaration line reader) = not_judged _ h (no_fault_in_declaration reader)
none_in ignores h state.Implementors = refl
none_in ignores h (state.Record reader) = not_judged _ h (no_fault_in_record h.table reader)

-- a block that is being read is none before its end, and holds no fault
pub no_block_yet : (ignores : Bool) (h : History) (b : Block) → IsNone (block_resumed ignores h b [] None)
unfolding block_resumed
no_block_yet ignores h b = none_in ignores (record h { header = b.header }) b.state

-- no lines are no block
pub no_lines : (ignores : Bool) (h : History) (close : Option ℕ) → effect_of ignores h [] close ≡ Ok (no_block h)
unfolding effect_of
no_lines ignores h close = refl
