-- What the groups of lines that are left come to.
use Rattle.std.specs.Prelude.{Bool, List, [], if◌then◌else◌, Option, Some, None, Result, Ok, Err}
use Rattle.dk_base.specs.Reading.{Line, LineFault, Reads, ◌>>=◌}
use Rattle.dk_lines.specs.Left.{End, Over, Broken, LongLine, TooLong}
use Rattle.dk_base.specs.declared.why.Why.TheVariants.{LongLine as WhyLong, TooLong as WhyMany}
use Rattle.dk_blocks.specs.Blocks.{Groups, Group, Last}
use Rattle.dk_blocks.specs.History.{Effect, History, Taken, counts, effect_of}

-- the last lines, and then what ends them
abbrev pub after_last : Reads Taken → List Line → End → Result Taken LineFault
after_last read ls (Over line) = read ls (Some line)
after_last read ls Broken = read ls None
after_last read ls (LongLine line) = read ls None >>= λ _. Err (record { line = line; why = WhyLong })
after_last read ls (TooLong line) = read ls None >>= λ _. Err (record { line = line; why = WhyMany })

-- the history after all groups, the first of which is read by `read`; or the first fault
abbrev pub after_all : Bool → Reads Taken → Groups → Result History LineFault
after_all ignores read (Group ls close rest) = read ls (Some close) >>= λ t. after_all ignores (effect_of ignores t.history) rest
after_all ignores read (Last ls end) = after_last read ls end >>= λ t. Ok t.history

-- what the next block does, if there is one, the history after it, and the groups behind it
pub record Stepped : Type 0 where
  pub effect : Option Effect
  pub history : History
  pub left : Groups

abbrev pub stepped : Taken → Groups → Stepped
stepped t rest = record { effect = t.effect; history = t.history; left = rest }

abbrev pub stop_or : Taken → Groups → Result Stepped LineFault → Result Stepped LineFault
stop_or t rest more = if counts t then Ok (stepped t rest) else more

-- The next block: groups that are none are passed over.
abbrev pub after_next : Bool → Reads Taken → Groups → Result Stepped LineFault
after_next ignores read (Group ls close rest) =
    read ls (Some close) >>= λ t. stop_or t rest (after_next ignores (effect_of ignores t.history) rest)
after_next ignores read (Last ls end) =
    after_last read ls end >>= λ t. Ok (stepped t (Last [] end))
