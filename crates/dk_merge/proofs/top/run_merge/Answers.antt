use Rattle.std.proofs.Common.{◌≤◌, ℕ, map, string_bytes, IfSome, Option, Some, None, subst, sym}
use Rattle.dk_arguments.specs.Descriptions.{largest_count}
use Rattle.dk_arguments.specs.Laws.{IsWithin}
use Rattle.dk_arguments.specs.declared.request.Request.{Request}
use Rattle.dk_program.proofs.Completing.{without_run_completes}
use Rattle.dk_program.proofs.Saying.{without_run_says}
use Rattle.dk_program.specs.Statuses.{IsARun}
use Rattle.dk_merge.proofs.Complete.{complete_of, complete_says, no_run_completes}
use Rattle.dk_merge.proofs.Histories.{histories_say, no_run_merges}
use Rattle.dk_merge.proofs.Recorders.{no_run_writes, recorders_say}
use Rattle.dk_merge.proofs.Saying.{run_says, says_more}
use Rattle.dk_merge.specs.Statuses.{IsCalmlyComplete, RunComesTo}
use Rattle.dk_merge_command_line.proofs.Whole.{file_named, numbers_within}
use Rattle.dk_merge_command_line.specs.Requests.{dk_merge, request_of}
use Rattle.dk_merge_command_line.specs.declared.command.Command.{Command}
use Rattle.dk_merge.proofs.top.run_merge.Goals as goal

one_at_least : (turns : Option ℕ) → IfSome turns (IsWithin 1 largest_count) → IfSome turns (λ n. 1 ≤ n)
one_at_least None within = tt
one_at_least (Some n) within = within.0

-- ---- a run
pub run_command-requires : goal.run_command-requires
unfolding request_of
run_command-requires g c = one_at_least c.in-Ok.command.turns (numbers_within (map string_bytes c.args.words.now) c.in-Ok.command c.in-Ok.ensures.asked).1

pub returns-in-Ok-clause-says : goal.returns-in-Ok-clause-says
unfolding request_of
returns-in-Ok-clause-says g c = run_says _ c.in-Ok.command _ _ c.run_command.result c.in-Ok.ensures.asked (rw c.in-Ok.ensures.unwritten at c.run_command.ensures.says)

pub returns-in-Ok-clause-unread : goal.returns-in-Ok-clause-unread
unfolding request_of
returns-in-Ok-clause-unread g c none = absurd (none (subst (λ (r : Option (Request Command)). IsARun r) (sym c.in-Ok.ensures.asked) tt))

pub returns-in-Ok-clause-complete : goal.returns-in-Ok-clause-complete
unfolding request_of
returns-in-Ok-clause-complete g c = complete_says c.in-Ok.command _ _ _ c.run_command.result c.in-Ok.ensures.asked (rw c.in-Ok.ensures.unwritten at c.run_command.ensures.says)

pub returns-in-Ok-clause-histories : goal.returns-in-Ok-clause-histories
unfolding request_of
returns-in-Ok-clause-histories g c =
    histories_say _ c.in-Ok.command _ _ c.run_command.result c.in-Ok.ensures.asked (file_named (map string_bytes c.args.words.now) c.in-Ok.command c.in-Ok.ensures.asked)
    (complete_of c.in-Ok.command _ _ c.run_command.result (rw c.in-Ok.ensures.unwritten at c.run_command.ensures.says))

pub returns-in-Ok-clause-recorders : goal.returns-in-Ok-clause-recorders
unfolding request_of
returns-in-Ok-clause-recorders g c =
    recorders_say _ c.in-Ok.command _ _ c.run_command.result c.in-Ok.ensures.asked (one_at_least c.in-Ok.command.turns (numbers_within (map string_bytes c.args.words.now) c.in-Ok.command c.in-Ok.ensures.asked).1)
    (complete_of c.in-Ok.command _ _ c.run_command.result (rw c.in-Ok.ensures.unwritten at c.run_command.ensures.says))

-- ---- none
pub returns-in-Err-clause-says : goal.returns-in-Err-clause-says
unfolding request_of
returns-in-Err-clause-says g c = says_more _ _ _ c.in-Err.ended (without_run_says RunComesTo dk_merge _ _ _ c.in-Err.ended c.in-Err.ensures.ends)

pub returns-in-Err-clause-complete : goal.returns-in-Err-clause-complete
unfolding request_of
returns-in-Err-clause-complete g c = without_run_completes IsCalmlyComplete dk_merge _ _ _ c.in-Err.ended (λ command is calm. no_run_completes command _ _ c.in-Err.ended is) c.in-Err.ensures.ends

pub returns-in-Err-clause-histories : goal.returns-in-Err-clause-histories
unfolding request_of
returns-in-Err-clause-histories g c = no_run_merges _ _ _ c.in-Err.ended c.in-Err.ensures.ends

pub returns-in-Err-clause-recorders : goal.returns-in-Err-clause-recorders
unfolding request_of
returns-in-Err-clause-recorders g c = no_run_writes _ _ _ c.in-Err.ended c.in-Err.ensures.ends
