use Rattle.std.proofs.Common.{rules, ◌≡◌, map, string_bytes, Some, None}
use Rattle.dk_arguments.specs.Requests.{request_of}
use Rattle.dk_arguments.specs.declared.request.Request.TheVariants.{Run, Help, Version}
use Rattle.dk_table.proofs.Saying.{asked_completes, help_says, usage_says, version_says}
use Rattle.dk_table.specs.Asked.{meant, table_command}
use Rattle.dk_table.proofs.top.run_table.Goals as goal

pub returns-in-Ok-Run-clause-complete : goal.returns-in-Ok-Run-clause-complete
returns-in-Ok-Run-clause-complete g c =
    let is : request_of table_command meant (map string_bytes c.args.words.now) ≡ Some (Run c.in-Ok-Run.arguments) = search rules in
    asked_completes _ c.in-Ok-Run.arguments _ _ c.run_over.result is c.run_over.ensures.complete

pub returns-in-Ok-Help-clause-says : goal.returns-in-Ok-Help-clause-says
returns-in-Ok-Help-clause-says g c =
    let is : request_of table_command meant (map string_bytes c.args.words.now) ≡ Some Help = search rules in
    help_says _ _ _ _ c.end_with.result is c.as_bytes.ensures.value c.end_with.ensures

pub returns-in-Ok-Version-clause-says : goal.returns-in-Ok-Version-clause-says
returns-in-Ok-Version-clause-says g c =
    let is : request_of table_command meant (map string_bytes c.args.words.now) ≡ Some Version = search rules in
    version_says _ _ _ _ c.end_with-in-Ok-Version.result is c.as_bytes-in-Ok-Version.ensures.value c.end_with-in-Ok-Version.ensures

pub returns-in-Err-Refused-clause-says : goal.returns-in-Err-Refused-clause-says
returns-in-Err-Refused-clause-says g c =
    let is : request_of table_command meant (map string_bytes c.args.words.now) ≡ None = search rules in
    usage_says _ _ _ c.tell_usage.result is c.tell_usage.ensures
