use Rattle.std.proofs.Common.{rules, ◌≡◌, map, string_bytes, Some, None}
use Rattle.dk_arguments.specs.Requests.{request_of}
use Rattle.dk_arguments.specs.declared.request.Request.TheVariants.{Help, Version}
use Rattle.dk_program.proofs.Saying.{ends_asked, memory_ends}
use Rattle.dk_program.proofs.asking.asked_run.Goals as goal

pub returns-in-Ok-Help-clause-ends : goal.returns-in-Ok-Help-clause-ends
returns-in-Ok-Help-clause-ends g c =
    let is : request_of g.A.Arguments.command g.A.Arguments.meant (map string_bytes c.args.given.now) ≡ Some Help = search rules in
    ends_asked g.A.Arguments.command _ (Some Help) _ _ _ _ c.tell_help.result is c.tell_help.ensures

pub returns-in-Ok-Version-clause-ends : goal.returns-in-Ok-Version-clause-ends
returns-in-Ok-Version-clause-ends g c =
    let is : request_of g.A.Arguments.command g.A.Arguments.meant (map string_bytes c.args.given.now) ≡ Some Version = search rules in
    ends_asked g.A.Arguments.command _ (Some Version) _ _ _ _ c.tell_version.result is c.tell_version.ensures

pub returns-in-Err-Refused-clause-ends : goal.returns-in-Err-Refused-clause-ends
returns-in-Err-Refused-clause-ends g c =
    let is : request_of g.A.Arguments.command g.A.Arguments.meant (map string_bytes c.args.given.now) ≡ None = search rules in
    ends_asked g.A.Arguments.command _ None _ _ _ _ c.tell_usage.result is c.tell_usage.ensures

pub returns-in-Err-NoMemory-clause-ends : goal.returns-in-Err-NoMemory-clause-ends
returns-in-Err-NoMemory-clause-ends g c = memory_ends g.A.Arguments.command _ _ _
