use Rattle.std.proofs.Common.{◌∙◌, ap}
use Rattle.dk_decl.specs.Headers.{header_line, with_word}
use Rattle.dk_turns.proofs.Fronting.{refused, taken}
use Rattle.dk_turns.proofs.fronts.takes_header.Goals as goal

pub returns-in-Ok-clause-taken : goal.returns-in-Ok-clause-taken
returns-in-Ok-clause-taken c =
    (taken (header_line c.args.header.now c.args.line.now) c.args.header.now c.line.new.self c.in-Ok.is_header c.in-Ok.ensures).0

pub returns-in-Ok-clause-header : goal.returns-in-Ok-clause-header
returns-in-Ok-clause-header c =
    (taken (header_line c.args.header.now c.args.line.now) c.args.header.now c.line.new.self c.in-Ok.is_header c.in-Ok.ensures).1

pub returns-in-Err-clause-taken : goal.returns-in-Err-clause-taken
returns-in-Err-clause-taken c =
    (refused (header_line c.args.header.now c.args.line.now) c.args.header.now c.line.new.self c.in-Err.field-0 c.in-Err.ensures).0

pub returns-in-Err-clause-header : goal.returns-in-Err-clause-header
returns-in-Err-clause-header c =
    c.with_word.ensures ∙ ap with_word c.implicit.ensures
    ∙ (refused (header_line c.args.header.now c.args.line.now) c.args.header.now c.line.new.self c.in-Err.field-0 c.in-Err.ensures).1
