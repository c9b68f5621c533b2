use Rattle.std.proofs.Common.{codes}
use Rattle.dk_blocks.proofs.FirstLines.{no_declaration, no_list, not_true}
use Rattle.dk_blocks.proofs.first_lines.is_no_declaration.Goals as goal

pub returns-clause-declaration : goal.returns-clause-declaration
returns-clause-declaration c is =
    no_declaration c.args.bytes.now
    (λ len. c.begins_with.ensures c.if-begins_with.false len (codes "t"))
    (λ len. c.begins_with-2.ensures c.if-begins_with-2.false len (codes "CLARE"))

pub returns-clause-list : goal.returns-clause-list
returns-clause-list c is = no_list c.args.bytes.now (λ len. c.begins_with-3.ensures (not_true c.begins_with-3.result is) len (codes "stImplementors"))
