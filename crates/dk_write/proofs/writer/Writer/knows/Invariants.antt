use Rattle.std.proofs.Common.{◌≡◌, drop}
use Rattle.dk_write.specs.Writing.{knows}
use Rattle.dk_write.proofs.writer.Writer.knows.Given as goal

abbrev pub invariant-loop-decl : goal.invariant-loop-decl
invariant-loop-decl l = knows l.name (drop l.decl-index l.decls) ≡ knows l.name l.self
