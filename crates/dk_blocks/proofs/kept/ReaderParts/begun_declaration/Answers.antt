use Rattle.std.proofs.Common.{◌∙◌, ap, sym, Bool, Result, Some}
use Rattle.dk_base.specs.Reading.{Line, LineFault, ◌>>=◌}
use Rattle.dk_decl.specs.Blocks.{block_decl}
use Rattle.dk_decl.specs.declared.decls.PointDecl.{PointDecl}
use Rattle.dk_blocks.proofs.Constants.{declared_fit}
use Rattle.dk_blocks.specs.History.{History, where_it_ends, with_declaration}
use Rattle.dk_blocks.specs.Standing.{Fits, block_resumed}
use Rattle.dk_blocks.proofs.kept.ReaderParts.begun_declaration.Goals as goal

pub returns-in-Ok-clause-goes_on : goal.returns-in-Ok-clause-goes_on
unfolding block_resumed
returns-in-Ok-clause-goes_on c ignores h ls close =
    let now : History = record h { header = c.args.block.now.header } in
    let first : Line = record { number = c.args.number; bytes = c.args.bytes.now } in
    ap (λ (r : Result PointDecl LineFault). r >>= λ d. where_it_ends close now (with_declaration now c.args.number d))
    (ap (λ (b : Bool). block_decl b first ls close) (sym c.implicit.ensures) ∙ c.in-Ok.ensures ls close)

pub returns-in-Ok-clause-fits : goal.returns-in-Ok-clause-fits
unfolding Fits
returns-in-Ok-clause-fits c ls close d is =
    let first : Line = record { number = c.args.number; bytes = c.args.bytes.now } in
    declared_fit c.implicit.result first ls close d (c.in-Ok.ensures ls (Some close) ∙ is)
