use Rattle.std.proofs.Common.{◌≡◌, ◌∙◌, ap, ◌∷◌, rules, subst, Result, Err, Some}
use Rattle.dk_base.specs.Reading.{Line, LineFault, ◌>>=◌}
use Rattle.dk_decl.specs.Blocks.{decl_resumed}
use Rattle.dk_decl.specs.declared.decls.PointDecl.{PointDecl}
use Rattle.dk_blocks.specs.History.{History, where_it_ends, with_declaration}
use Rattle.dk_blocks.specs.Standing.{Fits, StateFits, block_resumed, resumed_by}
use Rattle.dk_blocks.specs.declared.block.State.{State}
use Rattle.dk_blocks.specs.declared.block.State.TheVariants as state
use Rattle.dk_blocks.proofs.Fronting.{goes_as, told_then}
use Rattle.dk_blocks.proofs.kept.ReaderParts.declaration_line.Goals as goal

pub returns-in-Ok-clause-goes_on : goal.returns-in-Ok-clause-goes_on
unfolding block_resumed
returns-in-Ok-clause-goes_on c ignores h ls close =
    let now : History = record h { header = c.args.block.now.header } in
    let line : Line = record { number = c.args.number; bytes = c.args.bytes.now } in
    let is : c.args.block.now.state ≡ state.Declaration c.in-Declaration.line c.in-Declaration.reader = search rules in
    ap (λ (s : State). resumed_by ignores now s (line ∷ ls) close) is
    ∙ ap (λ (r : Result PointDecl LineFault). r >>= λ d. where_it_ends close now (with_declaration now c.in-Declaration.line d)) (c.in-Ok.ensures ls close)

pub returns-in-Ok-clause-fits : goal.returns-in-Ok-clause-fits
unfolding Fits
returns-in-Ok-clause-fits c ls close d ends =
    let line : Line = record { number = c.args.number; bytes = c.args.bytes.now } in
    let is : c.args.block.now.state ≡ state.Declaration c.in-Declaration.line c.in-Declaration.reader = search rules in
    subst (λ (s : State). StateFits c.args.self.now.points s) is c.requires.fits (line ∷ ls) close d (c.in-Ok.ensures ls (Some close) ∙ ends)

pub returns-in-Declaration-clause-goes_on : goal.returns-in-Declaration-clause-goes_on
unfolding block_resumed
returns-in-Declaration-clause-goes_on c ignores h =
    let now : History = record h { header = c.args.block.now.header } in
    let line : Line = record { number = c.args.number; bytes = c.args.bytes.now } in
    let is : c.args.block.now.state ≡ state.Declaration c.in-Declaration.line c.in-Declaration.reader = search rules in
    goes_as ignores h (Err c.in-Err.fault) _ _ (λ ls close. ap (λ (s : State). resumed_by ignores now s (line ∷ ls) close) is)
    (told_then c.in-Err.fault (λ ls. decl_resumed c.in-Declaration.reader (line ∷ ls)) (λ d close. where_it_ends close now (with_declaration now c.in-Declaration.line d)) c.in-Err.ensures)
