use Rattle.std.proofs.Common.{◌≡◌, ◌∙◌, [], ap, subst, sym, rules, Some, Result, Err, Ok}
use Rattle.dk_base.specs.Reading.{LineFault, ◌>>=◌}
use Rattle.dk_decl.specs.Blocks.{decl_resumed}
use Rattle.dk_decl.specs.declared.decls.PointDecl.{PointDecl}
use Rattle.dk_blocks.specs.History.{with_declaration}
use Rattle.dk_blocks.specs.Standing.{Closes, Fits, StateFits, resumed_by}
use Rattle.dk_blocks.specs.declared.block.State.{State}
use Rattle.dk_blocks.specs.declared.block.State.TheVariants as state
use Rattle.dk_blocks.proofs.Fronting.{told_at, told_closes}
use Rattle.dk_blocks.proofs.kept.ReaderParts.declaration_end.Goals as goal

pub returns-in-Ok-clause-fits : goal.returns-in-Ok-clause-fits
unfolding Fits
returns-in-Ok-clause-fits c =
    let is : c.args.block.now.state ≡ state.Declaration c.in-Declaration.line c.in-Declaration.reader = search rules in
    subst (λ (s : State). StateFits c.args.self.now.points s) is c.requires.fits [] 0 c.in-Ok.decl (c.in-Ok.ensures 0)

pub returns-in-Ok-clause-closes : goal.returns-in-Ok-clause-closes
returns-in-Ok-clause-closes c ignores h stands close =
    let is : c.args.block.now.state ≡ state.Declaration c.in-Declaration.line c.in-Declaration.reader = search rules in (
      h,
      stands,
      ap (λ (s : State). resumed_by ignores h s [] (Some close)) is
          ∙ ap (λ (r : Result PointDecl LineFault). r >>= λ d. with_declaration h c.in-Declaration.line d) (c.in-Ok.ensures close),
    )

pub returns-in-Declaration-clause-closes : goal.returns-in-Declaration-clause-closes
returns-in-Declaration-clause-closes c ignores h stands close =
    let is : c.args.block.now.state ≡ state.Declaration c.in-Declaration.line c.in-Declaration.reader = search rules in
    subst (λ (s : State). Closes (Err c.in-Err.fault) (resumed_by ignores h s [] (Some close))) (sym is)
    (told_closes c.in-Err.fault _ (told_at c.in-Err.fault (decl_resumed c.in-Declaration.reader [] (Some close)) (λ d. with_declaration h c.in-Declaration.line d) (c.in-Err.ensures close)))
