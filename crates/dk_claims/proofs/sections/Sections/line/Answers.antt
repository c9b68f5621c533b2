use Rattle.std.proofs.Common.{◌≡◌, ◌∙◌, sym, false}
use Rattle.std.proofs.lemmas.Result.{on_ok_weaker}
use Rattle.dk_claims.specs.Claims.{is_blank_line}
use Rattle.dk_claims.proofs.Sectioning.{behind_line, ruler_taken}
use Rattle.dk_claims.proofs.sections.Sections.line.Goals as goal

pub returns-then-is_ruler : goal.returns-then-is_ruler
returns-then-is_ruler c =
    let written : is_blank_line c.args.line.now ≡ false = sym c.is_blank_line.ensures ∙ c.if-is_blank_line.false in
    behind_line c.args.self.now _ c.args.line.now written (ruler_taken c.args.self.now c.args.line.now (sym c.is_ruler.ensures ∙ c.if-is_ruler.true))

pub returns : goal.returns
returns c =
    let written : is_blank_line c.args.line.now ≡ false = sym c.is_blank_line.ensures ∙ c.if-is_blank_line.false in
    on_ok_weaker c.words.result (λ behind. behind_line c.args.self.now c.words.new.self c.args.line.now written behind) c.words.ensures
