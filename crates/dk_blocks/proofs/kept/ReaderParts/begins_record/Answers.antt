use Rattle.std.proofs.Common.{◌≡◌, ◌∙◌, sym, ap, subst, rules, false, Bool, Option, Result, Ok, refl}
use Rattle.dk_base.specs.Reading.{Line}
use Rattle.dk_base.specs.declared.why.Why.{Why}
use Rattle.dk_decl.specs.Headers.{HeaderAnswers, header_line}
use Rattle.dk_decl.specs.declared.header.Header.{Header}
use Rattle.dk_blocks.specs.Keeping.{Keeping}
use Rattle.dk_blocks.specs.Standing.{Stands}
use Rattle.dk_blocks.proofs.AtHand.{begins_here}
use Rattle.dk_blocks.proofs.FirstLines.{not_true}
use Rattle.dk_blocks.proofs.Fronting.{answered_false}
use Rattle.dk_blocks.proofs.kept.ReaderParts.begins_record.Goals as goal

pub returns-then-is_plainly_sample : goal.returns-then-is_plainly_sample
unfolding Stands
returns-then-is_plainly_sample c = λ is ignores h stands n ls close.
    let line : Line = record { number = n; bytes = c.args.first.now } in
    let header : c.self.inside.header ≡ h.header = ap (λ (k : Keeping). k.header) c.self.view_is ∙ stands.header in
    begins_here ignores h h.header line ls close (sym c.is_comment.ensures ∙ c.if-is_comment.false)
    (subst (λ (o : Option (Result Header Why)). HeaderAnswers o h.header (Ok false) h.header) (sym (ap (λ (x : Header). header_line x c.args.first.now) (sym header) ∙ c.is_plainly_sample.ensures.header c.if-is_plainly_sample.true)) (refl, refl)) refl
    (c.is_plainly_sample.ensures.declaration c.if-is_plainly_sample.true) (c.is_plainly_sample.ensures.list c.if-is_plainly_sample.true)

pub returns-then-not-is_declaration : goal.returns-then-not-is_declaration
unfolding Stands
returns-then-not-is_declaration c = λ no_list ignores h stands n ls close.
    let line : Line = record { number = n; bytes = c.args.first.now } in
    let header : c.self.inside.header ≡ h.header = ap (λ (k : Keeping). k.header) c.self.view_is ∙ stands.header in
    let is : c.line.result ≡ Ok false = search rules in
    let answers : HeaderAnswers (header_line h.header c.args.first.now) h.header (Ok false) c.line.new.self =
    subst (λ (x : Header). HeaderAnswers (header_line x c.args.first.now) x (Ok false) c.line.new.self) header
    (subst (λ (r : Result Bool Why). HeaderAnswers (header_line c.self.inside.header c.args.first.now) c.self.inside.header r c.line.new.self) is c.line.ensures) in
    begins_here ignores h c.line.new.self line ls close (sym c.is_comment.ensures ∙ c.if-is_comment.false) answers (answered_false (header_line h.header c.args.first.now) h.header c.line.new.self answers).1
    (sym c.is_declaration.ensures ∙ search rules) (sym c.is_list_of_implementors.ensures ∙ not_true c.is_list_of_implementors.result no_list)
