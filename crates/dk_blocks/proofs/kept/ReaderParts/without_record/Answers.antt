use Rattle.std.proofs.Common.{◌≡◌, ◌∙◌, ap, rules, ℕ, Option, Some, Ok, Err, if◌then◌else◌}
use Rattle.dk_decl.specs.Headers.{awaits_word}
use Rattle.dk_decl.specs.declared.header.Header.{Header}
use Rattle.dk_base.specs.declared.why.Why.TheVariants.{BadHeader}
use Rattle.dk_blocks.specs.History.{without_record}
use Rattle.dk_blocks.specs.Keeping.{Keeping}
use Rattle.dk_blocks.specs.Standing.{Stands}
use Rattle.dk_blocks.proofs.Fronting.{no_word, word}
use Rattle.dk_blocks.proofs.kept.ReaderParts.without_record.Goals as goal

pub returns-in-Ok-clause-closes : goal.returns-in-Ok-clause-closes
unfolding Stands
returns-in-Ok-clause-closes c h stands close =
    let ok : c.end.result ≡ Ok tt = search rules in
    let asked : c.end.result ≡ (if awaits_word h.header then Err BadHeader else Ok tt) =
    c.end.ensures.value ∙ ap (λ (x : Header). if awaits_word x then Err BadHeader else Ok tt) (ap (λ (k : Keeping). k.header) c.self.view_is ∙ stands.header) in
    (h, stands, ap (λ (l : Option ℕ). without_record h l (Some close)) c.in-Some.is ∙ no_word (awaits_word h.header) c.in-Some.line h c.end.result asked ok)

pub returns-in-Err-clause-closes : goal.returns-in-Err-clause-closes
unfolding Stands
returns-in-Err-clause-closes c h stands close =
    let err : c.end.result ≡ Err c.in-Err.why = search rules in
    let asked : c.end.result ≡ (if awaits_word h.header then Err BadHeader else Ok tt) =
    c.end.ensures.value ∙ ap (λ (x : Header). if awaits_word x then Err BadHeader else Ok tt) (ap (λ (k : Keeping). k.header) c.self.view_is ∙ stands.header) in
    ap (λ (l : Option ℕ). without_record h l (Some close)) c.in-Some.is ∙ word (awaits_word h.header) c.in-Some.line h c.in-Err.why c.end.result asked err
