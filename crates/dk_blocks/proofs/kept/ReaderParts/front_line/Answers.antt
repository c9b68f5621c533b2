use Rattle.std.proofs.Common.{◌≡◌, ◌∙◌, sym, subst, rules, true, false, Bool, Option, Result, Ok, Err, refl}
use Rattle.dk_base.specs.Reading.{Line}
use Rattle.dk_base.specs.declared.why.Why.{Why}
use Rattle.dk_decl.specs.Headers.{HeaderAnswers, header_line}
use Rattle.dk_decl.specs.declared.header.Header.{Header}
use Rattle.dk_blocks.specs.History.{History}
use Rattle.dk_blocks.specs.Standing.{Fits, block_resumed, left_behind}
use Rattle.dk_blocks.proofs.Fronting.{past_comment, past_header, bad_header, at_record, goes_as, samples}
use Rattle.dk_blocks.proofs.kept.ReaderParts.front_line.Goals as goal

pub returns-then-is_comment-clause-goes_on : goal.returns-then-is_comment-clause-goes_on
unfolding block_resumed
returns-then-is_comment-clause-goes_on c ignores h stands ls close =
    let now : History = record h { header = c.args.block.now.header } in
    let line : Line = record { number = c.args.number; bytes = c.args.bytes.now } in
    past_comment ignores now c.args.last line ls close (sym c.is_comment.ensures ∙ c.if-is_comment.true)

pub returns-then-is_comment-clause-fits : goal.returns-then-is_comment-clause-fits
unfolding Fits
returns-then-is_comment-clause-fits c = tt

pub returns-then-is_plainly_sample-clause-goes_on : goal.returns-then-is_plainly_sample-clause-goes_on
returns-then-is_plainly_sample-clause-goes_on c ignores h stands =
    let now : History = record h { header = c.args.block.now.header } in
    let line : Line = record { number = c.args.number; bytes = c.args.bytes.now } in
    goes_as ignores h (left_behind c.begun_record.new.block c.begun_record.result) _ _
    (λ ls close. at_record ignores now now.header c.args.last line ls close (sym c.is_comment.ensures ∙ c.if-is_comment.false)
    (subst (λ (o : Option (Result Header Why)). HeaderAnswers o now.header (Ok false) now.header) (sym (c.is_plainly_sample.ensures.header c.if-is_plainly_sample.true)) (refl, refl))
    ∙ samples ignores now line ls close (c.is_plainly_sample.ensures.declaration c.if-is_plainly_sample.true) (c.is_plainly_sample.ensures.list c.if-is_plainly_sample.true))
    (c.begun_record.ensures.goes_on ignores h stands)

pub returns-in-Ok-true-clause-goes_on : goal.returns-in-Ok-true-clause-goes_on
unfolding block_resumed
returns-in-Ok-true-clause-goes_on c ignores h stands ls close =
    let now : History = record h { header = c.args.block.now.header } in
    let line : Line = record { number = c.args.number; bytes = c.args.bytes.now } in
    let is : c.line.result ≡ Ok true = search rules in
    past_header ignores now c.line.new.self c.args.last line ls close (sym c.is_comment.ensures ∙ c.if-is_comment.false)
    (subst (λ (r : Result Bool Why). HeaderAnswers (header_line c.args.block.now.header c.args.bytes.now) c.args.block.now.header r c.line.new.self) is c.line.ensures)

pub returns-in-Ok-true-clause-fits : goal.returns-in-Ok-true-clause-fits
unfolding Fits
returns-in-Ok-true-clause-fits c = tt

pub returns-in-Ok-false-clause-goes_on : goal.returns-in-Ok-false-clause-goes_on
returns-in-Ok-false-clause-goes_on c ignores h stands =
    let now : History = record h { header = c.args.block.now.header } in
    let line : Line = record { number = c.args.number; bytes = c.args.bytes.now } in
    let is : c.line.result ≡ Ok false = search rules in
    goes_as ignores h (left_behind c.first_line.new.block c.first_line.result) _ _
    (λ ls close. at_record ignores now c.line.new.self c.args.last line ls close (sym c.is_comment.ensures ∙ c.if-is_comment.false)
    (subst (λ (r : Result Bool Why). HeaderAnswers (header_line c.args.block.now.header c.args.bytes.now) c.args.block.now.header r c.line.new.self) is c.line.ensures))
    (c.first_line.ensures.goes_on ignores h stands)

pub returns-in-Err-clause-goes_on : goal.returns-in-Err-clause-goes_on
returns-in-Err-clause-goes_on c ignores h stands ls close =
    let now : History = record h { header = c.args.block.now.header } in
    let line : Line = record { number = c.args.number; bytes = c.args.bytes.now } in
    let is : c.line.result ≡ Err c.in-Err.why = search rules in
    bad_header ignores now c.line.new.self c.args.last line c.in-Err.why ls close (sym c.is_comment.ensures ∙ c.if-is_comment.false)
    (subst (λ (r : Result Bool Why). HeaderAnswers (header_line c.args.block.now.header c.args.bytes.now) c.args.block.now.header r c.line.new.self) is c.line.ensures)
