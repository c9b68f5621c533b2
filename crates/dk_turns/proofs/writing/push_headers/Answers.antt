use Rattle.std.proofs.Common.{◌≡◌, ◌∙◌, ◌==◌, ◌++◌, [], ℕ, List, true, false, ap, is_some, length, sym}
use Rattle.dk_decl.specs.Comments.{is_comment}
use Rattle.dk_turns.specs.Blocks.{Block, behind_header}
use Rattle.dk_turns.specs.Reading.{block_left, first_run, trimmed_lines}
use Rattle.dk_turns.specs.Turns.{block_text, lines_text}
use Rattle.dk_turns.proofs.Fronting.{comment_passed, no_text_at, text_at, text_behind}
use Rattle.dk_turns.proofs.Lining.{nothing_left}
use Rattle.dk_turns.proofs.writing.push_headers.Goals as goal

pub front-preserved-then-is_comment : goal.front-preserved-then-is_comment
front-preserved-then-is_comment c =
    let comment : is_comment c.in-Some.line.now ≡ true = cc in
    sym (ap (λ (b : Block). c.front.text ++ block_text b) (comment_passed c.front.header c.in-Some.line.now (trimmed_lines c.in-Some.rest.now) comment))
    ∙ ap (λ (ls : List (List ℕ)). c.front.text ++ block_text (block_left c.front.header ls)) (sym c.in-Some.ensures.first)
    ∙ c.front.invariant

pub returns-then-is_empty : goal.returns-then-is_empty
returns-then-is_empty c =
    let none : (length c.in-Some.line.now == 0) ≡ true = cc in
    ap (λ (ls : List (List ℕ)). c.front.text ++ lines_text (first_run ls)) c.in-Some.ensures.first
    ∙ ap (λ (t : List ℕ). c.front.text ++ t) (no_text_at c.front.header c.in-Some.line.now (trimmed_lines c.in-Some.rest.now) none)
    ∙ ap (λ (ls : List (List ℕ)). c.front.text ++ block_text (block_left c.front.header ls)) (sym c.in-Some.ensures.first)
    ∙ c.front.invariant

pub returns-then-not-takes_header : goal.returns-then-not-takes_header
returns-then-not-takes_header c =
    let some : (length c.in-Some.line.now == 0) ≡ false = cc in
    let other : is_comment c.in-Some.line.now ≡ false = cc in
    let first : is_some (behind_header c.front.header c.in-Some.line.now) ≡ false = sym c.takes_header.ensures.taken ∙ c.if-not-takes_header.true in
    ap (λ (ls : List (List ℕ)). c.front.text ++ lines_text (first_run ls)) c.in-Some.ensures.first
    ∙ ap (λ (t : List ℕ). c.front.text ++ t) (text_at c.front.header c.in-Some.line.now (trimmed_lines c.in-Some.rest.now) some other first)
    ∙ ap (λ (ls : List (List ℕ)). c.front.text ++ block_text (block_left c.front.header ls)) (sym c.in-Some.ensures.first)
    ∙ c.front.invariant

pub front-preserved : goal.front-preserved
front-preserved c =
    let some : (length c.in-Some.line.now == 0) ≡ false = cc in
    let other : is_comment c.in-Some.line.now ≡ false = cc in
    let header : is_some (behind_header c.front.header c.in-Some.line.now) ≡ true = sym c.takes_header.ensures.taken ∙ c.if-not-takes_header.false in
    ap (λ (t : List ℕ). t ++ block_text (block_left c.takes_header.new.header (trimmed_lines c.in-Some.rest.now))) c.in_ok-push_line.ensures
    ∙ text_behind c.front.header c.takes_header.new.header c.in-Some.line.now (trimmed_lines c.in-Some.rest.now) c.front.text some other header c.takes_header.ensures.header
    ∙ ap (λ (ls : List (List ℕ)). c.front.text ++ block_text (block_left c.front.header ls)) (sym c.in-Some.ensures.first)
    ∙ c.front.invariant

pub returns : goal.returns
returns c =
    let none : trimmed_lines c.front.left.now ≡ [] = nothing_left c.front.left.now c.in_default.ensures.first in
    ap (λ (ls : List (List ℕ)). c.front.text ++ lines_text (first_run ls)) none
    ∙ ap (λ (ls : List (List ℕ)). c.front.text ++ block_text (block_left c.front.header ls)) (sym none)
    ∙ c.front.invariant
