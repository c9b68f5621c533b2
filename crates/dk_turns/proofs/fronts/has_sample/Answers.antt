use Rattle.std.proofs.Common.{◌≡◌, ◌∙◌, ◌==◌, ℕ, List, true, false, ap, is_some, length, sym}
use Rattle.dk_decl.specs.Comments.{is_comment}
use Rattle.dk_turns.specs.Blocks.{behind_header, has_sample}
use Rattle.dk_turns.specs.Reading.{block_left, trimmed_lines}
use Rattle.dk_turns.proofs.Fronting.{comment_passed, no_sample_at, sample_at, sample_behind}
use Rattle.dk_turns.proofs.Lining.{nothing_left}
use Rattle.dk_turns.proofs.fronts.has_sample.Goals as goal

pub front-preserved-then-is_comment : goal.front-preserved-then-is_comment
front-preserved-then-is_comment c =
    let comment : is_comment c.in-Some.line.now ≡ true = cc in
    sym (ap has_sample (comment_passed c.front.header c.in-Some.line.now (trimmed_lines c.in-Some.rest.now) comment))
    ∙ ap (λ (ls : List (List ℕ)). has_sample (block_left c.front.header ls)) (sym c.in-Some.ensures.first)
    ∙ c.front.invariant

pub returns-then-is_empty : goal.returns-then-is_empty
returns-then-is_empty c =
    let none : (length c.in-Some.line.now == 0) ≡ true = cc in
    sym (no_sample_at c.front.header c.in-Some.line.now (trimmed_lines c.in-Some.rest.now) none)
    ∙ ap (λ (ls : List (List ℕ)). has_sample (block_left c.front.header ls)) (sym c.in-Some.ensures.first)
    ∙ c.front.invariant

pub returns-then-not-takes_header : goal.returns-then-not-takes_header
returns-then-not-takes_header c =
    let some : (length c.in-Some.line.now == 0) ≡ false = cc in
    let other : is_comment c.in-Some.line.now ≡ false = cc in
    let first : is_some (behind_header c.front.header c.in-Some.line.now) ≡ false = sym c.takes_header.ensures.taken ∙ c.if-not-takes_header.true in
    c.begins_sample.ensures
    ∙ sym (sample_at c.front.header c.in-Some.line.now (trimmed_lines c.in-Some.rest.now) some other first)
    ∙ ap (λ (ls : List (List ℕ)). has_sample (block_left c.front.header ls)) (sym c.in-Some.ensures.first)
    ∙ c.front.invariant

pub front-preserved : goal.front-preserved
front-preserved c =
    let some : (length c.in-Some.line.now == 0) ≡ false = cc in
    let other : is_comment c.in-Some.line.now ≡ false = cc in
    let header : is_some (behind_header c.front.header c.in-Some.line.now) ≡ true = sym c.takes_header.ensures.taken ∙ c.if-not-takes_header.false in
    sample_behind c.front.header c.takes_header.new.header c.in-Some.line.now (trimmed_lines c.in-Some.rest.now) some other header c.takes_header.ensures.header
    ∙ ap (λ (ls : List (List ℕ)). has_sample (block_left c.front.header ls)) (sym c.in-Some.ensures.first)
    ∙ c.front.invariant

pub returns : goal.returns
returns c =
    ap (λ (ls : List (List ℕ)). has_sample (block_left c.front.header ls)) (sym (nothing_left c.front.left.now c.in_default.ensures.first))
    ∙ c.front.invariant
