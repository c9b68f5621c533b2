use Rattle.std.proofs.Common.{◌≡◌, ◌∙◌, ℕ, List, true, false, not, ap, sym}
use Rattle.dk_decl.specs.Comments.{is_comment}
use Rattle.dk_decl.specs.Headers.{first_header}
use Rattle.dk_turns.specs.Blocks.{has_lines}
use Rattle.dk_turns.specs.Reading.{first_block, trimmed_lines}
use Rattle.dk_turns.proofs.Fronting.{comment_passed, has_lines_at}
use Rattle.dk_turns.proofs.Lining.{nothing_left}
use Rattle.dk_turns.proofs.fronts.has_lines.Goals as goal

pub front-preserved : goal.front-preserved
front-preserved c =
    let comment : is_comment c.in-Some.line.now ≡ true = cc in
    sym (ap has_lines (comment_passed first_header c.in-Some.line.now (trimmed_lines c.in-Some.rest.now) comment))
    ∙ ap (λ (ls : List (List ℕ)). has_lines (first_block ls)) (sym c.in-Some.ensures.first)
    ∙ c.front.invariant

pub returns-then-not-is_comment : goal.returns-then-not-is_comment
returns-then-not-is_comment c =
    let other : is_comment c.in-Some.line.now ≡ false = cc in
    ap not c.is_empty.ensures
    ∙ has_lines_at c.in-Some.line.now (trimmed_lines c.in-Some.rest.now) other
    ∙ ap (λ (ls : List (List ℕ)). has_lines (first_block ls)) (sym c.in-Some.ensures.first)
    ∙ c.front.invariant

pub returns : goal.returns
returns c =
    ap (λ (ls : List (List ℕ)). has_lines (first_block ls)) (sym (nothing_left c.front.left.now c.in_default.ensures.first))
    ∙ c.front.invariant
