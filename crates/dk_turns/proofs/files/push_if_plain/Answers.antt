use Rattle.std.proofs.Common.{◌≡◌, ◌∙◌, Bool, true, false, ap, sym, if◌then◌else◌}
use Rattle.dk_turns.specs.Reading.{first_block, is_plain, trimmed_lines, with_block}
use Rattle.dk_turns.proofs.files.push_if_plain.Goals as goal

pub returns-then-not-is_plain : goal.returns-then-not-is_plain
returns-then-not-is_plain c =
    let no : is_plain (first_block (trimmed_lines c.args.bytes.now)) ≡ false = sym c.is_plain.ensures ∙ c.if-not-is_plain.true in
    ap (λ (b : Bool). if b then with_block c.args.text.now (first_block (trimmed_lines c.args.bytes.now)) else c.args.text.now) (sym no)

pub returns : goal.returns
returns c =
    let yes : is_plain (first_block (trimmed_lines c.args.bytes.now)) ≡ true = sym c.is_plain.ensures ∙ c.if-not-is_plain.false in
    c.in_ok-push_block.ensures
    ∙ ap (λ (b : Bool). if b then with_block c.args.text.now (first_block (trimmed_lines c.args.bytes.now)) else c.args.text.now) (sym yes)
