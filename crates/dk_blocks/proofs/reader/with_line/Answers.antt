use Rattle.std.proofs.Common.{◌≡◌, ◌∙◌, sym, ap, subst, true, false, ℕ, List, Ok, Err}
use Rattle.dk_base.specs.Pieces.{is_empty}
use Rattle.dk_base.specs.Words.{trim_blanks}
use Rattle.dk_blocks.specs.Standing.{block_resumed}
use Rattle.dk_blocks.specs.LineSteps.{WordsGive, line_turn}
use Rattle.dk_blocks.proofs.Stepping.{blank_step, words_step, words_fault, empty_len}
use Rattle.dk_blocks.proofs.reader.with_line.Goals as goal

pub returns-then-is_empty-clause-gives : goal.returns-then-is_empty-clause-gives
returns-then-is_empty-clause-gives c ignores h stands =
    let blank : is_empty (trim_blanks c.args.bytes.now) ≡ true =
    ap (λ (l : List ℕ). is_empty l) (sym c.trim_blanks-words.ensures) ∙ sym (empty_len c.trim_blanks-words.result.now) ∙ sym c.is_empty.ensures ∙ c.if-is_empty.true in
    blank_step ignores c.args.kept.now (block_resumed ignores h c.args.block.now) (record { number = c.args.number; bytes = c.args.bytes.now }) c.args.block.now blank

pub returns-in-Ok-clause-gives : goal.returns-in-Ok-clause-gives
returns-in-Ok-clause-gives c ignores h stands =
    let words : is_empty (trim_blanks c.args.bytes.now) ≡ false =
    ap (λ (l : List ℕ). is_empty l) (sym c.trim_blanks-words.ensures) ∙ sym (empty_len c.trim_blanks-words.result.now) ∙ sym c.is_empty.ensures ∙ c.if-is_empty.false in
    words_step ignores c.args.kept.now (block_resumed ignores h c.args.block.now) (record { number = c.args.number; bytes = c.args.bytes.now }) c.at_words.new.block words
    (subst (λ (l : List ℕ). WordsGive ignores (block_resumed ignores h c.args.block.now) (record { number = c.args.number; bytes = l }) (line_turn c.args.kept.now (Ok c.at_words.new.block))) c.trim_blanks-words.ensures
    (c.in-Ok.ensures.gives ignores h stands))

pub returns-in-Err-clause-gives : goal.returns-in-Err-clause-gives
returns-in-Err-clause-gives c ignores h stands =
    let words : is_empty (trim_blanks c.args.bytes.now) ≡ false =
    ap (λ (l : List ℕ). is_empty l) (sym c.trim_blanks-words.ensures) ∙ sym (empty_len c.trim_blanks-words.result.now) ∙ sym c.is_empty.ensures ∙ c.if-is_empty.false in
    words_fault ignores c.args.kept.now c.at_words.new.block (block_resumed ignores h c.args.block.now) (record { number = c.args.number; bytes = c.args.bytes.now }) c.in-Err.stop words
    (subst (λ (l : List ℕ). WordsGive ignores (block_resumed ignores h c.args.block.now) (record { number = c.args.number; bytes = l }) (line_turn c.args.kept.now (Err c.in-Err.stop))) c.trim_blanks-words.ensures
    (c.in-Err.ensures.gives ignores h stands))
