use Rattle.std.proofs.Common.{◌≡◌, ◌∙◌, sym, true, false}
use Rattle.dk_base.specs.Reading.{Line}
use Rattle.dk_blocks.specs.History.{History, is_declaration, is_list_of_implementors}
use Rattle.dk_blocks.specs.Standing.{Fits, block_resumed, left_behind}
use Rattle.dk_blocks.proofs.Fronting.{declares, lists, samples, goes_as}
use Rattle.dk_blocks.proofs.kept.ReaderParts.first_line.Goals as goal

pub returns-then-is_declaration-clause-goes_on : goal.returns-then-is_declaration-clause-goes_on
returns-then-is_declaration-clause-goes_on c ignores h stands =
    let now : History = record h { header = c.args.block.now.header } in
    let first : Line = record { number = c.args.number; bytes = c.args.bytes.now } in
    let is : is_declaration c.args.bytes.now ≡ true = sym c.is_declaration.ensures ∙ c.if-is_declaration.true in
    goes_as ignores h (left_behind c.begun_declaration.new.block c.begun_declaration.result) _ _ (λ ls close. declares ignores now first ls close is) (c.begun_declaration.ensures.goes_on ignores h)

pub returns-then-is_list_of_implementors-clause-goes_on : goal.returns-then-is_list_of_implementors-clause-goes_on
unfolding block_resumed
returns-then-is_list_of_implementors-clause-goes_on c ignores h stands ls close =
    let now : History = record h { header = c.args.block.now.header } in
    let first : Line = record { number = c.args.number; bytes = c.args.bytes.now } in
    let is : is_declaration c.args.bytes.now ≡ false = sym c.is_declaration.ensures ∙ c.if-is_declaration.false in
    let list : is_list_of_implementors c.args.bytes.now ≡ true = sym c.is_list_of_implementors.ensures ∙ c.if-is_list_of_implementors.true in
    lists ignores now first ls close is list

pub returns-then-is_list_of_implementors-clause-fits : goal.returns-then-is_list_of_implementors-clause-fits
unfolding Fits
returns-then-is_list_of_implementors-clause-fits c = tt

pub returns-clause-goes_on : goal.returns-clause-goes_on
returns-clause-goes_on c ignores h stands =
    let now : History = record h { header = c.args.block.now.header } in
    let first : Line = record { number = c.args.number; bytes = c.args.bytes.now } in
    let is : is_declaration c.args.bytes.now ≡ false = sym c.is_declaration.ensures ∙ c.if-is_declaration.false in
    let list : is_list_of_implementors c.args.bytes.now ≡ false = sym c.is_list_of_implementors.ensures ∙ c.if-is_list_of_implementors.false in
    goes_as ignores h (left_behind c.begun_record.new.block c.begun_record.result) _ _ (λ ls close. samples ignores now first ls close is list) (c.begun_record.ensures.goes_on ignores h stands)
