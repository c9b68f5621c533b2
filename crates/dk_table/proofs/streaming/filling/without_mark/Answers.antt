use Rattle.std.proofs.Common.{◌≡◌, ◌∙◌, [], ap, arith, Bool, false, if◌then◌else◌, length, List, sym, ℕ}
use Rattle.csv.specs.Reading.{strip_bom}
use Rattle.dk_table.proofs.Gathering.{unmarked}
use Rattle.dk_table.specs.Streams.Pieces.{may_cut_mark}
use Rattle.dk_table.proofs.streaming.filling.without_mark.Goals as goal

pub returns-then-bare-len : goal.returns-then-bare-len
returns-then-bare-len c =
    let text : List ℕ = c.args.text in
    let none : may_cut_mark c.args.filled (length text) ≡ false =
    ap (may_cut_mark c.args.filled) (sym c.len-count.ensures) ∙ sym c.may_cut_mark.ensures ∙ c.if-may_cut_mark.false in
    let bare : c.behind_mark-bare.result.now ≡ strip_bom text = c.behind_mark-bare.ensures ∙ ap strip_bom c.as_slice.ensures in
    let same : length (strip_bom text) ≡ length text = omega (arith, ap length bare) in
    sym (unmarked text same) ∙ ap (λ (b : Bool). if b then [] else strip_bom text) (sym none)
