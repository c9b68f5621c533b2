use Rattle.std.proofs.Common.{◌≡◌, ◌∙◌, ◌==◌, ◌<◌, ◌-◌, ◌⊎◌, [], ◌∷◌, List, ℕ, true, ap, arith, drop, fold, inl, inr, length, refl, rules, sym, take}
use Rattle.dk_turns.specs.Blocks.{Block, sample_blocks}
use Rattle.dk_turns.specs.Reading.{first_block, trimmed_lines, with_block}
use Rattle.dk_turns.proofs.Fronting.{blank_is}
use Rattle.dk_turns.proofs.Rounding.{all_taken, all_dropped, wanted_less, wanted_on}
use Rattle.dk_turns.proofs.Running.{sample_here, some_sample}
use Rattle.dk_turns.proofs.files.push_sample_blocks.Goals as goal
use Rattle.dk_turns.proofs.files.push_sample_blocks.Goals.{then-runs-test+else-not-is_empty, else-runs-test}

pub runs-init : goal.runs-init
runs-init c = record {
  text = ap (λ (bs : List Block). fold with_block c.args.text.now (take c.args.n bs)) c.from_sample-left.ensures.blocks;
  left = ap (drop c.args.n) c.from_sample-left.ensures.blocks;
  first = c.from_sample-left.ensures.first;
}

pub runs-preserved : goal.runs-preserved
runs-preserved c =
    let wanted : 0 < c.runs.wanted = search rules in
    let some : 0 < length c.runs.left.now = search rules in
    let first : Block = first_block (trimmed_lines c.runs.left.now) in
    let more : List Block = sample_blocks c.behind_run.result.now in
    let here : sample_blocks c.runs.left.now ≡ first ∷ more =
    sample_here c.runs.left.now c.behind_run.result.now c.behind_run.ensures.lines (c.runs.invariant.first some) in
    record {
      text = ap (λ (t : List ℕ). fold with_block t (take (c.runs.wanted - 1) (sample_blocks c.from_sample-left-in-runs.result.now))) c.in_ok-push_block.ensures
          ∙ ap (λ (bs : List Block). fold with_block (with_block c.runs.text first) (take (c.runs.wanted - 1) bs)) c.from_sample-left-in-runs.ensures.blocks
          ∙ wanted_on c.runs.text c.runs.wanted (c.runs.wanted - 1) first more wanted refl
          ∙ ap (λ (bs : List Block). fold with_block c.runs.text (take c.runs.wanted bs)) (sym here)
          ∙ c.runs.invariant.text;
      left = ap (drop (c.runs.wanted - 1)) c.from_sample-left-in-runs.ensures.blocks
          ∙ wanted_less c.runs.wanted (c.runs.wanted - 1) first more wanted refl
          ∙ ap (drop c.runs.wanted) (sym here)
          ∙ c.runs.invariant.left;
      first = c.from_sample-left-in-runs.ensures.first;
    }

pub returns-clause-text : goal.returns-clause-text
returns-clause-text c =
    let over : (c.runs.wanted ≡ 0) ⊎ (c.runs.left.now ≡ []) = elim c.runs-test.branch [
      | then-runs-test+else-not-is_empty w ↦ (let e : (length c.runs.left.now == 0) ≡ true = cc in inr (blank_is c.runs.left.now e))
      | else-runs-test w ↦ inl (omega arith)
    ] in
    sym (all_taken c.runs.text c.runs.wanted c.runs.left.now over) ∙ c.runs.invariant.text

pub returns-clause-left : goal.returns-clause-left
returns-clause-left c =
    let over : (c.runs.wanted ≡ 0) ⊎ (c.runs.left.now ≡ []) = elim c.runs-test.branch [
      | then-runs-test+else-not-is_empty w ↦ (let e : (length c.runs.left.now == 0) ≡ true = cc in inr (blank_is c.runs.left.now e))
      | else-runs-test w ↦ inl (omega arith)
    ] in
    sym (all_dropped c.runs.wanted c.runs.left.now over) ∙ c.runs.invariant.left

pub returns-clause-some : goal.returns-clause-some
returns-clause-some c some = some_sample c.runs.left.now (c.runs.invariant.first some)
