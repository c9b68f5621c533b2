use Rattle.std.proofs.Common.{◌≡◌, ◌∙◌, ◌+◌, ◌++◌, [], ◌∷◌, Bor, List, ℕ, ap, append-nil, drop, flat_map, fold, map, sym}
use Rattle.std.proofs.lemmas.List.{drop_all, drop_more}
use Rattle.std.proofs.lemmas.List.Sums.{fold-append}
use Rattle.dk_turns.specs.Blocks.{Block, plain_blocks, sample_blocks}
use Rattle.dk_turns.specs.Reading.{with_block}
use Rattle.dk_turns.specs.Turns.{in_rounds}
use Rattle.dk_turns.proofs.Joining.{all_turns}
use Rattle.dk_turns.proofs.Rounding.{bytes_at, bytes_on, samples_at}
use Rattle.dk_turns.proofs.rounds.in_turns.Goals as goal

pub loop-file-init : goal.loop-file-init
loop-file-init c = record {
  text = ap (λ (t : List ℕ). fold with_block t (flat_map plain_blocks c.as_slice-file-items.result.now)) c.new-text.ensures;
  left = ap (λ (kept : List (Bor (List ℕ))). bytes_at kept ++ c.as_slice-file-items.result.now) c.new-left.ensures.items;
}

pub loop-file-preserved : goal.loop-file-preserved
loop-file-preserved c =
    let files : List (List ℕ) = c.as_slice-file-items.result.now in
    let file : List ℕ = c.file-item.result in
    let more : List (List ℕ) = drop (c.loop-file.file-index + 1) files in
    let here : drop c.loop-file.file-index files ≡ file ∷ more =
    drop_more files c.loop-file.file-index file c.loop-file-test.true ∙ ap (λ (f : List ℕ). f ∷ more) (sym c.file-item.is) in
    record {
      text = ap (λ (t : List ℕ). fold with_block t (flat_map plain_blocks more))
          (c.in_ok-push_plain_blocks.ensures ∙ ap (λ (f : List ℕ). fold with_block c.loop-file.text (plain_blocks f)) c.as_slice.ensures)
          ∙ sym (fold-append with_block c.loop-file.text (plain_blocks file) (flat_map plain_blocks more))
          ∙ ap (λ (fs : List (List ℕ)). fold with_block c.loop-file.text (flat_map plain_blocks fs)) (sym here)
          ∙ c.loop-file.invariant.text;
      left = bytes_on c.loop-file.left.items c.push.new.self.items c.as_slice-in-loop-file.result file more c.in_ok-push.ensures.items c.as_slice-in-loop-file.ensures
          ∙ ap (λ (fs : List (List ℕ)). bytes_at c.loop-file.left.items ++ fs) (sym here)
          ∙ c.loop-file.invariant.left;
    }

pub returns : goal.returns
returns c =
    let files : List (List ℕ) = c.as_slice-file-items.result.now in
    let over : drop c.loop-file.file-index files ≡ [] = drop_all c.loop-file.file-index files c.loop-file-test.false in
    let left : bytes_at c.loop-file.left.items ≡ c.args.files.now =
    sym (append-nil (bytes_at c.loop-file.left.items))
    ∙ ap (λ (fs : List (List ℕ)). bytes_at c.loop-file.left.items ++ fs) (sym over)
    ∙ c.loop-file.invariant.left ∙ c.as_slice-file-items.ensures in
    let text : c.loop-file.text ≡ fold with_block [] (flat_map plain_blocks c.args.files.now) =
    ap (λ (fs : List (List ℕ)). fold with_block c.loop-file.text (flat_map plain_blocks fs)) (sym over)
    ∙ c.loop-file.invariant.text
    ∙ ap (λ (fs : List (List ℕ)). fold with_block [] (flat_map plain_blocks fs)) c.as_slice-file-items.ensures in
    all_turns c.args.n c.args.files.now c.loop-file.text c.push_rounds.new.text text
    (c.in_ok-push_rounds.ensures
    ∙ ap (λ (ls : List (List Block)). fold with_block c.loop-file.text (in_rounds c.args.n ls))
    (samples_at c.loop-file.left.items ∙ ap (map sample_blocks) left))
