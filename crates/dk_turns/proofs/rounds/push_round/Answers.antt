use Rattle.std.proofs.Common.{◌≡◌, ◌∙◌, ◌+◌, ◌++◌, [], ◌∷◌, Bor, List, ℕ, ap, append-nil, drop, flat_map, fold, get_or, map, refl, sym, take}
use Rattle.std.proofs.lemmas.List.{drop_all, drop_more}
use Rattle.dk_turns.specs.Blocks.{Block, sample_blocks}
use Rattle.dk_turns.specs.Reading.{some_left, with_block}
use Rattle.dk_turns.proofs.Rounding.{left_on, one_on, samples_of}
use Rattle.dk_turns.proofs.rounds.push_round.Goals as goal

pub loop-file-init : goal.loop-file-init
loop-file-init c = record {
  text = refl;
  left = ap (λ (kept : List (Bor (List ℕ))). samples_of kept ++ some_left (map (drop c.args.n) (samples_of c.args.files.now))) c.new-left.ensures.items;
}

pub loop-file-preserved : goal.loop-file-preserved
loop-file-preserved c =
    let none : Bor (List ℕ) = record { ref_ptr = (0, 0); now = [] } in
    let file : Bor (List ℕ) = get_or c.args.files.now c.loop-file.file-index none in
    let more : List (List Block) = samples_of (drop (c.loop-file.file-index + 1) c.args.files.now) in
    let here : samples_of (drop c.loop-file.file-index c.args.files.now) ≡ sample_blocks file.now ∷ more =
    ap samples_of (drop_more c.args.files.now c.loop-file.file-index none c.loop-file-test.true) in
    record {
      text = ap (λ (t : List ℕ). fold with_block t (flat_map (take c.args.n) more)) c.in_ok-rest.ensures.text
          ∙ one_on c.loop-file.text c.args.n (sample_blocks file.now) more
          ∙ ap (λ (ls : List (List Block)). fold with_block c.loop-file.text (flat_map (take c.args.n) ls)) (sym here)
          ∙ c.loop-file.invariant.text;
      left = left_on (samples_of c.loop-file.left.items) (samples_of c.keep_some.new.left.items) more (sample_blocks file.now) c.args.n
          (c.in_ok-keep_some.ensures
          ∙ ap (λ (bs : List Block). samples_of c.loop-file.left.items ++ some_left (bs ∷ [])) c.in_ok-rest.ensures.left)
          ∙ ap (λ (ls : List (List Block)). samples_of c.loop-file.left.items ++ some_left (map (drop c.args.n) ls)) (sym here)
          ∙ c.loop-file.invariant.left;
    }

pub returns-clause-text : goal.returns-clause-text
returns-clause-text c =
    ap (λ (files : List (Bor (List ℕ))). fold with_block c.loop-file.text (flat_map (take c.args.n) (samples_of files)))
    (sym (drop_all c.loop-file.file-index c.args.files.now c.loop-file-test.false))
    ∙ c.loop-file.invariant.text

pub returns-clause-left : goal.returns-clause-left
returns-clause-left c =
    sym (append-nil (samples_of c.loop-file.left.items))
    ∙ ap (λ (files : List (Bor (List ℕ))). samples_of c.loop-file.left.items ++ some_left (map (drop c.args.n) (samples_of files)))
    (sym (drop_all c.loop-file.file-index c.args.files.now c.loop-file-test.false))
    ∙ c.loop-file.invariant.left
