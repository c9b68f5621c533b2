use Rattle.std.proofs.Common.{◌<◌, ◌∙◌, ap, arith, sym, [], ℕ, List, length, map, Bor}
use Rattle.std.proofs.lemmas.List.{get_or-map, length-map}
use Rattle.std.proofs.lemmas.List.Folds.{list_any_at}
use Rattle.std.specs.Str.{bytes_eq}
use Rattle.dk_arguments.proofs.among.is_one_of.Goals as goal

pub returns-then-eq : goal.returns-then-eq
returns-then-eq c =
    let i = c.loop-word.word-index in
    let within : c.loop-word.word-index < length c.args.words.now = omega arith in
    sym (list_any_at (λ (word : List ℕ). bytes_eq word c.args.text.now) (map (λ (word : Bor (List ℕ)). word.now) c.args.words.now) i []
    (omega (arith, within, length-map c.args.words.now (λ (word : Bor (List ℕ)). word.now)))
    (ap (λ (word : List ℕ). bytes_eq word c.args.text.now) (get_or-map (λ (word : Bor (List ℕ)). word.now) c.args.words.now i _ [] within)
    ∙ (sym c.eq.ensures ∙ c.if-eq.true)))
