use Rattle.std.proofs.Common.{rules, tests, map, ◌≡◌, ◌∙◌, List, ℕ, Bor}
use Rattle.std.specs.List.{list_all}
use Rattle.std.specs.Str.{bytes_eq}
use Rattle.std.proofs.lemmas.Iterator.{YieldsList-from_slice}
use Rattle.std.proofs.lemmas.Iterator.Search.{all_from_yields_List}
use Rattle.dk_meanings.specs.Relations.{is_member}
use Rattle.dk_sequence.proofs.PairRows.Scans.{all_of_parts}
use Rattle.dk_sequence.proofs.pairs.subsets.are_texts_of.Goals as goal

pub returns : goal.returns
returns c =
    let s = c.args.s.now in
    let other : List (List ℕ) = map (λ (e : Bor (List ℕ)). e.now) c.args.t.now in
    let found : c.all.result ≡ list_all (λ (e : Bor (List ℕ)). is_member bytes_eq e.now other) s =
    all_from_yields_List (λ (e : Bor (List ℕ)). is_member bytes_eq e.now other) _ _ c.all.result c.all.ensures.ran (YieldsList-from_slice s (cc)) (λ y b q k. search (rules, tests)) in
    found ∙ all_of_parts (λ (e : Bor (List ℕ)). e.now) (λ x. is_member bytes_eq x other) s
