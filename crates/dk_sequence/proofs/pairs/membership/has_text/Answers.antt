use Rattle.std.proofs.Common.{rules, tests, ◌∙◌, ◌≡◌, List, ℕ, Bor}
use Rattle.std.proofs.lemmas.Iterator.{YieldsList-from_slice}
use Rattle.std.proofs.lemmas.Iterator.Search.{any_from_yields_List}
use Rattle.std.specs.List.{list_any}
use Rattle.std.specs.Str.{bytes_eq}
use Rattle.dk_sequence.proofs.PairRows.Scans.{any_of_parts}
use Rattle.dk_sequence.proofs.pairs.membership.has_text.Goals as goal

pub returns : goal.returns
returns c =
    let x = c.args.x.now in
    let s = c.args.s.now in
    let found : c.any.result ≡ list_any (λ (e : Bor (List ℕ)). bytes_eq e.now x) s = any_from_yields_List (λ (e : Bor (List ℕ)). bytes_eq e.now x) _ _ c.any.result c.any.ensures.ran (YieldsList-from_slice s (cc)) (λ y b q k. search (rules, tests)) in
    found ∙ any_of_parts (λ (e : Bor (List ℕ)). e.now) (λ e. bytes_eq e x) s
