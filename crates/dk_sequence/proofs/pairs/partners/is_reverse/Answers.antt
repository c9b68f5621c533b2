use Rattle.std.proofs.Common.{rules, tests, ◌≡◌, ◌∙◌, length}
use Rattle.std.specs.Prelude.{ℤ, reverse, zip}
use Rattle.std.specs.List.{list_all}
use Rattle.std.specs.Ordering.{int_eq}
use Rattle.std.proofs.lemmas.Iterator.{YieldsList-from_slice, YieldsList-from_zip}
use Rattle.std.proofs.lemmas.Iterator.Adapters.{YieldsList-from_rev_slice}
use Rattle.std.proofs.lemmas.Iterator.Search.{all_from_yields_List}
use Rattle.dk_sequence.proofs.PairRows.Scans.{reversed_pairs}
use Rattle.dk_sequence.proofs.pairs.partners.is_reverse.Goals as goal

pub returns-then-s-t : goal.returns-then-s-t
returns-then-s-t c =
    let s = c.args.s.now in
    let t = c.args.t.now in
    let same : length s ≡ length t = search rules in
    let found : c.all.result ≡ list_all (λ (p : ℤ × ℤ). int_eq p.0 p.1) (zip (reverse s) t) =
    all_from_yields_List (λ (p : ℤ × ℤ). int_eq p.0 p.1) c.all.new.self _ c.all.result c.all.ensures.ran (YieldsList-from_zip (YieldsList-from_rev_slice s (cc)) (YieldsList-from_slice t (cc))) (λ y b q k. search (rules, tests)) in
    found ∙ reversed_pairs s t same
