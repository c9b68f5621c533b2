use Rattle.std.proofs.Common.{rules}
use Rattle.std.proofs.lemmas.List.Sorted.{answers_always}
use Rattle.dk_engine.proofs.MappingFacts.{place_is}
use Rattle.dk_engine.proofs.saved.bitmaps.place_of.Goals as goal

pub returns-in-Ok : goal.returns-in-Ok
returns-in-Ok c =
    let facts = c.in-Ok.ensures in
    let by_key = facts.position (λ w. w.0) (answers_always _ _ _ (λ f a r g called. search rules)) in
    place_is c.args.leaders.now c.args.v c.in-Ok.place facts.bound by_key
