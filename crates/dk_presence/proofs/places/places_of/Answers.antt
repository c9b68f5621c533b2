use Rattle.std.proofs.Common.{◌≡◌, ◌∙◌, ◌+◌, ◌∷◌, ◌++◌, [], List, ap, sym, subst, take, arith, get_or}
use Rattle.std.proofs.lemmas.List.{map-append, take_all, take_more}
use Rattle.dk_presence.specs.Hashes.{AreKeyed, hash_of}
use Rattle.dk_presence.specs.Patterns.{held_patterns}
use Rattle.dk_presence.specs.declared.held.Held.{Held}
use Rattle.dk_presence.proofs.Keying.{keyed_more}
use Rattle.dk_presence.proofs.places.places_of.Goals as goal

pub loop-place-preserved : goal.loop-place-preserved
loop-place-preserved c =
    let held = c.args.held.now in
    let place = c.loop-place.place in
    let here = c.index-held-place.result in
    let more : held_patterns (take (place + 1) held) ≡ held_patterns (take place held) ++ (get_or held place here).leaders ∷ [] =
    ap held_patterns (take_more held place here c.loop-place-test.true) ∙ map-append (λ (h : Held). h.leaders) (take place held) (get_or held place here ∷ []) in
    subst (AreKeyed c.insert.new.self) (sym more)
    (keyed_more c.loop-place.places c.insert.new.self c.hash_of.result _ c.in_ok-insert.ensures.updates.0 (held_patterns (take place held)) (get_or held place here).leaders
    (sym (c.hash_of.ensures ∙ ap hash_of c.as_slice.ensures)) c.loop-place.invariant)

pub returns : goal.returns
returns c = subst (λ (hs : List Held). AreKeyed c.loop-place.places (held_patterns hs)) (take_all c.loop-place.place c.args.held.now (omega (arith, c.loop-place-test.false))) c.loop-place.invariant
