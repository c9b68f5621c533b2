use Rattle.std.proofs.Common.{flat_map, sym, ap, ◌∙◌, ◌++◌, map-id, ℕ, List}
use Rattle.std.proofs.lemmas.Iterator.{YieldsList-from_chars}
use Rattle.std.proofs.lemmas.Iterator.Consumers.{YieldsList-end}
use Rattle.dk_page.specs.Showing.{shown_char}
use Rattle.dk_page.proofs.showing.push_chars.Goals as goal

pub returns : goal.returns
returns c =
    let end = YieldsList-end (YieldsList-from_chars c.args.said.now c.utf8.said (cc)) c.loop-character.yielded _ c.loop-character.yielded_by _ _ c.in-None.is c.next.ensures.steps in
    c.loop-character.invariant
    ∙ ap (λ (cs : List ℕ). c.args.text.now ++ flat_map (shown_char c.args.stop.now) cs) (sym (map-id c.loop-character.yielded) ∙ end.0)
