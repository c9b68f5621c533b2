use Rattle.std.proofs.Common.{◌≡◌, ◌∙◌, ◌<◌, ℕ, List, Some, length, reverse, rules, vec_len, option_map, ap, get_or, subst, sym}
use Rattle.std.proofs.lemmas.List.{length-reverse, reverse-reverse}
use Rattle.dk_calls.specs.Links.{last_place}
use Rattle.dk_calls.specs.Stacks.{Plain}
use Rattle.dk_calls.specs.declared.stack.Placed.{Placed}
use Rattle.dk_calls.proofs.Stacking.{last_place_within, latest_found, none_found}
use Rattle.dk_calls.proofs.stack.Stack.latest.Goals as goal

pub index-requires : goal.index-requires
index-requires c =
    let items : List Placed = c.self.inside.entries.items in
    let at : last_place c.args.point (reverse items) ≡ Some c.in-Some.place.now = sym (c.self.invariant.latest_are c.args.point) ∙ sym c.in-Some.ensures.value in
    let long : vec_len c.self.inside.entries ≡ length items = search rules in
    subst (λ (n : ℕ). c.in-Some.place.now < n) (length-reverse items ∙ sym long) (last_place_within c.args.point (reverse items) c.in-Some.place.now at)

pub returns-in-None : goal.returns-in-None
returns-in-None c =
    rw (← c.self.view_is)
    (sym (ap (option_map (λ (w : Plain). w.values)) (none_found c.args.point (reverse c.self.inside.entries.items) (sym (c.self.invariant.latest_are c.args.point) ∙ sym c.in-None.ensures.value))))

pub returns-in-Some : goal.returns-in-Some
returns-in-Some c =
    let items : List Placed = c.self.inside.entries.items in
    let d : Placed = c.index.result.now in
    let place : ℕ = c.in-Some.place.now in
    let at : last_place c.args.point (reverse items) ≡ Some place = sym (c.self.invariant.latest_are c.args.point) ∙ sym c.in-Some.ensures.value in
    rw (← c.self.view_is)
    (ap (λ (w : Placed). Some w.values) c.index.ensures
    ∙ ap (λ (xs : List Placed). Some (get_or xs place d).values) (sym (reverse-reverse items))
    ∙ sym (latest_found c.args.point (reverse items) place d at))
