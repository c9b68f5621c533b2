use Rattle.std.proofs.Common.{◌≡◌, ◌∷◌, ◌++◌, List, ℕ, subst, rules}
use Rattle.dk_base.specs.Values.{values_of as shown_by}
use Rattle.dk_trace.specs.Answers.{shown_value}
use Rattle.dk_trace.proofs.InPlace.{if_read, variable_stands}
use Rattle.dk_trace.proofs.Bare.{bare_cut, bare_means}
use Rattle.dk_trace.proofs.whole.read_variable.Goals as goal

pub returns-in-Some-read_number : goal.returns-in-Some-read_number
returns-in-Some-read_number c =
    let same : c.as_slice.result.now ≡ c.args.var.now.name = search rules in
    if_read c.push_marked.result
    (λ rest pushed. variable_stands c.args.var.now c.args.bytes.now c.in-Some.text.now c.in-Some-read_number.mark.now rest.now c.in-Some-read_number.unmarked
    (shown_by c.args.values.now.items) (shown_by c.push_marked.new.values.items) pushed.front
    (bare_means c.args.var.now.name c.requires) (bare_cut c.args.bytes.now c.args.var.now.name c.in-Some.text.now c.requires (subst (λ (l : List ℕ). c.args.bytes.now ≡ l ++ 10 ∷ c.in-Some.text.now) same c.in-Some.ensures))
    c.in-Some-read_number.ensures pushed.mark pushed.added)
    c.push_marked.ensures

pub returns : goal.returns
returns c =
    let same : c.as_slice.result.now ≡ c.args.var.now.name = search rules in
    variable_stands c.args.var.now c.args.bytes.now c.in-Some.text.now c.in-Ok-Some.read.1.now c.in-Some-read_mark.rest.now c.in-Ok-Some.read.0
    (shown_by c.args.values.now.items) (shown_by c.push_shown.new.values.items) (shown_value c.in-Some-read_mark.value)
    (bare_means c.args.var.now.name c.requires) (bare_cut c.args.bytes.now c.args.var.now.name c.in-Some.text.now c.requires (subst (λ (l : List ℕ). c.args.bytes.now ≡ l ++ 10 ∷ c.in-Some.text.now) same c.in-Some.ensures))
    (rw c.in-Ok-Some.field-0-is at c.in-Ok-Some.ensures) c.in-Some-read_mark.ensures (search rules)
