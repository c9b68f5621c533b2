use Rattle.std.specs.Prelude.{◌≡◌, ◌∷◌, [], IsSomeAnd, List, false}
use Rattle.std.proofs.Common.{subst, sym}
use Rattle.dk_base.specs.declared.values.Value.{Value}
use Rattle.dk_forms.specs.declared.states.State.TheVariants.{Broken}
use Rattle.dk_template.specs.Admitted.{is_written}
use Rattle.dk_ternary.specs.Rows.{operation_row}
use Rattle.dk_engine.proofs.Slotless.{broken_out, not_considered, unwritten}
use Rattle.dk_engine.specs.Feeding.{read_after, with_sample}
use Rattle.dk_engine.specs.Reading.{state_read}
use Rattle.dk_engine.specs.Sweeps.{considered}
use Rattle.dk_engine.proofs.sweeps.Sweep.is_out.Goals as goal

pub returns-then-descend : goal.returns-then-descend
returns-then-descend c t =
    let s = c.args.self.now in
    let answered = read_after s.answers.now.whole.kept s.answers.now.sample in
    let row = operation_row c.in-Some.operation in
    let vars = c.args.v ∷ c.args.w ∷ c.args.x ∷ [] in
    let out : is_written row vars ≡ false = c.descend.ensures t c.args.v in
    let none : considered s.infos.now s.known.now answered row vars ≡ [] = not_considered s.infos.now s.known.now answered row vars (unwritten s.infos.now s.known.now answered row vars out) in
    subst (λ o. IsSomeAnd o (λ p. considered s.infos.now s.known.now answered (operation_row p) vars ≡ [])) (sym c.in-Some.is) none

pub returns-else-descend : goal.returns-else-descend
unfolding read_after
returns-else-descend c t =
    let s = c.args.self.now in
    let kept = s.answers.now.whole.kept in
    let sample = s.answers.now.sample in
    let answered = read_after kept sample in
    let row = operation_row c.in-Some.operation in
    let vars = c.args.v ∷ c.args.w ∷ c.args.x ∷ [] in
    let told : with_sample row vars sample (state_read kept row vars) ≡ Broken = subst (λ (values : List Value). with_sample row vars values (state_read kept row vars) ≡ Broken) c.sample.ensures.sample (c.breaks.ensures t (state_read kept row vars)) in
    let breaks : answered row vars ≡ Broken = told in
    let none : considered s.infos.now s.known.now answered row vars ≡ [] = not_considered s.infos.now s.known.now answered row vars (broken_out s.infos.now s.known.now answered row vars breaks) in
    subst (λ o. IsSomeAnd o (λ p. considered s.infos.now s.known.now answered (operation_row p) vars ≡ [])) (sym c.in-Some.is) none
