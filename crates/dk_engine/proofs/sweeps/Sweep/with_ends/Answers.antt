use Rattle.std.specs.Prelude.{◌≡◌, ◌++◌, ◌∷◌, [], if◌then◌else◌}
use Rattle.std.proofs.Common.{ap, ◌∙◌, append_assoc, sym}
use Rattle.std.proofs.lemmas.Bool.{ne_eqb}
use Rattle.std.proofs.lemmas.Result.{on_ok_weaker}
use Rattle.dk_engine.specs.Feeding.{read_after}
use Rattle.dk_engine.specs.Sweeps.{with_ends, with_one, with_two}
use Rattle.dk_engine.proofs.sweeps.Sweep.with_ends.Goals as goal

pub returns : goal.returns
returns c =
    let s = c.args.self.now in
    let answered = read_after s.answers.now.whole.kept s.answers.now.sample in
    let row = c.args.row in
    let v = c.args.v in
    let w = c.args.w in
    let leaders = c.args.leaders.now.all in
    let one = with_one s.infos.now s.known.now answered row (v ∷ []) leaders leaders in
    let t = with_two s.infos.now s.known.now answered row v w leaders in
    let u = with_two s.infos.now s.known.now answered row w v leaders in
    let ends = with_ends s.infos.now s.known.now answered row v w leaders in
    let told : ends ≡ t ++ u = ap (λ b. if b then one else t ++ u) (ne_eqb v.0 w.0 c.if-v-w.false) in
    let was = c.args.slots.now in
    on_ok_weaker c.with_two-2.result (λ (e : c.with_two-2.new.slots ≡ c.with_two.new.slots ++ u).
    e ∙ (ap (λ ss. ss ++ u) c.in_ok-with_two.ensures ∙ (append_assoc was t u ∙ ap (λ ss. was ++ ss) (sym told)))) c.with_two-2.ensures
