use Rattle.std.specs.Prelude.{◌≡◌, ◌++◌, ◌<◌, ◌||◌, Bool, false, List, length, refl, slice_get, true}
use Rattle.std.proofs.Common.{ap, ◌∙◌, subst, sym}
use Rattle.std.proofs.lemmas.Bool.{false≢true}
use Rattle.std.proofs.lemmas.List.Elements.{All-filter}
use Rattle.std.proofs.lemmas.Result.{IfOk-weaker}
use Rattle.dk_base.specs.declared.kinds.VarId.{VarId}
use Rattle.dk_base.specs.declared.kinds.VarInfo.{VarInfo}
use Rattle.dk_constants.specs.Known.{Entries}
use Rattle.dk_forms.specs.declared.states.State.{State}
use Rattle.dk_template.specs.Admitted.{suits}
use Rattle.dk_template.specs.Templates.{roles_of, template_of}
use Rattle.dk_template.specs.declared.grammar.RowId.{RowId}
use Rattle.dk_template.specs.declared.templates.Role.{Role}
use Rattle.dk_template.specs.declared.templates.Takes.{Takes}
use Rattle.dk_template.specs.declared.templates.Takes.TheVariants.{Three}
use Rattle.dk_template.specs.declared.templates.Template.{Template}
use Rattle.dk_engine.proofs.Fitting.{firsts_found, pairs_found, row_of_one, row_of_three, row_of_two, triples_filtered}
use Rattle.dk_engine.specs.Feeding.{slots_of_row}
use Rattle.dk_engine.specs.Sweeps.{firsts, pairs, triples}
use Rattle.dk_join.specs.Beside.{AreLed}
use Rattle.dk_join.specs.Joining.{answer_of}
use Rattle.dk_join.specs.Suited.{suited_to_some, suits_some}
use Rattle.dk_join.proofs.sweeps.Sweep.of_row.Goals as goal

left_false : (b c : Bool) → (b || c) ≡ false → b ≡ false
left_false false c e = refl
left_false true c e = absurd (false≢true (sym e))

right_false : (b c : Bool) → (b || c) ≡ false → c ≡ false
right_false false c e = e
right_false true c e = absurd (false≢true (sym e))

-- leaders that suit none of a row's roles stand in no slot of it
some_of_three : (infos : List VarInfo) (known : Entries) (answered : RowId → List VarId → State) (row : RowId) (a b c : Role) → (template_of row).takes ≡ Three a b c → (leaders : List VarId)
    → triples infos known answered row (suited_to_some a b c infos leaders) (suited_to_some a b c infos leaders) (suited_to_some a b c infos leaders) ≡ triples infos known answered row leaders leaders leaders
some_of_three infos known answered row a b c takes leaders =
    let q = suits_some a b c infos in
    let at : Role → VarId → Bool = λ role v. suits role (slice_get infos v.0) in
    triples_filtered infos known answered row a b c takes q q q (λ v h. left_false (at a v) (at b v || at c v) h) (λ v h. left_false (at b v) (at c v) (right_false (at a v) (at b v || at c v) h))
    (λ v h. right_false (at b v) (at c v) (right_false (at a v) (at b v || at c v) h)) leaders leaders leaders

pub returns-in_ok-first-in-One : goal.returns-in_ok-first-in-One
returns-in_ok-first-in-One c =
    let s = c.args.self.now in
    let infos = s.both.now.first.infos in
    let answered = answer_of s.both.now in
    let row = c.args.row in
    let leaders = c.args.leaders.now in
    let a = c.in-One.a in
    let takes = sym (ap (λ (t : Template). t.takes) c.template_at.ensures) ∙ c.in-One.is in
    let told = firsts_found infos s.known.now answered row a takes leaders c.as_slice.result.now (c.as_slice.ensures ∙ c.in_ok-first-in-One.ensures) ∙ row_of_one infos s.known.now answered row a takes leaders in
    IfOk-weaker c.firsts.result (λ more. more ≡ c.args.slots ++ firsts infos s.known.now answered row c.as_slice.result.now) (λ more. more ≡ c.args.slots ++ slots_of_row infos leaders s.known.now answered row)
    (λ more e. e ∙ ap (λ ss. c.args.slots ++ ss) told) c.firsts.ensures

pub returns-in_ok-second-in-Two : goal.returns-in_ok-second-in-Two
returns-in_ok-second-in-Two c =
    let s = c.args.self.now in
    let infos = s.both.now.first.infos in
    let answered = answer_of s.both.now in
    let row = c.args.row in
    let leaders = c.args.leaders.now in
    let a = c.in-Two.a in
    let b = c.in-Two.b in
    let takes = sym (ap (λ (t : Template). t.takes) c.template_at.ensures) ∙ c.in-Two.is in
    let told =
    pairs_found infos s.known.now answered row a b takes leaders leaders c.as_slice-in-Two.result.now c.as_slice-in-Two-2.result.now (c.as_slice-in-Two.ensures ∙ c.in_ok-first-in-Two.ensures) (c.as_slice-in-Two-2.ensures ∙ c.in_ok-second-in-Two.ensures)
    ∙ row_of_two infos s.known.now answered row a b takes leaders in
    IfOk-weaker c.pairs.result (λ more. more ≡ c.args.slots ++ pairs infos s.known.now answered row c.as_slice-in-Two.result.now c.as_slice-in-Two-2.result.now) (λ more. more ≡ c.args.slots ++ slots_of_row infos leaders s.known.now answered row)
    (λ more e. e ∙ ap (λ ss. c.args.slots ++ ss) told) c.pairs.ensures

pub triples-requires-clause-three : goal.triples-requires-clause-three
triples-requires-clause-three c = ap (λ (t : Takes). length (roles_of t)) (sym (ap (λ (t : Template). t.takes) c.template_at.ensures) ∙ c.in-Three.is)

pub triples-requires-clause-leaders : goal.triples-requires-clause-leaders
triples-requires-clause-leaders c =
    let pair = c.args.self.now.both.now in
    let q = suits_some c.in-Three.a c.in-Three.b c.in-Three.c pair.first.infos in
    let led = c.requires.leaders in
    let some : AreLed pair (suited_to_some c.in-Three.a c.in-Three.b c.in-Three.c pair.first.infos c.args.leaders.now) =
    record {
      first = All-filter q (λ (v : VarId). v.0 < length pair.first.kept.leaders) c.args.leaders.now led.first;
      second = All-filter q (λ (v : VarId). v.0 < length pair.second.kept.leaders) c.args.leaders.now led.second;
    } in
    subst (AreLed pair) (sym (c.as_slice-in-Three.ensures ∙ c.in_ok-some-in-Three.ensures)) some

pub returns-in_ok-some-in-Three : goal.returns-in_ok-some-in-Three
returns-in_ok-some-in-Three c =
    let s = c.args.self.now in
    let infos = s.both.now.first.infos in
    let answered = answer_of s.both.now in
    let row = c.args.row in
    let leaders = c.args.leaders.now in
    let a = c.in-Three.a in
    let b = c.in-Three.b in
    let d = c.in-Three.c in
    let takes = sym (ap (λ (t : Template). t.takes) c.template_at.ensures) ∙ c.in-Three.is in
    let given = c.as_slice-in-Three.result.now in
    let told =
    ap (λ l. triples infos s.known.now answered row l l l) (c.as_slice-in-Three.ensures ∙ c.in_ok-some-in-Three.ensures) ∙ (some_of_three infos s.known.now answered row a b d takes leaders ∙ row_of_three infos s.known.now answered row a b d takes leaders) in
    IfOk-weaker c.triples.result (λ more. more ≡ c.args.slots ++ triples infos s.known.now answered row given given given) (λ more. more ≡ c.args.slots ++ slots_of_row infos leaders s.known.now answered row)
    (λ more e. e ∙ ap (λ ss. c.args.slots ++ ss) told) c.triples.ensures
