use Rattle.std.specs.Prelude.{◌+◌, ◌++◌, ◌∷◌, [], Bool, Some, None, codes, nat_eq, slice_get, refl}
use Rattle.std.specs.Fmt.{decimal}
use Rattle.std.specs.List.{starts_with}
use Rattle.std.proofs.Common.{◌∙◌, ap, arith, subst, sym}
use Rattle.std.proofs.lemmas.Bool.{false≢true}
use Rattle.dk_engine.specs.Exact.{IsKeptOf}
use Rattle.dk_engine.specs.Reading.Levels.{Whole}
use Rattle.dk_state.specs.Kept.{behind_samples}
use Rattle.dk_state.specs.Lines.{behind_blank}
use Rattle.dk_state.specs.Loading.{saved_blocks}
use Rattle.dk_state.proofs.Fronts.{eqb-self}
use Rattle.dk_state.proofs.Blocks.{block_first, implicit_undeclared, other_comes}
use Rattle.dk_state.proofs.Loads.{declared_there, new_saved, parts_saved}
use Rattle.dk_state.proofs.Plain.{if_ok_weaker}
use Rattle.dk_state.proofs.loading.next_engine.Goals as goal

pub returns-then-not-comes_next-clause-read : goal.returns-then-not-comes_next-clause-read
returns-then-not-comes_next-clause-read c None more at small is =
    let e = c.in_ok-engine_of.field-0 in
    let kept = subst (λ vars. IsKeptOf c.args.grammar vars [] e.kept) c.in_ok-engine_of.ensures.infos c.in_ok-engine_of.ensures.stands in
    (kept, is)
returns-then-not-comes_next-clause-read c (Some parts) more at small is =
    let p = c.args.p.0 in
    let comes = c.comes_next.ensures.at p (behind_blank (decimal parts.samples) ++ 10 ∷ (behind_samples parts ++ saved_blocks (p + 1) more)) (omega (arith, small)) refl (is ∙ block_first p parts more) in
    absurd (false≢true (sym c.if-not-comes_next.true ∙ comes ∙ eqb-self p))

pub returns-then-is_implicit-clause-read : goal.returns-then-is_implicit-clause-read
returns-then-is_implicit-clause-read c None more at small is =
    let p = c.args.p.0 in
    let none = other_comes c.comes_next.result p (p + 1) more (omega arith) small (λ r rest less first e. c.comes_next.ensures.at r rest less first (is ∙ e)) (λ e. c.comes_next.ensures.none (ap (λ f. starts_with nat_eq f (codes "samples ")) is ∙ e)) in
    absurd (false≢true (sym none ∙ c.if-not-comes_next.false))
returns-then-is_implicit-clause-read c (Some parts) more at small is =
    implicit_undeclared (slice_get c.args.points.now c.args.p.0) (c.is_implicit.ensures ∙ ap (λ (b : Bool). Some b) c.if-is_implicit.true) at.declared

pub returns-clause-read : goal.returns-clause-read
returns-clause-read c None more at small is =
    let p = c.args.p.0 in
    let none = other_comes c.comes_next.result p (p + 1) more (omega arith) small (λ r rest less first e. c.comes_next.ensures.at r rest less first (is ∙ e)) (λ e. c.comes_next.ensures.none (ap (λ f. starts_with nat_eq f (codes "samples ")) is ∙ e)) in
    absurd (false≢true (sym none ∙ c.if-not-comes_next.false))
returns-clause-read c (Some parts) more at small is = c.engine_with.ensures.read parts more (omega (arith, small)) at is

pub returns-then-not-comes_next-clause-saved : goal.returns-then-not-comes_next-clause-saved
returns-then-not-comes_next-clause-saved c =
    let kept = c.in_ok-engine_of.field-0.kept in
    new_saved c.args.grammar c.args.points.now c.args.p.0 kept (omega (arith, c.in_ok-engine_of.ensures.stands.number))

pub returns-clause-saved : goal.returns-clause-saved
returns-clause-saved c =
    let g = c.args.grammar in
    let ps = c.args.points.now in
    let p = c.args.p.0 in
    let there = declared_there ps p c.is_implicit.result c.is_implicit.ensures c.if-is_implicit.false in
    if_ok_weaker c.engine_with.result (λ (e : Whole) own. parts_saved g ps p e.kept there own.0 own.1) c.engine_with.ensures.saved
