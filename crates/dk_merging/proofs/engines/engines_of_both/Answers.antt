use Rattle.std.specs.Prelude.{◌≡◌, ◌++◌, ◌∷◌, [], Any, Err, List}
use Rattle.std.specs.List.{AllZip, zip}
use Rattle.std.proofs.Common.{◌∙◌, ap, append-nil, append_assoc, arith, inl, inr, rules, subst, sym}
use Rattle.std.proofs.lemmas.Result.{err_from_is_err_and}
use Rattle.dk_engine.specs.Reading.Levels.{Whole}
use Rattle.dk_join.specs.declared.joining.JoinFault.{JoinFault}
use Rattle.dk_join.specs.declared.joining.JoinFault.TheVariants as fault
use Rattle.dk_merging.specs.Engines.{AreAllAlike, HaveNoJoin, IsEngineOfBoth}
use Rattle.dk_merging.proofs.Zipping.{any_middle, no_first, no_second, zip_push}
use Rattle.dk_merging.proofs.engines.engines_of_both.Goals as goal

abbrev Pair : Type 0
Pair = Whole × Whole

abbrev Made : Pair → Whole → Type 0
Made pair engine = IsEngineOfBoth pair.0 pair.1 engine

abbrev Unjoined : Pair → Type 0
Unjoined pair = HaveNoJoin pair.0 pair.1

pub loop-one-init : goal.loop-one-init
loop-one-init c =
    let at = c.into_iter-one-iterator.ensures.into_iter_gives in
    let first : c.into_iter-one-iterator.result.a.rest.items ≡ c.args.first = search rules in
    let second : c.into_iter-one-iterator.result.b.rest.items ≡ c.args.second = search rules in
    record {
      so_far = subst (AllZip Made []) (sym c.new-engines.ensures) tt;
      rest = λ i. zip (first i) (second i);
      alike = subst (λ xs. AreAllAlike xs c.into_iter-one-iterator.result.b.rest.items) (sym first) (subst (AreAllAlike c.args.first) (sym second) c.requires);
    }

pub engine_of_both-requires : goal.engine_of_both-requires
engine_of_both-requires c =
    let one = c.in-Some.one in
    let ones = c.next.new.self.a.rest.items in
    let steps = c.in-Some.ensures.steps in
    let both : AreAllAlike (one ∷ ones) (c.in-Some.other ∷ c.next.new.self.b.rest.items) =
    subst (AreAllAlike (one ∷ ones)) steps.1.0 (subst (λ xs. AreAllAlike xs c.loop-one.one-iterator.b.rest.items) steps.0.0 c.loop-one.invariant.alike) in
    both.0

pub loop-one-preserved : goal.loop-one-preserved
loop-one-preserved c =
    let one = c.in-Some.one in
    let other = c.in-Some.other in
    let ones = c.next.new.self.a.rest.items in
    let others = c.next.new.self.b.rest.items in
    let steps = c.in-Some.ensures.steps in
    let firsts = steps.0.0 in
    let seconds = steps.1.0 in
    let both : AreAllAlike (one ∷ ones) (other ∷ others) =
    subst (AreAllAlike (one ∷ ones)) seconds (subst (λ xs. AreAllAlike xs c.loop-one.one-iterator.b.rest.items) firsts c.loop-one.invariant.alike) in
    let whole : c.loop-one.yielded ++ (one, other) ∷ zip ones others ≡ zip c.args.first c.args.second =
    ap (λ (ps : List Pair). c.loop-one.yielded ++ ps) (sym (λ i. zip (firsts i) (seconds i))) ∙ c.loop-one.invariant.rest in
    record {
      so_far = subst (AllZip Made (c.loop-one.yielded ++ (one, other) ∷ [])) (sym c.in_ok-push.ensures.ok)
          (zip_push Made c.loop-one.yielded c.loop-one.engines (one, other) c.in_ok-engine_of_both.field-0 c.loop-one.invariant.so_far c.in_ok-engine_of_both.ensures.both);
      rest = append_assoc c.loop-one.yielded ((one, other) ∷ []) (zip ones others) ∙ whole;
      alike = both.1;
    }

pub returns-clause-both : goal.returns-clause-both
returns-clause-both c =
    let it = c.loop-one.one-iterator in
    let none : zip it.a.rest.items it.b.rest.items ≡ [] = elim c.in-None.ensures.steps [
      | inl w ↦ no_first it.a.rest.items it.b.rest.items (omega (arith, w.1.0, it.a.rest.ok.0))
      | inr w ↦ no_second it.a.rest.items it.b.rest.items (omega (arith, w.1.0, it.b.rest.ok.0))
    ] in
    let whole : c.loop-one.yielded ≡ zip c.args.first c.args.second =
    sym (append-nil c.loop-one.yielded) ∙ ap (λ (ps : List Pair). c.loop-one.yielded ++ ps) (sym none) ∙ c.loop-one.invariant.rest in
    subst (λ (ps : List Pair). AllZip Made ps c.loop-one.engines) whole c.loop-one.invariant.so_far

pub returns-in_err-engine_of_both-clause-none : goal.returns-in_err-engine_of_both-clause-none
returns-in_err-engine_of_both-clause-none c e =
    let one = c.in-Some.one in
    let other = c.in-Some.other in
    let ones = c.next.new.self.a.rest.items in
    let others = c.next.new.self.b.rest.items in
    let steps = c.in-Some.ensures.steps in
    let firsts = steps.0.0 in
    let seconds = steps.1.0 in
    let whole : c.loop-one.yielded ++ (one, other) ∷ zip ones others ≡ zip c.args.first c.args.second =
    ap (λ (ps : List Pair). c.loop-one.yielded ++ ps) (sym (λ i. zip (firsts i) (seconds i))) ∙ c.loop-one.invariant.rest in
    let p = err_from_is_err_and c.from_residual.result c.from_residual.ensures.1 in
    let joined : c.in_err-engine_of_both.field-0.0 ≡ fault.Joined = cc (p.1, p.2, e) in
    let at : HaveNoJoin one other = c.in_err-engine_of_both.ensures.none (ap (λ (f : JoinFault). Err f) joined) in
    subst (λ (ps : List Pair). Any Unjoined ps) whole (any_middle Unjoined c.loop-one.yielded (one, other) (zip ones others) at)
