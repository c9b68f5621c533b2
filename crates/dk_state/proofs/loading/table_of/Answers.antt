use Rattle.std.specs.Prelude.{◌≡◌, ◌++◌, ◌∷◌, [], All, IsTrue, List}
use Rattle.std.proofs.Common.{◌∙◌, ap, append_assoc, subst, sym}
use Rattle.std.proofs.lemmas.List.Elements.{All-append, All-cons, All-head, All-nil}
use Rattle.std.proofs.lemmas.Result.{err_from_is_err_and}
use Rattle.dk_decl.specs.declared.decls.PointDecl.{PointDecl}
use Rattle.dk_points.specs.Declaring.{declared}
use Rattle.dk_points.specs.Table.{Point}
use Rattle.dk_state.specs.Given.{is_given_point}
use Rattle.dk_state.specs.Spelling.{if_new, table_behind}
use Rattle.dk_state.proofs.Blocks.{loads_err}
use Rattle.dk_state.proofs.Going.{all_behind}
use Rattle.dk_state.proofs.Tables.{next_made, table_next, table_push}
use Rattle.dk_state.proofs.loading.table_of.Goals as goal

abbrev Given : PointDecl → Type 0
Given d = IsTrue (is_given_point d)

pub returns-in_err-points-2-clause-read : goal.returns-in_err-points-2-clause-read
returns-in_err-points-2-clause-read c ps given made =
    let before = c.loop-decl.yielded in
    let d = c.in-Some.decl in
    let after = c.next.new.self.rest.items in
    let whole : before ++ d ∷ after ≡ c.args.decls = ap (λ ds. before ++ ds) (sym c.in-Some.ensures.steps.0) ∙ c.loop-decl.invariant.rest in
    let next = next_made after (if_new (declared c.loop-decl.points d)) ps
    (table_next before after d [] c.loop-decl.points ps c.loop-decl.invariant.made (ap (table_behind []) whole ∙ made)) in
    let own : IsTrue (is_given_point d) = All-head Given d after (all_behind Given before (d ∷ after) (subst (All Given) (sym whole) given)) in
    let p = err_from_is_err_and c.from_residual-in_err-points-2.result c.from_residual-in_err-points-2.ensures.1 in
    rw (p.1, p.2) (loads_err (λ (own : List Point). own ≡ next.0) (λ (own : List Point). own ≡ ps) c.in_err-points-2.field-0.0 (c.in_err-points-2.ensures.read next.0 own next.1))

pub loop-decl-preserved : goal.loop-decl-preserved
loop-decl-preserved c = record {
  given = All-append Given c.loop-decl.yielded (c.in-Some.decl ∷ []) c.loop-decl.invariant.given (All-cons Given c.in-Some.decl [] c.in_ok-points-2.ensures.given (All-nil Given));
  rest = append_assoc c.loop-decl.yielded (c.in-Some.decl ∷ []) c.next.new.self.rest.items ∙ ap (λ ds. c.loop-decl.yielded ++ ds) (sym c.in-Some.ensures.steps.0) ∙ c.loop-decl.invariant.rest;
  made = table_push c.loop-decl.yielded c.in-Some.decl [] c.loop-decl.points c.in_ok-points-2.points c.loop-decl.invariant.made c.in_ok-points-2.ensures.new;
}
