use Rattle.std.proofs.Common.{◌≡◌, ◌∙◌, ap, List, Ok, ℕ, refl, sym}
use Rattle.std.proofs.lemmas.Result.{err_from_is_err_and}
use Rattle.dk_decl.specs.declared.decls.PointDecl.{PointDecl}
use Rattle.dk_write.specs.Texts.{Write}
use Rattle.dk_table.proofs.Bodies.{plan_judged, plan_traced}
use Rattle.dk_table.proofs.Taking.{answered_as}
use Rattle.dk_table.proofs.Traced.{traced}
use Rattle.dk_table.specs.Tables.{bodies_in}
use Rattle.dk_table.specs.Traces.{declaration_of, kinds_in, plan_writes, trace_at, trace_by}
use Rattle.dk_table.specs.declared.writing.traces.Plan.{Plan}
use Rattle.dk_table.proofs.writing.traces.plan_of.Goals as goal

pub judge-requires : goal.judge-requires
judge-requires c =
    let command = c.args.command.now in
    let files = c.args.files.now in
    let names = c.in_ok-names.names in
    let kinds = c.in_ok-kinds.kinds in
    let found : kinds_in command names files ≡ Ok kinds = ap (λ (l : List (List ℕ)). kinds_in command l files) (sym c.as_slice-columns.ensures) ∙ c.in_ok-kinds.ensures in
    plan_judged command c.args.point.now files names kinds c.in_ok-names.ensures found (record { decl = c.in_ok-decl.decl; kinds = kinds }) refl

pub returns-in_err-judge-clause-answers : goal.returns-in_err-judge-clause-answers
returns-in_err-judge-clause-answers c =
    let command = c.args.command.now in
    let point = c.args.point.now in
    let files = c.args.files.now in
    let names = c.in_ok-names.names in
    let kinds = c.in_ok-kinds.kinds in
    let found : kinds_in command names files ≡ Ok kinds = ap (λ (l : List (List ℕ)). kinds_in command l files) (sym c.as_slice-columns.ensures) ∙ c.in_ok-kinds.ensures in
    let decl : c.in_ok-decl.decl ≡ declaration_of point names kinds =
    c.in_ok-decl.ensures ∙ ap (λ (l : List (List ℕ)). declaration_of point l c.as_slice.result.now) c.as_slice-columns.ensures ∙ ap (declaration_of point names) c.as_slice.ensures in
    let traced : trace_at command point files ≡ trace_by c.in_ok-decl.decl kinds (bodies_in command 0 files) =
    plan_traced command point files names kinds c.in_ok-names.ensures found ∙ ap (λ (d : PointDecl). trace_by d kinds (bodies_in command 0 files)) (sym decl) in
    let p = err_from_is_err_and c.from_residual-in_err-judge.result c.from_residual-in_err-judge.ensures.1 in
    let writes : List Write = plan_writes command (record { decl = c.in_ok-decl.decl; kinds = kinds }) files in
    rw (p.1, p.2)
    (answered_as {A = Unit {0}} {B = Plan} (λ u. writes) (λ plan. plan_writes command plan files) (trace_by c.in_ok-decl.decl kinds (bodies_in command 0 files)) (trace_at command point files) c.in_err-judge.field-0.0
    traced c.in_err-judge.ensures)

pub returns-clause-answers : goal.returns-clause-answers
returns-clause-answers c =
    let command = c.args.command.now in
    let point = c.args.point.now in
    let files = c.args.files.now in
    let names = c.in_ok-names.names in
    let kinds = c.in_ok-kinds.kinds in
    let found : kinds_in command names files ≡ Ok kinds = ap (λ (l : List (List ℕ)). kinds_in command l files) (sym c.as_slice-columns.ensures) ∙ c.in_ok-kinds.ensures in
    let decl : c.in_ok-decl.decl ≡ declaration_of point names kinds =
    c.in_ok-decl.ensures ∙ ap (λ (l : List (List ℕ)). declaration_of point l c.as_slice.result.now) c.as_slice-columns.ensures ∙ ap (declaration_of point names) c.as_slice.ensures in
    plan_traced command point files names kinds c.in_ok-names.ensures found ∙ ap (λ (d : PointDecl). trace_by d kinds (bodies_in command 0 files)) (sym decl) ∙ c.in_ok-judge.ensures

pub returns-clause-plan : goal.returns-clause-plan
returns-clause-plan c =
    let point = c.args.point.now in
    let names = c.in_ok-names.names in (
      point,
      names,
      c.in_ok-decl.ensures ∙ ap (λ (l : List (List ℕ)). declaration_of point l c.as_slice.result.now) c.as_slice-columns.ensures ∙ ap (declaration_of point names) c.as_slice.ensures,
    )

pub returns-clause-told : goal.returns-clause-told
returns-clause-told c =
    let command = c.args.command.now in
    let files = c.args.files.now in
    let plan : Plan = record { decl = c.in_ok-decl.decl; kinds = c.in_ok-kinds.kinds } in
    (traced plan.decl plan.kinds (bodies_in command 0 files) (plan_writes command plan files) c.in_ok-judge.ensures).told
