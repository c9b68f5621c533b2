use Rattle.std.proofs.Common.{◌≡◌, List, refl, subst, sym, true, arith, rules}
use Rattle.dk_base.specs.Values.{values_of as shown_by}
use Rattle.dk_decl.specs.declared.decls.VarDecl.{VarDecl}
use Rattle.dk_points.specs.Bare.{have_bare_names}
use Rattle.dk_trace.specs.Records.{var_decls_at}
use Rattle.dk_trace.specs.Whole.{BodyStands}
use Rattle.dk_trace.proofs.InPlace.{body_within, cut_within, stands_whole}
use Rattle.dk_trace.proofs.Bare.{bare_at}
use Rattle.dk_trace.proofs.whole.read_whole.Goals as goal

pub read_body-requires : goal.read_body-requires
read_body-requires c =
    let is : have_bare_names (var_decls_at c.args.points.now c.in-Ok.point.0) ≡ true = bare_at c.args.points.now c.in-Ok.point.0 (search rules) in
    subst (λ (vs : List VarDecl). have_bare_names vs ≡ true) (sym c.var_decls_at.ensures) is

pub overflow_add-result : goal.overflow_add-result
overflow_add-result c =
    let stands = rw c.in-Ok-Some.field-0-is at c.in-Ok-Some.ensures in
    omega (arith, cut_within c.args.bytes.now c.in-Some.first.now c.in-Some.rest.now c.in-Some.ensures, c.in-Some.ensures.tidy.some, body_within c.var_decls_at.result.now c.in-Some.rest.now c.in-Ok-Some.body.rest.now c.in-Ok-Some.body.nonce (shown_by c.in-Ok-Some.body.values.now) c.in-Ok-Some.body.count stands)

pub returns : goal.returns
returns c =
    let stands = rw c.in-Ok-Some.field-0-is at c.in-Ok-Some.ensures in
    stands_whole c.args.points.now c.args.line c.args.bytes.now c.in-Some.first.now c.in-Some.rest.now c.in-Ok-Some.body.rest.now _ c.in-Ok-Some.body.count c.in-Some.ensures c.in-Ok.ensures.point c.in-Ok.ensures.within
    (subst (λ (vs : List VarDecl). BodyStands vs c.in-Some.rest.now c.in-Ok-Some.body.nonce (shown_by c.in-Ok-Some.body.values.now) c.in-Ok-Some.body.rest.now c.in-Ok-Some.body.count) c.var_decls_at.ensures stands)
    refl refl refl refl
