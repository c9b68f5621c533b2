use Rattle.std.proofs.Common.{◌<◌, ◌∙◌, ◌∷◌, ◌++◌, [], ap, arith, get_or, length, List, ℕ}
use Rattle.std.proofs.lemmas.List.{get_or_default}
use Rattle.dk_decl.specs.declared.decls.VarDecl.{VarDecl}
use Rattle.dk_table.proofs.Pairs.{zip_all, zip_more}
use Rattle.dk_table.specs.Traces.{var_of}
use Rattle.dk_table.specs.declared.columns.ColumnKind.{ColumnKind}
use Rattle.dk_table.specs.declared.columns.ColumnKind.TheVariants as kind
use Rattle.dk_table.proofs.writing.traces.vars_of.Goals as goal

pub loop-i-preserved : goal.loop-i-preserved
loop-i-preserved c =
    let names = c.args.names.now in
    let kinds = c.args.kinds.now in
    let i = c.loop-i.i in
    let lt : i < length names = omega arith in
    let more : i < length kinds = omega arith in
    let k : ColumnKind = get_or kinds i kind.Whole in
    zip_more var_of names kinds i c.index-names-i.result k c.loop-i.vars c.push.new.self lt more c.index-names-i.is (get_or_default kinds i kind.Whole k more) c.loop-i.invariant
    (c.in_ok-push.ensures.ok ∙ ap (λ (v : VarDecl). c.loop-i.vars ++ v ∷ []) (c.in_ok-var.ensures ∙ ap (λ (n : List ℕ). var_of (n, k)) c.as_slice.ensures))

pub returns : goal.returns
returns c = zip_all var_of c.args.names.now c.args.kinds.now c.loop-i.i c.loop-i.vars (omega arith) c.loop-i.invariant
