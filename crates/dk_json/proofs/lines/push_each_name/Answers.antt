use Rattle.std.proofs.Common.{ap, get_or}
use Rattle.std.proofs.lemmas.List.{get_or_default}
use Rattle.std.specs.Prelude.{slice_get}
use Rattle.json.specs.Tree.{json_tokens}
use Rattle.dk_base.specs.declared.kinds.VarId.{VarId}
use Rattle.dk_json.specs.Lines.{name_in}
use Rattle.dk_json.specs.Texts.{text_json}
use Rattle.dk_json.proofs.Adding.{the_same}
use Rattle.dk_json.proofs.Tokens.{one_more}
use Rattle.dk_json.proofs.lines.push_each_name.Goals as goal

pub loop-var-preserved : goal.loop-var-preserved
loop-var-preserved c =
    let vars = c.args.vars.now in
    let i = c.loop-var.var-index in
    let none : VarId = record { 0 = 0 } in
    let var : VarId = get_or vars i none in
    one_more (λ (v : VarId). json_tokens (text_json (name_in (slice_get c.args.infos.now v.0)))) vars i var c.args.writer.now c.loop-var.writer c.push_text.new.writer
    c.loop-var-test.true (get_or_default vars i none var c.loop-var-test.true) c.loop-var.invariant
    (the_same (ap (λ n. json_tokens (text_json n)) c.name_at.ensures) c.in_ok-push_text.ensures)
