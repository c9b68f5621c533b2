use Rattle.std.proofs.Common.{◌<◌, ◌∙◌, ◌∷◌, ◌++◌, [], ap, arith, get_or, length}
use Rattle.std.proofs.lemmas.List.{get_or_default}
use Rattle.dk_table.proofs.Pairs.{zip_all, zip_more}
use Rattle.dk_table.specs.Writing.Forms.{heading_of}
use Rattle.dk_table.specs.declared.columns.ColumnKind.{ColumnKind}
use Rattle.dk_table.specs.declared.columns.ColumnKind.TheVariants as kind
use Rattle.dk_table.specs.declared.writing.Heading.{Heading}
use Rattle.dk_table.proofs.writing.headings_of.Goals as goal

pub loop-i-preserved : goal.loop-i-preserved
loop-i-preserved c =
    let vars = c.args.vars.now in
    let kinds = c.args.kinds.now in
    let i = c.loop-i.i in
    let lt : i < length vars = omega arith in
    let more : i < length kinds = omega arith in
    let k : ColumnKind = get_or kinds i kind.Whole in
    zip_more heading_of vars kinds i c.index-vars-i.result k c.loop-i.headings c.push.new.self lt more c.index-vars-i.is (get_or_default kinds i kind.Whole k more) c.loop-i.invariant
    (c.in_ok-push.ensures.ok ∙ ap (λ (h : Heading). c.loop-i.headings ++ h ∷ []) c.in_ok-heading_of.ensures)

pub returns : goal.returns
returns c = zip_all heading_of c.args.vars.now c.args.kinds.now c.loop-i.i c.loop-i.headings (omega arith) c.loop-i.invariant
