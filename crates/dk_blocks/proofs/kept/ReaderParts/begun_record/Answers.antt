use Rattle.std.proofs.Common.{◌≡◌, ◌∙◌, ap, sym, subst, List, Result}
use Rattle.dk_trace.specs.RecordsResumed.{IsOf}
use Rattle.dk_blocks.proofs.Recording.{reads_first}
use Rattle.dk_blocks.specs.Fitting.{ReadsFitting}
use Rattle.dk_blocks.specs.Keeping.{Keeping}
use Rattle.dk_base.specs.Reading.{Line, LineFault, ◌>>=◌}
use Rattle.dk_decl.specs.Outcomes.{FaultAgreesOnward as DeclToldOn}
use Rattle.dk_points.specs.Table.{Point}
use Rattle.dk_trace.specs.Records.{Sample, sample_of}
use Rattle.dk_trace.specs.RecordsResumed.{record_resumed}
use Rattle.dk_blocks.specs.History.{History, where_it_ends, with_record}
use Rattle.dk_blocks.specs.Standing.{Fits, Stands, block_resumed}
use Rattle.dk_blocks.proofs.Fronting.{told_then}
use Rattle.dk_blocks.proofs.kept.ReaderParts.begun_record.Goals as goal

pub returns-in-Ok-clause-goes_on : goal.returns-in-Ok-clause-goes_on
unfolding block_resumed Stands
returns-in-Ok-clause-goes_on c ignores h stands ls close =
    let now : History = record h { header = c.args.block.now.header } in
    let first : Line = record { number = c.args.number; bytes = c.args.bytes.now } in
    let points : c.self.inside.points ≡ c.args.self.now.points = ap (λ (k : Keeping). k.points) c.self.view_is in
    ap (λ (r : Result Sample LineFault). r >>= λ s. where_it_ends close now (with_record ignores now s))
    (ap (λ (ps : List Point). sample_of ps first ls close) (sym (points ∙ stands.table)) ∙ c.in-Ok.ensures.goes_on ls close
    ∙ ap (λ (ps : List Point). record_resumed ps c.in-Ok.reader ls close) (points ∙ stands.table))

pub returns-in-Ok-clause-fits : goal.returns-in-Ok-clause-fits
unfolding Fits
returns-in-Ok-clause-fits c =
    let first : Line = record { number = c.args.number; bytes = c.args.bytes.now } in
    let points : c.self.inside.points ≡ c.args.self.now.points = ap (λ (k : Keeping). k.points) c.self.view_is in
    let P : List Point → Type 0 = λ ps. IsOf ps c.in-Ok.reader × ReadsFitting ps c.in-Ok.reader in
    subst P points (c.in-Ok.ensures.of, reads_first c.self.inside.points first c.in-Ok.reader c.self.invariant.constants c.in-Ok.ensures.goes_on)

pub returns-in-Err-clause-goes_on : goal.returns-in-Err-clause-goes_on
unfolding Stands
returns-in-Err-clause-goes_on c ignores h stands =
    let now : History = record h { header = c.args.block.now.header } in
    let first : Line = record { number = c.args.number; bytes = c.args.bytes.now } in
    told_then c.in-Err.fault (sample_of h.table first) (λ s close. where_it_ends close now (with_record ignores now s))
    (subst (λ (ps : List Point). DeclToldOn c.in-Err.fault (sample_of ps first)) (ap (λ (k : Keeping). k.points) c.self.view_is ∙ stands.table) c.in-Err.ensures.goes_on)
