use Rattle.std.proofs.Common.{◌≡◌, ◌∙◌, [], ap, refl, subst, sym, List, Some, Result, Err}
use Rattle.dk_base.specs.Reading.{LineFault, ◌>>=◌}
use Rattle.dk_decl.specs.Outcomes.{FaultAgrees}
use Rattle.dk_points.specs.Table.{Point}
use Rattle.dk_trace.specs.Records.{Sample}
use Rattle.dk_trace.specs.RecordsResumed.{IsOf, record_resumed, shown}
use Rattle.dk_blocks.specs.Fitting.{ReadsFitting}
use Rattle.dk_blocks.specs.Keeping.{Keeping}
use Rattle.dk_blocks.specs.History.{History, Taken, with_record}
use Rattle.dk_blocks.specs.Standing.{Closes, Fits, Stands, StateFits, block_resumed, left_with_answer, resumed_by}
use Rattle.dk_blocks.specs.declared.block.State.{State}
use Rattle.dk_blocks.proofs.Fronting.{told_at, told_closes}
use Rattle.dk_blocks.proofs.Keeping.{with_header}
use Rattle.dk_blocks.proofs.kept.ReaderParts.close.Goals as goal

pub end-requires : goal.end-requires
unfolding Fits
end-requires c =
    let points : c.self.inside.points ≡ c.args.self.now.points = ap (λ (k : Keeping). k.points) c.self.view_is in
    subst (λ (ps : List Point). IsOf ps c.in-Record.reader) (sym points) (subst (λ (s : State). StateFits c.args.self.now.points s) c.in-Record.is c.requires).0

pub with_record-requires-clause-fits : goal.with_record-requires-clause-fits
unfolding Fits
with_record-requires-clause-fits c =
    let points : c.self.inside.points ≡ c.args.self.now.points = ap (λ (k : Keeping). k.points) c.self.view_is in
    let fits = subst (λ (s : State). StateFits c.args.self.now.points s) c.in-Record.is c.requires in
    subst (λ (ps : List Point). ReadsFitting ps c.in-Record.reader) (sym points) fits.1 [] c.args.number (shown c.in-Ok.sample) c.in-Ok.ensures.sample

pub declaration_end-requires-clause-fits : goal.declaration_end-requires-clause-fits
unfolding Fits
declaration_end-requires-clause-fits c =
    let points : c.self.inside.points ≡ c.args.self.now.points = ap (λ (k : Keeping). k.points) c.self.view_is in
    subst (λ (ps : List Point). StateFits ps c.args.block.now.state) (sym points) c.requires

pub returns-in-Front-clause-closes : goal.returns-in-Front-clause-closes
unfolding block_resumed
returns-in-Front-clause-closes c h stands =
    let now : History = record h { header = c.args.block.now.header } in
    let points : c.self.inside.points ≡ c.args.self.now.points = ap (λ (k : Keeping). k.points) c.self.view_is in
    let held = with_header c.args.self.now _ h c.args.block.now.header stands points refl (ap (λ (k : Keeping). k.calls) c.self.view_is) in
    rw c.in-Front.is (c.without_record.ensures.closes now held c.args.number)

pub returns-in-Declaration-clause-closes : goal.returns-in-Declaration-clause-closes
unfolding block_resumed
returns-in-Declaration-clause-closes c h stands =
    let now : History = record h { header = c.args.block.now.header } in
    let points : c.self.inside.points ≡ c.args.self.now.points = ap (λ (k : Keeping). k.points) c.self.view_is in
    let held = with_header c.args.self.now _ h c.args.block.now.header stands points refl (ap (λ (k : Keeping). k.calls) c.self.view_is) in
    c.declaration_end.ensures.closes c.args.ignores now held c.args.number

pub returns-in-Implementors-clause-closes : goal.returns-in-Implementors-clause-closes
unfolding block_resumed
returns-in-Implementors-clause-closes c h stands =
    let now : History = record h { header = c.args.block.now.header } in
    let points : c.self.inside.points ≡ c.args.self.now.points = ap (λ (k : Keeping). k.points) c.self.view_is in
    let held = with_header c.args.self.now _ h c.args.block.now.header stands points refl (ap (λ (k : Keeping). k.calls) c.self.view_is) in
    (now, held, ap (λ (s : State). resumed_by c.args.ignores now s [] (Some c.args.number)) c.in-Implementors.is)

pub returns-in-Ok-clause-closes : goal.returns-in-Ok-clause-closes
unfolding block_resumed Stands
returns-in-Ok-clause-closes c h stands =
    let now : History = record h { header = c.args.block.now.header } in
    let points : c.self.inside.points ≡ c.args.self.now.points = ap (λ (k : Keeping). k.points) c.self.view_is in
    let held = with_header c.args.self.now _ h c.args.block.now.header stands points refl (ap (λ (k : Keeping). k.calls) c.self.view_is) in
    subst (λ (r : Result Taken LineFault). Closes (left_with_answer c.with_record.new.self c.with_record.result) r)
    (sym (ap (λ (s : State). resumed_by c.args.ignores now s [] (Some c.args.number)) c.in-Record.is
    ∙ ap (λ (r : Result Sample LineFault). r >>= λ s. with_record c.args.ignores now s)
    (ap (λ (ps : List Point). record_resumed ps c.in-Record.reader [] (Some c.args.number)) (sym (points ∙ stands.table)) ∙ c.in-Ok.ensures.sample)))
    (c.with_record.ensures.closes now held)

pub returns-in-Err-clause-closes : goal.returns-in-Err-clause-closes
unfolding block_resumed Stands
returns-in-Err-clause-closes c h stands =
    let now : History = record h { header = c.args.block.now.header } in
    let points : c.self.inside.points ≡ c.args.self.now.points = ap (λ (k : Keeping). k.points) c.self.view_is in
    subst (λ (s : State). Closes (Err c.in-Err.fault) (resumed_by c.args.ignores now s [] (Some c.args.number))) (sym c.in-Record.is)
    (told_closes c.in-Err.fault _ (told_at c.in-Err.fault (record_resumed now.table c.in-Record.reader [] (Some c.args.number)) (λ s. with_record c.args.ignores now s)
    (subst (λ (ps : List Point). FaultAgrees c.in-Err.fault (record_resumed ps c.in-Record.reader [] (Some c.args.number))) (points ∙ stands.table) c.in-Err.ensures.sample)))
