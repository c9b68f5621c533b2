use Rattle.std.proofs.Common.{◌≡◌, ◌∙◌, ◌∷◌, ap, subst, sym, List}
use Rattle.std.specs.Prelude.{OnOk}
use Rattle.dk_points.specs.Table.{Point}
use Rattle.dk_trace.specs.RecordsResumed.{IsOf}
use Rattle.dk_blocks.proofs.Recording.{reads_on}
use Rattle.dk_blocks.specs.Fitting.{ReadsFitting}
use Rattle.dk_blocks.specs.Keeping.{Keeping}
use Rattle.dk_base.specs.Reading.{Line}
use Rattle.dk_blocks.specs.History.{History}
use Rattle.dk_blocks.specs.Standing.{Fits, Stands, StateFits, block_resumed, left_behind, resumed_by}
use Rattle.dk_blocks.specs.declared.block.State.{State}
use Rattle.dk_blocks.proofs.Fronting.{goes_as, record_goes}
use Rattle.dk_blocks.proofs.kept.ReaderParts.line.Goals as goal

pub line-requires : goal.line-requires
unfolding Fits
line-requires c =
    let points : c.self.inside.points ≡ c.args.self.now.points = ap (λ (k : Keeping). k.points) c.self.view_is in
    subst (λ (ps : List Point). IsOf ps c.in-Record.reader) (sym points) (subst (λ (s : State). StateFits c.args.self.now.points s) c.in-Record.is c.requires).0

pub returns-in-Record-clause-goes_on : goal.returns-in-Record-clause-goes_on
unfolding Stands
returns-in-Record-clause-goes_on c ignores h stands =
    let line : Line = record { number = c.args.number; bytes = c.args.bytes.now } in
    let points : c.self.inside.points ≡ c.args.self.now.points = ap (λ (k : Keeping). k.points) c.self.view_is in
    record_goes ignores h c.self.inside.points c.args.block.now c.in-Record.reader c.line.new.self line c.line.result c.in-Record.is (points ∙ stands.table) c.line.ensures.goes_on

pub returns-in-Record-clause-fits : goal.returns-in-Record-clause-fits
unfolding Fits
returns-in-Record-clause-fits c =
    let line : Line = record { number = c.args.number; bytes = c.args.bytes.now } in
    let points : c.self.inside.points ≡ c.args.self.now.points = ap (λ (k : Keeping). k.points) c.self.view_is in
    let P : List Point → Type 0 = λ ps. OnOk c.line.result (IsOf ps c.line.new.self × ReadsFitting ps c.line.new.self) in
    let fits = subst (λ (s : State). StateFits c.args.self.now.points s) c.in-Record.is c.requires in
    subst P points (reads_on c.self.inside.points c.in-Record.reader c.line.new.self line c.line.result c.line.ensures.of
    (subst (λ (ps : List Point). ReadsFitting ps c.in-Record.reader) (sym points) fits.1) c.line.ensures.goes_on)

pub returns-in-Front-clause-goes_on : goal.returns-in-Front-clause-goes_on
unfolding block_resumed
returns-in-Front-clause-goes_on c ignores h stands =
    let now : History = record h { header = c.args.block.now.header } in
    let line : Line = record { number = c.args.number; bytes = c.args.bytes.now } in
    goes_as ignores h (left_behind c.front_line.new.block c.front_line.result) _ _ (λ ls close. ap (λ (s : State). resumed_by ignores now s (line ∷ ls) close) c.in-Front.is)
    (c.front_line.ensures.goes_on ignores h stands)

pub returns-in-Declaration-clause-goes_on : goal.returns-in-Declaration-clause-goes_on
returns-in-Declaration-clause-goes_on c ignores h stands = c.declaration_line.ensures.goes_on ignores h

pub returns-in-Implementors-clause-goes_on : goal.returns-in-Implementors-clause-goes_on
unfolding block_resumed
returns-in-Implementors-clause-goes_on c ignores h stands ls close =
    let now : History = record h { header = c.args.block.now.header } in
    let line : Line = record { number = c.args.number; bytes = c.args.bytes.now } in
    ap (λ (s : State). resumed_by ignores now s (line ∷ ls) close) c.in-Implementors.is ∙ sym (ap (λ (s : State). resumed_by ignores now s ls close) c.in-Implementors.is)
