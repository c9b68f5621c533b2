use Rattle.std.specs.Prelude.{◌≡◌, All, map}
use Rattle.std.proofs.Common.{◌∙◌, subst, sym}
use Rattle.std.proofs.lemmas.Bool.{false≢true}
use Rattle.std.proofs.lemmas.Slice.Eq.{bytes_eq-Decides}
use Rattle.dk_engine.specs.Reading.Levels.{Whole}
use Rattle.dk_hierarchy.specs.Standing.{AreEnginesOf}
use Rattle.dk_state.specs.Saved.{saved_text}
use Rattle.dk_state.specs.Spelling.{content_of}
use Rattle.dk_state.proofs.Histories.{content_text, history_meets, loaded_stands, saves_again}
use Rattle.dk_state.proofs.Loads.{content_loaded, loaded_meets, loaded_text}
use Rattle.dk_state.proofs.loading.load.Goals as goal

pub returns-else-branch-clause-bad : goal.returns-else-branch-clause-bad
returns-else-branch-clause-bad c e spelling =
    let loaded = c.in_ok-loaded.ensures.read spelling.content spelling.meets spelling.text in
    let same = saves_again spelling.content c.in_ok-loaded.loaded spelling.meets loaded ∙ spelling.text in
    let equal = (bytes_eq-Decides _ c.args.bytes.now).1 same in
    absurd (false≢true (sym c.if-branch.false ∙ c.in_ok-saves_to.ensures ∙ equal))

pub returns-then-branch-clause-content : goal.returns-then-branch-clause-content
returns-then-branch-clause-content c told meets text =
    let loaded = c.in_ok-loaded.ensures.read told meets text in
    (loaded.0, loaded.1, loaded.2)

pub returns-then-branch-clause-stands : goal.returns-then-branch-clause-stands
returns-then-branch-clause-stands c g ps implicit own can text =
    let l = c.in_ok-loaded.loaded in
    let loaded = c.in_ok-loaded.ensures.read (content_of g ps implicit own) (history_meets g ps implicit own can) (content_text g ps implicit own ∙ text) in
    let are = c.in_ok-loaded.ensures.engines in (
      loaded.0,
      loaded.1,
      loaded.2,
      loaded_stands g ps implicit own l.engines can (subst (λ points. AreEnginesOf points l.engines) loaded.1 are.0) (subst (λ h. All (λ (e : Whole). e.grammar ≡ h) l.engines) loaded.0 are.1) loaded.3,
    )

pub returns-then-branch-clause-loaded : goal.returns-then-branch-clause-loaded
returns-then-branch-clause-loaded c =
    let l = c.in_ok-loaded.loaded in
    let own = c.in_ok-loaded.ensures in
    let same = (bytes_eq-Decides (saved_text l.grammar l.points l.implicit (map (λ (e : Whole). e.kept) l.engines)) c.args.bytes.now).0 (sym c.in_ok-saves_to.ensures ∙ c.if-branch.true) in
    (own.read (content_loaded l) (loaded_meets l own.table own.engines.0.long own.saved) (loaded_text l ∙ same)).3

pub returns-then-branch-clause-spelling : goal.returns-then-branch-clause-spelling
returns-then-branch-clause-spelling c =
    let l = c.in_ok-loaded.loaded in
    let own = c.in_ok-loaded.ensures in
    let same = (bytes_eq-Decides (saved_text l.grammar l.points l.implicit (map (λ (e : Whole). e.kept) l.engines)) c.args.bytes.now).0 (sym c.in_ok-saves_to.ensures ∙ c.if-branch.true) in
    record {
      content = content_loaded l;
      meets = loaded_meets l own.table own.engines.0.long own.saved;
      text = loaded_text l ∙ same;
    }
