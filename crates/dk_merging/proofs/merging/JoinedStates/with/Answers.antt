use Rattle.std.specs.Prelude.{◌≡◌, Err, Ok}
use Rattle.std.proofs.Common.{◌∙◌, subst, sym}
use Rattle.std.proofs.lemmas.Bool.{false≢true}
use Rattle.std.proofs.lemmas.Result.{err_from_is_err_and}
use Rattle.std.proofs.lemmas.Slice.Eq.{bytes_eq-Decides}
use Rattle.dk_state.specs.Spelling.{IsSpelling}
use Rattle.dk_state.specs.StateFile.{state_file_of}
use Rattle.dk_state.specs.declared.loading.Loaded.{Loaded}
use Rattle.dk_merging.specs.Fronts.{front_of}
use Rattle.dk_merging.specs.Loading.{text_of, texts_of}
use Rattle.dk_merging.specs.Merging.{AnswersMerge, file_of_both}
use Rattle.dk_merging.specs.declared.merging.MergeFault.TheVariants.{BadSecond, Different}
use Rattle.dk_merging.proofs.MergedStates.{both_front, both_is_load, history_fronts, history_made, history_spelled, merged_answers, none_bad, of_one_head, second_bad}
use Rattle.dk_merging.proofs.merging.JoinedStates.with.Goals as goal

pub joined-requires : goal.joined-requires
joined-requires c =
    let one = c.self.inside.loaded in
    let alike = (bytes_eq-Decides c.as_slice.result.now c.front_of.result.now).0 (sym c.same_bytes.ensures ∙ c.if-not-same_bytes.false) in
    let fronts : front_of c.args.file.now ≡ front_of (text_of one) = sym (sym c.self.invariant.1 ∙ sym c.as_slice.ensures ∙ alike ∙ c.front_of.ensures) in
    of_one_head one c.in_ok-other.other (text_of one) c.args.file.now c.self.invariant.0 c.in_ok-other.ensures.loaded fronts

pub invariant_of-result : goal.invariant_of-result
invariant_of-result c =
    let one = c.self.inside.loaded in
    let alike = (bytes_eq-Decides c.as_slice.result.now c.front_of.result.now).0 (sym c.same_bytes.ensures ∙ c.if-not-same_bytes.false) in
    let fronts : front_of c.args.file.now ≡ front_of (text_of one) = sym (sym c.self.invariant.1 ∙ sym c.as_slice.ensures ∙ alike ∙ c.front_of.ensures) in
    let both = c.in_ok-both.both in (
      both_is_load one c.in_ok-other.other (text_of one) c.args.file.now c.self.invariant.0 c.in_ok-other.ensures.loaded both fronts c.in_ok-both.ensures,
      c.self.invariant.1 ∙ sym (both_front one c.in_ok-other.other (text_of one) c.args.file.now c.self.invariant.0 c.in_ok-other.ensures.loaded both fronts c.in_ok-both.ensures),
    )

pub returns-clause-answers : goal.returns-clause-answers
returns-clause-answers c =
    let one = c.self.inside.loaded in
    let alike = (bytes_eq-Decides c.as_slice.result.now c.front_of.result.now).0 (sym c.same_bytes.ensures ∙ c.if-not-same_bytes.false) in
    let fronts : front_of c.args.file.now ≡ front_of (text_of one) = sym (sym c.self.invariant.1 ∙ sym c.as_slice.ensures ∙ alike ∙ c.front_of.ensures) in
    subst (λ (l : Loaded). AnswersMerge (text_of l) c.args.file.now (texts_of (Ok c.in_ok-both.both))) c.self.view_is
    (merged_answers one c.in_ok-other.other (text_of one) c.args.file.now c.self.invariant.0 c.in_ok-other.ensures.loaded fronts (Ok c.in_ok-both.both) c.in_ok-both.ensures)

pub returns-clause-both : goal.returns-clause-both
returns-clause-both c g ps implicit own others can this that =
    let one = c.self.inside.loaded in
    let here = subst (λ (l : Loaded). state_file_of g ps implicit own ≡ text_of l) (sym c.self.view_is) this in
    history_made one c.in_ok-other.other g ps implicit own others
    (c.self.invariant.0.stands g ps implicit own can.first here) (c.in_ok-other.ensures.loaded.stands g ps implicit others can.second that) can (Ok c.in_ok-both.both) c.in_ok-both.ensures

pub returns-then-not-same_bytes-clause-answers : goal.returns-then-not-same_bytes-clause-answers
returns-then-not-same_bytes-clause-answers c =
    let one = c.self.inside.loaded in
    subst (λ (l : Loaded). AnswersMerge (text_of l) c.args.file.now (Err Different)) c.self.view_is (
      c.self.invariant.0.spelling,
      c.in_ok-other.ensures.loaded.spelling,
      λ e. false≢true (sym c.if-not-same_bytes.true ∙ c.same_bytes.ensures ∙ (bytes_eq-Decides c.as_slice.result.now c.front_of.result.now).1 (c.as_slice.ensures ∙ c.self.invariant.1 ∙ sym e ∙ sym c.front_of.ensures)),
    )

pub returns-then-not-same_bytes-clause-both : goal.returns-then-not-same_bytes-clause-both
returns-then-not-same_bytes-clause-both c g ps implicit own others can this that =
    let one = c.self.inside.loaded in
    let here = subst (λ (l : Loaded). state_file_of g ps implicit own ≡ text_of l) (sym c.self.view_is) this in
    let first = c.self.invariant.0 in
    let second = c.in_ok-other.ensures.loaded in
    let e = history_fronts one c.in_ok-other.other (text_of one) c.args.file.now first second g ps implicit own others
    (first.stands g ps implicit own can.first here) (second.stands g ps implicit others can.second that) in
    false≢true (sym c.if-not-same_bytes.true ∙ c.same_bytes.ensures ∙ (bytes_eq-Decides c.as_slice.result.now c.front_of.result.now).1 (c.as_slice.ensures ∙ c.self.invariant.1 ∙ sym e ∙ sym c.front_of.ensures))

pub returns-in_err-other-clause-answers : goal.returns-in_err-other-clause-answers
returns-in_err-other-clause-answers c =
    let fault = err_from_is_err_and c.from_residual.result c.from_residual.ensures.1 in
    let spelled = subst (λ (l : Loaded). IsSpelling (text_of l)) c.self.view_is c.self.invariant.0.spelling in
    rw (fault.1, fault.2) (second_bad (text_of c.args.self) c.args.file.now spelled c.in_err-other.field-0.0 c.in_err-other.ensures.bad)

pub returns-in_err-other-clause-both : goal.returns-in_err-other-clause-both
returns-in_err-other-clause-both c g ps implicit own others can this that =
    let fault = err_from_is_err_and c.from_residual.result c.from_residual.ensures.1 in
    let spelled = history_spelled g ps implicit others c.args.file.now can.second that in
    rw (fault.1, fault.2) (none_bad (file_of_both g ps implicit own others) c.args.file.now BadSecond c.in_err-other.field-0.0 spelled c.in_err-other.ensures.bad)

pub returns-in_err-both-clause-answers : goal.returns-in_err-both-clause-answers
returns-in_err-both-clause-answers c =
    let one = c.self.inside.loaded in
    let alike = (bytes_eq-Decides c.as_slice.result.now c.front_of.result.now).0 (sym c.same_bytes.ensures ∙ c.if-not-same_bytes.false) in
    let fronts : front_of c.args.file.now ≡ front_of (text_of one) = sym (sym c.self.invariant.1 ∙ sym c.as_slice.ensures ∙ alike ∙ c.front_of.ensures) in
    let fault = err_from_is_err_and c.from_residual-in_err-both.result c.from_residual-in_err-both.ensures.1 in
    rw (fault.1, fault.2) (subst (λ (l : Loaded). AnswersMerge (text_of l) c.args.file.now (Err c.in_err-both.field-0.0)) c.self.view_is
    (merged_answers one c.in_ok-other.other (text_of one) c.args.file.now c.self.invariant.0 c.in_ok-other.ensures.loaded fronts (Err c.in_err-both.field-0.0) c.in_err-both.ensures))

pub returns-in_err-both-clause-both : goal.returns-in_err-both-clause-both
returns-in_err-both-clause-both c g ps implicit own others can this that =
    let one = c.self.inside.loaded in
    let here = subst (λ (l : Loaded). state_file_of g ps implicit own ≡ text_of l) (sym c.self.view_is) this in
    let fault = err_from_is_err_and c.from_residual-in_err-both.result c.from_residual-in_err-both.ensures.1 in
    rw (fault.1, fault.2) (history_made one c.in_ok-other.other g ps implicit own others
    (c.self.invariant.0.stands g ps implicit own can.first here) (c.in_ok-other.ensures.loaded.stands g ps implicit others can.second that) can (Err c.in_err-both.field-0.0) c.in_err-both.ensures)

pub returns-clause-spelling : goal.returns-clause-spelling
returns-clause-spelling c = subst (λ (l : Loaded). IsSpelling (text_of l)) c.self.view_is c.self.invariant.0.spelling

pub returns-then-not-same_bytes-clause-spelling : goal.returns-then-not-same_bytes-clause-spelling
returns-then-not-same_bytes-clause-spelling c = subst (λ (l : Loaded). IsSpelling (text_of l)) c.self.view_is c.self.invariant.0.spelling

pub returns-in_err-other-clause-spelling : goal.returns-in_err-other-clause-spelling
returns-in_err-other-clause-spelling c = subst (λ (l : Loaded). IsSpelling (text_of l)) c.self.view_is c.self.invariant.0.spelling

pub returns-in_err-both-clause-spelling : goal.returns-in_err-both-clause-spelling
returns-in_err-both-clause-spelling c = subst (λ (l : Loaded). IsSpelling (text_of l)) c.self.view_is c.self.invariant.0.spelling
